-- Links as whatever holds them shows them.
use Rattle.std.proofs.Common.{◌≡◌, ◌∙◌, ap, sym, subst, ℕ, ◌<◌, List, map, length, get_or}
use Rattle.std.specs.Prelude.{ℤ}
use Rattle.std.proofs.lemmas.List.{get_or-map, length-map}
use Rattle.overlay_geometry.specs.Points.{Point}
use Rattle.overlay_geometry.specs.PointOf.{point_of}
use Rattle.overlay_geometry.specs.InRange.{IsPointInRange}
use Rattle.overlay_geometry.specs.declared.geom.point.IntPoint.{IntPoint}
use Rattle.overlay_base.specs.declared.overlay_core.link.OverlayLink.{OverlayLink}
use Rattle.overlay_build.specs.steps.EndOf.{WholeEnd}
use Rattle.overlay_build.specs.steps.LinksOf.{AreEndsInRange, starts_of}
use Rattle.overlay_build.proofs.laws.graphs.NodeLists.{ends_in_range, length-starts, start_point_at}

-- the view of an element of a list is an element of the list of views
pub viewed_at : {X Y : Type 0} (view : X → Y) (xs : List X) (k : ℕ) (x : X) → k < length xs → x ≡ get_or xs k x → view x ≡ get_or (map view xs) k (view x)
viewed_at view xs k x h is = ap view is ∙ sym (get_or-map view xs k x (view x) h)

pub viewed_within : {X Y : Type 0} (view : X → Y) (xs : List X) (k : ℕ) → k < length xs → k < length (map view xs)
viewed_within view xs k h = rw length-map h

module _ {L I D : Type 0} (view : L → OverlayLink I D) (whole : I → ℤ) (links : List L) where
  -- the ends of one of several links that are all in range
  pub start_in_range : (least greatest : I) (k : ℕ) (x : L) (p : IntPoint I) → AreEndsInRange whole least greatest (map view links) → k < length links → x ≡ get_or links k x → p ≡ (view x).a.point → IsPointInRange whole least greatest p
  start_in_range least greatest k x p all h is at =
      subst (λ q. IsPointInRange whole least greatest q) (sym (at ∙ ap (λ (l : OverlayLink I D). l.a.point) (viewed_at view links k x h is)))
      (ends_in_range whole least greatest (map view links) k (view x) all (viewed_within view links k h)).0

  pub end_in_range : (least greatest : I) (k : ℕ) (x : L) (p : IntPoint I) → AreEndsInRange whole least greatest (map view links) → k < length links → x ≡ get_or links k x → p ≡ (view x).b.point → IsPointInRange whole least greatest p
  end_in_range least greatest k x p all h is at =
      subst (λ q. IsPointInRange whole least greatest q) (sym (at ∙ ap (λ (l : OverlayLink I D). l.b.point) (viewed_at view links k x h is)))
      (ends_in_range whole least greatest (map view links) k (view x) all (viewed_within view links k h)).1

  pub length-viewed_starts : length (starts_of whole (map view links)) ≡ length links
  length-viewed_starts = length-starts whole (map view links) ∙ length-map links view

  -- where the first end of one of them lies
  pub viewed_start : (k : ℕ) (x : L) (p : IntPoint I) (q : Point) (d : WholeEnd) → k < length links → x ≡ get_or links k x → p ≡ (view x).a.point → q ≡ point_of whole p → (get_or (starts_of whole (map view links)) k d).point ≡ q
  viewed_start k x p q d h is at seen =
      start_point_at whole (map view links) k (view x) d (viewed_within view links k h)
      ∙ ap (λ (l : OverlayLink I D). point_of whole l.a.point) (sym (viewed_at view links k x h is))
      ∙ sym (seen ∙ ap (point_of whole) at)
