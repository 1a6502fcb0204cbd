use Rattle.std.proofs.Common.{◌≡◌, ◌&&◌, sym, ◌∙◌, ap₂, is_eq}
use Rattle.std.specs.Ordering.{int_cmp}
use Rattle.overlay_geometry.specs.PairOf.{pair_of}
use Rattle.overlay_geometry.specs.Points.{Pair, pair_eq}
use Rattle.overlay_geometry.proofs.laws.geometry.Comparisons.{whole_eq}
use Rattle.overlay_geometry.proofs.laws.geometry.Points.{is_eq-then, point_eq-parts}
use Rattle.overlay_base.proofs.segm.merge.has_same_ends.Goals as goal

pair_eq-parts : (s t : Pair) → pair_eq s t ≡ ((is_eq (int_cmp s.a.x t.a.x) && is_eq (int_cmp s.a.y t.a.y)) && (is_eq (int_cmp s.b.x t.b.x) && is_eq (int_cmp s.b.y t.b.y)))
pair_eq-parts s t = is_eq-then _ _ ∙ ap₂ (λ a b. a && b) (point_eq-parts s.a t.a) (point_eq-parts s.b t.b)

pub returns : goal.returns
returns g c =
    let same = whole_eq g.I.PartialEq.eq g.I.Ord.cmp g.I.OverlayInt.whole g.met.I.Ord.matches_eq g.met.I.OverlayInt.ordered in
    rw (← c.x_segment.ensures, ← c.x_segment-2.ensures) (simp same at c.eq.ensures ∙ sym (pair_eq-parts (pair_of g.I.OverlayInt.whole c.x_segment.result) (pair_of g.I.OverlayInt.whole c.x_segment-2.result)))
