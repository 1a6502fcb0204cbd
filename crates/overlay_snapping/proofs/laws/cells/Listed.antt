-- Whether a point is one of a list: as a test, and as an element.
use Rattle.std.proofs.Common.{◌≡◌, ◌∙◌, refl, sym, subst, ◌↔◌, Bool, true, false, List}
use Rattle.std.specs.Prelude.{Contains}
use Rattle.std.proofs.lemmas.Bool.{both_ways}
use Rattle.std.proofs.lemmas.List.Folds.{list_any_at, Any-from_list_any}
use Rattle.overlay_geometry.specs.Points.{Point, point_eq}
use Rattle.overlay_geometry.proofs.laws.geometry.Points.{same_by_eq, point_eq_same}
use Rattle.overlay_snapping.specs.steps.Met.{is_listed}

pub listed_in : (points : List Point) (c : Point) → Contains points c → is_listed points c ≡ true
listed_in points c i = list_any_at (λ q. point_eq q c) points i.0 c i.1 (subst (λ (q : Point). point_eq q c ≡ true) (sym i.2) (point_eq_same c))

pub listed_out : (points : List Point) (c : Point) → is_listed points c ≡ true → Contains points c
listed_out points c h =
    let r = Any-from_list_any (λ q. point_eq q c) points h in
    let same : r.1 ≡ c = same_by_eq r.1 c r.4 in
    subst (λ (q : Point). Contains points q) same (r.0, r.2, r.3)

-- lists with the same points
pub listed_alike : (xs ys : List Point) → ((c : Point) → Contains xs c ↔ Contains ys c) → (c : Point) → is_listed xs c ≡ is_listed ys c
listed_alike xs ys same c = by (is_listed xs c) (is_listed ys c) refl refl
  where
    by : (a b : Bool) → is_listed xs c ≡ a → is_listed ys c ≡ b → a ≡ b
    by true true e f = refl
    by false false e f = refl
    by true false e f = absurd (both_ways (is_listed ys c) f (listed_in ys c ((same c).0 (listed_out xs c e))))
    by false true e f = absurd (both_ways (is_listed xs c) e (listed_in xs c ((same c).1 (listed_out ys c f))))

pub alike_listed : (xs ys : List Point) → ((c : Point) → is_listed xs c ≡ is_listed ys c) → (c : Point) → Contains xs c ↔ Contains ys c
alike_listed xs ys same c = (λ i. listed_out ys c (sym (same c) ∙ listed_in xs c i), λ i. listed_out xs c (same c ∙ listed_in ys c i))
