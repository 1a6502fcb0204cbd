-- A path along a line along an axis winds around every point as the step from its first point to its last.
use Rattle.std.proofs.Common.{◌≡◌, sym, ap₂, ◌∙◌, Bool, false, List, [], ◌∷◌}
use Rattle.std.specs.Prelude.{ℤ, pos, negsuc, ◌+ℤ◌, ◌*ℤ◌, ◌≤ℤ◌, ◌<ℤ◌, if◌then◌else◌}
use Rattle.std.specs.List.{AllByRecursion}
use Rattle.std.proofs.lemmas.Int.{by_lt_z}
use Rattle.overlay_geometry.proofs.laws.lists.Lists.{Steps}
use Rattle.overlay_geometry.specs.Points.{Point, Pair}
use Rattle.overlay_geometry.proofs.laws.integers.Tests.{le_equal}
use Rattle.overlay_base.specs.Places.{RationalPoint, spans, lies_below}
use Rattle.overlay_base.specs.Sums.{gathered}
use Rattle.overlay_cuts.specs.Path.{last_point}
use Rattle.overlay_contours.specs.Contours.{steps_from, turned, step_winding}
use Rattle.overlay_contours.proofs.laws.Windings.{not_below}
use Rattle.overlay_tiles.proofs.laws.Clamps.{and_false, both_met, below_level, above_level}
use Rattle.overlay_tiles.proofs.laws.Bends.{Changes, CountsNothing, changes_add, nothing_adds, counts_change}

pub counts_nothing : (p : RationalPoint) (s : Pair) → lies_below s p ≡ false → lies_below (turned s) p ≡ false → step_winding p s ≡ pos 0
counts_nothing p s e f = ap₂ (λ (u v : Bool). if u then pos 1 else (if v then negsuc 0 else pos 0)) e f

-- ---- along a vertical line

upright_step : (p : RationalPoint) (s : Pair) → s.a.x ≡ s.b.x → step_winding p s ≡ pos 0
upright_step p s e = counts_nothing p s (not_below s p (le_equal _ _ (sym e))) (not_below (turned s) p (le_equal _ _ e))

upright_along : (p : RationalPoint) (x : ℤ) (u : Point) (points : List Point) → u.x ≡ x → AllByRecursion (λ q. q.x ≡ x) points → Steps (CountsNothing p) u points
upright_along p x u [] e h = tt
upright_along p x u (v ∷ points) e h = (upright_step p (record { a = u; b = v }) (e ∙ sym h.0), upright_along p x v points h.0 h.1)

pub upright_path : (p : RationalPoint) (x : ℤ) (u : Point) (points : List Point) → u.x ≡ x → AllByRecursion (λ q. q.x ≡ x) points → (last_point u points).x ≡ x →
    gathered ◌+ℤ◌ (pos 0) (step_winding p) (steps_from u points) ≡ step_winding p (record { a = u; b = last_point u points })
upright_path p x u points e h f = nothing_adds p u points (upright_along p x u points e h) ∙ sym (upright_step p (record { a = u; b = last_point u points }) (e ∙ sym f))

-- ---- along a horizontal line

below_step : (p : RationalPoint) (y : ℤ) (u v : Point) → u.y ≡ y → v.y ≡ y → (y *ℤ pos p.bottom) <ℤ p.y → Changes p u v
below_step p y u v e f under =
    let s : Pair = record { a = u; b = v } in
    counts_change s p (below_level y s p (le_equal _ _ e) (le_equal _ _ f) under) (below_level y (turned s) p (le_equal _ _ f) (le_equal _ _ e) under)

below_along : (p : RationalPoint) (y : ℤ) (u : Point) (points : List Point) → u.y ≡ y → AllByRecursion (λ q. q.y ≡ y) points → (y *ℤ pos p.bottom) <ℤ p.y → Steps (Changes p) u points
below_along p y u [] e h under = tt
below_along p y u (v ∷ points) e h under = (below_step p y u v e h.0 under, below_along p y v points h.0 h.1 under)

above_step : (p : RationalPoint) (y : ℤ) (u v : Point) → u.y ≡ y → v.y ≡ y → p.y ≤ℤ (y *ℤ pos p.bottom) → CountsNothing p u v
above_step p y u v e f over =
    let s : Pair = record { a = u; b = v } in
    counts_nothing p s
    (both_met s p false (above_level y s p (le_equal _ _ (sym e)) (le_equal _ _ (sym f)) over) ∙ and_false (spans s p))
    (both_met (turned s) p false (above_level y (turned s) p (le_equal _ _ (sym f)) (le_equal _ _ (sym e)) over) ∙ and_false (spans (turned s) p))

above_along : (p : RationalPoint) (y : ℤ) (u : Point) (points : List Point) → u.y ≡ y → AllByRecursion (λ q. q.y ≡ y) points → p.y ≤ℤ (y *ℤ pos p.bottom) → Steps (CountsNothing p) u points
above_along p y u [] e h over = tt
above_along p y u (v ∷ points) e h over = (above_step p y u v e h.0 over, above_along p y v points h.0 h.1 over)

pub level_path : (p : RationalPoint) (y : ℤ) (u : Point) (points : List Point) → u.y ≡ y → AllByRecursion (λ q. q.y ≡ y) points → (last_point u points).y ≡ y →
    gathered ◌+ℤ◌ (pos 0) (step_winding p) (steps_from u points) ≡ step_winding p (record { a = u; b = last_point u points })
level_path p y u points e h f =
    by_lt_z (y *ℤ pos p.bottom) p.y
    (λ (under : (y *ℤ pos p.bottom) <ℤ p.y). changes_add p u points (below_along p y u points e h under) ∙ sym (below_step p y u (last_point u points) e f under))
    (λ (over : p.y ≤ℤ (y *ℤ pos p.bottom)). nothing_adds p u points (above_along p y u points e h over) ∙ sym (above_step p y u (last_point u points) e f over))
