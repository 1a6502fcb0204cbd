use Rattle.std.proofs.Common.{rules, ◌∙◌, ap, subst, sym, arith, ℕ, ◌^◌, pos, to_z-of_z, FitsSigned, w64}
use Rattle.std.proofs.lemmas.Int.{ints}
use Rattle.std.proofs.lemmas.Nat.{pow_pos}
use Rattle.std.specs.Prelude.{◌≤ℤ◌, unsigned_abs}
use Rattle.overlay_intersections.specs.Marks.{snapping}
use Rattle.overlay_split.proofs.split.solver.placing_after.Goals as goal

at_least_one : (k : ℕ) → pos 1 ≤ℤ pos (2 ^ k)
at_least_one k = omega (arith, ints, pow_pos k)

pub returns-clause-snaps : goal.returns-clause-snaps
returns-clause-snaps g c = λ _.
    let fits : FitsSigned w64 c.radius_squared.result = search rules in
    ap (λ r. snapping (unsigned_abs r)) (to_z-of_z fits ∙ c.radius_squared.ensures)

pub returns-clause-radius : goal.returns-clause-radius
returns-clause-radius g c =
    let fits : FitsSigned w64 c.radius_squared.result = search rules in
    subst (λ r. pos 1 ≤ℤ r) (sym (to_z-of_z fits ∙ c.radius_squared.ensures)) (at_least_one _)
