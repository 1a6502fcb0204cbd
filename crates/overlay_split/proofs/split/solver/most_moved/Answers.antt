use Rattle.std.proofs.Common.{rules, ◌≡◌, ap, ◌∙◌, ◌+◌, ◌*◌, ◌<◌, ◌≤◌, Bool, true, sym, if◌then◌else◌, ℕ, to_z-of_z, FitsSigned, w64}
use Rattle.std.specs.Prelude.{ℤ, unsigned_abs}
use Rattle.overlay_intersections.specs.PlacingOf.{placing_of}
use Rattle.overlay_intersections.specs.declared.split.placing.Placing.{Placing}
use Rattle.overlay_intersections.specs.declared.split.placing.Placing.TheVariants.{Snapping}
use Rattle.overlay_cuts.specs.Nearness.{root, reach}
use Rattle.overlay_split.proofs.laws.nearness.Reaches.{root_found}
use Rattle.overlay_split.proofs.split.solver.most_moved.Goals as goal

-- the root of a squared radius, found
snapped : (placing : Placing) (radius_squared : ℤ) (rounds : Bool) (n r : ℕ) → placing ≡ Snapping radius_squared → rounds ≡ true → n ≡ unsigned_abs radius_squared → r * r ≤ n → n < (r + 1) * (r + 1) → 2 + 2 * r ≡ (if rounds then reach (placing_of placing) else 0)
snapped placing radius_squared rounds n r p b e h k =
    ap (λ (m : ℕ). 2 + 2 * m) (root_found r n h k ∙ ap root e)
    ∙ sym (ap (λ (q : Placing). reach (placing_of q)) p)
    ∙ sym (ap (λ (t : Bool). if t then reach (placing_of placing) else 0) b)

pub returns-in-Snapping-clause-reach : goal.returns-in-Snapping-clause-reach
returns-in-Snapping-clause-reach c =
    let fits : FitsSigned w64 c.in-Snapping.radius_squared = search rules in
    snapped c.args.placing c.in-Snapping.radius_squared c.args.rounds c.unsigned_abs.result c.isqrt.result c.in-Snapping.is c.if-not-rounds.false (c.unsigned_abs.ensures.value ∙ ap unsigned_abs (to_z-of_z fits)) c.isqrt.ensures.square_le c.isqrt.ensures.next_square_gt
