use Rattle.std.proofs.Common.{◌≡◌, ◌∙◌, ap, rules, to_z, of_z, to_z-of_z, FitsSigned, w64}
use Rattle.std.specs.Prelude.{ℤ, ◌≤ℤ◌, ◌-ℤ◌, pos, neg_ℤ}
use Rattle.std.specs.Int.{int_signum}
use Rattle.overlay_geometry.proofs.geom.triangle.Triangle.clock_direction.Goals as goal

opposite : (s : ℤ) → neg_ℤ (pos 1) ≤ℤ s → s ≤ℤ pos 1 → to_z w64 (of_z w64 (pos 0 -ℤ to_z w64 (of_z w64 s))) ≡ neg_ℤ s
opposite s low high = search rules

pub turn-requires-clause-p : goal.turn-requires-clause-p
turn-requires-clause-p g c = c.requires.p

pub turn-requires-clause-q : goal.turn-requires-clause-q
turn-requires-clause-q g c = c.requires.q

pub turn-requires-clause-r : goal.turn-requires-clause-r
turn-requires-clause-r g c = c.requires.r

pub returns : goal.returns
returns g c =
    let fit : FitsSigned w64 c.turn.result = record { sfits = c.turn.type_inv } in
    opposite c.signum.result c.signum.ensures.lower_bound c.signum.ensures.upper_bound ∙ ap neg_ℤ (simp to_z-of_z at c.signum.ensures.value ∙ ap int_signum c.turn.ensures)
