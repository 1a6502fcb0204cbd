use Rattle.std.proofs.Common.{◌≡◌, ◌∙◌, ap, rules, of_z, FitsSigned, w64, nat_eq, not}
use Rattle.std.specs.Prelude.{ℤ, pos}
use Rattle.std.specs.Ordering.{int_eq}
use Rattle.overlay_geometry.proofs.geom.triangle.Triangle.is_not_line.Goals as goal

is_zero : (z : ℤ) → FitsSigned w64 z → nat_eq (of_z w64 z) 0 ≡ int_eq z (pos 0)
is_zero z fit = search rules

pub turn-requires-clause-p : goal.turn-requires-clause-p
turn-requires-clause-p g c = c.requires.p

pub turn-requires-clause-q : goal.turn-requires-clause-q
turn-requires-clause-q g c = c.requires.q

pub turn-requires-clause-r : goal.turn-requires-clause-r
turn-requires-clause-r g c = c.requires.r

pub returns : goal.returns
returns g c = ap not (is_zero c.turn.result (record { sfits = c.turn.type_inv })) ∙ ap (λ (z : ℤ). not (int_eq z (pos 0))) c.turn.ensures
