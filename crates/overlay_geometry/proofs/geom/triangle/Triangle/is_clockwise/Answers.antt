use Rattle.std.proofs.Common.{ap, to_z-of_z, FitsSigned, w64}
use Rattle.std.specs.Prelude.{ℤ, pos, int_lt}
use Rattle.overlay_geometry.proofs.geom.triangle.Triangle.is_clockwise.Goals as goal

pub turn-requires-clause-p : goal.turn-requires-clause-p
turn-requires-clause-p g c = c.requires.p

pub turn-requires-clause-q : goal.turn-requires-clause-q
turn-requires-clause-q g c = c.requires.q

pub turn-requires-clause-r : goal.turn-requires-clause-r
turn-requires-clause-r g c = c.requires.r

pub returns : goal.returns
returns g c =
    let fit : FitsSigned w64 c.turn.result = record { sfits = c.turn.type_inv } in
    simp to_z-of_z (ap (λ (z : ℤ). int_lt z (pos 0)) c.turn.ensures)
