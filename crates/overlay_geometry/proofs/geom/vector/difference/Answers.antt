use Rattle.std.proofs.Common.{arith}
use Rattle.std.proofs.lemmas.Int.{ints}
use Rattle.overlay_geometry.proofs.laws.geometry.Coordinates.{difference_bound}
use Rattle.overlay_geometry.proofs.geom.vector.difference.Goals as goal

pub returns-clause-value : goal.returns-clause-value
returns-clause-value g c =
    let bound = difference_bound _ _ _ _ g.met.I.OverlayInt.lowest g.met.I.OverlayInt.highest c.requires.from c.requires.to in
    omega (arith, ints, c.to_wide.ensures, c.to_wide-2.ensures, bound)

pub returns-clause-bound : goal.returns-clause-bound
returns-clause-bound g c =
    let bound = difference_bound _ _ _ _ g.met.I.OverlayInt.lowest g.met.I.OverlayInt.highest c.requires.from c.requires.to in
    omega (arith, ints, c.to_wide.ensures, c.to_wide-2.ensures, bound)
