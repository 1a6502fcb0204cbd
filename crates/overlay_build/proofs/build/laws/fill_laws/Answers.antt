use Rattle.overlay_build.proofs.laws.sides.FillSides.{fills_tell_sides}
use Rattle.overlay_build.proofs.build.laws.fill_laws.Goals as goal

pub returns : goal.returns
returns c = fills_tell_sides
