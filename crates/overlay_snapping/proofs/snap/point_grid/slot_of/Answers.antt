use Rattle.std.proofs.Common.{rules}
use Rattle.overlay_snapping.specs.steps.Cells.{slot_of}
use Rattle.overlay_snapping.proofs.snap.point_grid.slot_of.Goals as goal

pub returns : goal.returns
unfolding slot_of
returns c = search rules
