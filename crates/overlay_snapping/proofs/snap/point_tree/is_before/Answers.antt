use Rattle.std.proofs.Common.{rules}
use Rattle.overlay_snapping.proofs.snap.point_tree.is_before.Goals as goal

pub returns-then-own-column-2 : goal.returns-then-own-column-2
returns-then-own-column-2 g c = search rules
