use Rattle.std.proofs.Common.{arith}
use Rattle.std.proofs.lemmas.Int.{ints}
use Rattle.std.proofs.lemmas.Grind.{common_steps}
use Rattle.overlay_contours.proofs.corners.are_in_order.Goals as goal

pub returns-then-lt : goal.returns-then-lt
returns-then-lt g c = grind (arith, ints, common_steps, g.met.I.Ord.matches_partial_cmp, g.met.I.OverlayInt.ordered)

pub returns-else-lt : goal.returns-else-lt
returns-else-lt g c = grind (arith, ints, common_steps, g.met.I.Ord.matches_partial_cmp, g.met.I.OverlayInt.ordered)
