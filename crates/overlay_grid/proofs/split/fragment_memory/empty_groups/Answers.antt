use Rattle.std.proofs.Common.{arith}
use Rattle.std.proofs.lemmas.Grind.{common_steps}
use Rattle.overlay_grid.proofs.laws.grid.GridGroups.{group_in-new}
use Rattle.overlay_grid.proofs.split.fragment_memory.empty_groups.Goals as goal

pub loop-preserved : goal.loop-preserved
loop-preserved g c = record {
  count = grind (arith, common_steps);
  within = omega arith;
  empty = λ column. rw c.in_ok-push.ensures.items (group_in-new g.I.OverlayInt.whole c.loop.groups.items c.new.result column c.new.ensures.items (c.loop.invariant.empty column));
}
