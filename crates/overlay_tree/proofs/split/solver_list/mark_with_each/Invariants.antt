use Rattle.std.proofs.Common.{◌≤◌, ◌+◌, take}
use Rattle.overlay_base.specs.Segments.{pairs}
use Rattle.overlay_base.specs.SegmentOf.{segments_of}
use Rattle.overlay_tree.specs.steps.ListScan.{AreListed}
use Rattle.overlay_tree.proofs.split.solver_list.mark_with_each.Given as goal

abbrev pub invariant-loop-later : goal.invariant-loop-later
invariant-loop-later g l = record {
  few : l.count + l.from ≤ l.later;
  listed : AreListed (pairs (segments_of l.segments)) l.index l.from l.later (take l.count l.met);
}
