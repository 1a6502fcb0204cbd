use Rattle.std.proofs.Common.{◌≤◌, ◌+◌, take}
use Rattle.overlay_base.specs.Segments.{pairs}
use Rattle.overlay_base.specs.SegmentOf.{segments_of}
use Rattle.overlay_tree.specs.steps.ListScan.{AreListed, IsReaching}
use Rattle.overlay_tree.proofs.split.solver_list.list_near.Given as goal

abbrev pub invariant-loop-later : goal.invariant-loop-later
invariant-loop-later g l = record {
  few : l.count + l.index + 1 ≤ l.later;
  listed : AreListed (pairs (segments_of l.segments)) l.index (l.index + 1) l.later (take l.count l.met);
  reach : IsReaching (pairs (segments_of l.segments)) l.index l.later;
}
