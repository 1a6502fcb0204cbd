use Rattle.std.proofs.Common.{length, ◌-◌, ◌≤◌}
use Rattle.overlay_base.specs.Segments.{pairs}
use Rattle.overlay_base.specs.SegmentOf.{segments_of}
use Rattle.overlay_tree.specs.steps.ListScan.{IsReaching}
use Rattle.overlay_tree.proofs.split.solver_list.end_of_reach.Given as goal

abbrev pub invariant-leaps : goal.invariant-leaps
invariant-leaps g l = record {
  reach : IsReaching (pairs (segments_of l.segments)) l.index l.end;
  from : l.from ≤ l.end;
}

abbrev pub decreases-leaps : goal.decreases-leaps
decreases-leaps g l = length l.segments - l.end

abbrev pub invariant-steps : goal.invariant-steps
invariant-steps g l = record {
  reach : IsReaching (pairs (segments_of l.segments)) l.index l.end;
  from : l.from ≤ l.end;
}

abbrev pub decreases-steps : goal.decreases-steps
decreases-steps g l = length l.segments - l.end
