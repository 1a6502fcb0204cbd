use Rattle.std.proofs.Common.{◌≡◌, ◌≤◌}
use Rattle.overlay_base.specs.SegmentOf.{segments_of}
use Rattle.overlay_sweep.specs.steps.WayOf.{ways_of, ways_between}
use Rattle.overlay_sweep.proofs.build.start_point.collect_ways.Given as goal

abbrev pub invariant-loop-at : goal.invariant-loop-at
invariant-loop-at g l = (l.index ≤ l.at) × (l.at ≤ l.next) × (ways_of l.ways.items ≡ ways_between (segments_of l.segments) l.index l.at)
