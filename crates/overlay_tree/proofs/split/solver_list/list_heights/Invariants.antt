use Rattle.std.proofs.Common.{◌≡◌, ◌++◌, map, drop}
use Rattle.overlay_geometry.specs.Ranges.{heights}
use Rattle.overlay_geometry.specs.RangeOf.{range_of}
use Rattle.overlay_base.specs.Segments.{pairs}
use Rattle.overlay_base.specs.SegmentOf.{segments_of}
use Rattle.overlay_tree.proofs.split.solver_list.list_heights.Given as goal

abbrev pub invariant-loop-index : goal.invariant-loop-index
invariant-loop-index g l = map (range_of g.I.OverlayInt.whole) l.ranges.items ++ map heights (drop l.index (pairs (segments_of l.segments))) ≡ map heights (pairs (segments_of l.segments))
