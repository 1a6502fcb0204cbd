use Rattle.std.proofs.Common.{◌≡◌, map, take}
use Rattle.overlay_geometry.specs.PointOf.{point_of}
use Rattle.overlay_base.specs.Segments.{ends}
use Rattle.overlay_base.specs.SegmentOf.{pairs_in}
use Rattle.overlay_snapping.proofs.snap.cut_finder.collect_ends.Given as goal

abbrev pub invariant-loop-segment : goal.invariant-loop-segment
invariant-loop-segment g l = map (point_of g.I.OverlayInt.whole) l.points.items ≡ ends (pairs_in (take l.segment-index l.segments))
