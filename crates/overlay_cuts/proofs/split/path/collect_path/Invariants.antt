use Rattle.std.proofs.Common.{length}
use Rattle.overlay_geometry.specs.PointOf.{point_of}
use Rattle.overlay_intersections.specs.MarkOf.{points_of, mark_points_of}
use Rattle.overlay_cuts.proofs.laws.passes.Columns.{IsCollected}
use Rattle.overlay_cuts.proofs.split.path.collect_path.Given as goal

abbrev pub invariant-loop-first : goal.invariant-loop-first
invariant-loop-first g l =
    let whole = point_of g.I.OverlayInt.whole in
    IsCollected (whole l.a) (whole l.b) (mark_points_of g.I.OverlayInt.whole l.fn.marks) (points_of g.I.OverlayInt.whole l.path.items) (mark_points_of g.I.OverlayInt.whole l.rest)

abbrev pub decreases-loop-first : goal.decreases-loop-first
decreases-loop-first g l = length l.rest
