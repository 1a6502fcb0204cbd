use Rattle.std.proofs.Common.{◌≡◌, ◌++◌, map, take}
use Rattle.overlay_geometry.specs.PointOf.{point_of}
use Rattle.overlay_base.specs.SegmentOf.{pairs_in}
use Rattle.overlay_snapping.specs.steps.Cutting.{points_on, points_off}
use Rattle.overlay_snapping.proofs.snap.cut_finder.part_marks.Given as goal

abbrev pub invariant-loop-mark : goal.invariant-loop-mark
invariant-loop-mark g l =
    let whole = g.I.OverlayInt.whole in
    record {
      on : map (point_of whole) l.on.items ≡ map (point_of whole) l.fn.on.items ++ points_on whole (pairs_in l.segments) (take l.mark-index l.marks);
      off : map (point_of whole) l.off.items ≡ points_off whole (pairs_in l.segments) (take l.mark-index l.marks);
    }
