use Rattle.std.proofs.Common.{[], ◌∷◌, ◌++◌, drop}
use Rattle.overlay_geometry.specs.PointOf.{point_of}
use Rattle.overlay_base.specs.EdgeData.{IsMadeFrom}
use Rattle.overlay_base.specs.HooksOf.{hooks_of}
use Rattle.overlay_base.specs.SegmentOf.{data_segments_of}
use Rattle.overlay_intersections.specs.MarkOf.{points_of}
use Rattle.overlay_cuts.specs.DataPass.{data_pieces}
use Rattle.overlay_cuts.proofs.laws.passes.PieceSteps.{ArePushed}
use Rattle.overlay_cuts.proofs.split.piece.push_pieces.Given as goal

abbrev pub invariant-loop-mark : goal.invariant-loop-mark
invariant-loop-mark g l =
    let whole = g.I.OverlayInt.whole in
    let hooks = hooks_of g.C.WindingCount.counted g.D.OverlayEdgeData in
    let count = g.C.WindingCount.winding l.count in
    let b = point_of whole l.b in
    let all = data_pieces hooks count (point_of whole l.fn.from) (points_of whole l.marks ++ b ∷ []) b l.fn.edge_data l.fn.store in
    record {
      pushed : ArePushed hooks count b (data_segments_of l.fn.list.items) (data_segments_of l.list.items) all (point_of whole l.from) (points_of whole (drop l.mark-index l.marks) ++ b ∷ []) l.edge_data l.store;
      made : IsMadeFrom hooks l.fn.store l.store;
    }
