-- The pieces along a path of code.
use Rattle.std.specs.Prelude.{◌≡◌, ℤ, List, ◌++◌, Vec, Result, OnOk}
use Rattle.std.specs.Global.{Global}
use Rattle.overlay_geometry.specs.Points.{Point}
use Rattle.overlay_geometry.specs.PointOf.{point_of}
use Rattle.overlay_geometry.specs.declared.geom.point.IntPoint.{IntPoint}
use Rattle.overlay_base.specs.HooksOf.{hooks_of}
use Rattle.overlay_base.specs.SegmentOf.{data_segments_of}
use Rattle.overlay_base.specs.declared.overlay_core.edge_data.OverlayEdgeData.{Ghosts}
use Rattle.overlay_base.specs.declared.segm.fault.Fault.{Fault}
use Rattle.overlay_base.specs.declared.segm.segment.Segment.{Segment}
use Rattle.overlay_intersections.specs.MarkOf.{points_of, mark_points_of}
use Rattle.overlay_intersections.specs.declared.split.line_mark.LineMark.{LineMark}
use Rattle.overlay_cuts.specs.DataPass.{data_pieces}
use Rattle.overlay_cuts.specs.Path.{columns_in_order, path_from, last_point}

-- the path that follows on a, through marks in order, to b
abbrev pub path_through : {I : Type 0} → (I → ℤ) → IntPoint I → List (LineMark I) → IntPoint I → List Point
path_through whole a marks b = path_from (point_of whole a) (columns_in_order (mark_points_of whole marks)) (point_of whole b)

-- If the call succeeds, the pieces from a point along the path that follows on it are appended to a list.
abbrev pub AddsPieces : {C I D S O : Type 0} {m : _} {w : _} {o : _} {e : _} {p : _} → Ghosts D C S → IntPoint I → List (IntPoint I) → C → D → S → Vec (Segment C I D m w o e p) Global → Vec (Segment C I D m w o e p) Global → Result O Fault → Type 0
AddsPieces {m = m} {w = w} hooks from path count edge_data store given list result =
    OnOk result (
    let b : Point = last_point (point_of w.whole from) (points_of w.whole path) in
    data_segments_of list.items ≡ data_segments_of given.items
    ++ (data_pieces (hooks_of m.counted hooks) (m.winding count) (point_of w.whole from) (points_of w.whole path) b edge_data store).0)

-- If the call succeeds, the store is what making those pieces, for a list, leaves of another.
abbrev pub LeavesStore : {C I D S O : Type 0} {m : _} {w : _} {o : _} {e : _} {p : _} → Ghosts D C S → IntPoint I → List (IntPoint I) → C → D → S → Vec (Segment C I D m w o e p) Global → S → Result O Fault → Type 0
LeavesStore {m = m} {w = w} hooks from path count edge_data store list left result =
    OnOk result (
    let b : Point = last_point (point_of w.whole from) (points_of w.whole path) in
    left ≡ (data_pieces (hooks_of m.counted hooks) (m.winding count) (point_of w.whole from) (points_of w.whole path) b edge_data store).1)
