-- What pieces and joins of code make of data and of a store. The type of a segment says how its count and its
-- coordinates are read, and the type of the data which hooks it has.
use Rattle.std.specs.Prelude.{◌≡◌, Vec}
use Rattle.std.specs.Global.{Global}
use Rattle.overlay_geometry.specs.PointOf.{point_of}
use Rattle.overlay_geometry.specs.declared.geom.point.IntPoint.{IntPoint}
use Rattle.overlay_base.specs.Windings.{Winding}
use Rattle.overlay_base.specs.EdgeData.{data_piece, data_join, IsStoppedJoin, IsRefusedJoin}
use Rattle.overlay_base.specs.HooksOf.{hooks_of}
use Rattle.overlay_base.specs.SegmentOf.{data_segment_of, data_segments_of}
use Rattle.overlay_base.specs.declared.overlay_core.edge_data.OverlayEdgeData.{Ghosts}
use Rattle.overlay_base.specs.declared.segm.segment.Segment.{Segment}
use Rattle.overlay_base.specs.BooleanWinding.{boolean_made}
use Rattle.overlay_base.specs.ShapeWindings.{direct_winding}
use Rattle.overlay_base.specs.declared.segm.shape_type.ShapeType.{ShapeType}

-- ---- pieces

-- The segment is the piece from a to b with a winding and with data, made with a store.
abbrev pub IsDataPiece : {C I D S : Type 0} {m : _} {w : _} {o : _} {e : _} {p : _} → Ghosts D C S → Winding → IntPoint I → IntPoint I → D → S → Segment C I D m w o e p → Type 0
IsDataPiece {m = m} {w = w} hooks winding a b edge_data store s =
    data_segment_of s ≡ (data_piece (hooks_of m.counted hooks) winding (point_of w.whole a) (point_of w.whole b) edge_data store).0

-- The store is what making that piece leaves.
abbrev pub IsPieceStore : {C I D S : Type 0} {m : _} {w : _} {o : _} {e : _} {p : _} → Ghosts D C S → Winding → IntPoint I → IntPoint I → D → S → S → Segment C I D m w o e p → Type 0
IsPieceStore {m = m} {w = w} hooks winding a b edge_data store left s =
    left ≡ (data_piece (hooks_of m.counted hooks) winding (point_of w.whole a) (point_of w.whole b) edge_data store).1

-- The segment is the piece that is one step of a contour of a shape.
abbrev pub IsStepOf : {C I D S : Type 0} {m : _} {w : _} {o : _} {e : _} {p : _} → Ghosts D C S → ShapeType → IntPoint I → IntPoint I → D → S → Segment C I D m w o e p → Type 0
IsStepOf hooks shape_type a b edge_data store s = IsDataPiece hooks (direct_winding boolean_made shape_type) a b edge_data store s

-- The store is what making that step leaves.
abbrev pub IsStepStore : {C I D S : Type 0} {m : _} {w : _} {o : _} {e : _} {p : _} → Ghosts D C S → ShapeType → IntPoint I → IntPoint I → D → S → S → Segment C I D m w o e p → Type 0
IsStepStore hooks shape_type a b edge_data store left s = IsPieceStore hooks (direct_winding boolean_made shape_type) a b edge_data store left s

-- ---- joins

-- The list has the data that the join of another makes with a store.
abbrev pub HasDataOfJoin : {C I D S : Type 0} {m : _} {w : _} {o : _} {e : _} {p : _} → Ghosts D C S → Vec (Segment C I D m w o e p) Global → S → Vec (Segment C I D m w o e p) Global → Type 0
HasDataOfJoin {m = m} hooks given store list =
    data_segments_of list.items ≡ (data_join (hooks_of m.counted hooks) (data_segments_of given.items) store).0

-- The store is what that join leaves.
abbrev pub IsJoinStore : {C I D S : Type 0} {m : _} {w : _} {o : _} {e : _} {p : _} → Ghosts D C S → Vec (Segment C I D m w o e p) Global → S → S → Type 0
IsJoinStore {m = m} hooks given store left =
    left ≡ (data_join (hooks_of m.counted hooks) (data_segments_of given.items) store).1

-- The join of a list in order was refused, and left that store.
abbrev pub StopsMerge : {C I D S : Type 0} {m : _} {w : _} {o : _} {e : _} {p : _} → Ghosts D C S → Vec (Segment C I D m w o e p) Global → S → S → Type 0
StopsMerge {m = m} hooks given store left = IsStoppedJoin (hooks_of m.counted hooks) (data_segments_of given.items) store left

-- The join of a list in any order was refused, and left that store.
abbrev pub StopsJoin : {C I D S : Type 0} {m : _} {w : _} {o : _} {e : _} {p : _} → Ghosts D C S → Vec (Segment C I D m w o e p) Global → S → S → Type 0
StopsJoin {m = m} hooks given store left = IsRefusedJoin (hooks_of m.counted hooks) (data_segments_of given.items) store left
