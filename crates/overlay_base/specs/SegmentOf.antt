-- Segments as whole numbers: their ends, their winding, their data.
use Rattle.std.specs.Prelude.{List, map, ◌≡◌, Vec}
use Rattle.overlay_geometry.specs.Points.{Pair}
use Rattle.overlay_base.specs.Windings.{Winding}
use Rattle.overlay_base.specs.Segments.{WholeSegment, pairs}
use Rattle.overlay_base.specs.EdgeData.{DataSegment}
use Rattle.overlay_geometry.specs.PairOf.{pair_of}
use Rattle.overlay_geometry.specs.declared.geom.x_segment.XSegment.{XSegment}
use Rattle.overlay_base.specs.declared.segm.segment.Segment.{Segment}
use Rattle.std.specs.Global.{Global}

-- what a segment's readers return
abbrev pub x_segment_of : {C I D : Type 0} {m : _} {w : _} {o : _} {e : _} {p : _} → Segment C I D m w o e p → XSegment I
x_segment_of s = s.x_segment

abbrev pub count_of : {C I D : Type 0} {m : _} {w : _} {o : _} {e : _} {p : _} → Segment C I D m w o e p → C
count_of s = s.count

abbrev pub edge_data_of : {C I D : Type 0} {m : _} {w : _} {o : _} {e : _} {p : _} → Segment C I D m w o e p → D
edge_data_of s = s.edge_data

-- the same in whole numbers: the type's own arguments say what a coordinate and a count mean
abbrev pub ends_of : {C I D : Type 0} {m : _} {w : _} {o : _} {e : _} {p : _} → Segment C I D m w o e p → Pair
ends_of {w = w} s = pair_of w.whole (x_segment_of s)

abbrev pub winding_of : {C I D : Type 0} {m : _} {w : _} {o : _} {e : _} {p : _} → Segment C I D m w o e p → Winding
winding_of {m = m} s = m.winding (count_of s)

-- a segment, and a list of them, without and with data
abbrev pub segment_of : {C I D : Type 0} {m : _} {w : _} {o : _} {e : _} {p : _} → Segment C I D m w o e p → WholeSegment
segment_of s = record { pair = ends_of s; count = winding_of s }

abbrev pub segments_of : {C I D : Type 0} {m : _} {w : _} {o : _} {e : _} {p : _} → List (Segment C I D m w o e p) → List WholeSegment
segments_of list = map segment_of list

abbrev pub data_segment_of : {C I D : Type 0} {m : _} {w : _} {o : _} {e : _} {p : _} → Segment C I D m w o e p → DataSegment D
data_segment_of s = record { pair = ends_of s; count = winding_of s; edge_data = edge_data_of s }

abbrev pub data_segments_of : {C I D : Type 0} {m : _} {w : _} {o : _} {e : _} {p : _} → List (Segment C I D m w o e p) → List (DataSegment D)
data_segments_of list = map data_segment_of list

-- the pairs of ends in a list
abbrev pub pairs_in : {C I D : Type 0} {m : _} {w : _} {o : _} {e : _} {p : _} → List (Segment C I D m w o e p) → List Pair
pairs_in list = pairs (segments_of list)

-- a list has the segments of another, with their data
abbrev pub KeepsSegments : {C I D : Type 0} {m : _} {w : _} {o : _} {e : _} {p : _} → Vec (Segment C I D m w o e p) Global → Vec (Segment C I D m w o e p) Global → Type 0
KeepsSegments given list = data_segments_of list.items ≡ data_segments_of given.items
