-- What cutting a list of code at marks of code leaves, and joining the pieces.
use Rattle.std.specs.Prelude.{◌≡◌, ◌≢◌, ◌<◌, ℕ, IsTrue, IsFalse, List, All, length, slice_index_or, IsSortedByKey, Vec}
use Rattle.std.specs.Global.{Global}
use Rattle.std.specs.List.Sorted.{IsStrictlySortedBy}
use Rattle.std.specs.Ordering.{nat_cmp}
use Rattle.overlay_geometry.specs.Points.{Point, Pair, point_cmp}
use Rattle.overlay_base.specs.EdgeData.{DataSegment, IsRefusedJoin}
use Rattle.overlay_base.specs.HooksOf.{hooks_of}
use Rattle.overlay_base.specs.Join.{join_leaves_range}
use Rattle.overlay_base.specs.SegmentOf.{segments_of, data_segments_of}
use Rattle.overlay_base.specs.Segments.{WholeSegment, pairs}
use Rattle.overlay_base.specs.declared.overlay_core.edge_data.OverlayEdgeData.{Ghosts}
use Rattle.overlay_base.specs.declared.segm.segment.Segment.{Segment}
use Rattle.overlay_intersections.specs.MarkOf.{Mark, marks_of, points_at}
use Rattle.overlay_intersections.specs.declared.split.line_mark.LineMark.{LineMark}
use Rattle.overlay_cuts.specs.DataPass.{data_cut_by, data_pass_by}
use Rattle.overlay_cuts.specs.Pass.{EachMark, cut_by, pass_by}

-- Marks by rising index, those of each segment the points that a function names for its pair.
pub record AreMarksBy (on : Pair → List Point) (segments : List WholeSegment) (marks : List Mark) : Type 0 where
  pub in_order : IsSortedByKey (λ m. m.index) nat_cmp marks
  pub within : All (λ m. m.index < length segments) marks
  pub each : (index : ℕ) (d : WholeSegment) → index < length segments → points_at index marks ≡ on (slice_index_or segments index d).pair

-- Marks at which segments may be cut: some function names them, for each pair in strict order, and no end of it.
pub record AreCutMarks (segments : List WholeSegment) (marks : List Mark) : Type 0 where
  pub on : Pair → List Point
  pub are : AreMarksBy on segments marks
  pub rise : All (λ s. IsStrictlySortedBy point_cmp (on s)) (pairs segments)
  pub free : EachMark (λ s m. (m ≢ s.a) × (m ≢ s.b)) on segments

-- Marks of code are such marks.
abbrev pub AreCutMarksOf : {C I D : Type 0} {m : _} {w : _} {o : _} {e : _} {p : _} → List (Segment C I D m w o e p) → List (LineMark I) → Type 0
AreCutMarksOf {w = w} segments marks = AreCutMarks (segments_of segments) (marks_of w.whole marks)

-- what holds of each function that names marks of code
abbrev pub ForMarks : {C I D : Type 0} {m : _} {w : _} {o : _} {e : _} {p : _} → List (Segment C I D m w o e p) → List (LineMark I) → ((Pair → List Point) → Type 0) → Type 0
ForMarks {w = w} segments marks P = (on : Pair → List Point) → AreMarksBy on (segments_of segments) (marks_of w.whole marks) → P on

-- ---- a cut

-- The list has the data of another that is cut at those marks, with a store.
abbrev pub HasDataOfCutAt : {C I D S : Type 0} {m : _} {w : _} {o : _} {e : _} {p : _} → Ghosts D C S → List (LineMark I) → Vec (Segment C I D m w o e p) Global → S → Vec (Segment C I D m w o e p) Global → Type 0
HasDataOfCutAt {m = m} hooks marks given store list =
    ForMarks given.items marks (λ on. data_segments_of list.items ≡ (data_cut_by (hooks_of m.counted hooks) on (data_segments_of given.items) store).0)

-- The store is what that cut leaves.
abbrev pub IsCutStoreAt : {C I D S : Type 0} {m : _} {w : _} {o : _} {e : _} {p : _} → Ghosts D C S → List (LineMark I) → Vec (Segment C I D m w o e p) Global → S → S → Type 0
IsCutStoreAt {m = m} hooks marks given store left =
    ForMarks given.items marks (λ on. left ≡ (data_cut_by (hooks_of m.counted hooks) on (data_segments_of given.items) store).1)

-- ---- a cut, joined

-- The list is another that is cut at those marks, joined.
abbrev pub IsPassAt : {C I D : Type 0} {m : _} {w : _} {o : _} {e : _} {p : _} → List (LineMark I) → Vec (Segment C I D m w o e p) Global → Vec (Segment C I D m w o e p) Global → Type 0
IsPassAt marks given list = ForMarks given.items marks (λ on. segments_of list.items ≡ pass_by on (segments_of given.items))

-- The list has its data, with a store.
abbrev pub HasDataOfPassAt : {C I D S : Type 0} {m : _} {w : _} {o : _} {e : _} {p : _} → Ghosts D C S → List (LineMark I) → Vec (Segment C I D m w o e p) Global → S → Vec (Segment C I D m w o e p) Global → Type 0
HasDataOfPassAt {m = m} hooks marks given store list =
    ForMarks given.items marks (λ on. data_segments_of list.items ≡ (data_pass_by (hooks_of m.counted hooks) on (data_segments_of given.items) store).0)

-- The store is what that leaves.
abbrev pub IsPassStoreAt : {C I D S : Type 0} {m : _} {w : _} {o : _} {e : _} {p : _} → Ghosts D C S → List (LineMark I) → Vec (Segment C I D m w o e p) Global → S → S → Type 0
IsPassStoreAt {m = m} hooks marks given store left =
    ForMarks given.items marks (λ on. left ≡ (data_pass_by (hooks_of m.counted hooks) on (data_segments_of given.items) store).1)

-- No running sum of the pieces is too large.
abbrev pub PiecesFitAt : {C I D : Type 0} {m : _} {w : _} {o : _} {e : _} {p : _} → List (LineMark I) → List (Segment C I D m w o e p) → Type 0
PiecesFitAt marks list = ForMarks list marks (λ on. IsFalse (join_leaves_range (cut_by on (segments_of list))))

-- Some running sum of them is.
abbrev pub PiecesLeaveRangeAt : {C I D : Type 0} {m : _} {w : _} {o : _} {e : _} {p : _} → List (LineMark I) → List (Segment C I D m w o e p) → Type 0
PiecesLeaveRangeAt marks list = ForMarks list marks (λ on. IsTrue (join_leaves_range (cut_by on (segments_of list))))

-- The join of the pieces was refused, and left that store.
abbrev pub StopsPassAt : {C I D S : Type 0} {m : _} {w : _} {o : _} {e : _} {p : _} → Ghosts D C S → List (LineMark I) → Vec (Segment C I D m w o e p) Global → S → S → Type 0
StopsPassAt {D = D} {S = S} {m = m} hooks marks given store left =
    ForMarks given.items marks (λ on.
    let pieces : List (DataSegment D) × S = data_cut_by (hooks_of m.counted hooks) on (data_segments_of given.items) store in
    IsRefusedJoin (hooks_of m.counted hooks) pieces.0 pieces.1 left)
