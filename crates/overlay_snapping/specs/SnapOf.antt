-- What a call of the snapping splitter leaves, by the list before and after.
use Rattle.std.specs.Prelude.{◌≡◌, ◌⊎◌, ◌↔◌, ◌≤◌, ◌*◌, ℕ, length, Bool, if◌then◌else◌, IsTrue, IsFalse, List, Contains, Result, OnOk, Vec}
use Rattle.std.specs.Global.{Global}
use Rattle.overlay_geometry.specs.Points.{Point, Pair, is_end}
use Rattle.overlay_base.specs.EdgeData.{Hooks, DataSegment, data_join, without_data, IsRefusedJoin}
use Rattle.overlay_base.specs.HooksOf.{hooks_of}
use Rattle.overlay_base.specs.Join.{join, join_leaves_range, has_equal_pairs}
use Rattle.overlay_base.specs.Places.{RationalPoint, winding_below}
use Rattle.overlay_base.specs.SegmentOf.{segments_of, data_segments_of}
use Rattle.overlay_base.specs.Segments.{WholeSegment, pairs}
use Rattle.overlay_base.specs.declared.overlay_core.edge_data.OverlayEdgeData.{Ghosts}
use Rattle.overlay_base.specs.declared.segm.fault.Fault.{Fault}
use Rattle.overlay_base.specs.declared.segm.segment.Segment.{Segment}
use Rattle.overlay_intersections.specs.PassMarks.{is_rounded}
use Rattle.overlay_cuts.specs.DataPass.{data_cut_by, data_pass_by}
use Rattle.overlay_cuts.specs.Laws.{HooksNameNoOther, NameNear}
use Rattle.overlay_cuts.specs.Nearness.{Fraction, point_along, IsNear, LieNear, IsNearSome, Cancels}
use Rattle.overlay_cuts.specs.Pass.{cut_by}
use Rattle.overlay_cuts.specs.Places.{IsFar}
use Rattle.overlay_snapping.specs.Counts.{chain_points}
use Rattle.overlay_snapping.specs.Chains.{IsCutAt, AreSnapCuts, IsSnapped}

-- ---- the segments

-- The list is snapped from the join of what is given.
abbrev pub IsSnapOf : {C I D : Type 0} {m : _} {w : _} {o : _} {e : _} {p : _} → Vec (Segment C I D m w o e p) Global → Vec (Segment C I D m w o e p) Global → Type 0
IsSnapOf given list = IsSnapped (join (segments_of given.items)) (segments_of list.items)

-- How far a crossing of a list's join is moved at most, in halves: by one half, or not at all where every crossing is a whole point.
unfoldable pub reach_of_snap : List WholeSegment → ℕ
reach_of_snap given = if is_rounded (join given) then 1 else 0

-- Each segment of the list lies as near to a given one as crossings are moved, in each coordinate.
abbrev pub LiesWithinReach : {C I D : Type 0} {m : _} {w : _} {o : _} {e : _} {p : _} → Vec (Segment C I D m w o e p) Global → Vec (Segment C I D m w o e p) Global → Type 0
LiesWithinReach given list = LieNear (reach_of_snap (segments_of given.items)) (pairs (segments_of given.items)) (pairs (segments_of list.items))

-- p lies on a given pair whose counts cancel in the join, or near a pair of pieces whose counts cancel, as near as crossings are moved
pub data IsNearCancelledInSnap (given : List WholeSegment) (p : RationalPoint) : Type 0 where
  among_given : (r : Pair) → Cancels given r → IsNear 0 p r → IsNearCancelledInSnap given p
  among_pieces : (on : Pair → List Point) (r : Pair) → AreSnapCuts (join given) on → Cancels (cut_by on (join given)) r → IsNear (reach_of_snap given) p r → IsNearCancelledInSnap given p

-- Each point of a given segment lies as near to one of the list as crossings are moved, or near where counts cancelled.
abbrev pub GivenLiesWithinReach : {C I D : Type 0} {m : _} {w : _} {o : _} {e : _} {p : _} → Vec (Segment C I D m w o e p) Global → Vec (Segment C I D m w o e p) Global → Type 0
GivenLiesWithinReach given list =
    (s : Pair) → Contains (pairs (segments_of given.items)) s → (f : Fraction) →
    IsNearSome (reach_of_snap (segments_of given.items)) (point_along s f) (pairs (segments_of list.items)) ⊎ IsNearCancelledInSnap (segments_of given.items) (point_along s f)

-- The list winds as what is given at every place that is farther from that than crossings are moved.
abbrev pub WindsBeyondReach : {C I D : Type 0} {m : _} {w : _} {o : _} {e : _} {p : _} → Vec (Segment C I D m w o e p) Global → Vec (Segment C I D m w o e p) Global → Type 0
WindsBeyondReach given list =
    (place : RationalPoint) → IsFar (reach_of_snap (segments_of given.items)) place (pairs (segments_of given.items)) → winding_below (segments_of list.items) place ≡ winding_below (segments_of given.items) place

-- The list has at most three segments for each point of chains of the join.
abbrev pub HasFewSegments : {C I D : Type 0} {m : _} {w : _} {o : _} {e : _} {p : _} → Vec (Segment C I D m w o e p) Global → Vec (Segment C I D m w o e p) Global → Type 0
HasFewSegments given list = length list.items ≤ 3 * length (chain_points (pairs (join (segments_of given.items))))

-- Two given segments are on one pair of ends, or a segment is cut between its ends.
abbrev pub SnapChanges : List WholeSegment → Type 0
SnapChanges given =
    IsTrue (has_equal_pairs given) ⊎ ((s : Pair) × (c : Point) × Contains (pairs (join given)) s × IsCutAt (pairs (join given)) s c × IsFalse (is_end s c))

-- the flag is whether snapping a list changes it
abbrev pub TellsChange : {C I D : Type 0} {m : _} {w : _} {o : _} {e : _} {p : _} → Vec (Segment C I D m w o e p) Global → Bool → Type 0
TellsChange given flag = IsTrue flag ↔ SnapChanges (segments_of given.items)

-- a running sum of the given segments is too large, or one of the pieces
pub data SnapLeavesRange (given : List WholeSegment) : Type 0 where
  in_join : IsTrue (join_leaves_range given) → SnapLeavesRange given
  in_pieces : (on : Pair → List Point) → AreSnapCuts (join given) on → IsTrue (join_leaves_range (cut_by on (join given))) → SnapLeavesRange given

abbrev pub SumsLeaveRange : {C I D : Type 0} {m : _} {w : _} {o : _} {e : _} {p : _} → Vec (Segment C I D m w o e p) Global → Type 0
SumsLeaveRange given = SnapLeavesRange (segments_of given.items)

-- ---- the data

-- the segments with their data, and the store, after the join and then a pass through points
abbrev pub data_snap : {D S : Type 0} → Hooks D S → (Pair → List Point) → List (DataSegment D) → S → List (DataSegment D) × S
data_snap {D} {S} hooks on given store =
    let joined : List (DataSegment D) × S = data_join hooks given store in
    data_pass_by hooks on joined.0 joined.1

-- The list has the data that the hooks make along the chains, with a store.
abbrev pub HasSnapData : {C I D S : Type 0} {m : _} {w : _} {o : _} {e : _} {p : _} → Ghosts D C S → Vec (Segment C I D m w o e p) Global → S → Vec (Segment C I D m w o e p) Global → Type 0
HasSnapData {m = m} hooks given store list =
    (on : Pair → List Point) → AreSnapCuts (join (segments_of given.items)) on → data_segments_of list.items ≡ (data_snap (hooks_of m.counted hooks) on (data_segments_of given.items) store).0

-- If the call succeeds, the list has the data that they make with some store that is a first one.
abbrev pub GivesSnapData : {C I D S O : Type 0} {m : _} {w : _} {o : _} {e : _} {p : _} → Ghosts D C S → (S → Type 0) → Vec (Segment C I D m w o e p) Global → Vec (Segment C I D m w o e p) Global → Result O Fault → Type 0
GivesSnapData {S = S} hooks IsFirst given list result = OnOk result ((store : S) × IsFirst store × HasSnapData hooks given store list)

-- The store is what they leave of another.
abbrev pub IsSnapStore : {C I D S : Type 0} {m : _} {w : _} {o : _} {e : _} {p : _} → Ghosts D C S → Vec (Segment C I D m w o e p) Global → S → S → Type 0
IsSnapStore {m = m} hooks given store left =
    (on : Pair → List Point) → AreSnapCuts (join (segments_of given.items)) on → left ≡ (data_snap (hooks_of m.counted hooks) on (data_segments_of given.items) store).1

-- Where each given segment lies on what its data names, and the hooks name no others: if the call succeeds, each
-- segment of the list lies as near to all that its data names as crossings are moved.
abbrev pub LiesWithinReachOfNamed : {C I D S O : Type 0} {m : _} {w : _} {o : _} {e : _} {p : _} → Ghosts D C S → Vec (Segment C I D m w o e p) Global → Vec (Segment C I D m w o e p) Global → Result O Fault → Type 0
LiesWithinReachOfNamed {D = D} {m = m} hooks given list result =
    (names : D → Pair → Bool) → HooksNameNoOther (hooks_of m.counted hooks) names → NameNear names 0 (data_segments_of given.items) →
    OnOk result (NameNear names (reach_of_snap (segments_of given.items)) (data_segments_of list.items))

-- The join of the pieces of a list was refused, after that of the list, and left that store.
abbrev pub IsRefusedPieces : {D S : Type 0} → Hooks D S → (Pair → List Point) → List (DataSegment D) → S → S → Type 0
IsRefusedPieces {D} {S} hooks on given from left =
    let joined : List (DataSegment D) × S = data_join hooks given from in
    let pieces : List (DataSegment D) × S = data_cut_by hooks on joined.0 joined.1 in
    IsRefusedJoin hooks pieces.0 pieces.1 left

-- A call that was refused since a sum is too large: the join of what is given, or that of the pieces, stopped, with the store that is left.
pub data IsStoppedSnap {D S : Type 0} (hooks : Hooks D S) (given : List (DataSegment D)) (from left : S) : Type 0 where
  stops_join : IsRefusedJoin hooks given from left → IsStoppedSnap hooks given from left
  stops_pieces : (on : Pair → List Point) → AreSnapCuts (join (without_data given)) on → IsFalse (join_leaves_range (without_data given)) → IsRefusedPieces hooks on given from left → IsStoppedSnap hooks given from left

-- The call was refused, and left that store.
abbrev pub StopsSnap : {C I D S : Type 0} {m : _} {w : _} {o : _} {e : _} {p : _} → Ghosts D C S → Vec (Segment C I D m w o e p) Global → S → S → Type 0
StopsSnap {m = m} hooks given store left = IsStoppedSnap (hooks_of m.counted hooks) (data_segments_of given.items) store left
