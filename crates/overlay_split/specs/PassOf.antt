-- What a pass over a list of code leaves of its data and of the store, and how many pairs it compares.
use Rattle.std.specs.Prelude.{◌≡◌, ℕ, Bool, nat_lt, List, length, Vec}
use Rattle.std.specs.Global.{Global}
use Rattle.overlay_base.specs.EdgeData.{DataSegment, IsRefusedJoin}
use Rattle.overlay_base.specs.HooksOf.{hooks_of}
use Rattle.overlay_base.specs.Join.{join_leaves_range}
use Rattle.overlay_base.specs.SegmentOf.{segments_of, data_segments_of}
use Rattle.overlay_base.specs.declared.overlay_core.edge_data.OverlayEdgeData.{Ghosts}
use Rattle.overlay_base.specs.declared.segm.segment.Segment.{Segment}
use Rattle.overlay_intersections.specs.PassMarks.{mark_count}
use Rattle.overlay_intersections.specs.PlacingOf.{placing_of}
use Rattle.overlay_intersections.specs.declared.split.placing.Placing.{Placing}
use Rattle.overlay_cuts.specs.DataPass.{data_cut, data_pass}
use Rattle.overlay_cuts.specs.Pass.{cut}

-- whether the pass makes a mark
abbrev pub makes_mark : {C I D : Type 0} {m : _} {w : _} {o : _} {e : _} {p : _} → Placing → List (Segment C I D m w o e p) → Bool
makes_mark placing list = nat_lt 0 (mark_count (placing_of placing) (segments_of list))

-- how many pieces it makes, those of segments that it leaves whole among them
abbrev pub piece_count : {C I D : Type 0} {m : _} {w : _} {o : _} {e : _} {p : _} → Placing → List (Segment C I D m w o e p) → ℕ
piece_count placing list = length (cut (placing_of placing) (segments_of list))

-- whether a running sum of its pieces is too large
abbrev pub pieces_leave_range : {C I D : Type 0} {m : _} {w : _} {o : _} {e : _} {p : _} → Placing → List (Segment C I D m w o e p) → Bool
pieces_leave_range placing list = join_leaves_range (cut (placing_of placing) (segments_of list))

-- The list has the data that the pass makes of another with a store.
abbrev pub HasDataOfPass : {C I D S : Type 0} {m : _} {w : _} {o : _} {e : _} {p : _} → Ghosts D C S → Placing → Vec (Segment C I D m w o e p) Global → S → Vec (Segment C I D m w o e p) Global → Type 0
HasDataOfPass {m = m} hooks placing given store list =
    data_segments_of list.items ≡ (data_pass (hooks_of m.counted hooks) (placing_of placing) (data_segments_of given.items) store).0

-- The store is what the pass leaves of another.
abbrev pub IsPassStore : {C I D S : Type 0} {m : _} {w : _} {o : _} {e : _} {p : _} → Ghosts D C S → Placing → Vec (Segment C I D m w o e p) Global → S → S → Type 0
IsPassStore {m = m} hooks placing given store left =
    left ≡ (data_pass (hooks_of m.counted hooks) (placing_of placing) (data_segments_of given.items) store).1

-- The join of the pass was refused, and left that store.
abbrev pub StopsPass : {C I D S : Type 0} {m : _} {w : _} {o : _} {e : _} {p : _} → Ghosts D C S → Placing → Vec (Segment C I D m w o e p) Global → S → S → Type 0
StopsPass {D = D} {S = S} {m = m} hooks placing given store left =
    let pieces : List (DataSegment D) × S = data_cut (hooks_of m.counted hooks) (placing_of placing) (data_segments_of given.items) store in
    IsRefusedJoin (hooks_of m.counted hooks) pieces.0 pieces.1 left
