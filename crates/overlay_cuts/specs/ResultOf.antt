-- What a splitter keeps of the list that it is given, on values of the code.
use Rattle.std.specs.Prelude.{◌≡◌, ℕ, Bool, false, IsTrue, Result, OnOk, Vec}
use Rattle.std.specs.List.{list_all}
use Rattle.std.specs.Global.{Global}
use Rattle.overlay_base.specs.HooksOf.{hooks_of}
use Rattle.overlay_base.specs.SegmentOf.{segments_of, data_segments_of, KeepsSegments}
use Rattle.overlay_base.specs.declared.overlay_core.edge_data.OverlayEdgeData.{Ghosts}
use Rattle.overlay_base.specs.declared.segm.segment.Segment.{Segment}
use Rattle.overlay_cuts.specs.ExactInput.{is_exact_input, KeepsCounts}
use Rattle.overlay_cuts.specs.Laws.{HooksKeep}
use Rattle.overlay_cuts.specs.Nearness.{LieInGivenBox}

-- ---- the segments

-- It lies in the box of what is given.
abbrev pub LiesInBox : {C I D : Type 0} {m : _} {w : _} {o : _} {e : _} {p : _} → Vec (Segment C I D m w o e p) Global → Vec (Segment C I D m w o e p) Global → Type 0
LiesInBox given list = LieInGivenBox (segments_of given.items) (segments_of list.items)

-- No two of the given segments cross at a point that is not exact.
abbrev pub IsExactInput : {C I D : Type 0} {m : _} {w : _} {o : _} {e : _} {p : _} → Vec (Segment C I D m w o e p) Global → Type 0
IsExactInput given = IsTrue (is_exact_input (segments_of given.items))

-- The list counts along each part of a given segment what is given there.
abbrev pub HasGivenCounts : {C I D : Type 0} {m : _} {w : _} {o : _} {e : _} {p : _} → Vec (Segment C I D m w o e p) Global → Vec (Segment C I D m w o e p) Global → Type 0
HasGivenCounts given list = KeepsCounts (segments_of given.items) (segments_of list.items)

-- The list is as it was, and the flag says that no segment was joined or split.
abbrev pub ChangesNothing : {C I D : Type 0} {m : _} {w : _} {o : _} {e : _} {p : _} → Vec (Segment C I D m w o e p) Global → Vec (Segment C I D m w o e p) Global → Bool → Type 0
ChangesNothing given list flag = (flag ≡ false) × KeepsSegments given list

-- So is the store.
abbrev pub ChangesNoStore : {C I D S : Type 0} {m : _} {w : _} {o : _} {e : _} {p : _} → Vec (Segment C I D m w o e p) Global → Vec (Segment C I D m w o e p) Global → S → S → Bool → Type 0
ChangesNoStore given list store left flag = (flag ≡ false) × KeepsSegments given list × (left ≡ store)

-- ---- the data

-- Whatever the hooks keep, and all given data has: if the call succeeds, all data of the list has it.
abbrev pub KeepsWhatHolds : {C I D S O E : Type 0} {m : _} {w : _} {o : _} {e : _} {p : _} → Ghosts D C S → Vec (Segment C I D m w o e p) Global → Vec (Segment C I D m w o e p) Global → Result O E → Type 0
KeepsWhatHolds {D = D} {m = m} hooks given list result =
    (has : D → Bool) → HooksKeep (hooks_of m.counted hooks) has → IsTrue (list_all (λ s. has s.edge_data) (data_segments_of given.items)) →
    OnOk result (IsTrue (list_all (λ s. has s.edge_data) (data_segments_of list.items)))
