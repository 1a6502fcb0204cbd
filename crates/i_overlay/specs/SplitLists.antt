-- What a split leaves of a list of code, by either rounding. The type of the list says how its coordinates are read.
use Rattle.std.specs.Prelude.{◌≡◌, ◌↔◌, ◌⊎◌, ℕ, Bool, IsTrue, List, [], Vec}
use Rattle.std.specs.Global.{Global}
use Rattle.std.specs.List.{list_all}
use Rattle.overlay_geometry.specs.Points.{Pair}
use Rattle.overlay_base.specs.ArrangedOf.{IsArranged}
use Rattle.overlay_base.specs.HooksOf.{hooks_of}
use Rattle.overlay_base.specs.SegmentOf.{segments_of, data_segments_of}
use Rattle.overlay_base.specs.Segments.{WholeSegment}
use Rattle.overlay_base.specs.declared.overlay_core.edge_data.OverlayEdgeData.{Ghosts}
use Rattle.overlay_base.specs.declared.segm.segment.Segment.{Segment}
use Rattle.overlay_cuts.specs.DataPass.{IsDataAfter, data_after_passes}
use Rattle.overlay_cuts.specs.Laws.{HooksKeep, HooksNameNoOther, NameNear}
use Rattle.overlay_cuts.specs.Run.{has_changed}
use Rattle.overlay_snapping.specs.SnapOf.{HasSnapData, IsSnapStore, SnapChanges}
use Rattle.overlay_contours.specs.Splittings.{Splitting, by_passes, by_snapping, SumsLeaveRange}
use Rattle.i_overlay.specs.Courses.{Course}
use Rattle.i_overlay.specs.Headline.{IsSplitBy}
use Rattle.i_overlay.specs.LineData.{LinesKeepData}

-- The list has the data that passes, or the chains of snap rounding, make of what is given with some store that is a first one.
abbrev pub HasDataOf : {C I D S : Type 0} {m : _} {w : _} {o : _} {e : _} {p : _} → Ghosts D C S → (S → Type 0) → Splitting → ℕ → Vec (Segment C I D m w o e p) Global → Vec (Segment C I D m w o e p) Global → Type 0
HasDataOf {S = S} {m = m} hooks IsFirst (by_passes settings) passes given list =
    IsDataAfter (hooks_of m.counted hooks) IsFirst settings (data_segments_of given.items) (data_segments_of list.items) passes
HasDataOf {S = S} {m = m} hooks IsFirst by_snapping passes given list = (store : S) × IsFirst store × HasSnapData hooks given store list

-- The store is what passes, or the chains of snap rounding, leave of another.
abbrev pub LeavesStoreBy : {C I D S : Type 0} {m : _} {w : _} {o : _} {e : _} {p : _} → Ghosts D C S → Splitting → ℕ → Vec (Segment C I D m w o e p) Global → S → S → Type 0
LeavesStoreBy {m = m} hooks (by_passes settings) passes given from left =
    left ≡ (data_after_passes (hooks_of m.counted hooks) settings (data_segments_of given.items) from passes).1
LeavesStoreBy hooks by_snapping passes given from left = IsSnapStore hooks given from left

-- Whatever the hooks keep, and all given data has, all data of the list has.
abbrev pub HasWhatHolds : {C I D S : Type 0} {m : _} {w : _} {o : _} {e : _} {p : _} → Ghosts D C S → Vec (Segment C I D m w o e p) Global → Vec (Segment C I D m w o e p) Global → Type 0
HasWhatHolds {D = D} {m = m} hooks given list =
    (has : D → Bool) → HooksKeep (hooks_of m.counted hooks) has → IsTrue (list_all (λ s. has s.edge_data) (data_segments_of given.items)) →
    IsTrue (list_all (λ s. has s.edge_data) (data_segments_of list.items))

-- Where each given segment lies on what its data names, and the hooks name no others, each segment of the list lies that near to
-- all that its data names.
abbrev pub LiesNearAllNamed : {C I D S : Type 0} {m : _} {w : _} {o : _} {e : _} {p : _} → Ghosts D C S → ℕ → Vec (Segment C I D m w o e p) Global → Vec (Segment C I D m w o e p) Global → Type 0
LiesNearAllNamed {D = D} {m = m} hooks halves given list =
    (names : D → Pair → Bool) → HooksNameNoOther (hooks_of m.counted hooks) names → NameNear names 0 (data_segments_of given.items) → NameNear names halves (data_segments_of list.items)

-- What a split leaves of a list, by hooks and with a first store.
pub record SplitsList {C I D S : Type 0} {m : _} {w : _} {o : _} {e : _} {p : _} (hooks : Ghosts D C S) (IsFirst : S → Type 0) (course : Course) (given list : Vec (Segment C I D m w o e p) Global) : Type 0 where
  pub split : IsSplitBy course (segments_of given.items) (segments_of list.items)
  pub arranged : IsArranged list.items
  pub edge_data : HasDataOf hooks IsFirst course.splitting course.passes given list
  pub kept_data : HasWhatHolds hooks given list
  pub named_data : LiesNearAllNamed hooks course.halves given list
  pub line_data : LinesKeepData hooks given list
  -- no sum on the way is too large
  pub fits : SumsLeaveRange course.splitting (segments_of given.items) → ⊥

-- The store is what hooks leave of another that make the data of a list as it is split.
abbrev pub LeavesStore : {C I D S : Type 0} {m : _} {w : _} {o : _} {e : _} {p : _} → Ghosts D C S → Course → Vec (Segment C I D m w o e p) Global → S → S → Type 0
LeavesStore hooks course given from left = LeavesStoreBy hooks course.splitting course.passes given from left

-- the flag is whether equal segments were joined or a segment was cut
abbrev pub TellsChangeBy : Splitting → List WholeSegment → ℕ → Bool → Type 0
TellsChangeBy (by_passes settings) given passes flag = flag ≡ has_changed settings given passes
TellsChangeBy by_snapping given passes flag = IsTrue flag ↔ SnapChanges given

-- The list is empty, or has the data of a split of what is given.
abbrev pub IsEmptyOrData : {C I D S : Type 0} {m : _} {w : _} {o : _} {e : _} {p : _} → Ghosts D C S → (S → Type 0) → Course → Vec (Segment C I D m w o e p) Global → Vec (Segment C I D m w o e p) Global → Type 0
IsEmptyOrData hooks IsFirst course given list = (list.items ≡ []) ⊎ HasDataOf hooks IsFirst course.splitting course.passes given list
