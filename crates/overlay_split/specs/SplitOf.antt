-- What a call of the splitter leaves, by its solver, the splitter before and after, and the list before and
-- after. The type of the list says how its coordinates are read, and of how many bits they are.
use Rattle.std.specs.Prelude.{◌≡◌, ◌≤◌, ℕ, Bool, Option, Result, OnOk, Vec}
use Rattle.std.specs.Global.{Global}
use Rattle.overlay_geometry.specs.Points.{Pair}
use Rattle.overlay_base.specs.HooksOf.{hooks_of}
use Rattle.overlay_base.specs.SegmentOf.{segments_of, data_segments_of}
use Rattle.overlay_base.specs.declared.overlay_core.edge_data.OverlayEdgeData.{Ghosts}
use Rattle.overlay_base.specs.declared.overlay_core.solver.Solver.{Solver}
use Rattle.overlay_base.specs.declared.segm.segment.Segment.{Segment}
use Rattle.overlay_grid.specs.Grid.{Layout}
use Rattle.overlay_cuts.specs.DataPass.{data_after_passes, data_store_before, IsDataAfter, IsStoppedRun}
use Rattle.overlay_cuts.specs.Laws.{HooksNameNoOther, NameNear}
use Rattle.overlay_cuts.specs.Nearness.{StaysNear, reach_of_run, reach_of_passes}
use Rattle.overlay_cuts.specs.Places.{KeepsWinding}
use Rattle.overlay_cuts.specs.Potential.{IsPassBound}
use Rattle.overlay_cuts.specs.Run.{Settings, IsRun, LeavesRange}
use Rattle.overlay_split.specs.RunLengths.{JoinsAtMost, IsFirstBeyond}
use Rattle.overlay_split.specs.RunLooks.{AreRunLooks}
use Rattle.overlay_split.specs.SettingsOf.{settings_of, passes_of, reach_of, looked_of}
use Rattle.overlay_split.specs.declared.split.solver.SplitSolver.{SplitSolver}

-- the settings of a run over a list
abbrev pub settings_over : {C I D : Type 0} {m : _} {w : _} {o : _} {e : _} {p : _} → Solver → SplitSolver I → Vec (Segment C I D m w o e p) Global → Settings
settings_over {w = w} solver splitter given = settings_of w.BITS solver splitter

-- ---- the segments

-- The list, and the flag, are what the run returns.
abbrev pub IsRunOver : {C I D : Type 0} {m : _} {w : _} {o : _} {e : _} {p : _} → Solver → SplitSolver I → SplitSolver I → Vec (Segment C I D m w o e p) Global → Vec (Segment C I D m w o e p) Global → Bool → Type 0
IsRunOver solver before after given list flag =
    IsRun (settings_over solver before given) (segments_of given.items) (segments_of list.items) (passes_of after) flag

-- The list lies near what is given, and what is given near it.
abbrev pub LiesNearGiven : {C I D : Type 0} {m : _} {w : _} {o : _} {e : _} {p : _} → Solver → SplitSolver I → SplitSolver I → Vec (Segment C I D m w o e p) Global → Vec (Segment C I D m w o e p) Global → Type 0
LiesNearGiven solver before after given list =
    StaysNear (settings_over solver before given) (segments_of given.items) (segments_of list.items) (passes_of after)

-- The list winds as what is given at every place that is far from that.
abbrev pub WindsAsGiven : {C I D : Type 0} {m : _} {w : _} {o : _} {e : _} {p : _} → Solver → SplitSolver I → SplitSolver I → Vec (Segment C I D m w o e p) Global → Vec (Segment C I D m w o e p) Global → Type 0
WindsAsGiven solver before after given list =
    KeepsWinding (settings_over solver before given) (segments_of given.items) (segments_of list.items) (passes_of after)

-- The distance that the splitter reports is how far the passes of the run reach, and no farther than as many passes may.
abbrev pub ReportsReach : {C I D : Type 0} {m : _} {w : _} {o : _} {e : _} {p : _} → Solver → SplitSolver I → SplitSolver I → Vec (Segment C I D m w o e p) Global → Type 0
ReportsReach solver before after given =
    (reach_of after ≡ reach_of_run (settings_over solver before given) (segments_of given.items) (passes_of after))
    × (reach_of after ≤ reach_of_passes (settings_over solver before given) (passes_of after))

-- The run makes no more passes than it may.
abbrev pub PassesAreBounded : {C I D : Type 0} {m : _} {w : _} {o : _} {e : _} {p : _} → Solver → SplitSolver I → SplitSolver I → Vec (Segment C I D m w o e p) Global → Type 0
PassesAreBounded solver before after given = IsPassBound (settings_over solver before given) (segments_of given.items) (passes_of after)

-- It takes up no more pairs than its passes may.
abbrev pub LooksAreBounded : {C I D : Type 0} {m : _} {w : _} {o : _} {e : _} {p : _} → Solver → SplitSolver I → SplitSolver I → Vec (Segment C I D m w o e p) Global → Type 0
LooksAreBounded solver before after given =
    (grid : Option Layout) × AreRunLooks solver.strategy (settings_over solver before given) (segments_of given.items) grid (passes_of after) (looked_of after)

-- A sum of the run is too large.
abbrev pub SumsLeaveRange : {C I D : Type 0} {m : _} {w : _} {o : _} {e : _} {p : _} → Solver → SplitSolver I → Vec (Segment C I D m w o e p) Global → Type 0
SumsLeaveRange solver before given = LeavesRange (settings_over solver before given) (segments_of given.items)

-- No pass of the run joins more segments than the limit, nor does the join before them.
abbrev pub StaysWithin : {C I D : Type 0} {m : _} {w : _} {o : _} {e : _} {p : _} → Solver → SplitSolver I → SplitSolver I → ℕ → Vec (Segment C I D m w o e p) Global → Type 0
StaysWithin solver before after limit given = JoinsAtMost (settings_over solver before given) (segments_of given.items) limit (passes_of after)

-- Some pass of the run, or the join before them, is the first that would.
abbrev pub GoesBeyond : {C I D : Type 0} {m : _} {w : _} {o : _} {e : _} {p : _} → Solver → SplitSolver I → ℕ → Vec (Segment C I D m w o e p) Global → Type 0
GoesBeyond solver before limit given = (k : ℕ) × IsFirstBeyond (settings_over solver before given) (segments_of given.items) limit k

-- ---- the data

-- If the call succeeds, the list has the data that the run makes of what is given with a store.
abbrev pub GivesRunData : {C I D S O E : Type 0} {m : _} {w : _} {o : _} {e : _} {p : _} → Ghosts D C S → Solver → SplitSolver I → SplitSolver I → Vec (Segment C I D m w o e p) Global → S → Vec (Segment C I D m w o e p) Global → Result O E → Type 0
GivesRunData {m = m} hooks solver before after given store list result =
    OnOk result (data_segments_of list.items ≡ (data_after_passes (hooks_of m.counted hooks) (settings_over solver before given) (data_segments_of given.items) store (passes_of after)).0)

-- If the call succeeds, the store is what that run leaves of another.
abbrev pub LeavesRunStore : {C I D S O E : Type 0} {m : _} {w : _} {o : _} {e : _} {p : _} → Ghosts D C S → Solver → SplitSolver I → SplitSolver I → Vec (Segment C I D m w o e p) Global → S → S → Result O E → Type 0
LeavesRunStore {m = m} hooks solver before after given store left result =
    OnOk result (left ≡ (data_after_passes (hooks_of m.counted hooks) (settings_over solver before given) (data_segments_of given.items) store (passes_of after)).1)

-- If the call succeeds, the list has the data that the run makes with some store that is a first one.
abbrev pub GivesData : {C I D S O E : Type 0} {m : _} {w : _} {o : _} {e : _} {p : _} → Ghosts D C S → (S → Type 0) → Solver → SplitSolver I → SplitSolver I → Vec (Segment C I D m w o e p) Global → Vec (Segment C I D m w o e p) Global → Result O E → Type 0
GivesData {m = m} hooks IsFirst solver before after given list result =
    OnOk result (IsDataAfter (hooks_of m.counted hooks) IsFirst (settings_over solver before given) (data_segments_of given.items) (data_segments_of list.items) (passes_of after))

-- The run was refused, and left that store.
abbrev pub StopsRun : {C I D S : Type 0} {m : _} {w : _} {o : _} {e : _} {p : _} → Ghosts D C S → Solver → SplitSolver I → Vec (Segment C I D m w o e p) Global → S → S → Type 0
StopsRun {m = m} hooks solver before given store left =
    IsStoppedRun (hooks_of m.counted hooks) (settings_over solver before given) (data_segments_of given.items) store left

-- Some pass of the run, or the join before them, is the first that would join more segments than the limit, and the store is what the passes before it left.
abbrev pub LeavesStoreBefore : {C I D S : Type 0} {m : _} {w : _} {o : _} {e : _} {p : _} → Ghosts D C S → Solver → SplitSolver I → ℕ → Vec (Segment C I D m w o e p) Global → S → S → Type 0
LeavesStoreBefore {m = m} hooks solver before limit given store left =
    (k : ℕ) × IsFirstBeyond (settings_over solver before given) (segments_of given.items) limit k
    × (left ≡ data_store_before (hooks_of m.counted hooks) (settings_over solver before given) (data_segments_of given.items) store k)

-- Where each given segment lies on what its data names, and the hooks name no others: if the call succeeds, each
-- segment of the list lies as near to all that its data names as the passes reach.
abbrev pub LiesNearNamed : {C I D S O E : Type 0} {m : _} {w : _} {o : _} {e : _} {p : _} → Ghosts D C S → Solver → SplitSolver I → SplitSolver I → Vec (Segment C I D m w o e p) Global → Vec (Segment C I D m w o e p) Global → Result O E → Type 0
LiesNearNamed {D = D} {m = m} hooks solver before after given list result =
    (names : D → Pair → Bool) → HooksNameNoOther (hooks_of m.counted hooks) names → NameNear names 0 (data_segments_of given.items) →
    OnOk result (NameNear names (reach_of_run (settings_over solver before given) (segments_of given.items) (passes_of after)) (data_segments_of list.items))
