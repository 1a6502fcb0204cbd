-- What a sweep over a list of code gives its handler, returns and compares.
use Rattle.std.specs.Prelude.{◌≡◌, ◌≢◌, ℕ, ◌*◌, ◌<◌, ◌≤◌, Bool, List, Option, length, slice_index_or}
use Rattle.overlay_geometry.specs.Points.{Point, Pair}
use Rattle.overlay_base.specs.Choices.{in_one_row}
use Rattle.overlay_base.specs.SegmentOf.{segments_of, data_segments_of, pairs_in}
use Rattle.overlay_base.specs.declared.overlay_core.fill_rule.FillRule.{FillRule}
use Rattle.overlay_base.specs.declared.overlay_core.solver.Solver.{Solver}
use Rattle.overlay_base.specs.declared.segm.segment.Segment.{Segment}
use Rattle.overlay_sweep.specs.Costs.{IsSweepWithin, IsSweepCost}
use Rattle.overlay_sweep.specs.Sweep.{Visit, visits, handled, visited, visits_leave_range}

-- ---- results

-- The result is what a handler makes of the visits of a list under a fill rule.
abbrev pub IsSweepAnswer : {C I D H O : Type 0} {m : _} {w : _} {o : _} {e : _} {p : _} → (H → Visit D → H × Option O) → (H → O) → H → FillRule → List (Segment C I D m w o e p) → O → Type 0
IsSweepAnswer handle finalize handler rule list answer = answer ≡ handled handle finalize handler (visits rule (data_segments_of list))

-- whether one of the visits that the handler gets has a top that is too large
abbrev pub sweep_leaves_range : {C I D H O : Type 0} {m : _} {w : _} {o : _} {e : _} {p : _} → (H → Visit D → H × Option O) → H → FillRule → List (Segment C I D m w o e p) → Bool
sweep_leaves_range handle handler rule list = visits_leave_range (segments_of list) (visited handle handler (visits rule (data_segments_of list)))

-- ---- costs

-- So many orders are no more than a sweep over the list compares as a solver has it done: over one row, or over rows of a few.
abbrev pub IsSweepBound : {C I D : Type 0} {m : _} {w : _} {o : _} {e : _} {p : _} → Solver → List (Segment C I D m w o e p) → ℕ → Type 0
IsSweepBound solver list asked = IsSweepWithin (in_one_row solver.strategy) (length list) asked

-- the same by the segments of the list
abbrev pub IsCostOf : {C I D : Type 0} {m : _} {w : _} {o : _} {e : _} {p : _} → Solver → List (Segment C I D m w o e p) → ℕ → Type 0
IsCostOf solver list asked = IsSweepCost (in_one_row solver.strategy) (segments_of list) asked

-- Three searches of d orders for each of n segments are made at most, for every d that is the most that one compares.
abbrev pub AsksThreeLooks : (ℕ → ℕ → Type 0) → ℕ → ℕ → Type 0
AsksThreeLooks IsMost n asked = (d : ℕ) → IsMost n d → asked ≤ 3 * n * d

-- ---- starts

-- where the segment at an index starts
abbrev pub start_at : {C I D : Type 0} {m : _} {w : _} {o : _} {e : _} {p : _} → List (Segment C I D m w o e p) → ℕ → Pair → Point
start_at list k d = (slice_index_or (pairs_in list) k d).a

-- The segments from an index up to another start at one point.
abbrev pub StartTogether : {C I D : Type 0} {m : _} {w : _} {o : _} {e : _} {p : _} → List (Segment C I D m w o e p) → ℕ → ℕ → Type 0
StartTogether list from next = (k : ℕ) (d : Pair) → from ≤ k → k < next → start_at list k d ≡ start_at list from d

-- The segment at that other index, if there is one, starts at another point.
abbrev pub StartsElsewhere : {C I D : Type 0} {m : _} {w : _} {o : _} {e : _} {p : _} → List (Segment C I D m w o e p) → ℕ → ℕ → Type 0
StartsElsewhere list from next = (d : Pair) → next < length list → start_at list next d ≢ start_at list from d
