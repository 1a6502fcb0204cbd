-- What a splitter by either rounding is set to, and what it reports.
use Rattle.std.specs.Prelude.{⊤, ◌≡◌, ℕ, Vec}
use Rattle.std.specs.Global.{Global}
use Rattle.overlay_base.specs.declared.overlay_core.solver.Solver.{Solver}
use Rattle.overlay_base.specs.declared.segm.segment.Segment.{Segment}
use Rattle.overlay_cuts.specs.Run.{Settings}
use Rattle.overlay_split.specs.SettingsOf.{settings_of, snap_limit_of, looked_of}
use Rattle.overlay_split.specs.SplitOf.{LooksAreBounded}
use Rattle.overlay_split.specs.declared.split.solver.SplitSolver.{SplitSolver}
use Rattle.overlay_contours.specs.Splittings.{Splitting, by_passes, by_snapping}
use Rattle.overlay_contours.specs.declared.rounding.Rounding.{Rounding}
use Rattle.overlay_contours.specs.declared.rounding.Rounding.TheVariants.{HotPixels, Pairwise}
use Rattle.i_overlay.specs.Courses.{Course}
use Rattle.i_overlay.specs.declared.splitter.Splitter.{Splitter}

-- how it rounds crossings, and how many of its passes over pairs may snap
abbrev pub rounding_in : {I : Type 0} {w : _} {o : _} {e : _} {p : _} → Splitter I w o e p → Rounding
rounding_in splitter = splitter.rounding

abbrev pub snap_limit_in : {I : Type 0} {w : _} {o : _} {e : _} {p : _} → Splitter I w o e p → ℕ
snap_limit_in splitter = snap_limit_of splitter.splitter

-- how many passes the last call made that succeeded, and how far it moved crossings at most, in halves
abbrev pub passes_in : {I : Type 0} {w : _} {o : _} {e : _} {p : _} → Splitter I w o e p → ℕ
passes_in splitter = splitter.passes

abbrev pub reach_in : {I : Type 0} {w : _} {o : _} {e : _} {p : _} → Splitter I w o e p → ℕ
reach_in splitter = splitter.reach

-- how many pairs the last such call by passes compared
abbrev pub looked_in : {I : Type 0} {w : _} {o : _} {e : _} {p : _} → Splitter I w o e p → ℕ
looked_in splitter = looked_of splitter.splitter

-- the splitting that a rounding names, where passes are set so
abbrev pub splitting_by : Rounding → Settings → Splitting
splitting_by HotPixels settings = by_snapping
splitting_by Pairwise settings = by_passes settings

-- the splitting that it makes of a list
abbrev pub splitting_over : {C I D : Type 0} {m : _} {w : _} {o : _} {e : _} {p : _} → Solver → Splitter I w o e p → Vec (Segment C I D m w o e p) Global → Splitting
splitting_over {w = w} solver splitter given = splitting_by (rounding_in splitter) (settings_of w.BITS solver splitter.splitter)

-- how it splits a list, by what it reports then
abbrev pub course_over : {C I D : Type 0} {m : _} {w : _} {o : _} {e : _} {p : _} → Solver → Splitter I w o e p → Splitter I w o e p → Vec (Segment C I D m w o e p) Global → Course
course_over solver before after given = record { splitting = splitting_over solver before given; passes = passes_in after; halves = reach_in after }

-- Passes take up no more pairs than they may. Of snap rounding that says nothing.
abbrev pub BoundsLooks : {C I D : Type 0} {m : _} {w : _} {o : _} {e : _} {p : _} → Rounding → Solver → SplitSolver I → SplitSolver I → Vec (Segment C I D m w o e p) Global → Type 0
BoundsLooks HotPixels solver before after given = ⊤
BoundsLooks Pairwise solver before after given = LooksAreBounded solver before after given

abbrev pub LooksAreFew : {C I D : Type 0} {m : _} {w : _} {o : _} {e : _} {p : _} → Solver → Splitter I w o e p → Splitter I w o e p → Vec (Segment C I D m w o e p) Global → Type 0
LooksAreFew solver before after given = BoundsLooks (rounding_in before) solver before.splitter after.splitter given

-- It rounds as before, with as many passes that may snap.
abbrev pub IsSetAsBefore : {I : Type 0} {w : _} {o : _} {e : _} {p : _} → Splitter I w o e p → Splitter I w o e p → Type 0
IsSetAsBefore before after = (rounding_in after ≡ rounding_in before) × (snap_limit_in after ≡ snap_limit_in before)
