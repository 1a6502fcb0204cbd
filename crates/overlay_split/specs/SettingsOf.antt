-- What a solver, an engine and a limit set a run to.
use Rattle.std.specs.Prelude.{ℕ}
use Rattle.overlay_base.specs.Radius.{exponent_cap}
use Rattle.overlay_base.specs.declared.overlay_core.solver.Solver.{Solver}
use Rattle.overlay_cuts.specs.Run.{Settings}
use Rattle.overlay_split.specs.declared.split.solver.SplitSolver.{SplitSolver}

-- how many passes may snap, and how many the last call made that succeeded
abbrev pub snap_limit_of : {I : Type 0} → SplitSolver I → ℕ
snap_limit_of splitter = splitter.snap_limit

abbrev pub passes_of : {I : Type 0} → SplitSolver I → ℕ
passes_of splitter = splitter.passes

-- how far the passes of that call moved crossings at most, in halves
abbrev pub reach_of : {I : Type 0} → SplitSolver I → ℕ
reach_of splitter = splitter.reach

-- how many pairs that call compared
abbrev pub looked_of : {I : Type 0} → SplitSolver I → ℕ
looked_of splitter = splitter.looked

-- of the solver only the precision, of the engine its number of bits
abbrev pub settings_of : {I : Type 0} → ℕ → Solver → SplitSolver I → Settings
settings_of bits solver splitter = record {
  start = solver.precision.start;
  progression = solver.precision.progression;
  cap = exponent_cap bits;
  limit = snap_limit_of splitter;
}
