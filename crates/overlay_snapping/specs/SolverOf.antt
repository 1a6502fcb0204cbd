-- What a splitter by snap rounding reports.
use Rattle.std.specs.Prelude.{ℕ}
use Rattle.overlay_snapping.specs.declared.snap.solver.SnapSolver.{SnapSolver}

-- how far the last call that succeeded moved crossings at most, in halves
abbrev pub reach_of : {I : Type 0} {w : _} {o : _} {e : _} {p : _} → SnapSolver I w o e p → ℕ
reach_of splitter = splitter.reach
