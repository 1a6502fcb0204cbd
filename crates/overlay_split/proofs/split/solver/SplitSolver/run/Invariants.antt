use Rattle.std.proofs.Common.{◌≡◌, ◌+◌, ◌-◌, ◌*◌, ◌<◌, ◌≤◌, ◌^◌, min, true}
use Rattle.std.specs.Int.{from_bool}
use Rattle.overlay_base.specs.HooksOf.{hooks_of}
use Rattle.overlay_base.specs.SegmentOf.{segments_of, data_segments_of}
use Rattle.overlay_base.specs.Radius.{exponent_of, step_of}
use Rattle.overlay_split.specs.SettingsOf.{settings_of}
use Rattle.overlay_cuts.specs.Nearness.{reach_of_run}
use Rattle.overlay_cuts.specs.Potential.{potential}
use Rattle.overlay_grid.specs.GroupsOf.{grid_in}
use Rattle.overlay_split.specs.RunLengths.{JoinsAtMost}
use Rattle.overlay_split.specs.RunLooks.{AreRunLooks}
use Rattle.overlay_split.specs.steps.ChangedBoxes.{BoundChange}
use Rattle.overlay_split.specs.steps.IsAt.{IsAt}
use Rattle.overlay_split.proofs.split.solver.SplitSolver.run.Given as goal

-- up to the limit a pass adds a bounded reach, and after it lowers the potential, so that there is room for both
abbrev pub invariant-loop-progress : goal.invariant-loop-progress
invariant-loop-progress g l = record {
  at : IsAt (hooks_of g.C.WindingCount.counted g.D.OverlayEdgeData) (settings_of g.I.OverlayInt.BITS l.solver l.fn.self)
      (g.I.OverlayInt.whole g.I.OverlayInt.MIN_COORD) (g.I.OverlayInt.whole g.I.OverlayInt.MAX_COORD) (segments_of l.fn.list.items) (segments_of l.list.items) (data_segments_of l.fn.list.items) (data_segments_of l.list.items)
      l.fn.store l.store l.progress.passes l.progress.has_changed l.progress.goes_on;
  exponent : exponent_of l.radius ≡ min (l.solver.precision.start + l.progress.passes * l.solver.precision.progression) (2 ^ 64 - 1);
  step : step_of l.radius ≡ l.solver.precision.progression;
  limit : l.self.snap_limit ≡ l.fn.self.snap_limit;
  passes : l.self.passes ≡ l.fn.self.passes;
  reach : l.progress.reach ≡ reach_of_run (settings_of g.I.OverlayInt.BITS l.solver l.fn.self) (segments_of l.fn.list.items) l.progress.passes;
  early : l.progress.passes ≤ l.self.snap_limit → l.progress.reach ≤ l.progress.passes * 2 ^ 34;
  room : l.progress.goes_on ≡ true → l.progress.passes + l.progress.reach + 2 * potential (segments_of l.list.items) < 2 ^ 127;
  reach_before : l.self.reach ≡ l.fn.self.reach;
  looks : AreRunLooks l.solver.strategy (settings_of g.I.OverlayInt.BITS l.solver l.fn.self) (segments_of l.fn.list.items) (grid_in l.finder.grid) l.progress.passes l.finder.looked;
  within : JoinsAtMost (settings_of g.I.OverlayInt.BITS l.solver l.fn.self) (segments_of l.fn.list.items) l.limit l.progress.passes;
  solver : l.finder.solver ≡ l.solver;
  looked_before : l.self.looked ≡ l.fn.self.looked;
  changed : BoundChange g.I.OverlayInt.whole l.changed (segments_of l.list.items);
}

abbrev pub decreases-loop-progress : goal.decreases-loop-progress
decreases-loop-progress g l = (l.self.snap_limit - l.progress.passes) * 2 ^ 127 + potential (segments_of l.list.items) + from_bool l.progress.goes_on
