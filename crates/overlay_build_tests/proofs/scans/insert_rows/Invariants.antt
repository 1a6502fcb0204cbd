use Rattle.std.specs.Prelude.{ℤ, pos, ◌≤ℤ◌}
use Rattle.overlay_sweep.specs.steps.LevelRows.{AreRows}
use Rattle.overlay_build_tests.proofs.scans.insert_rows.Given as goal

abbrev pub invariant-loop-j : goal.invariant-loop-j
invariant-loop-j g l = record {
  rows : AreRows (pos 0) (g.L.LiveSegments.sums l.live);
  time : (y : ℤ) → pos 0 ≤ℤ y → g.L.LiveSegments.may_go_on_at l.live y;
}
