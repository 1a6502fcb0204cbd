use Rattle.std.specs.Prelude.{ℤ, pos, ◌≤ℤ◌}
use Rattle.overlay_sweep.specs.steps.LevelRows.{AreRows}
use Rattle.overlay_build_tests.proofs.scans.look_between_rows.Given as goal

abbrev pub invariant-loop-k : goal.invariant-loop-k
invariant-loop-k g l = record {
  rows : AreRows (pos 5) (g.L.LiveSegments.sums l.live);
  time : (y : ℤ) → pos 5 ≤ℤ y → g.L.LiveSegments.may_go_on_at l.live y;
}
