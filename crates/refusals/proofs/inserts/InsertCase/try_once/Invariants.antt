use Rattle.std.specs.Prelude.{ℤ, pos, ◌≤ℤ◌}
use Rattle.overlay_sweep.specs.steps.LevelRows.{AreRows}
use Rattle.refusals.proofs.inserts.InsertCase.try_once.Given as goal

abbrev pub invariant-loop-row : goal.invariant-loop-row
invariant-loop-row g l = record {
  rows : AreRows (pos 0) (g.L.LiveSegments.sums l.self.live);
  time : (y : ℤ) → pos 0 ≤ℤ y → g.L.LiveSegments.may_go_on_at l.self.live y;
}
