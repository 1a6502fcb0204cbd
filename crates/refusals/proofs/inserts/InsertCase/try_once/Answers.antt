use Rattle.std.specs.Prelude.{pos}
use Rattle.overlay_sweep.proofs.laws.live.LevelRows.{no_rows}
use Rattle.refusals.proofs.inserts.InsertCase.try_once.Goals as goal

pub loop-row-init : goal.loop-row-init
loop-row-init g c = record {
  rows = no_rows (pos 0) _ c.clear.ensures.sums;
  time = λ y h. c.clear.ensures.time y;
}
