use Rattle.std.specs.Prelude.{pos}
use Rattle.overlay_sweep.proofs.laws.live.LevelRows.{no_rows}
use Rattle.overlay_build_tests.proofs.scans.insert_rows.Goals as goal

pub loop-j-init : goal.loop-j-init
loop-j-init g c = record {
  rows = no_rows (pos 0) _ c.clear.ensures.sums;
  time = λ y h. c.clear.ensures.time y;
}
