use Rattle.std.proofs.Common.{length, ◌-◌}
use Rattle.overlay_sweep.specs.LiveOf.{rows_in}
use Rattle.overlay_sweep.specs.steps.PlaceOf.{stands_before}
use Rattle.overlay_sweep.proofs.laws.list.Halves.{IsCounting}
use Rattle.overlay_sweep.proofs.laws.list.Rows.{IsFinding}
use Rattle.overlay_sweep.proofs.build.row_list.RowList.find_row.Given as goal

abbrev pub invariant-loop-low : goal.invariant-loop-low
invariant-loop-low g l = record {
  finding : IsFinding (g.I.OverlayInt.whole l.x) (λ s. stands_before g.I.OverlayInt.whole l.place s.pair) (rows_in l.initial.self) (rows_in l.self) l.low l.high;
  counting : IsCounting (length (rows_in l.initial.self)) (l.high - l.low) l.compared;
}

abbrev pub decreases-loop-low : goal.decreases-loop-low
decreases-loop-low g l = l.high - l.low
