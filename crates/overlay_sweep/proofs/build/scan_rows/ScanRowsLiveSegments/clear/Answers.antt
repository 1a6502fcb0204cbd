use Rattle.std.proofs.Common.{refl}
use Rattle.overlay_sweep.proofs.laws.list.Rows.{rows_none}
use Rattle.overlay_sweep.proofs.build.scan_rows.ScanRowsLiveSegments.clear.Goals as goal

pub returns-clause-time : goal.returns-clause-time
returns-clause-time g c = λ y. rows_none y _ _ _ refl c.clear.ensures
