use Rattle.std.proofs.Common.{refl}
use Rattle.overlay_sweep.proofs.laws.list.Rows.{rows_none}
use Rattle.overlay_sweep.proofs.build.scan_rows.ScanRows.new.Goals as goal

pub returns-clause-time : goal.returns-clause-time
returns-clause-time g c = λ x. rows_none x _ _ _ refl c.new.ensures
