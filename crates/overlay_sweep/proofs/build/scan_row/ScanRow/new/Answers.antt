use Rattle.std.proofs.Common.{ap, refl}
use Rattle.std.specs.Prelude.{map}
use Rattle.overlay_sweep.specs.EntryOf.{entry_of}
use Rattle.overlay_sweep.proofs.laws.list.ListAnswers.{row_empty}
use Rattle.overlay_sweep.proofs.laws.list.Cursors.{cursor_none}
use Rattle.overlay_sweep.proofs.build.scan_row.ScanRow.new.Goals as goal

pub returns-clause-time : goal.returns-clause-time
returns-clause-time g c = λ x. cursor_none x _ _ _ _ refl (row_empty x _ (ap (map entry_of) c.new.ensures.items))

pub returns-clause-compared : goal.returns-clause-compared
returns-clause-compared g c = refl
