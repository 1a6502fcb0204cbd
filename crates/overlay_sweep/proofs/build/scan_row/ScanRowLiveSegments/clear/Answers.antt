use Rattle.std.proofs.Common.{ap, refl}
use Rattle.std.specs.Prelude.{map}
use Rattle.overlay_sweep.specs.EntryOf.{entry_of}
use Rattle.overlay_sweep.proofs.laws.list.ListAnswers.{row_empty}
use Rattle.overlay_sweep.proofs.laws.list.Cursors.{cursor_none}
use Rattle.overlay_sweep.proofs.build.scan_row.ScanRowLiveSegments.clear.Goals as goal

pub returns-clause-time : goal.returns-clause-time
returns-clause-time g c = λ y. cursor_none y _ _ _ _ refl (row_empty y _ (ap (map entry_of) c.clear.ensures.items))
