use Rattle.std.proofs.Common.{ap}
use Rattle.std.specs.Prelude.{map}
use Rattle.overlay_sweep.specs.EntryOf.{entry_of}
use Rattle.overlay_upstream.proofs.laws.list.ListAnswers.{list_empty}
use Rattle.overlay_upstream.proofs.build.scan_list.ScanList.new.Goals as goal

pub returns-clause-time : goal.returns-clause-time
returns-clause-time g c = λ x. list_empty x _ _ (ap (map entry_of) c.new.ensures.items)
