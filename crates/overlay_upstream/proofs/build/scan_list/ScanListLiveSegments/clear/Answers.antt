use Rattle.std.proofs.Common.{ap, rules}
use Rattle.std.specs.Prelude.{map}
use Rattle.overlay_sweep.specs.EntryOf.{entry_of}
use Rattle.overlay_upstream.proofs.laws.list.ListAnswers.{list_empty}
use Rattle.overlay_upstream.proofs.build.scan_list.ScanListLiveSegments.clear.Goals as goal

pub returns-clause-time : goal.returns-clause-time
returns-clause-time g c = λ y. list_empty y _ _ (ap (map entry_of) c.clear.ensures.items)

pub returns-clause-sums : goal.returns-clause-sums
returns-clause-sums g c = search rules

pub returns-clause-held : goal.returns-clause-held
returns-clause-held g c = search rules
