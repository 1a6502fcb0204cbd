use Rattle.std.proofs.Common.{◌∙◌, ap, sym}
use Rattle.std.specs.Prelude.{map}
use Rattle.std.specs.List.{take-map, drop-map}
use Rattle.overlay_sweep.specs.EntryOf.{entry_of}
use Rattle.overlay_sweep.proofs.build.scan_row.ScanRow.split_off.Goals as goal

pub returns-clause-lower : goal.returns-clause-lower
returns-clause-lower g c = ap (map entry_of) c.in_ok-upper.ensures.items ∙ sym (take-map entry_of c.args.at c.args.self.now.entries.items)

pub returns-clause-upper : goal.returns-clause-upper
returns-clause-upper g c = ap (map entry_of) c.in_ok-upper.ensures.tail ∙ sym (drop-map entry_of c.args.at c.args.self.now.entries.items)
