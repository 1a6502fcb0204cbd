use Rattle.std.proofs.Common.{ap, refl}
use Rattle.std.specs.Prelude.{map}
use Rattle.overlay_sweep.specs.EntryOf.{entry_of}
use Rattle.overlay_upstream.proofs.laws.tree.ScanGrowth.{scan_empty}
use Rattle.overlay_upstream.proofs.build.scan_tree.ScanTree.new.Goals as goal

pub returns-clause-time : goal.returns-clause-time
returns-clause-time g c = λ x. scan_empty x _ _ _ _ (ap (map entry_of) c.new.ensures.items) c.new-2.ensures refl refl

pub returns-clause-compared : goal.returns-clause-compared
returns-clause-compared g c = refl
