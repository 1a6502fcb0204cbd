use Rattle.std.proofs.Common.{ap, refl}
use Rattle.std.specs.Prelude.{map}
use Rattle.overlay_sweep.specs.EntryOf.{entry_of}
use Rattle.overlay_upstream.proofs.laws.tree.ScanGrowth.{scan_empty}
use Rattle.overlay_upstream.proofs.build.scan_tree.ScanTreeLiveSegments.clear.Goals as goal

pub returns-clause-time : goal.returns-clause-time
returns-clause-time g c = λ y. scan_empty y _ _ _ _ (ap (map entry_of) c.clear.ensures.items) c.clear-2.ensures refl refl
