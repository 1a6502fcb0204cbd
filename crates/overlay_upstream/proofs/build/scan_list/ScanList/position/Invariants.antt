use Rattle.std.proofs.Common.{length}
use Rattle.overlay_sweep.specs.EntryOf.{entries_of}
use Rattle.overlay_sweep.specs.LiveRows.{segment_at}
use Rattle.overlay_sweep.specs.steps.PlaceOf.{stands_before}
use Rattle.overlay_upstream.proofs.laws.list.Searches.{IsSearching}
use Rattle.overlay_upstream.proofs.build.scan_list.ScanList.position.Given as goal

abbrev pub invariant-loop-size : goal.invariant-loop-size
invariant-loop-size g l = IsSearching (λ i. stands_before g.I.OverlayInt.whole l.place (segment_at (entries_of l.self.entries.items) i).pair) (length l.self.entries.items) l.base l.size l.compared

abbrev pub decreases-loop-size : goal.decreases-loop-size
decreases-loop-size g l = l.size
