use Rattle.std.proofs.Common.{take}
use Rattle.std.specs.Prelude.{All, ◌≤ℤ◌}
use Rattle.overlay_sweep.specs.EntryOf.{entries_of}
use Rattle.overlay_upstream.proofs.build.scan_list.ScanList.first_end.Given as goal

abbrev pub invariant-loop-entry : goal.invariant-loop-entry
invariant-loop-entry g l = All (λ s. g.I.OverlayInt.whole l.first ≤ℤ s.pair.b.x) (entries_of (take l.entry-index l.entry-items))
