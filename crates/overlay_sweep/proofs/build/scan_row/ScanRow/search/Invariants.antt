use Rattle.std.proofs.Common.{◌≡◌, length, ◌-◌}
use Rattle.std.specs.Prelude.{ℤ, ◌≤◌, ◌≤ℤ◌, All}
use Rattle.overlay_sweep.specs.EntryOf.{entries_of}
use Rattle.overlay_sweep.specs.steps.PlaceOf.{stands_before}
use Rattle.overlay_sweep.proofs.laws.live.ScanSums.{lasting}
use Rattle.overlay_sweep.proofs.laws.list.Halves.{IsHalving, IsCounting}
use Rattle.overlay_sweep.proofs.laws.list.LastingRows.{lasting_of}
use Rattle.overlay_sweep.proofs.build.scan_row.ScanRow.search.Given as goal

abbrev pub invariant-loop-low : goal.invariant-loop-low
invariant-loop-low g l = record {
  halving : IsHalving (λ s. lasting (g.I.OverlayInt.whole l.x) s) (λ s. stands_before g.I.OverlayInt.whole l.place s.pair) (entries_of l.self.entries.items) l.low l.high;
  counting : IsCounting l.end (l.high - l.low) l.compared;
  kept : lasting_of (g.I.OverlayInt.whole l.x) (entries_of l.self.entries.items) ≡ lasting_of (g.I.OverlayInt.whole l.x) (entries_of l.initial.self.entries.items);
  begun : (z : ℤ) → All (λ s. s.pair.a.x ≤ℤ z) (entries_of l.initial.self.entries.items) → All (λ s. s.pair.a.x ≤ℤ z) (entries_of l.self.entries.items);
  fewer : length l.self.entries.items ≤ length l.initial.self.entries.items;
  some : 1 ≤ length l.initial.self.entries.items → 1 ≤ length l.self.entries.items;
}

abbrev pub decreases-loop-low : goal.decreases-loop-low
decreases-loop-low g l = l.high - l.low
