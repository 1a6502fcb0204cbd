use Rattle.std.proofs.Common.{◌≡◌, ◌<◌, ◌≤◌, ℕ, length}
use Rattle.std.specs.Prelude.{false}
use Rattle.overlay_sweep.specs.EntryOf.{entries_of}
use Rattle.overlay_sweep.specs.LiveRows.{lasts_past}
use Rattle.overlay_sweep.proofs.build.scan_row.ScanRow.drop_ended_last.Given as goal

abbrev pub invariant-loop-left : goal.invariant-loop-left
invariant-loop-left g l = record {
  within : l.left ≤ length l.self.entries.items;
  ended : (k : ℕ) → l.left ≤ k → k < length l.self.entries.items → lasts_past (g.I.OverlayInt.whole l.x) (entries_of l.self.entries.items) k ≡ false;
}

abbrev pub decreases-loop-left : goal.decreases-loop-left
decreases-loop-left g l = l.left
