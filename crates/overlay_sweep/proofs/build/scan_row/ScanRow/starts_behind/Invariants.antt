use Rattle.std.proofs.Common.{◌≡◌, ℕ, ◌<◌, ◌≤◌}
use Rattle.std.specs.Prelude.{false}
use Rattle.overlay_sweep.specs.EntryOf.{entries_of}
use Rattle.overlay_sweep.specs.LiveRows.{lasts_past}
use Rattle.overlay_sweep.proofs.build.scan_row.ScanRow.starts_behind.Given as goal

abbrev pub invariant-loop-at : goal.invariant-loop-at
invariant-loop-at g l = (k : ℕ) → l.from ≤ k → k < l.at → lasts_past (g.I.OverlayInt.whole l.x) (entries_of l.self.entries.items) k ≡ false
