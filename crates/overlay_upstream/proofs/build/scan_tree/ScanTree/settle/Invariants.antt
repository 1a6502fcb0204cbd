use Rattle.std.proofs.Common.{◌≡◌}
use Rattle.std.specs.Prelude.{ℕ, ◌+◌, ◌-◌, ◌*◌, ◌/◌, ◌^◌, ◌≤◌}
use Rattle.overlay_sweep.specs.EntryOf.{entries_of}
use Rattle.overlay_upstream.specs.ScanTrees.{IsGrowing}
use Rattle.overlay_upstream.proofs.laws.tree.ScanGrowth.{StillGrows}
use Rattle.overlay_upstream.proofs.build.scan_tree.ScanTree.settle.Given as goal

abbrev pub invariant-loop-x : goal.invariant-loop-x
invariant-loop-x g l = record {
  entries : l.self.entries ≡ l.initial.self.entries;
  kept : l.self.kept ≤ l.initial.self.kept;
  grows : (m : IsGrowing (g.I.OverlayInt.whole l.x) (entries_of l.initial.self.entries.items) l.initial.self.shape.nodes.items l.initial.self.root l.new l.initial.self.kept) →
      StillGrows (g.I.OverlayInt.whole l.x) (entries_of l.initial.self.entries.items) l.self.shape.nodes.items l.self.root l.new l.self.kept m.down.placed;
  compared : (d : ℕ) → ((h : ℕ) → 2 ^ (h / 2) ≤ l.initial.self.kept + 1 → h ≤ d) → l.self.compared ≤ (l.initial.self.kept - l.self.kept) * d;
}

abbrev pub decreases-loop-x : goal.decreases-loop-x
decreases-loop-x g l = l.self.kept
