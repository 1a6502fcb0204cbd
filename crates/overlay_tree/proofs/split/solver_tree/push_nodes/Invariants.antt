use Rattle.std.proofs.Common.{◌≡◌, ◌-◌, ◌++◌, map}
use Rattle.std.specs.List.{range_with_len}
use Rattle.overlay_base.specs.Segments.{pairs}
use Rattle.overlay_base.specs.SegmentOf.{segments_of}
use Rattle.overlay_tree.specs.steps.NodeOf.{tree_nodes}
use Rattle.overlay_tree.specs.steps.Swept.{alone, entry_at}
use Rattle.overlay_tree.proofs.split.solver_tree.push_nodes.Given as goal

abbrev pub invariant-loop-index : goal.invariant-loop-index
invariant-loop-index g l = tree_nodes g.I.OverlayInt.whole l.nodes.items ≡ tree_nodes g.I.OverlayInt.whole l.fn.nodes.items ++ map (λ i. alone (entry_at (pairs (segments_of l.segments)) i)) (range_with_len l.from (l.index - l.from))
