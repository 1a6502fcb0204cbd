use Rattle.overlay_tree.specs.steps.NodeOf.{query_of}
use Rattle.overlay_tree.proofs.laws.tree.FewNodes.{IsPassing}
use Rattle.overlay_tree.proofs.split.interval_tree.find_in_few_nodes.Given as goal

abbrev pub invariant-loop-place : goal.invariant-loop-place
invariant-loop-place g l =
    IsPassing g.I.OverlayInt.whole (query_of g.I.OverlayInt.whole l.query) l.initial.nodes l.nodes l.place l.initial.indexes.items l.indexes.items l.has_dropped
