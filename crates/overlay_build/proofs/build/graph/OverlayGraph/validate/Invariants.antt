use Rattle.std.proofs.Common.{◌≡◌, drop}
use Rattle.std.specs.List.{list_all}
use Rattle.overlay_build.specs.NodeIndexes.{indexes_of}
use Rattle.overlay_build.proofs.laws.graphs.NodeLists.{is_sound}
use Rattle.overlay_build.proofs.build.graph.OverlayGraph.validate.Given as goal

abbrev pub invariant-loop-node : goal.invariant-loop-node
invariant-loop-node g l = list_all (λ n. is_sound l.enough (indexes_of n)) (drop l.node-index l.node-items) ≡ list_all (λ n. is_sound l.enough (indexes_of n)) l.node-items
