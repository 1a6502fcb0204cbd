use Rattle.std.proofs.Common.{◌≡◌, map, take, length, flat_map}
use Rattle.overlay_build.specs.NodeIndexes.{indexes_of}
use Rattle.overlay_c.proofs.cores.keep_nodes.Given as goal

abbrev pub invariant-loop-node : goal.invariant-loop-node
invariant-loop-node l =
    (l.degrees.items ≡ map length (map indexes_of (take l.node-index l.nodes)))
    × (l.indexes.items ≡ flat_map (λ list. list) (map indexes_of (take l.node-index l.nodes)))
