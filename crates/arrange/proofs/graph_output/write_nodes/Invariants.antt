use Rattle.std.proofs.Common.{◌≡◌, ◌++◌, flat_map, take, string_bytes}
use Rattle.overlay_build.specs.GraphOf.{graph_with}
use Rattle.arrange.specs.GraphText.{node_line}
use Rattle.arrange.proofs.graph_output.write_nodes.Given as goal

abbrev pub invariant-loop-id : goal.invariant-loop-id
invariant-loop-id g l =
    string_bytes l.text ≡ string_bytes l.initial.text ++ flat_map node_line (take l.id (graph_with g.I.OverlayInt.whole l.graph.links.now).nodes)
