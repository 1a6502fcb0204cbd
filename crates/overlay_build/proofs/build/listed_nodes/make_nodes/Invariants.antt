use Rattle.std.proofs.Common.{◌≡◌, ℕ, true, List, map, take, drop, flat_map}
use Rattle.std.specs.List.{list_all}
use Rattle.overlay_build.specs.Laid.{AreLaid}
use Rattle.overlay_build.proofs.build.listed_nodes.make_nodes.Given as goal

abbrev pub invariant-loop-degree : goal.invariant-loop-degree
invariant-loop-degree g l =
    ((lists : List (List ℕ)) → AreLaid lists l.degrees l.indexes → (map g.N.GraphNode.indexes l.nodes.items ≡ take l.degree-index lists) × (l.rest ≡ flat_map (λ list. list) (drop l.degree-index lists)))
    × (list_all g.N.GraphNode.is_canonical l.nodes.items ≡ true)
