use Rattle.std.proofs.Common.{map, take}
use Rattle.overlay_geometry.specs.PairOf.{pair_of}
use Rattle.overlay_relations.specs.steps.MatrixOutcomes.{ShareSomePair}
use Rattle.overlay_relations.proofs.matrix.have_some_edge.Given as goal

-- none of the edges so far is among them
abbrev pub invariant-loop-edge : goal.invariant-loop-edge
invariant-loop-edge g l =
    let whole = g.I.OverlayInt.whole in
    ShareSomePair (map (pair_of whole) l.sorted) (map (pair_of whole) (take l.edge-index l.edges)) → ⊥
