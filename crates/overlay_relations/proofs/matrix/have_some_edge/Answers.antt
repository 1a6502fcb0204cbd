use Rattle.std.proofs.Common.{◌+◌, [], ◌∷◌, List, sym, subst, map, take, take_all}
use Rattle.std.proofs.lemmas.Bool.{both_ways}
use Rattle.overlay_geometry.specs.PairOf.{pair_of}
use Rattle.overlay_geometry.specs.declared.geom.x_segment.XSegment.{XSegment}
use Rattle.overlay_relations.specs.steps.MatrixOutcomes.{ShareSomePair}
use Rattle.overlay_relations.proofs.laws.PointLists.{next_taken}
use Rattle.overlay_relations.proofs.laws.EdgeLists.{none_further, not_one}
use Rattle.overlay_relations.proofs.matrix.have_some_edge.Goals as goal

pub loop-edge-preserved : goal.loop-edge-preserved
loop-edge-preserved g c =
    let at = pair_of g.I.OverlayInt.whole in
    let sorted = map at c.args.sorted.now in
    let xs = c.args.edges.now in
    let i = c.loop-edge.edge-index in
    let p = at c.edge-item.result in
    none_further sorted (map at (take i xs)) (map at (take (i + 1) xs)) (p ∷ []) (next_taken at xs i c.edge-item.result c.loop-edge-test.true c.edge-item.is) c.loop-edge.invariant
    (not_one sorted p (λ m. both_ways c.is_edge_among.result c.if-is_edge_among.false (c.is_edge_among.ensures.1 m)))

pub returns : goal.returns
returns g c =
    let at = pair_of g.I.OverlayInt.whole in
    (λ h. absurd (cc), λ share. absurd (c.loop-edge.invariant (subst (λ (l : List (XSegment _)). ShareSomePair (map at c.args.sorted.now) (map at l)) (sym (take_all c.loop-edge.edge-index c.args.edges.now c.loop-edge-test.false)) share)))
