use Rattle.overlay_geometry.specs.PairOf.{pair_of}
use Rattle.overlay_relations.proofs.laws.EdgeLists.{found_pair}
use Rattle.overlay_relations.proofs.matrix.is_edge_among.Goals as goal

pub returns : goal.returns
returns g c =
    let at = simp g.met.I.OverlayInt.ordered at c.binary_search.ensures.position in
    found_pair (pair_of g.I.OverlayInt.whole) c.args.sorted.now c.args.edge.now c.binary_search.result c.is_ok.result c.requires.sorted c.binary_search.ensures.bound at c.is_ok.ensures.value
