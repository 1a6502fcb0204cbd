use Rattle.std.proofs.Common.{map}
use Rattle.overlay_geometry.specs.PairOf.{pair_of}
use Rattle.overlay_contours.specs.ContoursOf.{contours_of}
use Rattle.overlay_relations.proofs.laws.EdgeLists.{shared_edges}
use Rattle.overlay_relations.proofs.matrix.have_common_edge.Goals as goal

pub returns-clause-common : goal.returns-clause-common
returns-clause-common g c =
    let whole = g.I.OverlayInt.whole in
    let share = rw (c.deref.ensures.value, c.deref-2.ensures.value) at c.have_some_edge.ensures in
    shared_edges (map (pair_of whole) c.in_ok-sorted.sorted.items) (map (pair_of whole) c.in_ok-others.others.items) (contours_of whole c.args.first.now) (contours_of whole c.args.second.now) c.have_some_edge.result
    c.in_ok-sorted.ensures.edges c.in_ok-others.ensures.edges share
