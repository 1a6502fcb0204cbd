use Rattle.std.proofs.Common.{List, subst, map}
use Rattle.std.specs.Prelude.{◌↔◌, Contains}
use Rattle.overlay_geometry.specs.PairOf.{pair_of}
use Rattle.overlay_geometry.specs.Points.{Pair}
use Rattle.overlay_relations.proofs.laws.EdgeLists.{reordered}
use Rattle.overlay_relations.proofs.matrix.sorted_edges.Goals as goal

pub returns-clause-edges : goal.returns-clause-edges
returns-clause-edges g c e =
    let at = pair_of g.I.OverlayInt.whole in
    subst (λ (l : List Pair). Contains (map at c.sort.new.self.items) e ↔ Contains l e) c.in_ok-list.ensures.edges (reordered at c.in_ok-list.list.items c.sort.new.self.items c.in_ok-sort.ensures.permutation e)
