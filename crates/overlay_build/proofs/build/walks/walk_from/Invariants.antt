use Rattle.std.proofs.Common.{◌≡◌, ◌≢◌, not, true, false, map, [], slice_index_or}
use Rattle.std.specs.Prelude.{count_by}
use Rattle.overlay_build.specs.GraphOf.{link_of}
use Rattle.overlay_build.specs.NodeIndexes.{indexes_of}
use Rattle.overlay_build.proofs.laws.walks.WalkSteps.{IsUnderWay, IsAway}
use Rattle.overlay_build.proofs.build.walks.walk_from.Given as goal

abbrev pub invariant-loop-node : goal.invariant-loop-node
invariant-loop-node g l =
    IsUnderWay (map (link_of g.I.OverlayInt.whole) l.graph.links.now) (map indexes_of l.graph.nodes.now) l.fn.used l.used l.cursors l.start l.node l.walk.items
    × (l.walk.items ≢ [])
    × (slice_index_or l.used l.first false ≡ true)
    × IsAway (map (link_of g.I.OverlayInt.whole) l.graph.links.now) l.start l.walk.items

abbrev pub decreases-loop-node : goal.decreases-loop-node
decreases-loop-node g l = count_by not l.used
