use Rattle.std.proofs.Common.{map}
use Rattle.overlay_base.specs.Rules.{holds}
use Rattle.overlay_build.specs.DirectedWalks.{arcs}
use Rattle.overlay_build.specs.GraphOf.{link_of}
use Rattle.overlay_build.specs.NodeIndexes.{indexes_of}
use Rattle.overlay_build.proofs.laws.walks.DirectedSteps.{HaveRun}
use Rattle.overlay_build.proofs.build.directed_walks.directed_walks.Given as goal

abbrev pub invariant-loop-first : goal.invariant-loop-first
invariant-loop-first g l = HaveRun (arcs (holds l.rule) (map (link_of g.I.OverlayInt.whole) l.graph.links.now)) (map indexes_of l.graph.nodes.now) l.used.items l.cursors.items (map (λ w. w.items) l.walks.items) l.first
