use Rattle.std.proofs.Common.{map}
use Rattle.overlay_base.specs.Rules.{holds}
use Rattle.overlay_build.specs.DirectedWalks.{arcs}
use Rattle.overlay_build.specs.GraphOf.{link_of}
use Rattle.overlay_build.proofs.laws.walks.DirectedSteps.{NoneFree}
use Rattle.overlay_build.proofs.build.directed_walks.next_free.Given as goal

abbrev pub invariant-loop-place : goal.invariant-loop-place
invariant-loop-place g l = NoneFree (arcs (holds l.rule) (map (link_of g.I.OverlayInt.whole) l.links)) l.used l.indexes l.node l.place
