use Rattle.std.proofs.Common.{◌≡◌, map, take}
use Rattle.overlay_base.specs.Rules.{holds}
use Rattle.overlay_build.specs.BoundaryOf.{walks_of}
use Rattle.overlay_build.specs.DirectedWalks.{arcs, contour}
use Rattle.overlay_build.specs.GraphOf.{link_of}
use Rattle.overlay_build.specs.OverlayGraphOf.{links_of}
use Rattle.overlay_contours.specs.ShapesOf.{shapes_of}
use Rattle.overlay_contours.proofs.extract.shapes_of_graph.Given as goal

abbrev pub invariant-loop-walks : goal.invariant-loop-walks
invariant-loop-walks g l =
    let whole = g.I.OverlayInt.whole in
    shapes_of whole l.shapes.items ≡ map (λ w. map (contour (arcs (holds l.rule) (map (link_of whole) (links_of l.graph)))) (walks_of w.items)) (take l.walks-index l.walks-items)
