use Rattle.std.proofs.Common.{◌≡◌, map, take}
use Rattle.overlay_base.specs.Rules.{holds}
use Rattle.overlay_build.specs.DirectedWalks.{arcs, contour}
use Rattle.overlay_build.specs.GraphOf.{link_of}
use Rattle.overlay_build.specs.OverlayGraphOf.{links_of}
use Rattle.overlay_contours.specs.ContoursOf.{points_of}
use Rattle.overlay_contours.proofs.extract.contour_of_walk.Given as goal

abbrev pub invariant-loop-step : goal.invariant-loop-step
invariant-loop-step g l =
    let whole = g.I.OverlayInt.whole in
    points_of whole l.points.items ≡ contour (arcs (holds l.rule) (map (link_of whole) (links_of l.graph))) (take l.step-index l.walk)
