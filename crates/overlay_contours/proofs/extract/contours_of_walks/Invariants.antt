use Rattle.std.proofs.Common.{◌≡◌, map, take}
use Rattle.overlay_base.specs.Rules.{holds}
use Rattle.overlay_build.specs.DirectedWalks.{arcs, contour}
use Rattle.overlay_build.specs.GraphOf.{link_of}
use Rattle.overlay_build.specs.OverlayGraphOf.{links_of}
use Rattle.overlay_contours.specs.ContoursOf.{contours_of}
use Rattle.overlay_contours.proofs.extract.contours_of_walks.Given as goal

abbrev pub invariant-loop-walk : goal.invariant-loop-walk
invariant-loop-walk g l =
    let whole = g.I.OverlayInt.whole in
    contours_of whole l.contours.items ≡ map (λ w. contour (arcs (holds l.rule) (map (link_of whole) (links_of l.graph))) w.items) (take l.walk-index l.walks)
