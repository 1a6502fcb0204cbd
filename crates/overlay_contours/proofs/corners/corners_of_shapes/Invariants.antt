use Rattle.std.proofs.Common.{◌≡◌, map, take}
use Rattle.overlay_contours.specs.ContoursOf.{contours_of}
use Rattle.overlay_contours.specs.Corners.{corners}
use Rattle.overlay_contours.specs.ShapesOf.{shapes_of, ShapesLieInRange}
use Rattle.overlay_contours.proofs.corners.corners_of_shapes.Given as goal

abbrev pub invariant-loop-shape : goal.invariant-loop-shape
invariant-loop-shape g l =
    let I = g.I.OverlayInt in
    record {
      corners : shapes_of I.whole l.answer.items ≡ map (λ s. map corners (contours_of I.whole s.items)) (take l.shape-index l.shapes);
      in_range : ShapesLieInRange I.whole I.MIN_COORD I.MAX_COORD l.answer.items;
    }
