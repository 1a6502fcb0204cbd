use Rattle.std.proofs.Common.{◌≡◌, map, take, length, flat_map}
use Rattle.overlay_contours.specs.Shapes.{all_contours}
use Rattle.overlay_contours.specs.ShapesOf.{shapes_of}
use Rattle.overlay_c.specs.Contours.{point_by}
use Rattle.overlay_c.proofs.contours.keep_shapes.Given as goal

abbrev pub invariant-loop-shape : goal.invariant-loop-shape
invariant-loop-shape l =
    (l.counts.items ≡ map length (shapes_of (λ z. z) (take l.shape-index l.shapes)))
    × (l.lengths.items ≡ map length (all_contours (shapes_of (λ z. z) (take l.shape-index l.shapes))))
    × (map point_by l.points.items ≡ flat_map (λ contour. contour) (all_contours (shapes_of (λ z. z) (take l.shape-index l.shapes))))
