use Rattle.std.proofs.Common.{◌≡◌, ◌++◌, map, take, length, flat_map}
use Rattle.overlay_contours.specs.ContoursOf.{contours_of}
use Rattle.overlay_c.specs.Contours.{point_by}
use Rattle.overlay_c.proofs.contours.push_contours.Given as goal

abbrev pub invariant-loop-contour : goal.invariant-loop-contour
invariant-loop-contour l =
    (l.lengths.items ≡ l.initial.lengths.items ++ map length (contours_of (λ z. z) (take l.contour-index l.contours)))
    × (map point_by l.points.items ≡ map point_by l.initial.points.items ++ flat_map (λ contour. contour) (contours_of (λ z. z) (take l.contour-index l.contours)))
