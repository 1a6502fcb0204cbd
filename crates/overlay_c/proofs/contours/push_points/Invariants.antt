use Rattle.std.proofs.Common.{◌≡◌, ◌++◌, map, take}
use Rattle.overlay_contours.specs.ContoursOf.{points_of}
use Rattle.overlay_c.specs.Contours.{point_by}
use Rattle.overlay_c.proofs.contours.push_points.Given as goal

abbrev pub invariant-loop-point : goal.invariant-loop-point
invariant-loop-point l = map point_by l.points.items ≡ map point_by l.initial.points.items ++ points_of (λ z. z) (take l.point-index l.contour)
