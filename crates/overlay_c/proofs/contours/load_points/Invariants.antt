use Rattle.std.proofs.Common.{◌≡◌, map, take}
use Rattle.overlay_contours.specs.ContoursOf.{points_of}
use Rattle.overlay_c.specs.Contours.{point_by}
use Rattle.overlay_c.proofs.contours.load_points.Given as goal

abbrev pub invariant-loop-given : goal.invariant-loop-given
invariant-loop-given l = points_of (λ z. z) l.points.items ≡ map point_by (take l.given-index l.records)
