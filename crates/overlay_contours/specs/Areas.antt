-- The areas that contours enclose, doubled, so that they are whole.
use Rattle.std.specs.Prelude.{ℤ, pos, ◌+ℤ◌, ◌-ℤ◌, ◌*ℤ◌, List}
use Rattle.overlay_geometry.specs.Points.{Point, Pair}
use Rattle.overlay_base.specs.Sums.{gathered}
use Rattle.overlay_contours.specs.Contours.{steps_of, steps}

-- twice the area of the triangle of the origin and the ends of a step, positive where it turns left there
abbrev pub step_area : Pair → ℤ
step_area s = s.a.x *ℤ s.b.y -ℤ s.a.y *ℤ s.b.x

-- twice the area that a contour encloses: each part of the plane as often as the contour winds around it
unfoldable pub doubled_area : List Point → ℤ
doubled_area points = gathered ◌+ℤ◌ (pos 0) step_area (steps_of points)

-- the same of contours together
unfoldable pub doubled_area_of_all : List (List Point) → ℤ
doubled_area_of_all contours = gathered ◌+ℤ◌ (pos 0) step_area (steps contours)
