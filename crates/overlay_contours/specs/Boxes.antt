-- The box around the points of contours.
use Rattle.std.specs.Prelude.{◌≡◌, ◌≤ℤ◌, List, flat_map, All, Contains}
use Rattle.overlay_geometry.specs.Points.{Point}
use Rattle.overlay_geometry.specs.Ranges.{Rect}

-- the points of all contours
abbrev pub all_points : List (List Point) → List Point
all_points contours = flat_map (λ contour. contour) contours

-- p lies in the box, its border included
pub record LiesIn (box : Rect) (p : Point) : Type 0 where
  pub left : box.min_x ≤ℤ p.x
  pub right : p.x ≤ℤ box.max_x
  pub below : box.min_y ≤ℤ p.y
  pub above : p.y ≤ℤ box.max_y

-- The least box around points: all of them lie in it, and one on each of its sides.
pub record IsBoundingBox (points : List Point) (box : Rect) : Type 0 where
  pub around : All (LiesIn box) points
  pub left : (p : Point) × Contains points p × (p.x ≡ box.min_x)
  pub right : (p : Point) × Contains points p × (p.x ≡ box.max_x)
  pub below : (p : Point) × Contains points p × (p.y ≡ box.min_y)
  pub above : (p : Point) × Contains points p × (p.y ≡ box.max_y)
