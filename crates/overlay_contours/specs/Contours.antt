-- Contours: lists of points, each joined to the next one and the last to the first. Which places they run around.
use Rattle.std.specs.Prelude.{◌≢◌, ◌%◌, ◌==◌, ℤ, pos, negsuc, ◌+ℤ◌, Bool, not, IsTrue, if◌then◌else◌, List, [], ◌∷◌, ◌++◌, map, filter, flat_map, count_by, All}
use Rattle.std.specs.List.{list_all}
use Rattle.overlay_geometry.specs.Points.{Point, Pair, point_eq, point_lt}
use Rattle.overlay_base.specs.Places.{RationalPoint, lies_below}
use Rattle.overlay_base.specs.Sums.{gathered}

-- the steps from p along a list of points
abbrev pub steps_from : Point → List Point → List Pair
steps_from p [] = []
steps_from p (q ∷ points) = record { a = p; b = q } ∷ steps_from q points

-- the steps of a contour: from its first point along the others, and from the last one back to the first
abbrev pub steps_of : List Point → List Pair
steps_of [] = []
steps_of (p ∷ points) = steps_from p (points ++ p ∷ [])

-- the steps of all contours of a list
abbrev pub steps : List (List Point) → List Pair
steps contours = flat_map steps_of contours

-- a step, run the other way
abbrev pub turned : Pair → Pair
turned s = record { a = s.b; b = s.a }

-- its ends in order
abbrev pub in_order : Pair → Pair
in_order s = if point_lt s.a s.b then s else turned s

-- a step between equal points is no edge
abbrev pub is_edge : Pair → Bool
is_edge s = not (point_eq s.a s.b)

-- the edges of contours as they run: their steps between different points
abbrev pub directed_edges : List (List Point) → List Pair
directed_edges contours = filter is_edge (steps contours)

-- the edges of contours, each with its ends in order
abbrev pub edges : List (List Point) → List Pair
edges contours = map in_order (directed_edges contours)

-- Each of the contours has points, and in none two neighboring points are equal, the last and the first one included.
pub record AreProper (contours : List (List Point)) : Type 0 where
  pub points : All (λ c. c ≢ []) contours
  pub apart : IsTrue (list_all is_edge (steps contours))

-- How a step winds around p: it counts 1 where it runs below p from left to right, and -1 where it runs below p from
-- right to left.
abbrev pub step_winding : RationalPoint → Pair → ℤ
step_winding p s = if lies_below s p then pos 1 else (if lies_below (turned s) p then negsuc 0 else pos 0)

-- how often contours run around p, counterclockwise
unfoldable pub winding_number : List (List Point) → RationalPoint → ℤ
winding_number contours p = gathered ◌+ℤ◌ (pos 0) (step_winding p) (steps contours)

-- whether an odd number of edges runs below p: what an even-odd fill of the contours paints
unfoldable pub is_painted : List (List Point) → RationalPoint → Bool
is_painted contours p = count_by (λ e. lies_below e p) (edges contours) % 2 == 1
