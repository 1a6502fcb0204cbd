-- Contours without the points at which they go straight on.
use Rattle.std.specs.Prelude.{pos, Bool, not, ◌&&◌, ◌||◌, List, [], ◌∷◌, map, filter}
use Rattle.std.specs.List.{zip}
use Rattle.std.specs.Ordering.{int_eq}
use Rattle.overlay_geometry.specs.Points.{Point, Pair, point_lt, turn}
use Rattle.overlay_contours.specs.Contours.{steps_from, steps_of}

-- a way from p over q to r goes straight on at q: the three lie on one line, and q between the others
abbrev pub is_straight : Point → Point → Point → Bool
is_straight p q r = int_eq (turn p q r) (pos 0) && ((point_lt p q && point_lt q r) || (point_lt r q && point_lt q p))

-- the last point of a list that p begins
abbrev pub last_of : Point → List Point → Point
last_of p [] = p
last_of p (q ∷ points) = last_of q points

-- the steps of a contour that lead to its points, in their order: to the first one from the last
abbrev pub steps_to : List Point → List Pair
steps_to [] = []
steps_to (p ∷ points) = steps_from (last_of p points) (p ∷ points)

-- a step to a point and the step from it: not straight on
abbrev pub is_corner : Pair × Pair → Bool
is_corner e = not (is_straight e.0.a e.1.a e.1.b)

-- the corners of a contour: its points in their order, without those at which it goes straight on from the point before
-- to the point after
unfoldable pub corners : List Point → List Point
corners points = map (λ e. e.1.a) (filter is_corner (zip (steps_to points) (steps_of points)))
