-- Worked examples of where points lie with respect to contours. Each holds by computation.
use Rattle.std.specs.Prelude.{◌≡◌, refl, List, [], ◌∷◌}
use Rattle.overlay_geometry.specs.Points.{Point, turn, is_in_box, lies_on}
use Rattle.overlay_base.specs.declared.overlay_core.fill_rule.FillRule.TheVariants.{EvenOdd, NonZero, Positive, Negative}
use Rattle.overlay_contours.specs.Contours.{winding_number}
use Rattle.overlay_contours.specs.Locations.{location}
use Rattle.overlay_contours.specs.declared.location.PointLocation.TheVariants.{Inside, OnBoundary, Outside}
use Rattle.overlay_contours.proofs.examples.Polygons.{point, square}

-- a square with a square hole
abbrev ring : List (List Point)
ring = square 0 8 ∷ (point 2 2 ∷ point 2 6 ∷ point 6 6 ∷ point 6 2 ∷ []) ∷ []

-- a square twice around, and a triangle whose slope goes through whole points
abbrev twice : List (List Point)
twice = square 0 4 ∷ square 0 4 ∷ []

abbrev triangle : List (List Point)
triangle = (point 0 0 ∷ point 6 0 ∷ point 6 3 ∷ []) ∷ []

-- between the boundary and the hole, in the hole, and beside all
between : location NonZero ring (point 1 4) ≡ Inside
unfolding winding_number lies_on is_in_box turn
between = refl

in_hole : location NonZero ring (point 4 4) ≡ Outside
unfolding winding_number lies_on is_in_box turn
in_hole = refl

beside : location NonZero ring (point 9 4) ≡ Outside
unfolding winding_number lies_on is_in_box turn
beside = refl

-- on an edge of the hole, at a corner, and on a slope between two whole ends
on_hole : location EvenOdd ring (point 4 2) ≡ OnBoundary
unfolding winding_number lies_on is_in_box turn
on_hole = refl

at_corner : location EvenOdd ring (point 8 8) ≡ OnBoundary
unfolding winding_number lies_on is_in_box turn
at_corner = refl

on_slope : location Positive triangle (point 4 2) ≡ OnBoundary
unfolding winding_number lies_on is_in_box turn
on_slope = refl

-- half a unit above that slope, and beside a corner at its height
above_slope : location Positive triangle (point 3 2) ≡ Outside
unfolding winding_number lies_on is_in_box turn
above_slope = refl

left_of_corner : location Positive triangle (point 5 3) ≡ Outside
unfolding winding_number lies_on is_in_box turn
left_of_corner = refl

-- twice around is outside by even-odd, and inside by the others but `Negative`
twice_even : location EvenOdd twice (point 2 2) ≡ Outside
unfolding winding_number lies_on is_in_box turn
twice_even = refl

twice_positive : location Positive twice (point 2 2) ≡ Inside
unfolding winding_number lies_on is_in_box turn
twice_positive = refl

twice_negative : location Negative twice (point 2 2) ≡ Outside
unfolding winding_number lies_on is_in_box turn
twice_negative = refl

-- a contour of one point has a step to itself
on_one_point : location NonZero ((point 3 7 ∷ []) ∷ []) (point 3 7) ≡ OnBoundary
unfolding winding_number lies_on is_in_box turn
on_one_point = refl

-- and no contours have nothing inside
by_nothing : location NonZero [] (point 0 0) ≡ Outside
unfolding winding_number lies_on is_in_box turn
by_nothing = refl
