-- Worked examples of contours: a square, one with a hole, one given twice, a bow tie. Each holds by computation.
use Rattle.std.specs.Prelude.{◌≡◌, refl, ℕ, pos, negsuc, true, false, List, [], ◌∷◌, map}
use Rattle.overlay_geometry.specs.Points.{Point, Pair}
use Rattle.overlay_base.specs.Join.{join}
use Rattle.overlay_base.specs.Places.{RationalPoint, winding_below}
use Rattle.overlay_base.specs.Rules.{holds}
use Rattle.overlay_base.specs.declared.segm.shape_type.ShapeType.TheVariants.{Subject as ShapeSubject}
use Rattle.overlay_build.specs.Boundary.{truth, boundary}
use Rattle.overlay_base.specs.declared.overlay_core.fill_rule.FillRule.TheVariants.{EvenOdd, NonZero, Positive}
use Rattle.overlay_base.specs.declared.overlay_core.overlay_rule.OverlayRule.TheVariants.{Intersect, Union, Difference, Xor, Subject}
use Rattle.overlay_build.proofs.examples.Computing.{computing}
use Rattle.overlay_contours.specs.Contours.{directed_edges, edges, winding_number, is_painted}
use Rattle.overlay_contours.specs.ContourSegments.{contour_segments}
use Rattle.overlay_contours.specs.Polygons.{is_in_overlay, run_of}

abbrev pub point : ℕ → ℕ → Point
point x y = record { x = pos x; y = pos y }

abbrev pair : ℕ → ℕ → ℕ → ℕ → Pair
pair x y u v = record { a = point x y; b = point u v }

-- a whole point, and the middle of a unit square
abbrev pub at_point : ℕ → ℕ → RationalPoint
at_point x y = record { x = pos x; y = pos y; bottom = 1 }

abbrev half : ℕ → ℕ → RationalPoint
half x y = record { x = pos x; y = pos y; bottom = 2 }

-- a square from (m, m) to (n, n), counterclockwise
abbrev pub square : ℕ → ℕ → List Point
square m n = point m m ∷ point n m ∷ point n n ∷ point m n ∷ []

-- the same square, clockwise
abbrev clockwise_square : ℕ → ℕ → List Point
clockwise_square m n = point m m ∷ point m n ∷ point n n ∷ point n m ∷ []

-- its edges
square_edges : edges (square 0 4 ∷ []) ≡ (pair 0 0 4 0 ∷ pair 4 0 4 4 ∷ pair 0 4 4 4 ∷ pair 0 0 0 4 ∷ [])
square_edges = refl

-- one contour runs around its inside once, and not around what is above, right, left of or below it
inside_square : winding_number (square 0 4 ∷ []) (at_point 2 2) ≡ pos 1
unfolding winding_number
inside_square = refl

above_square : winding_number (square 0 4 ∷ []) (at_point 2 5) ≡ pos 0
unfolding winding_number
above_square = refl

beside_square : winding_number (square 0 4 ∷ []) (at_point 5 2) ≡ pos 0
unfolding winding_number
beside_square = refl

below_square : winding_number (square 1 4 ∷ []) (at_point 2 0) ≡ pos 0
unfolding winding_number
below_square = refl

painted_square : is_painted (square 0 4 ∷ []) (at_point 2 2) ≡ true
unfolding is_painted
painted_square = refl

-- a square that runs clockwise counts the other way, and is painted too
clockwise : winding_number (clockwise_square 0 4 ∷ []) (at_point 2 2) ≡ negsuc 0
unfolding winding_number
clockwise = refl

painted_clockwise : is_painted (clockwise_square 0 4 ∷ []) (at_point 2 2) ≡ true
unfolding is_painted
painted_clockwise = refl

-- the edges of a contour as they run: of two that have the same edges, each runs the other way
runs_counterclockwise : directed_edges (square 0 4 ∷ []) ≡ (pair 0 0 4 0 ∷ pair 4 0 4 4 ∷ pair 4 4 0 4 ∷ pair 0 4 0 0 ∷ [])
runs_counterclockwise = refl

runs_clockwise : directed_edges (clockwise_square 0 4 ∷ []) ≡ (pair 0 0 0 4 ∷ pair 0 4 4 4 ∷ pair 4 4 4 0 ∷ pair 4 0 0 0 ∷ [])
runs_clockwise = refl

same_edges_backward : edges (clockwise_square 0 4 ∷ []) ≡ (pair 0 0 0 4 ∷ pair 0 4 4 4 ∷ pair 4 0 4 4 ∷ pair 0 0 4 0 ∷ [])
same_edges_backward = refl

-- A square with a hole, which runs clockwise: 1 between both, 0 in the hole and 0 outside.
between_both : winding_number (square 0 8 ∷ clockwise_square 2 6 ∷ []) (at_point 1 4) ≡ pos 1
unfolding winding_number
between_both = refl

above_the_hole : winding_number (square 0 8 ∷ clockwise_square 2 6 ∷ []) (at_point 4 7) ≡ pos 1
unfolding winding_number
above_the_hole = refl

in_the_hole : winding_number (square 0 8 ∷ clockwise_square 2 6 ∷ []) (at_point 4 4) ≡ pos 0
unfolding winding_number
in_the_hole = refl

outside_of_both : winding_number (square 0 8 ∷ clockwise_square 2 6 ∷ []) (at_point 9 4) ≡ pos 0
unfolding winding_number
outside_of_both = refl

-- If the hole ran as the outer boundary does, it would be wound around twice. Even-odd cannot show that.
hole_the_wrong_way : winding_number (square 0 8 ∷ square 2 6 ∷ []) (at_point 4 4) ≡ pos 2
unfolding winding_number
hole_the_wrong_way = refl

hole_is_not_painted : is_painted (square 0 8 ∷ clockwise_square 2 6 ∷ []) (at_point 4 4) ≡ false
unfolding is_painted
hole_is_not_painted = refl

nor_the_wrong_way : is_painted (square 0 8 ∷ square 2 6 ∷ []) (at_point 4 4) ≡ false
unfolding is_painted
nor_the_wrong_way = refl

-- what a difference has to wind around a place of the hole, and one between both
none_in_the_hole : truth (is_in_overlay Difference NonZero (square 0 8 ∷ []) (square 2 6 ∷ []) (at_point 4 4)) ≡ pos 0
unfolding winding_number
none_in_the_hole = refl

one_between_both : truth (is_in_overlay Difference NonZero (square 0 8 ∷ []) (square 2 6 ∷ []) (at_point 1 4)) ≡ pos 1
unfolding winding_number
one_between_both = refl

-- as segments of one shape, each step once, they wind as often
segments_in_the_hole : (winding_below (contour_segments ShapeSubject (square 0 8 ∷ clockwise_square 2 6 ∷ [])) (at_point 4 4)).subj ≡ pos 0
unfolding computing contour_segments
segments_in_the_hole = refl

segments_between_both : (winding_below (contour_segments ShapeSubject (square 0 8 ∷ clockwise_square 2 6 ∷ [])) (at_point 1 4)).subj ≡ pos 1
unfolding computing contour_segments
segments_between_both = refl

-- The boundary of a square that a contour runs around clockwise: each edge in the direction that has the inside on its left.
boundary_runs :
    map run_of (boundary (holds Subject) NonZero (join (contour_segments ShapeSubject (clockwise_square 0 4 ∷ []))))
    ≡ (pair 0 4 0 0 ∷ pair 0 0 4 0 ∷ pair 4 4 0 4 ∷ pair 4 0 4 4 ∷ [])
unfolding computing contour_segments
boundary_runs = refl

-- a square given twice: its inside has 2, so it is inside by "not zero", and not by "even-odd"
twice : winding_number (square 0 4 ∷ square 0 4 ∷ []) (at_point 2 2) ≡ pos 2
unfolding winding_number
twice = refl

not_painted_twice : is_painted (square 0 4 ∷ square 0 4 ∷ []) (at_point 2 2) ≡ false
unfolding is_painted
not_painted_twice = refl

twice_by_even_odd : is_in_overlay Subject EvenOdd (square 0 4 ∷ square 0 4 ∷ []) [] (at_point 2 2) ≡ false
unfolding winding_number
twice_by_even_odd = refl

twice_by_non_zero : is_in_overlay Subject NonZero (square 0 4 ∷ square 0 4 ∷ []) [] (at_point 2 2) ≡ true
unfolding winding_number
twice_by_non_zero = refl

-- a bow tie: its two halves run in opposite directions
abbrev bow_tie : List Point
bow_tie = point 0 0 ∷ point 4 4 ∷ point 4 0 ∷ point 0 4 ∷ []

left_of_bow : winding_number (bow_tie ∷ []) (at_point 1 2) ≡ pos 1
unfolding winding_number
left_of_bow = refl

right_of_bow : winding_number (bow_tie ∷ []) (at_point 3 2) ≡ negsuc 0
unfolding winding_number
right_of_bow = refl

over_bow : winding_number (bow_tie ∷ []) (half 4 5) ≡ pos 0
unfolding winding_number
over_bow = refl

bow_by_positive : is_in_overlay Subject Positive (bow_tie ∷ []) [] (at_point 3 2) ≡ false
unfolding winding_number
bow_by_positive = refl

bow_by_even_odd : is_in_overlay Subject EvenOdd (bow_tie ∷ []) [] (at_point 3 2) ≡ true
unfolding winding_number
bow_by_even_odd = refl

-- two squares that share a part
shared : is_in_overlay Intersect NonZero (square 0 4 ∷ []) (square 2 6 ∷ []) (at_point 3 3) ≡ true
unfolding winding_number
shared = refl

subject_alone : is_in_overlay Intersect NonZero (square 0 4 ∷ []) (square 2 6 ∷ []) (at_point 1 1) ≡ false
unfolding winding_number
subject_alone = refl

first_but_second : is_in_overlay Difference NonZero (square 0 4 ∷ []) (square 2 6 ∷ []) (at_point 1 1) ≡ true
unfolding winding_number
first_but_second = refl

clip_alone : is_in_overlay Union NonZero (square 0 4 ∷ []) (square 2 6 ∷ []) (at_point 5 5) ≡ true
unfolding winding_number
clip_alone = refl

one_of_both : is_in_overlay Xor NonZero (square 0 4 ∷ []) (square 2 6 ∷ []) (at_point 3 3) ≡ false
unfolding winding_number
one_of_both = refl

-- a repeated point makes no edge, and a contour of one point or of none has no edges; one of two points runs there and back
repeated : edges ((point 0 0 ∷ point 0 0 ∷ point 4 0 ∷ point 4 4 ∷ point 4 4 ∷ []) ∷ []) ≡ (pair 0 0 4 0 ∷ pair 4 0 4 4 ∷ pair 0 0 4 4 ∷ [])
repeated = refl

one_point : edges ((point 1 1 ∷ []) ∷ [] ∷ []) ≡ []
one_point = refl

two_points : edges ((point 0 0 ∷ point 4 0 ∷ []) ∷ []) ≡ (pair 0 0 4 0 ∷ pair 0 0 4 0 ∷ [])
two_points = refl
