-- Worked examples of areas. Each holds by computation.
use Rattle.std.specs.Prelude.{◌≡◌, refl, pos, negsuc, List, [], ◌∷◌}
use Rattle.overlay_geometry.specs.Points.{Point}
use Rattle.overlay_contours.specs.Areas.{doubled_area, doubled_area_of_all}
use Rattle.overlay_contours.proofs.examples.Polygons.{point}

-- a triangle whose legs are 3 and 4, counterclockwise; the same run the other way
triangle : doubled_area (point 1 1 ∷ point 4 1 ∷ point 4 5 ∷ []) ≡ pos 12
unfolding doubled_area
triangle = refl

clockwise : doubled_area (point 1 1 ∷ point 4 5 ∷ point 4 1 ∷ []) ≡ negsuc 11
unfolding doubled_area
clockwise = refl

-- a square with a square hole: 8 * 8 less 4 * 4, doubled
with_a_hole : doubled_area_of_all ((point 0 0 ∷ point 8 0 ∷ point 8 8 ∷ point 0 8 ∷ []) ∷ (point 2 2 ∷ point 2 6 ∷ point 6 6 ∷ point 6 2 ∷ []) ∷ []) ≡ pos 96
unfolding doubled_area_of_all
with_a_hole = refl

-- a bow: one half runs counterclockwise, the other clockwise
bow : doubled_area (point 0 0 ∷ point 2 2 ∷ point 2 0 ∷ point 0 2 ∷ []) ≡ pos 0
unfolding doubled_area
bow = refl

-- two points, one, and none enclose nothing
there_and_back : doubled_area (point 3 7 ∷ point 5 1 ∷ []) ≡ pos 0
unfolding doubled_area
there_and_back = refl

one_point : doubled_area (point 3 7 ∷ []) ≡ pos 0
unfolding doubled_area
one_point = refl

nothing : doubled_area [] ≡ pos 0
unfolding doubled_area
nothing = refl
