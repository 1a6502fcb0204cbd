-- Worked examples of contours cut and clamped to a tile, from (0, 0) to (10, 10). Each holds by computation.
use Rattle.std.specs.Prelude.{◌≡◌, refl, ℕ, pos, List, [], ◌∷◌}
use Rattle.overlay_geometry.specs.Points.{Point}
use Rattle.overlay_geometry.specs.Ranges.{Rect}
use Rattle.overlay_base.specs.Places.{RationalPoint}
use Rattle.overlay_base.proofs.examples.Words.{neg, point, pair}
use Rattle.overlay_contours.specs.Contours.{turned, winding_number}
use Rattle.overlay_tiles.specs.Tiles.{upright, level, cut, cut_path, step_points, clipped, all_clipped, in_tile}
use Rattle.overlay_tiles.proofs.examples.Computing.{computing}

abbrev tile : Rect
tile = record { min_x = pos 0; max_x = pos 10; min_y = pos 0; max_y = pos 10 }

abbrev at : ℕ → ℕ → Point
at x y = point (pos x) (pos y)

-- ---- a step over the upper left corner: cut at the left border and at the upper one

over_corner : step_points tile (pair (neg 2) (pos 5) (pos 6) (pos 13)) ≡ (at 0 5 ∷ at 0 7 ∷ at 3 10 ∷ [])
unfolding computing
over_corner = refl

-- one that passes by the corner is clamped to it
past_corner : cut_path tile (pair (neg 8) (pos 5) (pos 6) (pos 19)) ≡ (point (neg 3) (pos 10) ∷ at 0 13 ∷ at 6 19 ∷ [])
unfolding computing
past_corner = refl

past_corner_clamped : step_points tile (pair (neg 8) (pos 5) (pos 6) (pos 19)) ≡ (at 0 5 ∷ at 0 10 ∷ at 0 10 ∷ [])
unfolding computing
past_corner_clamped = refl

-- ---- at the left border this one is 9.9 high, which is rounded to the corner; so the upper border parts no two points of its path

onto_corner : cut_path tile (pair (neg 3) (pos 9) (pos 7) (pos 12)) ≡ (at 0 10 ∷ at 7 12 ∷ [])
unfolding computing
onto_corner = refl

-- ---- halves are rounded upward, whichever way the step runs, so both tiles beside a line make the same cut

half_upward : cut (pair (neg 1) (pos 0) (pos 1) (pos 1)) (upright (pos 0)) ≡ at 0 1
unfolding computing
half_upward = refl

half_upward_turned : cut (turned (pair (neg 1) (pos 0) (pos 1) (pos 1))) (upright (pos 0)) ≡ at 0 1
unfolding computing
half_upward_turned = refl

half_of_negative : cut (pair (neg 1) (pos 5) (neg 2) (pos 7)) (level (pos 6)) ≡ point (neg 1) (pos 6)
unfolding computing
half_of_negative = refl

-- ---- a contour around the whole tile becomes the border, and winds once around the middle

abbrev around : List Point
around = point (neg 5) (neg 5) ∷ point (pos 15) (neg 5) ∷ at 15 15 ∷ point (neg 5) (pos 15) ∷ []

around_clipped : clipped tile around ≡ (at 0 0 ∷ at 0 0 ∷ at 10 0 ∷ at 10 0 ∷ at 10 0 ∷ at 10 10 ∷ at 10 10 ∷ at 10 10 ∷ at 0 10 ∷ at 0 10 ∷ at 0 10 ∷ at 0 0 ∷ [])
unfolding computing
around_clipped = refl

abbrev middle : RationalPoint
middle = record { x = pos 5; y = pos 5; bottom = 1 }

around_winds : winding_number (all_clipped tile (around ∷ [])) middle ≡ pos 1
unfolding computing
around_winds = refl

-- of points in a row on one border the middle ones are left out
around_in_tile : in_tile tile (around ∷ []) ≡ ((at 0 0 ∷ at 10 0 ∷ at 10 10 ∷ at 0 10 ∷ at 0 0 ∷ []) ∷ [])
unfolding computing
around_in_tile = refl

-- ---- a contour that lies beside the tile, up to the line of its left border, is left out

left_of_tile : in_tile tile ((point (neg 5) (neg 5) ∷ at 0 5 ∷ at 0 20 ∷ []) ∷ []) ≡ []
unfolding computing
left_of_tile = refl
