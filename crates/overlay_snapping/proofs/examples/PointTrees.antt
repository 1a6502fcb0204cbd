-- The places of the points whose pixels a segment meets, and boxes over a list of points.
use Rattle.std.specs.Prelude.{◌≡◌, refl, ℕ, pos, true, false, List, [], ◌∷◌}
use Rattle.overlay_geometry.specs.Points.{Point}
use Rattle.overlay_geometry.specs.Ranges.{Rect}
use Rattle.overlay_base.proofs.examples.Words.{point, pair}
use Rattle.overlay_snapping.specs.Pixels.{met_places}
use Rattle.overlay_snapping.specs.steps.PointTrees.{are_boxes}
use Rattle.overlay_snapping.proofs.examples.Computing.{computing}

abbrev rect : ℕ → ℕ → ℕ → ℕ → Rect
rect left right low high = record { min_x = pos left; max_x = pos right; min_y = pos low; max_y = pos high }

-- in the order of a tree, column by column
abbrev points : List Point
points = point (pos 0) (pos 0) ∷ point (pos 0) (pos 5) ∷ point (pos 3) (pos 1) ∷ point (pos 7) (pos 2) ∷ []

-- its ends, and a point that it passes by; whatever their order, by rising place
places_of_met : met_places (pair (pos 0) (pos 0) (pos 7) (pos 2)) points ≡ (0 ∷ 2 ∷ 3 ∷ [])
unfolding computing
places_of_met = refl

no_place : met_places (pair (pos 0) (pos 3) (pos 7) (pos 4)) points ≡ []
unfolding computing
no_place = refl

-- the box in the middle, at place 2, holds all four points; that at 1 the first two; those at 0 and 3 hold the point beside them
boxes_of_all : are_boxes 3 (rect 0 0 0 0 ∷ rect 0 0 0 5 ∷ rect 0 7 0 5 ∷ rect 7 7 2 2 ∷ []) points ≡ true
unfolding computing
boxes_of_all = refl

-- the box of the first half alone, in the middle
box_of_half : are_boxes 3 (rect 0 0 0 0 ∷ rect 0 0 0 5 ∷ rect 0 3 0 5 ∷ rect 7 7 2 2 ∷ []) points ≡ false
unfolding computing
box_of_half = refl
