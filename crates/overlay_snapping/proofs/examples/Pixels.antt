-- Which pixels a segment meets.
use Rattle.std.proofs.Common.{arith}
use Rattle.std.specs.Prelude.{◌≡◌, refl, pos, true, false, List, Bool, [], ◌∷◌, map}
use Rattle.std.proofs.lemmas.Int.{ints}
use Rattle.overlay_geometry.specs.Points.{Point, Pair}
use Rattle.overlay_base.proofs.examples.Words.{neg, point, pair}
use Rattle.overlay_snapping.specs.Pixels.{MeetsPixel, meets_pixel, is_near_line}
use Rattle.overlay_snapping.proofs.examples.Computing.{computing}

abbrev met_by : Pair → List Point → List Bool
met_by s points = map (λ c. meets_pixel s c) points

-- ---- a corner, (1/2, 1/2): it belongs to the pixel of (1, 1) alone, and is the lower left one of it

-- up through it, and through the pixels of both ends
rises_through_corner : met_by (pair (pos 0) (pos 0) (pos 1) (pos 1)) (point (pos 0) (pos 0) ∷ point (pos 1) (pos 1) ∷ []) ≡ (true ∷ true ∷ [])
unfolding computing
rises_through_corner = refl

-- of the pixels beside, it touches an open corner alone: the lower right one, and the upper left one
touches_open_corners : met_by (pair (pos 0) (pos 0) (pos 1) (pos 1)) (point (pos 0) (pos 1) ∷ point (pos 1) (pos 0) ∷ []) ≡ (false ∷ false ∷ [])
unfolding computing
touches_open_corners = refl

-- down through it: of the two pixels beside, the closed corner is met, where twice the turn is the extent, and the open one is not
falls_through_corner : met_by (pair (pos 0) (pos 1) (pos 1) (pos 0)) (point (pos 1) (pos 1) ∷ point (pos 0) (pos 0) ∷ []) ≡ (true ∷ false ∷ [])
unfolding computing
falls_through_corner = refl

-- the same by the definition: halfway along it, the falling segment is in the closed corner
corner_is_met : MeetsPixel (pair (pos 0) (pos 1) (pos 1) (pos 0)) (point (pos 1) (pos 1))
corner_is_met = (
  record { part = 1; whole = 2; positive = omega arith; at_most_one = omega arith },
  record { from_left = omega (arith, ints); to_right = omega (arith, ints); from_below = omega (arith, ints); to_top = omega (arith, ints) },
)

open_corner_is_not : MeetsPixel (pair (pos 0) (pos 1) (pos 1) (pos 0)) (point (pos 0) (pos 0)) → ⊥
open_corner_is_not (f, i) = omega (arith, ints, f.positive, i.to_right, i.to_top)

-- ---- borders

-- at (1, 1/2) it leaves the pixel of (1, 0), whose upper border is open, for that of (1, 1), whose lower border is closed
crosses_border : met_by (pair (pos 0) (pos 0) (pos 2) (pos 1)) (point (pos 0) (pos 0) ∷ point (pos 1) (pos 0) ∷ point (pos 1) (pos 1) ∷ point (pos 2) (pos 1) ∷ []) ≡ (true ∷ true ∷ true ∷ true ∷ [])
unfolding computing
crosses_border = refl

-- ---- ends, and verticals

-- the line goes on into the pixels beyond both ends, and the segment does not
ends_stop : met_by (pair (pos 0) (pos 0) (pos 2) (pos 1)) (point (neg 1) (pos 0) ∷ point (pos 3) (pos 1) ∷ []) ≡ (false ∷ false ∷ [])
unfolding computing
ends_stop = refl

-- the line is near both of them
line_goes_on : map (λ c. is_near_line (pair (pos 0) (pos 0) (pos 2) (pos 1)) c) (point (neg 1) (pos 0) ∷ point (pos 3) (pos 1) ∷ point (pos 4) (pos 0) ∷ []) ≡ (true ∷ true ∷ false ∷ [])
unfolding computing
line_goes_on = refl

-- a segment through the pixel of another's end, (3, 1), which does not lie on it
passes_end : met_by (pair (pos 0) (pos 0) (pos 7) (pos 2)) (point (pos 3) (pos 1) ∷ point (pos 3) (pos 0) ∷ point (pos 3) (pos 2) ∷ []) ≡ (true ∷ false ∷ false ∷ [])
unfolding computing
passes_end = refl

-- a vertical one meets the pixels of its own points alone
vertical : met_by (pair (pos 0) (pos 0) (pos 0) (pos 3)) (point (pos 0) (pos 0) ∷ point (pos 0) (pos 2) ∷ point (pos 0) (pos 4) ∷ point (pos 1) (pos 2) ∷ point (neg 1) (pos 2) ∷ []) ≡ (true ∷ true ∷ false ∷ false ∷ false ∷ [])
unfolding computing
vertical = refl

horizontal : met_by (pair (pos 0) (pos 0) (pos 3) (pos 0)) (point (pos 2) (pos 0) ∷ point (pos 2) (pos 1) ∷ point (pos 2) (neg 1) ∷ []) ≡ (true ∷ false ∷ false ∷ [])
unfolding computing
horizontal = refl
