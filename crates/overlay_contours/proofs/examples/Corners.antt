-- Worked examples of corners. Each holds by computation.
use Rattle.std.specs.Prelude.{◌≡◌, refl, pos, true, false, List, [], ◌∷◌, map}
use Rattle.overlay_geometry.specs.Points.{Point, turn}
use Rattle.overlay_contours.specs.Contours.{winding_number}
use Rattle.overlay_contours.specs.Corners.{is_straight, corners}
use Rattle.overlay_contours.proofs.examples.Polygons.{point, at_point, square}

-- a way goes straight on, up a slope or back down it; it does not where it turns, goes back, or stays
up_a_slope : is_straight (point 0 0) (point 2 1) (point 6 3) ≡ true
unfolding turn
up_a_slope = refl

down_again : is_straight (point 6 3) (point 2 1) (point 0 0) ≡ true
unfolding turn
down_again = refl

upright : is_straight (point 1 5) (point 1 4) (point 1 0) ≡ true
unfolding turn
upright = refl

a_turn : is_straight (point 0 0) (point 2 1) (point 6 4) ≡ false
unfolding turn
a_turn = refl

back : is_straight (point 0 0) (point 6 3) (point 2 1) ≡ false
unfolding turn
back = refl

on_the_spot : is_straight (point 0 0) (point 2 1) (point 2 1) ≡ false
unfolding turn
on_the_spot = refl

-- a square with points in the middle of its edges, one of them its first
abbrev dotted : List Point
dotted = point 2 0 ∷ point 3 0 ∷ point 4 0 ∷ point 4 4 ∷ point 1 4 ∷ point 0 4 ∷ point 0 3 ∷ point 0 0 ∷ point 1 0 ∷ []

square_of_dotted : corners dotted ≡ (point 4 0 ∷ point 4 4 ∷ point 0 4 ∷ point 0 0 ∷ [])
unfolding corners turn
square_of_dotted = refl

square_stays : corners (square 0 4) ≡ square 0 4
unfolding corners turn
square_stays = refl

-- both run around the inside once, and not around what is beside it
dotted_inside : winding_number (dotted ∷ []) (at_point 2 2) ≡ pos 1
unfolding winding_number
dotted_inside = refl

corners_inside : winding_number (map corners (dotted ∷ [])) (at_point 2 2) ≡ pos 1
unfolding winding_number corners turn
corners_inside = refl

corners_beside : winding_number (map corners (dotted ∷ [])) (at_point 5 2) ≡ pos 0
unfolding winding_number corners turn
corners_beside = refl

-- there and back over a point in the middle: the two ends stay
there_and_back : corners (point 0 0 ∷ point 2 0 ∷ point 4 0 ∷ point 2 0 ∷ []) ≡ (point 0 0 ∷ point 4 0 ∷ [])
unfolding corners turn
there_and_back = refl

-- a point that is repeated stays, and so does one alone
repeated : corners (point 0 0 ∷ point 4 0 ∷ point 4 0 ∷ point 4 4 ∷ []) ≡ (point 0 0 ∷ point 4 0 ∷ point 4 0 ∷ point 4 4 ∷ [])
unfolding corners turn
repeated = refl

alone : corners (point 1 1 ∷ []) ≡ (point 1 1 ∷ [])
unfolding corners turn
alone = refl
