-- Turns, distances, and points on a pair.
use Rattle.overlay_base.proofs.examples.Computing.{computing}
use Rattle.std.specs.Prelude.{◌≡◌, refl, pos, true, false}
use Rattle.overlay_geometry.specs.Points.{turn, sqr_distance, lies_on, is_strictly_inside}
use Rattle.overlay_base.proofs.examples.Words.{neg, point, pair}

-- to the left
turn_left : turn (point (pos 0) (pos 0)) (point (pos 4) (pos 0)) (point (pos 4) (pos 4))
    ≡ pos 16
unfolding computing
turn_left = refl

-- to the right
turn_right : turn (point (pos 0) (pos 0)) (point (pos 4) (pos 4)) (point (pos 4) (pos 0))
    ≡ neg 16
unfolding computing
turn_right = refl

-- on one line
turn_straight : turn (point (pos 0) (pos 0)) (point (pos 2) (pos 2)) (point (pos 5) (pos 5))
    ≡ pos 0
unfolding computing
turn_straight = refl

-- the widest engine: the square of 2^31 - 1
turn_widest : turn (point (neg 1073741824) (neg 1073741824)) (point (pos 1073741823) (neg 1073741824)) (point (pos 1073741823) (pos 1073741823))
    ≡ pos 4611686014132420609
unfolding computing
turn_widest = refl

distance : sqr_distance (point (neg 1) (pos 1)) (point (pos 2) (neg 3))
    ≡ 25
unfolding computing
distance = refl

on_inside : is_strictly_inside (pair (pos 0) (pos 0) (pos 4) (pos 2)) (point (pos 2) (pos 1))
    ≡ true
unfolding computing
on_inside = refl

-- an end lies on the pair, and not inside
end_on : lies_on (pair (pos 0) (pos 0) (pos 4) (pos 2)) (point (pos 4) (pos 2))
    ≡ true
unfolding computing
end_on = refl

end_not_inside : is_strictly_inside (pair (pos 0) (pos 0) (pos 4) (pos 2)) (point (pos 4) (pos 2))
    ≡ false
unfolding computing
end_not_inside = refl

-- on the line, beyond the end
on_line_outside : lies_on (pair (pos 0) (pos 0) (pos 4) (pos 2)) (point (pos 6) (pos 3))
    ≡ false
unfolding computing
on_line_outside = refl

-- in the box, off the line
off_line : lies_on (pair (pos 0) (pos 0) (pos 4) (pos 2)) (point (pos 2) (pos 2))
    ≡ false
unfolding computing
off_line = refl
