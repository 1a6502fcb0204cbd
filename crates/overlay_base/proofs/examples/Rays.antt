-- The four rays of a place, and what segments each meets; and the test of balance.
use Rattle.overlay_base.proofs.examples.Computing.{computing}
use Rattle.std.specs.Prelude.{◌≡◌, refl, ℤ, ℕ, pos, true, false, List, [], ◌∷◌, map}
use Rattle.overlay_base.specs.Segments.{WholeSegment}
use Rattle.overlay_base.specs.Join.{join}
use Rattle.overlay_base.specs.BalanceTest.{end_counts}
use Rattle.overlay_base.specs.Places.{RationalPoint, winding_below}
use Rattle.overlay_base.specs.Rays.{goes_through, is_on_none, winding_above, winding_left, winding_right}
use Rattle.overlay_base.proofs.examples.Words.{neg, pair, count, seg}

abbrev place : ℤ → ℤ → ℕ → RationalPoint
place x y bottom = record { x = x; y = y; bottom = bottom }

-- a square with a corner at the bottom, run around to the left once
abbrev diamond : List WholeSegment
diamond = seg (pos 0) (pos 2) (pos 2) (pos 0) (pos 1) ∷ seg (pos 0) (pos 2) (pos 2) (pos 4) (neg 1) ∷ seg (pos 2) (pos 0) (pos 4) (pos 2) (pos 1) ∷ seg (pos 2) (pos 4) (pos 4) (pos 2) (neg 1) ∷ []

-- its middle, straight below, above and beside corners; at a quarter of the way to a corner; outside, at the heights of corners
abbrev places : List RationalPoint
places = place (pos 2) (pos 2) 1 ∷ place (pos 5) (pos 4) 2 ∷ place (pos 2) (pos 5) 1 ∷ place (pos 5) (pos 2) 1 ∷ place (neg 1) (pos 0) 1 ∷ []

diamond_below : map (winding_below diamond) places ≡ (count (pos 1) (pos 0) ∷ count (pos 1) (pos 0) ∷ count (pos 0) (pos 0) ∷ count (pos 0) (pos 0) ∷ count (pos 0) (pos 0) ∷ [])
unfolding computing
diamond_below = refl

diamond_above : map (winding_above diamond) places ≡ (count (pos 1) (pos 0) ∷ count (pos 1) (pos 0) ∷ count (pos 0) (pos 0) ∷ count (pos 0) (pos 0) ∷ count (pos 0) (pos 0) ∷ [])
unfolding computing
diamond_above = refl

diamond_left : map (winding_left diamond) places ≡ (count (pos 1) (pos 0) ∷ count (pos 1) (pos 0) ∷ count (pos 0) (pos 0) ∷ count (pos 0) (pos 0) ∷ count (pos 0) (pos 0) ∷ [])
unfolding computing
diamond_left = refl

diamond_right : map (winding_right diamond) places ≡ (count (pos 1) (pos 0) ∷ count (pos 1) (pos 0) ∷ count (pos 0) (pos 0) ∷ count (pos 0) (pos 0) ∷ count (pos 0) (pos 0) ∷ [])
unfolding computing
diamond_right = refl

-- all of them lie on none of its sides
places_are_free : map (is_on_none diamond) places ≡ (true ∷ true ∷ true ∷ true ∷ true ∷ [])
unfolding computing
places_are_free = refl

-- a square with its vertical sides: these are met by the rays to the left and to the right alone
abbrev square : List WholeSegment
square = seg (pos 0) (pos 0) (pos 0) (pos 4) (neg 1) ∷ seg (pos 0) (pos 0) (pos 4) (pos 0) (pos 1) ∷ seg (pos 0) (pos 4) (pos 4) (pos 4) (neg 1) ∷ seg (pos 4) (pos 0) (pos 4) (pos 4) (pos 1) ∷ []

square_winds : (winding_below square (place (pos 1) (pos 1) 1) ∷ winding_above square (place (pos 1) (pos 1) 1) ∷ winding_left square (place (pos 1) (pos 1) 1) ∷ winding_right square (place (pos 1) (pos 1) 1) ∷ [])
    ≡ (count (pos 1) (pos 0) ∷ count (pos 1) (pos 0) ∷ count (pos 1) (pos 0) ∷ count (pos 1) (pos 0) ∷ [])
unfolding computing
square_winds = refl

-- without balance rays differ: of one side alone, the ray down meets it and the ray up does not
side_alone : (winding_below (seg (pos 0) (pos 0) (pos 4) (pos 0) (pos 1) ∷ []) (place (pos 1) (pos 1) 1) ∷ winding_above (seg (pos 0) (pos 0) (pos 4) (pos 0) (pos 1) ∷ []) (place (pos 1) (pos 1) 1) ∷ [])
    ≡ (count (pos 1) (pos 0) ∷ count (pos 0) (pos 0) ∷ [])
unfolding computing
side_alone = refl

-- at half a unit's height on a side, at an end of it, and beyond that end
on_a_side : map (goes_through (pair (pos 0) (pos 0) (pos 1) (pos 1))) (place (pos 1) (pos 1) 2 ∷ place (pos 1) (pos 1) 1 ∷ place (pos 3) (pos 3) 2 ∷ []) ≡ (true ∷ true ∷ false ∷ [])
unfolding computing
on_a_side = refl

-- ---- balance

diamond_is_balanced : join (end_counts diamond) ≡ []
unfolding computing
diamond_is_balanced = refl

-- a lone side is not, at either end
side_is_not : join (end_counts (seg (pos 0) (pos 0) (pos 4) (pos 0) (pos 1) ∷ [])) ≡ seg (pos 0) (pos 0) (pos 0) (pos 0) (pos 1) ∷ seg (pos 4) (pos 0) (pos 4) (pos 0) (neg 1) ∷ []
unfolding computing
side_is_not = refl

-- a line alone is: its mask has no weight
line_is_balanced : join (end_counts (record { pair = pair (pos 0) (pos 0) (pos 4) (pos 0); count = record { subj = pos 0; clip = pos 0; mask = 2 } } ∷ [])) ≡ []
unfolding computing
line_is_balanced = refl

-- of two segments in a row the counts cancel where they meet, and there alone
chain_is_not :
    join (end_counts (seg (pos 0) (pos 0) (pos 4) (pos 0) (pos 1) ∷ seg (pos 4) (pos 0) (pos 8) (pos 0) (pos 1) ∷ []))
    ≡ seg (pos 0) (pos 0) (pos 0) (pos 0) (pos 1) ∷ seg (pos 8) (pos 0) (pos 8) (pos 0) (neg 1) ∷ []
unfolding computing
chain_is_not = refl
