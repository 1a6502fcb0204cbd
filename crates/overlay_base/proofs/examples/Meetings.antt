-- How two pairs meet, and lists that are planar, arranged or fit to be split.
use Rattle.overlay_base.proofs.examples.Computing.{computing}
use Rattle.std.specs.Prelude.{◌≡◌, refl, pos, true, false, [], ◌∷◌}
use Rattle.overlay_geometry.specs.Meeting.{meeting, crossing, touch, overlap, apart}
use Rattle.overlay_base.specs.Planar.{is_planar, is_splittable, is_arranged}
use Rattle.overlay_base.proofs.examples.Words.{neg, pair, seg, line, least}

meet_cross : meeting (pair (neg 2) (pos 0) (pos 2) (pos 0)) (pair (pos 0) (neg 2) (pos 0) (pos 2))
    ≡ crossing
unfolding computing
meet_cross = refl

-- at no whole point
meet_cross_between : meeting (pair (pos 0) (pos 0) (pos 5) (pos 5)) (pair (pos 0) (pos 3) (pos 5) (neg 2))
    ≡ crossing
unfolding computing
meet_cross_between = refl

-- an end of the second inside the first
meet_end_inside : meeting (pair (pos 4) (pos 0) (pos 4) (pos 6)) (pair (pos 0) (pos 3) (pos 4) (pos 3))
    ≡ touch
unfolding computing
meet_end_inside = refl

-- an end of the first inside the second
meet_end_inside_other : meeting (pair (neg 512000) (pos 0) (pos 512000) (pos 0)) (pair (neg 512000) (neg 512000) (neg 512000) (pos 512000))
    ≡ touch
unfolding computing
meet_end_inside_other = refl

meet_overlap : meeting (pair (neg 1024) (pos 0) (pos 512) (pos 0)) (pair (pos 0) (pos 0) (pos 1024) (pos 0))
    ≡ overlap
unfolding computing
meet_overlap = refl

meet_overlap_slanted : meeting (pair (neg 276659431) (pos 380789039) (neg 221915258) (pos 435533212)) (pair (neg 276659432) (pos 380789038) (neg 276659430) (pos 380789040))
    ≡ overlap
unfolding computing
meet_overlap_slanted = refl

-- a common end
meet_at_end : meeting (pair (neg 512000) (pos 512000) (pos 512000) (pos 512000)) (pair (neg 512000) (pos 512000) (neg 512000) (neg 512000))
    ≡ apart
unfolding computing
meet_at_end = refl

-- one after the other on a line
meet_on_line : meeting (pair (pos 0) (pos 0) (pos 1) (pos 0)) (pair (pos 2) (pos 0) (pos 3) (pos 0))
    ≡ apart
unfolding computing
meet_on_line = refl

meet_itself : meeting (pair (pos 0) (pos 0) (pos 4) (pos 2)) (pair (pos 0) (pos 0) (pos 4) (pos 2))
    ≡ apart
unfolding computing
meet_itself = refl

planar_result : is_arranged (neg 1073741824) (pos 1073741823) (seg (pos 0) (pos 0) (pos 80) (pos 0) (pos 1) ∷ seg (pos 0) (pos 1000) (pos 150) (pos 1000) (pos 1) ∷ seg (pos 0) (pos 2000) (pos 150) (pos 2000) (pos 1) ∷ seg (pos 80) (pos 0) (pos 100) (pos 0) (pos 2) ∷ seg (pos 100) (pos 0) (pos 150) (pos 0) (pos 1) ∷ [])
    ≡ true
unfolding computing
planar_result = refl

-- apart, and not in order
not_in_order : is_arranged (neg 1073741824) (pos 1073741823) (seg (pos 0) (pos 1000) (pos 150) (pos 1000) (pos 1) ∷ seg (pos 0) (pos 0) (pos 80) (pos 0) (pos 1) ∷ [])
    ≡ false
unfolding computing
not_in_order = refl

-- neighbors in the list are apart, the first and the last cross
not_planar : is_planar (seg (pos 0) (pos 0) (pos 4) (pos 4) (pos 1) ∷ seg (pos 0) (pos 1) (pos 1) (pos 9) (pos 1) ∷ seg (pos 0) (pos 4) (pos 4) (pos 0) (pos 1) ∷ [])
    ≡ false
unfolding computing
not_planar = refl

-- a coordinate that is too large
too_far : is_splittable (neg 1073741824) (pos 1073741823) (seg (pos 0) (pos 0) (pos 1073741824) (pos 0) (pos 1) ∷ [])
    ≡ false
unfolding computing
too_far = refl

beyond_twenty_bits : is_splittable (neg 1073741824) (pos 1073741823) (seg (pos 0) (pos 0) (pos 524288) (pos 0) (pos 1) ∷ [])
    ≡ true
unfolding computing
beyond_twenty_bits = refl

too_far_narrow : is_splittable (neg 16384) (pos 16383) (seg (pos 0) (pos 0) (pos 16384) (pos 0) (pos 1) ∷ [])
    ≡ false
unfolding computing
too_far_narrow = refl

as_far_as_can_be : is_splittable (neg 16384) (pos 16383) (seg (neg 16384) (pos 16383) (pos 16383) (neg 16384) (pos 1) ∷ [])
    ≡ true
unfolding computing
as_far_as_can_be = refl

count_too_low : is_splittable (neg 1073741824) (pos 1073741823) (seg (pos 0) (pos 0) (pos 4) (pos 0) (neg 2147483648) ∷ [])
    ≡ false
unfolding computing
count_too_low = refl

count_as_low_as_can_be : is_splittable (neg 1073741824) (pos 1073741823) (seg (pos 0) (pos 0) (pos 4) (pos 0) least ∷ [])
    ≡ true
unfolding computing
count_as_low_as_can_be = refl

mask_too_large : is_splittable (neg 1073741824) (pos 1073741823) (line (pos 0) (pos 0) (pos 4) (pos 0) (pos 1) 4 ∷ [])
    ≡ false
unfolding computing
mask_too_large = refl

count_empty : is_splittable (neg 1073741824) (pos 1073741823) (seg (pos 0) (pos 0) (pos 4) (pos 0) (pos 0) ∷ [])
    ≡ false
unfolding computing
count_empty = refl
