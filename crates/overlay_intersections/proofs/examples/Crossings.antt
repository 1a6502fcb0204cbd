-- Crossings worked by hand. Each holds by computation.
use Rattle.std.specs.Prelude.{◌≡◌, refl, pos, ℤ, Bool, true, false, Some, None}
use Rattle.overlay_base.proofs.examples.Words.{neg, point, pair}
use Rattle.overlay_intersections.specs.Marks.{snapping, settling}
use Rattle.overlay_intersections.specs.CrossAnswer.{CrossKind, pure, target_end, other_end, overlay, CrossAnswer, cross_answer, ends_mask}
use Rattle.overlay_intersections.proofs.examples.Computing.{computing}

abbrev answer : CrossKind → ℤ → ℤ → Bool → CrossAnswer
answer kind x y rounded = record { kind = kind; point = point x y; is_rounded = rounded }

-- beyond the radius of every end
beyond_every_radius : cross_answer (snapping 4) (pair (pos 0) (pos 0) (pos 5) (pos 5)) (pair (pos 0) (pos 3) (pos 5) (neg 2))
    ≡ Some (answer pure (pos 2) (pos 2) true)
unfolding computing
beyond_every_radius = refl

-- within the radius of one end
on_the_radius_of_an_end : cross_answer (snapping 5) (pair (pos 0) (pos 0) (pos 5) (pos 5)) (pair (pos 0) (pos 3) (pos 5) (neg 2))
    ≡ Some (answer other_end (pos 0) (pos 3) true)
unfolding computing
on_the_radius_of_an_end = refl

vertical_near_an_end : cross_answer (snapping 1) (pair (pos 0) (pos 0) (pos 100) (pos 1)) (pair (pos 1) (neg 50) (pos 1) (pos 50))
    ≡ Some (answer target_end (pos 0) (pos 0) true)
unfolding computing
vertical_near_an_end = refl

-- exactly at (-1/2, -1/2)
narrow_diagonals : cross_answer (snapping 1) (pair (neg 16384) (neg 16384) (pos 16383) (pos 16383)) (pair (neg 16384) (pos 16383) (pos 16383) (neg 16384))
    ≡ Some (answer pure (pos 0) (pos 0) true)
unfolding computing
narrow_diagonals = refl

wide_diagonals : cross_answer (snapping 1) (pair (neg 1073741824) (neg 1073741824) (pos 1073741823) (pos 1073741823)) (pair (neg 1073741824) (pos 1073741823) (pos 1073741823) (neg 1073741824))
    ≡ Some (answer pure (pos 0) (pos 0) true)
unfolding computing
wide_diagonals = refl

nearly_parallel : cross_answer (snapping 2) (pair (pos 7256) (neg 14637) (pos 7454) (neg 15045)) (pair (pos 7343) (neg 14833) (pos 7506) (neg 15144))
    ≡ Some (answer pure (pos 7453) (neg 15042) true)
unfolding computing
nearly_parallel = refl

-- a touch
touch_at_an_end : cross_answer (snapping 2) (pair (neg 512000) (pos 0) (pos 512000) (pos 0)) (pair (neg 512000) (neg 512000) (neg 512000) (pos 512000))
    ≡ Some (answer target_end (neg 512000) (pos 0) false)
unfolding computing
touch_at_an_end = refl

overlap_on_a_line : cross_answer (snapping 2) (pair (neg 1024) (pos 0) (pos 512) (pos 0)) (pair (pos 0) (pos 0) (pos 1024) (pos 0))
    ≡ Some (answer overlay (pos 0) (pos 0) false)
unfolding computing
overlap_on_a_line = refl

overlap_mask : ends_mask (pair (neg 1024) (pos 0) (pos 512) (pos 0)) (pair (pos 0) (pos 0) (pos 1024) (pos 0))
    ≡ 6
unfolding computing
overlap_mask = refl

flat_beyond_every_radius : cross_answer (snapping 1) (pair (pos 0) (pos 0) (pos 100) (pos 1)) (pair (pos 0) (pos 1) (pos 100) (pos 0))
    ≡ Some (answer pure (pos 50) (pos 1) true)
unfolding computing
flat_beyond_every_radius = refl

two_ends_as_near : cross_answer (snapping 2500) (pair (pos 0) (pos 0) (pos 100) (pos 1)) (pair (pos 0) (pos 1) (pos 100) (pos 0))
    ≡ Some (answer target_end (pos 100) (pos 1) true)
unfolding computing
two_ends_as_near = refl

-- a shared end
shared_end : cross_answer (snapping 2) (pair (neg 512000) (pos 512000) (pos 512000) (pos 512000)) (pair (neg 512000) (pos 512000) (neg 512000) (neg 512000))
    ≡ None
unfolding computing
shared_end = refl

-- truncated along the axis to (1, 0)
half_along_an_axis : cross_answer (snapping 1) (pair (pos 0) (pos 0) (pos 2) (pos 0)) (pair (pos 0) (pos 1) (pos 3) (neg 1))
    ≡ Some (answer target_end (pos 2) (pos 0) true)
unfolding computing
half_along_an_axis = refl

exact_far_out : cross_answer (snapping 2) (pair (neg 1024000000) (neg 1024000000) (pos 1024000000) (pos 1024000000)) (pair (pos 512000000) (neg 1024000000) (pos 512000000) (pos 1024000000))
    ≡ Some (answer pure (pos 512000000) (pos 512000000) false)
unfolding computing
exact_far_out = refl

inexact_far_out : cross_answer (snapping 2) (pair (neg 8555798) (neg 1599355) (neg 1024000) (pos 0)) (pair (neg 8571363) (pos 1513719) (neg 1023948) (neg 10239))
    ≡ Some (answer pure (neg 1048691) (neg 5243) true)
unfolding computing
inexact_far_out = refl

overlap_far_out : cross_answer (snapping 2) (pair (neg 276659431) (pos 380789039) (neg 221915258) (pos 435533212)) (pair (neg 276659432) (pos 380789038) (neg 276659430) (pos 380789040))
    ≡ Some (answer overlay (pos 0) (pos 0) false)
unfolding computing
overlap_far_out = refl

mask_far_out : ends_mask (pair (neg 276659431) (pos 380789039) (neg 221915258) (pos 435533212)) (pair (neg 276659432) (pos 380789038) (neg 276659430) (pos 380789040))
    ≡ 9
unfolding computing
mask_far_out = refl

-- settled: a half goes upward, whichever way the target runs
settled_upward : cross_answer settling (pair (neg 1) (pos 1) (pos 2) (neg 2)) (pair (pos 0) (neg 1) (pos 1) (pos 0))
    ≡ Some (answer other_end (pos 1) (pos 0) true)
unfolding computing
settled_upward = refl

settled_on_an_end : cross_answer settling (pair (pos 0) (neg 1) (pos 1) (pos 0)) (pair (pos 0) (pos 0) (pos 1) (neg 1))
    ≡ Some (answer target_end (pos 1) (pos 0) true)
unfolding computing
settled_on_an_end = refl
