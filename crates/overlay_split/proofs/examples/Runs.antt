-- Whole runs: the arrangement after some passes, how many are made, the flag, potentials, and sums that leave the range.
use Rattle.std.proofs.Common.{arith}
use Rattle.std.specs.Prelude.{◌≡◌, refl, IsTrue, ◌<◌, ℕ, zero, suc, pos, Bool, true, false, ◌&&◌, List, [], ◌∷◌, map}
use Rattle.overlay_base.specs.Segments.{WholeSegment}
use Rattle.overlay_base.specs.Join.{join}
use Rattle.overlay_cuts.specs.Run.{Settings, after_passes, goes_on, radius_of_pass, has_changed, leaves_range_within, IsPassCount}
use Rattle.overlay_cuts.specs.Potential.{potential}
use Rattle.overlay_base.proofs.examples.Words.{neg, seg}
use Rattle.overlay_cuts.proofs.examples.Computing.{computing}
use Rattle.overlay_cuts.proofs.examples.Squares.{two_squares, twelve}

-- the radius starts at 2^start and grows by the progression
abbrev pub settings : ℕ → ℕ → ℕ → Settings
settings start progression limit = record { start = start; progression = progression; cap = 56; limit = limit }

abbrev pub high : ℕ → Settings
high limit = settings 0 1 limit

abbrev goes_on_below : Settings → List WholeSegment → ℕ → Bool
goes_on_below s given zero = true
goes_on_below s given (suc k) = goes_on_below s given k && goes_on s given k

-- the arrangement after k passes, whether each of them is made, whether one more is, and the flag
abbrev outcome : Settings → List WholeSegment → ℕ → List WholeSegment × Bool × Bool × Bool
outcome s given k = (after_passes s given k, goes_on_below s given k, goes_on s given k, has_changed s given k)

nothing_given : outcome (high 256) ([]) 0
    ≡ (([]), true, false, false)
unfolding computing
nothing_given = refl

-- two that are apart: one pass, which marks nothing
nothing_marked : outcome (high 256) (seg (pos 0) (pos 0) (pos 4) (pos 0) (pos 2147483647) ∷ seg (pos 0) (pos 1) (pos 4) (pos 1) (pos 2147483647) ∷ []) 1
    ≡ ((seg (pos 0) (pos 0) (pos 4) (pos 0) (pos 2147483647) ∷ seg (pos 0) (pos 1) (pos 4) (pos 1) (pos 2147483647) ∷ []), true, false, false)
unfolding computing
nothing_marked = refl

-- an exact crossing: one pass
exact_crossing : outcome (high 256) (seg (neg 2) (pos 0) (pos 2) (pos 0) (pos 1) ∷ seg (pos 0) (neg 2) (pos 0) (pos 2) (pos 1) ∷ []) 1
    ≡ ((seg (neg 2) (pos 0) (pos 0) (pos 0) (pos 1) ∷ seg (pos 0) (neg 2) (pos 0) (pos 0) (pos 1) ∷ seg (pos 0) (pos 0) (pos 0) (pos 2) (pos 1) ∷ seg (pos 0) (pos 0) (pos 2) (pos 0) (pos 1) ∷ []), true, false, true)
unfolding computing
exact_crossing = refl

-- an overlap
overlap : outcome (high 256) (seg (pos 0) (pos 0) (pos 100) (pos 0) (pos 1) ∷ seg (pos 80) (pos 0) (pos 150) (pos 0) (pos 1) ∷ seg (pos 0) (pos 1000) (pos 150) (pos 1000) (pos 1) ∷ seg (pos 0) (pos 2000) (pos 150) (pos 2000) (pos 1) ∷ []) 1
    ≡ ((seg (pos 0) (pos 0) (pos 80) (pos 0) (pos 1) ∷ seg (pos 0) (pos 1000) (pos 150) (pos 1000) (pos 1) ∷ seg (pos 0) (pos 2000) (pos 150) (pos 2000) (pos 1) ∷ seg (pos 80) (pos 0) (pos 100) (pos 0) (pos 2) ∷ seg (pos 100) (pos 0) (pos 150) (pos 0) (pos 1) ∷ []), true, false, true)
unfolding computing
overlap = refl

-- a touch
touch : outcome (high 256) (seg (pos 4) (pos 0) (pos 4) (pos 6) (pos 1) ∷ seg (pos 0) (pos 3) (pos 4) (pos 3) (pos 1) ∷ seg (pos 0) (pos 100) (pos 8) (pos 100) (pos 1) ∷ seg (pos 0) (pos 102) (pos 8) (pos 102) (pos 1) ∷ []) 1
    ≡ ((seg (pos 0) (pos 3) (pos 4) (pos 3) (pos 1) ∷ seg (pos 0) (pos 100) (pos 8) (pos 100) (pos 1) ∷ seg (pos 0) (pos 102) (pos 8) (pos 102) (pos 1) ∷ seg (pos 4) (pos 0) (pos 4) (pos 3) (pos 1) ∷ seg (pos 4) (pos 3) (pos 4) (pos 6) (pos 1) ∷ []), true, false, true)
unfolding computing
touch = refl

-- a crossing off the whole points, beyond the radius of every end
crossing_in_place : outcome (high 256) (seg (pos 0) (pos 0) (pos 5) (pos 5) (pos 1) ∷ seg (pos 0) (pos 3) (pos 5) (neg 2) (pos 1) ∷ []) 2
    ≡ ((seg (pos 0) (pos 0) (pos 2) (pos 2) (pos 1) ∷ seg (pos 0) (pos 3) (pos 2) (pos 2) (pos 1) ∷ seg (pos 2) (pos 2) (pos 5) (neg 2) (pos 1) ∷ seg (pos 2) (pos 2) (pos 5) (pos 5) (pos 1) ∷ []), true, false, true)
unfolding computing
crossing_in_place = refl

-- a wide radius: one segment is bent through the other's end
snapped_to_end : outcome (settings 3 1 256) (seg (pos 0) (pos 0) (pos 5) (pos 5) (pos 1) ∷ seg (pos 0) (pos 3) (pos 5) (neg 2) (pos 1) ∷ []) 2
    ≡ ((seg (pos 0) (pos 0) (pos 0) (pos 3) (pos 1) ∷ seg (pos 0) (pos 3) (pos 5) (neg 2) (pos 1) ∷ seg (pos 0) (pos 3) (pos 5) (pos 5) (pos 1) ∷ []), true, false, true)
unfolding computing
snapped_to_end = refl

-- a vertical segment is bent through the end of a flat one: its lower half runs backward
snapped_to_target : outcome (high 256) (seg (pos 0) (pos 0) (pos 100) (pos 1) (pos 1) ∷ seg (pos 1) (neg 50) (pos 1) (pos 50) (pos 1) ∷ []) 2
    ≡ ((seg (pos 0) (pos 0) (pos 1) (neg 50) (neg 1) ∷ seg (pos 0) (pos 0) (pos 1) (pos 50) (pos 1) ∷ seg (pos 0) (pos 0) (pos 100) (pos 1) (pos 1) ∷ []), true, false, true)
unfolding computing
snapped_to_target = refl

-- the limit counts passes that snap: the first one may
limit_of_one : outcome (high 1) (seg (pos 0) (pos 0) (pos 100) (pos 1) (pos 1) ∷ seg (pos 1) (neg 50) (pos 1) (pos 50) (pos 1) ∷ []) 2
    ≡ ((seg (pos 0) (pos 0) (pos 1) (neg 50) (neg 1) ∷ seg (pos 0) (pos 0) (pos 1) (pos 50) (pos 1) ∷ seg (pos 0) (pos 0) (pos 100) (pos 1) (pos 1) ∷ []), true, false, true)
unfolding computing
limit_of_one = refl

-- with the limit 0 the first pass settles
settled : outcome (high 0) (seg (pos 0) (pos 0) (pos 100) (pos 1) (pos 1) ∷ seg (pos 1) (neg 50) (pos 1) (pos 50) (pos 1) ∷ []) 2
    ≡ ((seg (pos 0) (pos 0) (pos 1) (pos 0) (pos 1) ∷ seg (pos 1) (neg 50) (pos 1) (pos 0) (pos 1) ∷ seg (pos 1) (pos 0) (pos 1) (pos 50) (pos 1) ∷ seg (pos 1) (pos 0) (pos 100) (pos 1) (pos 1) ∷ []), true, false, true)
unfolding computing
settled = refl

-- a point that is an end of one marks the other alone
settled_on_end : outcome (high 0) (seg (pos 0) (neg 1) (pos 1) (pos 0) (pos 1) ∷ seg (pos 0) (pos 0) (pos 1) (neg 1) (pos 1) ∷ []) 2
    ≡ ((seg (pos 0) (neg 1) (pos 1) (pos 0) (pos 1) ∷ seg (pos 0) (pos 0) (pos 1) (pos 0) (pos 1) ∷ seg (pos 1) (neg 1) (pos 1) (pos 0) (neg 1) ∷ []), true, false, true)
unfolding computing
settled_on_end = refl

-- a half settles upward
settled_upward : outcome (high 0) (seg (neg 1) (pos 1) (pos 2) (neg 2) (pos 1) ∷ seg (pos 0) (neg 1) (pos 1) (pos 0) (pos 1) ∷ []) 2
    ≡ ((seg (neg 1) (pos 1) (pos 1) (pos 0) (pos 1) ∷ seg (pos 0) (neg 1) (pos 1) (pos 0) (pos 1) ∷ seg (pos 1) (pos 0) (pos 2) (neg 2) (pos 1) ∷ []), true, false, true)
unfolding computing
settled_upward = refl

settled_between : outcome (high 0) (seg (pos 0) (pos 0) (pos 5) (pos 5) (pos 1) ∷ seg (pos 0) (pos 3) (pos 5) (neg 2) (pos 1) ∷ []) 2
    ≡ ((seg (pos 0) (pos 0) (pos 2) (pos 2) (pos 1) ∷ seg (pos 0) (pos 3) (pos 2) (pos 2) (pos 1) ∷ seg (pos 2) (pos 2) (pos 5) (neg 2) (pos 1) ∷ seg (pos 2) (pos 2) (pos 5) (pos 5) (pos 1) ∷ []), true, false, true)
unfolding computing
settled_between = refl

-- the exact point is (-1/2, -1/2)
half_away : outcome (settings 0 1 256) (seg (neg 16384) (neg 16384) (pos 16383) (pos 16383) (pos 1) ∷ seg (neg 16384) (pos 16383) (pos 16383) (neg 16384) (pos 1) ∷ []) 2
    ≡ ((seg (neg 16384) (neg 16384) (pos 0) (pos 0) (pos 1) ∷ seg (neg 16384) (pos 16383) (pos 0) (pos 0) (pos 1) ∷ seg (pos 0) (pos 0) (pos 16383) (neg 16384) (pos 1) ∷ seg (pos 0) (pos 0) (pos 16383) (pos 16383) (pos 1) ∷ []), true, false, true)
unfolding computing
half_away = refl

half_upward : outcome (high 0) (seg (neg 16384) (neg 16384) (pos 16383) (pos 16383) (pos 1) ∷ seg (neg 16384) (pos 16383) (pos 16383) (neg 16384) (pos 1) ∷ []) 2
    ≡ ((seg (neg 16384) (neg 16384) (pos 0) (pos 0) (pos 1) ∷ seg (neg 16384) (pos 16383) (pos 0) (pos 0) (pos 1) ∷ seg (pos 0) (pos 0) (pos 16383) (neg 16384) (pos 1) ∷ seg (pos 0) (pos 0) (pos 16383) (pos 16383) (pos 1) ∷ []), true, false, true)
unfolding computing
half_upward = refl

long_slivers : outcome (high 256) (seg (pos 0) (pos 0) (pos 100) (pos 1) (pos 1) ∷ seg (pos 0) (pos 1) (pos 100) (pos 0) (pos 1) ∷ []) 2
    ≡ ((seg (pos 0) (pos 0) (pos 50) (pos 1) (pos 1) ∷ seg (pos 0) (pos 1) (pos 50) (pos 1) (pos 1) ∷ seg (pos 50) (pos 1) (pos 100) (pos 0) (pos 1) ∷ seg (pos 50) (pos 1) (pos 100) (pos 1) (pos 1) ∷ []), true, false, true)
unfolding computing
long_slivers = refl

-- over wide coordinates
wide_slivers : outcome (high 256) (seg (neg 1073741824) (pos 0) (pos 1073741822) (pos 1) (pos 1) ∷ seg (neg 1073741824) (pos 1) (pos 1073741822) (pos 0) (pos 1) ∷ []) 2
    ≡ ((seg (neg 1073741824) (pos 0) (neg 1) (pos 1) (pos 1) ∷ seg (neg 1073741824) (pos 1) (neg 1) (pos 1) (pos 1) ∷ seg (neg 1) (pos 1) (pos 1073741822) (pos 0) (pos 1) ∷ seg (neg 1) (pos 1) (pos 1073741822) (pos 1) (pos 1) ∷ []), true, false, true)
unfolding computing
wide_slivers = refl

wide_slivers_settled : outcome (high 0) (seg (neg 1073741824) (pos 0) (pos 1073741822) (pos 1) (pos 1) ∷ seg (neg 1073741824) (pos 1) (pos 1073741822) (pos 0) (pos 1) ∷ []) 2
    ≡ ((seg (neg 1073741824) (pos 0) (neg 1) (pos 1) (pos 1) ∷ seg (neg 1073741824) (pos 1) (neg 1) (pos 1) (pos 1) ∷ seg (neg 1) (pos 1) (pos 1073741822) (pos 0) (pos 1) ∷ seg (neg 1) (pos 1) (pos 1073741822) (pos 1) (pos 1) ∷ []), true, false, true)
unfolding computing
wide_slivers_settled = refl

-- a radius as great as it can be set
greatest_settings : outcome (settings 18446744073709551615 18446744073709551615 256) (seg (pos 0) (pos 0) (pos 5) (pos 5) (pos 1) ∷ seg (pos 0) (pos 3) (pos 5) (neg 2) (pos 1) ∷ []) 2
    ≡ ((seg (pos 0) (pos 0) (pos 0) (pos 3) (pos 1) ∷ seg (pos 0) (pos 3) (pos 5) (neg 2) (pos 1) ∷ seg (pos 0) (pos 3) (pos 5) (pos 5) (pos 1) ∷ []), true, false, true)
unfolding computing
greatest_settings = refl

-- the number of passes of two segments that cross exactly
counts_one_pass : IsPassCount (high 256) (seg (neg 2) (pos 0) (pos 2) (pos 0) (pos 1) ∷ seg (pos 0) (neg 2) (pos 0) (pos 2) (pos 1) ∷ []) 1
unfolding computing
counts_one_pass = record { made = made; no_more = refl }
  where
    made : (j : ℕ) → j < 1 → IsTrue (goes_on (high 256) (seg (neg 2) (pos 0) (pos 2) (pos 0) (pos 1) ∷ seg (pos 0) (neg 2) (pos 0) (pos 2) (pos 1) ∷ []) j)
    made zero h = refl
    made (suc j) h = absurd (omega arith)

squares_become_twelve : outcome (high 256) two_squares 1
    ≡ (twelve, true, false, true)
unfolding computing
squares_become_twelve = refl

-- ---- potentials

potential_given : potential (after_passes (high 0) (seg (pos 0) (pos 0) (pos 100) (pos 1) (pos 1) ∷ seg (pos 1) (neg 50) (pos 1) (pos 50) (pos 1) ∷ []) 0)
    ≡ 199
unfolding computing
potential_given = refl

-- two marks, and lower by two
potential_after_settling : potential (after_passes (high 0) (seg (pos 0) (pos 0) (pos 100) (pos 1) (pos 1) ∷ seg (pos 1) (neg 50) (pos 1) (pos 50) (pos 1) ∷ []) 1)
    ≡ 197
unfolding computing
potential_after_settling = refl

potential_of_three : potential (join (seg (neg 1) (pos 1) (pos 2) (neg 2) (pos 1) ∷ seg (pos 0) (neg 1) (pos 1) (pos 0) (pos 1) ∷ []))
    ≡ 6
unfolding computing
potential_of_three = refl

-- one mark
potential_of_three_after : potential (after_passes (high 0) (seg (neg 1) (pos 1) (pos 2) (neg 2) (pos 1) ∷ seg (pos 0) (neg 1) (pos 1) (pos 0) (pos 1) ∷ []) 1)
    ≡ 5
unfolding computing
potential_of_three_after = refl

potential_of_cross : potential (join (seg (pos 0) (pos 0) (pos 5) (pos 5) (pos 1) ∷ seg (pos 0) (pos 3) (pos 5) (neg 2) (pos 1) ∷ []))
    ≡ 18
unfolding computing
potential_of_cross = refl

potential_of_cross_after : potential (after_passes (high 0) (seg (pos 0) (pos 0) (pos 5) (pos 5) (pos 1) ∷ seg (pos 0) (pos 3) (pos 5) (neg 2) (pos 1) ∷ []) 1)
    ≡ 16
unfolding computing
potential_of_cross_after = refl

-- ---- the range of sums

-- in range where it is joined
joined_in_range : leaves_range_within (high 256) (seg (pos 0) (pos 0) (pos 4) (pos 0) (pos 2147483647) ∷ seg (pos 2) (pos 0) (pos 6) (pos 0) (pos 1) ∷ []) 0
    ≡ false
unfolding computing
joined_in_range = refl

-- but not after the first pass
first_pass_leaves_range : leaves_range_within (high 256) (seg (pos 0) (pos 0) (pos 4) (pos 0) (pos 2147483647) ∷ seg (pos 2) (pos 0) (pos 6) (pos 0) (pos 1) ∷ []) 1
    ≡ true
unfolding computing
first_pass_leaves_range = refl

-- a sum of counts of both signs
first_pass_in_range : outcome (high 256) (seg (pos 0) (pos 0) (pos 4) (pos 0) (pos 2147483647) ∷ seg (pos 2) (pos 0) (pos 6) (pos 0) (neg 1) ∷ []) 1
    ≡ ((seg (pos 0) (pos 0) (pos 2) (pos 0) (pos 2147483647) ∷ seg (pos 2) (pos 0) (pos 4) (pos 0) (pos 2147483646) ∷ seg (pos 4) (pos 0) (pos 6) (pos 0) (neg 1) ∷ []), true, false, true)
unfolding computing
first_pass_in_range = refl

-- a count that is turned stays in range
turned_in_range : leaves_range_within (high 256) (seg (pos 0) (pos 0) (pos 100) (pos 1) (pos 1) ∷ seg (pos 1) (neg 50) (pos 1) (pos 50) (pos 2147483647) ∷ []) 2
    ≡ false
unfolding computing
turned_in_range = refl

-- ---- radii

-- squared radii, from pass to pass
radii_grow : map (radius_of_pass (record { start = 0; progression = 1; cap = 24; limit = 4 })) (1 ∷ 2 ∷ 3 ∷ 4 ∷ [])
    ≡ (1 ∷ 2 ∷ 4 ∷ 8 ∷ [])
unfolding computing
radii_grow = refl

-- no greater than the cap allows
radii_reach_cap : map (radius_of_pass (record { start = 23; progression = 1; cap = 24; limit = 4 })) (1 ∷ 2 ∷ 3 ∷ [])
    ≡ (8388608 ∷ 16777216 ∷ 16777216 ∷ [])
unfolding computing
radii_reach_cap = refl

radii_stay_at_cap : map (radius_of_pass (record { start = 24; progression = 18446744073709551615; cap = 24; limit = 4 })) (1 ∷ 2 ∷ 3 ∷ [])
    ≡ (16777216 ∷ 16777216 ∷ 16777216 ∷ [])
unfolding computing
radii_stay_at_cap = refl
