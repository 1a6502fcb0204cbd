-- Joins, and the running sums that are made on the way.
use Rattle.overlay_base.proofs.examples.Computing.{computing}
use Rattle.std.specs.Prelude.{◌≡◌, refl, pos, true, false, [], ◌∷◌, map}
use Rattle.overlay_base.specs.Join.{join, has_equal_pairs, has_equal_neighbors, running_sums, join_leaves_range}
use Rattle.overlay_base.proofs.examples.Words.{neg, pair, seg, seg2, line, most, least}

-- three counts on one pair
join_three : join (seg (pos 1) (pos 2) (pos 3) (pos 4) (pos 1) ∷ seg2 (pos 1) (pos 2) (pos 3) (pos 4) (pos 0) (pos 1) ∷ seg2 (pos 1) (pos 2) (pos 3) (pos 4) (pos 2) (pos 2) ∷ [])
    ≡ (seg2 (pos 1) (pos 2) (pos 3) (pos 4) (pos 3) (pos 3) ∷ [])
unfolding computing
join_three = refl

-- counts that cancel
join_cancels : join (seg (pos 0) (pos 0) (pos 3) (pos 1) (pos 1) ∷ seg (pos 0) (pos 0) (pos 3) (pos 1) (neg 1) ∷ [])
    ≡ []
unfolding computing
join_cancels = refl

join_in_order : join (seg (pos 2) (pos 0) (pos 4) (pos 0) (pos 1) ∷ seg (pos 0) (pos 0) (pos 2) (pos 0) (pos 1) ∷ seg (pos 2) (pos 0) (pos 4) (pos 0) (pos 1) ∷ [])
    ≡ (seg (pos 0) (pos 0) (pos 2) (pos 0) (pos 1) ∷ seg (pos 2) (pos 0) (pos 4) (pos 0) (pos 2) ∷ [])
unfolding computing
join_in_order = refl

equal_pairs : has_equal_pairs (seg (pos 0) (pos 0) (pos 3) (pos 1) (pos 1) ∷ seg (pos 0) (pos 0) (pos 3) (pos 1) (neg 1) ∷ [])
    ≡ true
unfolding computing
equal_pairs = refl

-- equal pairs that are no neighbors
equal_pairs_apart : has_equal_pairs (seg (pos 0) (pos 0) (pos 3) (pos 1) (pos 1) ∷ seg (pos 0) (pos 0) (pos 4) (pos 0) (pos 1) ∷ seg (pos 0) (pos 0) (pos 3) (pos 1) (pos 1) ∷ [])
    ≡ true
unfolding computing
equal_pairs_apart = refl

no_equal_neighbors : has_equal_neighbors (seg (pos 0) (pos 0) (pos 3) (pos 1) (pos 1) ∷ seg (pos 0) (pos 0) (pos 4) (pos 0) (pos 1) ∷ seg (pos 0) (pos 0) (pos 3) (pos 1) (pos 1) ∷ [])
    ≡ false
unfolding computing
no_equal_neighbors = refl

sums_of_three : map (λ c. c.subj) (running_sums (seg (pos 0) (pos 0) (pos 4) (pos 0) most ∷ seg (pos 0) (pos 0) (pos 4) (pos 0) most ∷ seg (pos 0) (pos 0) (pos 4) (pos 0) least ∷ []) (pair (pos 0) (pos 0) (pos 4) (pos 0)))
    ≡ (most ∷ pos 4294967294 ∷ most ∷ [])
unfolding computing
sums_of_three = refl

-- a running sum leaves the range although the whole sum does not
range_left : join_leaves_range (seg (pos 0) (pos 0) (pos 4) (pos 0) most ∷ seg (pos 0) (pos 0) (pos 4) (pos 0) most ∷ seg (pos 0) (pos 0) (pos 4) (pos 0) least ∷ [])
    ≡ true
unfolding computing
range_left = refl

-- in another order none does
range_kept : join_leaves_range (seg (pos 0) (pos 0) (pos 4) (pos 0) most ∷ seg (pos 0) (pos 0) (pos 4) (pos 0) least ∷ seg (pos 0) (pos 0) (pos 4) (pos 0) most ∷ [])
    ≡ false
unfolding computing
range_kept = refl

range_kept_join : join (seg (pos 0) (pos 0) (pos 4) (pos 0) most ∷ seg (pos 0) (pos 0) (pos 4) (pos 0) least ∷ seg (pos 0) (pos 0) (pos 4) (pos 0) most ∷ [])
    ≡ (seg (pos 0) (pos 0) (pos 4) (pos 0) most ∷ [])
unfolding computing
range_kept_join = refl

range_left_twice : join_leaves_range (seg (pos 0) (pos 0) (pos 4) (pos 0) most ∷ seg (pos 0) (pos 0) (pos 4) (pos 0) most ∷ [])
    ≡ true
unfolding computing
range_left_twice = refl

range_left_line : join_leaves_range (line (pos 0) (pos 0) (pos 4) (pos 0) most 1 ∷ seg (pos 0) (pos 0) (pos 4) (pos 0) (pos 1) ∷ [])
    ≡ true
unfolding computing
range_left_line = refl

-- a line with no winding, run both ways
line_joined : join (line (pos 0) (pos 0) (pos 4) (pos 0) most 1 ∷ line (pos 0) (pos 0) (pos 4) (pos 0) least 2 ∷ [])
    ≡ (line (pos 0) (pos 0) (pos 4) (pos 0) (pos 0) 3 ∷ [])
unfolding computing
line_joined = refl
