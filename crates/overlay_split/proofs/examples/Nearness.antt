-- How far runs move things, in halves: the bound, and distances that attain it.
use Rattle.std.proofs.Common.{arith}
use Rattle.std.specs.Prelude.{◌≡◌, refl, ℕ, pos, List, [], ◌∷◌, map}
use Rattle.std.proofs.lemmas.Int.{ints}
use Rattle.overlay_intersections.specs.Marks.{snapping, settling}
use Rattle.overlay_cuts.specs.Nearness.{whole_point, IsNear, root, reach, reach_of_run, reach_of_passes, Cancels}
use Rattle.overlay_base.proofs.examples.Words.{neg, point, pair, seg}
use Rattle.overlay_cuts.proofs.examples.Computing.{computing}
use Rattle.overlay_split.proofs.examples.Runs.{settings, high}
use Rattle.overlay_cuts.proofs.examples.Squares.{two_squares}

roots : map root (8 ∷ 9 ∷ 15 ∷ 16 ∷ []) ≡ (2 ∷ 3 ∷ 3 ∷ 4 ∷ [])
unfolding computing
roots = refl

-- a radius of 1, of 4, and none
reaches : map reach (snapping 1 ∷ snapping 16 ∷ settling ∷ []) ≡ (4 ∷ 10 ∷ 1 ∷ [])
unfolding computing
reaches = refl

-- ---- the first passes of each named precision, in halves: what they move together at most

abbrev first_six : ℕ → ℕ → List ℕ
first_six start step = map (λ k. reach_of_passes (settings start step 256) k) (1 ∷ 2 ∷ 3 ∷ 4 ∷ 5 ∷ 6 ∷ [])

absolute_passes : first_six 0 0 ≡ (4 ∷ 8 ∷ 12 ∷ 16 ∷ 20 ∷ 24 ∷ [])
unfolding computing
absolute_passes = refl

high_passes : first_six 0 1 ≡ (4 ∷ 8 ∷ 14 ∷ 20 ∷ 30 ∷ 42 ∷ [])
unfolding computing
high_passes = refl

medium_high_passes : first_six 1 1 ≡ (4 ∷ 10 ∷ 16 ∷ 26 ∷ 38 ∷ 56 ∷ [])
unfolding computing
medium_high_passes = refl

medium_passes : first_six 0 2 ≡ (4 ∷ 10 ∷ 20 ∷ 38 ∷ 72 ∷ 138 ∷ [])
unfolding computing
medium_passes = refl

medium_low_passes : first_six 2 2 ≡ (6 ∷ 16 ∷ 34 ∷ 68 ∷ 134 ∷ 264 ∷ [])
unfolding computing
medium_low_passes = refl

low_passes : first_six 2 3 ≡ (6 ∷ 18 ∷ 52 ∷ 144 ∷ 402 ∷ 1128 ∷ [])
unfolding computing
low_passes = refl

-- the first one snaps, the others settle
passes_that_settle : reach_of_passes (high 1) 5 ≡ 8
unfolding computing
passes_that_settle = refl

-- exact input
squares_stay : reach_of_run (high 256) two_squares 1 ≡ 0
unfolding computing
squares_stay = refl

-- two passes, the first one rounded
moved_in_place : reach_of_run (high 256) (seg (pos 0) (pos 0) (pos 5) (pos 5) (pos 1) ∷ seg (pos 0) (pos 3) (pos 5) (neg 2) (pos 1) ∷ []) 2 ≡ 4
unfolding computing
moved_in_place = refl

moved_to_end : reach_of_run (settings 3 1 256) (seg (pos 0) (pos 0) (pos 5) (pos 5) (pos 1) ∷ seg (pos 0) (pos 3) (pos 5) (neg 2) (pos 1) ∷ []) 2 ≡ 6
unfolding computing
moved_to_end = refl

-- there the first segment is bent through (0, 3), three halves away from it
end_is_near : IsNear 3 (whole_point (point (pos 0) (pos 3))) (pair (pos 0) (pos 0) (pos 5) (pos 5))
end_is_near = (record { part = 3; whole = 10; positive = omega arith; at_most_one = omega arith }, record { in_x = omega (arith, ints); in_y = omega (arith, ints) })

end_is_no_nearer : IsNear 2 (whole_point (point (pos 0) (pos 3))) (pair (pos 0) (pos 0) (pos 5) (pos 5)) → ⊥
end_is_no_nearer (f, near) = omega (arith, ints, f.positive, near.in_x, near.in_y)

-- the point (1/2, -1/2) settles at (1, 0): a half is attained
settled_near : IsNear 1 (whole_point (point (pos 1) (pos 0))) (pair (pos 0) (pos 0) (pos 1) (neg 1))
settled_near = (record { part = 1; whole = 2; positive = omega arith; at_most_one = omega arith }, record { in_x = omega (arith, ints); in_y = omega (arith, ints) })

settled_no_nearer : IsNear 0 (whole_point (point (pos 1) (pos 0))) (pair (pos 0) (pos 0) (pos 1) (neg 1)) → ⊥
settled_no_nearer (f, near) = omega (arith, ints, f.positive, near.in_x, near.in_y)

-- a segment there and back cancels
there_and_back : Cancels (seg (pos 0) (pos 0) (pos 4) (pos 0) (pos 1) ∷ seg (pos 0) (pos 0) (pos 4) (pos 0) (neg 1) ∷ []) (pair (pos 0) (pos 0) (pos 4) (pos 0))
unfolding computing
there_and_back = ((0, omega arith, refl), refl)
