-- How long the lists are that a run joins: two lines that cross between whole points fall into four pieces.
use Rattle.std.proofs.Common.{arith}
use Rattle.std.specs.Prelude.{◌≡◌, refl, IsTrue, IsFalse, ◌<◌, ◌≤◌, ℕ, zero, suc, pos, List, [], ◌∷◌, map, length}
use Rattle.overlay_base.specs.Segments.{WholeSegment}
use Rattle.overlay_cuts.specs.Nearness.{joined_in}
use Rattle.overlay_cuts.specs.Run.{goes_on, leaves_range_within}
use Rattle.overlay_split.specs.RunLengths.{JoinsAtMost, IsFirstBeyond}
use Rattle.overlay_base.proofs.examples.Words.{neg, seg}
use Rattle.overlay_cuts.proofs.examples.Computing.{computing}
use Rattle.overlay_split.proofs.examples.Runs.{high}

abbrev lines : List WholeSegment
lines = seg (pos 0) (pos 0) (pos 5) (pos 5) (pos 1) ∷ seg (pos 0) (pos 3) (pos 5) (neg 2) (pos 1) ∷ []

lengths_of_joins : map (λ k. length (joined_in (high 256) lines k)) (0 ∷ 1 ∷ 2 ∷ []) ≡ 2 ∷ 4 ∷ 4 ∷ []
unfolding computing
lengths_of_joins = refl

within_four : JoinsAtMost (high 256) lines 4 2
unfolding computing
within_four zero h = omega arith
within_four (suc zero) h = omega arith
within_four (suc (suc zero)) h = omega arith
within_four (suc (suc (suc k))) h = absurd (omega arith)

-- a limit of three is too low for the first pass
first_pass_beyond_three : IsFirstBeyond (high 256) lines 3 1
unfolding computing
first_pass_beyond_three = record { made = made; fits = fits; within = within; beyond = omega arith }
  where
    made : (j : ℕ) → j < 1 → IsTrue (goes_on (high 256) lines j)
    made zero h = refl
    made (suc j) h = absurd (omega arith)

    fits : (j : ℕ) → j < 1 → IsFalse (leaves_range_within (high 256) lines j)
    fits zero h = refl
    fits (suc j) h = absurd (omega arith)

    within : (j : ℕ) → j < 1 → length (joined_in (high 256) lines j) ≤ 3
    within zero h = omega arith
    within (suc j) h = absurd (omega arith)

-- one of one for the given list
given_beyond_one : IsFirstBeyond (high 256) lines 1 0
unfolding computing
given_beyond_one = record { made = λ j h. absurd (omega (arith, h)); fits = λ j h. absurd (omega (arith, h)); within = λ j h. absurd (omega (arith, h)); beyond = omega arith }
