-- How long the lists are that a run joins, and the run that is stopped where one is longer than a limit.
use Rattle.std.specs.Prelude.{ℕ, ◌<◌, ◌≤◌, List, length, IsTrue, IsFalse}
use Rattle.overlay_base.specs.Segments.{WholeSegment}
use Rattle.overlay_cuts.specs.Nearness.{joined_in}
use Rattle.overlay_cuts.specs.Run.{Settings, goes_on, leaves_range_within}

-- what a run joins in its first passes, the given segments and the pieces of each of these passes, has at most so many segments each time
abbrev pub JoinsAtMost : Settings → List WholeSegment → ℕ → ℕ → Type 0
JoinsAtMost settings given limit passes = (k : ℕ) → k ≤ passes → length (joined_in settings given k) ≤ limit

-- Pass k of a run, 0 for the join of the given segments, is the first that would join more segments than a limit: the passes up to it are made, and every sum before it is in range.
pub record IsFirstBeyond (settings : Settings) (given : List WholeSegment) (limit k : ℕ) : Type 0 where
  pub made : (j : ℕ) → j < k → IsTrue (goes_on settings given j)
  pub fits : (j : ℕ) → j < k → IsFalse (leaves_range_within settings given j)
  pub within : (j : ℕ) → j < k → length (joined_in settings given j) ≤ limit
  pub beyond : limit < length (joined_in settings given k)
