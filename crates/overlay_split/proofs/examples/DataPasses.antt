-- Passes with data, with the calls of the hooks.
use Rattle.std.proofs.Common.{arith}
use Rattle.std.specs.Prelude.{◌≡◌, refl, IsTrue, IsFalse, ℕ, zero, suc, ◌+◌, ◌<◌, ℤ, pos, Bool, true, false, List, [], ◌∷◌, if◌then◌else◌}
use Rattle.overlay_base.specs.EdgeData.{DataSegment, MergeCall, Hooks, without_data}
use Rattle.overlay_cuts.specs.DataPass.{data_after_passes, data_store_before, IsStoppedRun}
use Rattle.overlay_cuts.specs.Run.{goes_on, leaves_range_within}
use Rattle.overlay_base.proofs.examples.Words.{neg, pair, count}
use Rattle.overlay_cuts.proofs.examples.Computing.{computing}
use Rattle.overlay_split.proofs.examples.Runs.{high}

data Color : Type 0 where
  red green undefined : Color

abbrev same_color : Color → Color → Bool
same_color red red = true
same_color green green = true
same_color undefined undefined = true
same_color _ _ = false

-- how often data was split and reversed, and the calls that merged, the last first
record Calls : Type 0 where
  splits : ℕ
  reversals : ℕ
  merges : List (MergeCall Color)

abbrev no_calls : Calls
no_calls = record { splits = 0; reversals = 0; merges = [] }

-- equal colors stay, others become undefined
abbrev hooks : Hooks Color Calls
hooks = record {
  reversed = λ c calls. (c, record calls { reversals = calls.reversals + 1 });
  split = λ call calls. ((call.edge_data, call.edge_data), record calls { splits = calls.splits + 1 });
  merge = λ call calls. (if same_color call.lhs_data call.rhs_data then call.lhs_data else undefined, record calls { merges = call ∷ calls.merges });
}

abbrev colored : ℤ → ℤ → ℤ → ℤ → ℤ → ℤ → Color → DataSegment Color
colored ax ay bx by subj clip color = record { pair = pair ax ay bx by; count = count subj clip; edge_data = color }

-- an overlap: the piece that takes its segment's place comes first
overlap_merges : data_after_passes hooks (high 256) (colored (pos 0) (pos 0) (pos 4) (pos 0) (pos 1) (pos 0) red ∷ colored (pos 2) (pos 0) (pos 6) (pos 0) (pos 0) (pos 1) green ∷ []) no_calls 1
    ≡ ((colored (pos 0) (pos 0) (pos 2) (pos 0) (pos 1) (pos 0) red ∷ colored (pos 2) (pos 0) (pos 4) (pos 0) (pos 1) (pos 1) undefined ∷ colored (pos 4) (pos 0) (pos 6) (pos 0) (pos 0) (pos 1) green ∷ []), record { splits = 2; reversals = 0; merges = record { lhs_data = green; lhs_count = count (pos 0) (pos 1); rhs_data = red; rhs_count = count (pos 1) (pos 0); out_count = count (pos 1) (pos 1) } ∷ [] })
unfolding computing
overlap_merges = refl

-- the store before each of the two passes: nothing was merged by the first join
abbrev overlap : List (DataSegment Color)
overlap = colored (pos 0) (pos 0) (pos 4) (pos 0) (pos 1) (pos 0) red ∷ colored (pos 2) (pos 0) (pos 6) (pos 0) (pos 0) (pos 1) green ∷ []

store_before_first : data_store_before hooks (high 256) overlap no_calls 1 ≡ no_calls
unfolding computing
store_before_first = refl

store_before_second : (data_store_before hooks (high 256) overlap no_calls 2).splits ≡ 2
unfolding computing
store_before_second = refl

-- a segment bent through another's end: its lower half runs backward
bent_is_reversed : data_after_passes hooks (high 256) (colored (pos 0) (pos 0) (pos 100) (pos 1) (pos 1) (pos 0) red ∷ colored (pos 1) (neg 50) (pos 1) (pos 50) (pos 1) (pos 0) red ∷ []) no_calls 2
    ≡ ((colored (pos 0) (pos 0) (pos 1) (neg 50) (neg 1) (pos 0) red ∷ colored (pos 0) (pos 0) (pos 1) (pos 50) (pos 1) (pos 0) red ∷ colored (pos 0) (pos 0) (pos 100) (pos 1) (pos 1) (pos 0) red ∷ []), record { splits = 1; reversals = 1; merges = [] })
unfolding computing
bent_is_reversed = refl

-- Two overlaps, the second one too large: the four splits were made, and the first overlap was merged.
abbrev two_overlaps : List (DataSegment Color)
two_overlaps = colored (pos 0) (pos 0) (pos 4) (pos 0) (pos 1) (pos 0) red ∷ colored (pos 2) (pos 0) (pos 6) (pos 0) (pos 0) (pos 1) green ∷ colored (pos 10) (pos 0) (pos 14) (pos 0) (pos 2147483647) (pos 0) red ∷ colored (pos 12) (pos 0) (pos 16) (pos 0) (pos 1) (pos 0) green ∷ []

stopped_between : IsStoppedRun hooks (high 256) two_overlaps no_calls (record { splits = 4; reversals = 0; merges = record { lhs_data = green; lhs_count = count (pos 0) (pos 1); rhs_data = red; rhs_count = count (pos 1) (pos 0); out_count = count (pos 1) (pos 1) } ∷ [] })
unfolding computing
stopped_between = record {
  in_pass = 1;
  made = made;
  fits = fits;
  stopped = record { stop = 6; before_end = let less : 6 < 8 = omega arith in less; fits = refl; leaves = refl; store = refl };
}
  where
    made : (j : ℕ) → j < 1 → IsTrue (goes_on (high 256) (without_data two_overlaps) j)
    made zero h = refl
    made (suc j) h = absurd (omega arith)

    fits : (j : ℕ) → j < 1 → IsFalse (leaves_range_within (high 256) (without_data two_overlaps) j)
    fits zero h = refl
    fits (suc j) h = absurd (omega arith)

-- the given segments themselves: the first two are one pair and too large, so that no hook was called
stopped_at_once : IsStoppedRun hooks (high 256) (colored (pos 0) (pos 0) (pos 4) (pos 0) (pos 2147483647) (pos 0) red ∷ colored (pos 0) (pos 0) (pos 4) (pos 0) (pos 1) (pos 0) green ∷ []) no_calls no_calls
unfolding computing
stopped_at_once = record {
  in_pass = 0;
  made = λ j h. absurd (omega arith);
  fits = λ j h. absurd (omega arith);
  stopped = record { stop = 1; before_end = let less : 1 < 2 = omega arith in less; fits = refl; leaves = refl; store = refl };
}
