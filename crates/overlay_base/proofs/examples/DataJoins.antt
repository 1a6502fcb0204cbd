-- Joins with data, and segments that are turned, with the calls of the hooks.
use Rattle.overlay_base.proofs.examples.Computing.{computing}
use Rattle.std.specs.Prelude.{◌≡◌, refl, ℕ, ◌+◌, ℤ, pos, Bool, true, false, List, [], ◌∷◌, if◌then◌else◌}
use Rattle.overlay_base.specs.Join.{join}
use Rattle.overlay_base.specs.EdgeData.{DataSegment, MergeCall, Hooks, without_data, data_piece, data_join}
use Rattle.overlay_base.proofs.examples.Words.{neg, point, pair, count, seg2}

data Color : Type 0 where
  red green undefined : Color

abbrev same_color : Color → Color → Bool
same_color red red = true
same_color green green = true
same_color undefined undefined = true
same_color _ _ = false

-- how often data was reversed, and the calls that merged, the last first
record Calls : Type 0 where
  reversals : ℕ
  merges : List (MergeCall Color)

abbrev no_calls : Calls
no_calls = record { reversals = 0; merges = [] }

-- equal colors stay, others become undefined
abbrev hooks : Hooks Color Calls
hooks = record {
  reversed = λ c calls. (c, record calls { reversals = calls.reversals + 1 });
  split = λ call calls. ((call.edge_data, call.edge_data), calls);
  merge = λ call calls. (if same_color call.lhs_data call.rhs_data then call.lhs_data else undefined, record calls { merges = call ∷ calls.merges });
}

abbrev colored : ℤ → ℤ → ℤ → ℤ → ℤ → ℤ → Color → DataSegment Color
colored ax ay bx by subj clip color = record { pair = pair ax ay bx by; count = count subj clip; edge_data = color }

-- two pieces on one pair: the first in the list is the left one
data_merged : data_join hooks (colored (pos 0) (pos 0) (pos 2) (pos 0) (pos 1) (pos 0) red ∷ colored (pos 2) (pos 0) (pos 4) (pos 0) (pos 0) (pos 1) green ∷ colored (pos 2) (pos 0) (pos 4) (pos 0) (pos 1) (pos 0) red ∷ colored (pos 4) (pos 0) (pos 6) (pos 0) (pos 0) (pos 1) green ∷ []) no_calls
    ≡ ((colored (pos 0) (pos 0) (pos 2) (pos 0) (pos 1) (pos 0) red ∷ colored (pos 2) (pos 0) (pos 4) (pos 0) (pos 1) (pos 1) undefined ∷ colored (pos 4) (pos 0) (pos 6) (pos 0) (pos 0) (pos 1) green ∷ []), record { reversals = 0; merges = record { lhs_data = green; lhs_count = count (pos 0) (pos 1); rhs_data = red; rhs_count = count (pos 1) (pos 0); out_count = count (pos 1) (pos 1) } ∷ [] })
unfolding computing
data_merged = refl

-- merged although the sum is empty, and dropped after that
data_cancelled : data_join hooks (colored (pos 0) (pos 0) (pos 2) (pos 0) (pos 1) (pos 0) red ∷ colored (pos 0) (pos 0) (pos 2) (pos 0) (neg 1) (pos 0) red ∷ []) no_calls
    ≡ ([], record { reversals = 0; merges = record { lhs_data = red; lhs_count = count (pos 1) (pos 0); rhs_data = red; rhs_count = count (neg 1) (pos 0); out_count = count (pos 0) (pos 0) } ∷ [] })
unfolding computing
data_cancelled = refl

-- from left to right; the last call comes first
data_three : (data_join hooks (colored (pos 0) (pos 0) (pos 2) (pos 0) (pos 1) (pos 0) red ∷ colored (pos 0) (pos 0) (pos 2) (pos 0) (pos 0) (pos 1) green ∷ colored (pos 0) (pos 0) (pos 2) (pos 0) (pos 2) (pos 0) red ∷ []) no_calls).1.merges
    ≡ (record { lhs_data = undefined; lhs_count = count (pos 1) (pos 1); rhs_data = red; rhs_count = count (pos 2) (pos 0); out_count = count (pos 3) (pos 1) } ∷ record { lhs_data = red; lhs_count = count (pos 1) (pos 0); rhs_data = green; rhs_count = count (pos 0) (pos 1); out_count = count (pos 1) (pos 1) } ∷ [])
unfolding computing
data_three = refl

-- made from the far end: turned, the count inverted, the data reversed
data_turned : data_piece hooks (count (pos 1) (pos 0)) (point (pos 3) (pos 4)) (point (pos 1) (pos 2)) red no_calls
    ≡ (colored (pos 1) (pos 2) (pos 3) (pos 4) (neg 1) (pos 0) red, record no_calls { reversals = 1 })
unfolding computing
data_turned = refl

data_turned_join : join (without_data ((data_piece hooks (count (pos 1) (pos 0)) (point (pos 3) (pos 4)) (point (pos 1) (pos 2)) red no_calls).0 ∷ (data_piece hooks (count (pos 0) (pos 1)) (point (pos 1) (pos 2)) (point (pos 3) (pos 4)) red no_calls).0 ∷ []))
    ≡ (seg2 (pos 1) (pos 2) (pos 3) (pos 4) (neg 1) (pos 1) ∷ [])
unfolding computing
data_turned_join = refl
