-- How many entries a look-up compares that it does not take up: in small subtrees that it passes over; all but the last have one that it
-- takes up.
use Rattle.std.proofs.Common.{◌≡◌, refl, ap, ◌∙◌, ℕ, ◌+◌, ◌-◌, ◌^◌, ◌<◌, ◌≤◌, arith, Bool, true, false, not, ◌&&◌, cond, List, [], ◌∷◌, ◌++◌, length, length-append, inl, inr, ◌⊎◌}
use Rattle.std.specs.Prelude.{ℤ, ◌<ℤ◌, ◌≤ℤ◌, int_lt, min, count_by, Option, Some, None}
use Rattle.std.specs.Int.{int_max}
use Rattle.std.specs.List.{AllByRecursion}
use Rattle.std.proofs.lemmas.Bool.{cases_Bool}
use Rattle.std.proofs.lemmas.Int.{ints, clamps, by_lt_z}
use Rattle.std.proofs.lemmas.List.Sums.{count_by-le-length}
use Rattle.overlay_geometry.proofs.laws.integers.Tests.{lt-tested_false, lt-test_false}
use Rattle.overlay_geometry.proofs.laws.lists.Lists.{AllByRecursion_left, AllByRecursion_right, AllByRecursion-weaker}
use Rattle.overlay_tree.specs.steps.IntervalTree.{Entry, WholeQuery, HasLooked, StandsBefore, is_taken_up, is_reached, greatest_height, live_height, further}
use Rattle.overlay_tree.proofs.laws.tree.IntervalTrees.{IsNotTaken, none_counted, count_by-append}
use Rattle.overlay_tree.proofs.laws.tree.LookCounts.{count_by-cons, one_if}

-- an entry begins within the reach of a look-up
abbrev pub IsWithinReach : WholeQuery → Entry → Type 0
IsWithinReach q e = int_lt q.high e.low ≡ false

-- ---- a height that is reached

either_reached : (a b : Option ℤ) (low : ℤ) → is_reached (further a b) low ≡ true → (is_reached a low ≡ true) ⊎ (is_reached b low ≡ true)
either_reached None b low h = inr h
either_reached (Some a) None low h = inl h
either_reached (Some a) (Some b) low h = by_lt_z a b (λ (l : a <ℤ b). inr (ap (λ (z : ℤ). not (int_lt z low)) (greater a b l) ∙ h)) (λ g. inl (ap (λ (z : ℤ). not (int_lt z low)) (at_least a b g) ∙ h))
  where
    greater : (a b : ℤ) → a <ℤ b → b ≡ int_max a b
    greater a b l = omega (arith, ints, clamps, l)

    at_least : (a b : ℤ) → b ≤ℤ a → a ≡ int_max a b
    at_least a b g = omega (arith, ints, clamps, g)

taken_by : (live high low : Bool) → live ≡ true → high ≡ false → low ≡ false → (live && (not high && not low)) ≡ true
taken_by live high low e f g = rw (e, f, g) refl

live_taken : (q : WholeQuery) (e : Entry) → is_reached (live_height e) q.low ≡ true → IsWithinReach q e → is_taken_up q e ≡ true
live_taken q e h within = elim (cases_Bool e.is_live) [
  | inl live ↦ taken_by e.is_live (int_lt e.high q.low) (int_lt q.high e.low) live (reached e.is_live live h) within
  | inr dead ↦ absurd (unreached e.is_live dead h)
]
  where
    reached : (b : Bool) → b ≡ true → is_reached (cond b (Some e.high) None) q.low ≡ true → int_lt e.high q.low ≡ false
    reached true e h = grind arith
    reached false e h = absurd (cc)

    unreached : (b : Bool) → b ≡ false → is_reached (cond b (Some e.high) None) q.low ≡ true → ⊥
    unreached true e h = absurd (cc)
    unreached false e h = absurd (cc)

some_taken : (q : WholeQuery) (es : List Entry) → is_reached (greatest_height es) q.low ≡ true → AllByRecursion (IsWithinReach q) es → 0 < count_by (is_taken_up q) es
some_taken q [] h within = absurd (cc)
some_taken q (e ∷ es) h within = elim (either_reached (live_height e) (greatest_height es) q.low h) [
  | inl own ↦ (let taken : one_if (is_taken_up q e) ≡ 1 = ap one_if (live_taken q e own within.0) in let sum = count_by-cons (is_taken_up q) e es in omega (arith, taken, sum))
  | inr rest ↦ (let more = some_taken q es rest within.1 in let sum = count_by-cons (is_taken_up q) e es in omega (arith, more, sum))
]

-- ---- what is compared

capped_by : (m c n k w : ℕ) → k ≡ c + n → min (m + k) w ≡ min (m + (c + n)) w
capped_by m c n k w e = omega (arith, e)

-- a small subtree in which some live entry is reached
pub looked_among : (q : WholeQuery) (es : List Entry) (m n : ℕ) → length es ≤ 8 → is_reached (greatest_height es) q.low ≡ true → n ≡ min (m + length es) (2 ^ 128 - 1) → HasLooked q es m n
looked_among q es m n few reached h =
    let fewer = count_by-le-length (is_taken_up q) es in
    record {
      others = length es - count_by (is_taken_up q) es;
      is = h ∙ capped_by m (count_by (is_taken_up q) es) (length es - count_by (is_taken_up q) es) (length es) (2 ^ 128 - 1) (omega (arith, fewer));
      most = omega (arith, few);
      reached = λ within. let some = some_taken q es reached within in omega (arith, few, some);
      within = omega (arith, fewer);
    }

-- entries, none of which is taken up
pub looked_none : (q : WholeQuery) (es : List Entry) (m : ℕ) → m ≤ 2 ^ 128 - 1 → AllByRecursion (IsNotTaken q) es → HasLooked q es m m
looked_none q es m fits none =
    let count = none_counted q es none in
    record {
      others = 0;
      is = omega (arith, fits, count);
      most = omega arith;
      reached = λ within. omega arith;
      within = omega (arith, count);
    }

-- an entry before others
pub looked_first : (q : WholeQuery) (e : Entry) (es : List Entry) (m k n : ℕ) → k ≡ min (m + count_by (is_taken_up q) (e ∷ [])) (2 ^ 128 - 1) → HasLooked q es k n → HasLooked q (e ∷ es) m n
looked_first q e es m k n own rest =
    let sum = count_by-append (is_taken_up q) (e ∷ []) es in
    let one = count_by-le-length (is_taken_up q) (e ∷ []) in
    record {
      others = rest.others;
      is = rest.is ∙ added m (count_by (is_taken_up q) (e ∷ [])) (count_by (is_taken_up q) es) (count_by (is_taken_up q) (e ∷ es)) rest.others k (2 ^ 128 - 1) own sum;
      most = let most = rest.most in omega (arith, most, sum);
      reached = λ within. let fewer = rest.reached within.1 in omega (arith, fewer, sum);
      within = let all = rest.within in omega (arith, all, sum, one);
    }
  where
    added : (m a b c o k w : ℕ) → k ≡ min (m + a) w → c ≡ a + b → min (k + (b + o)) w ≡ min (m + (c + o)) w
    added m a b c o k w e f = omega (arith, e, f)

-- a left part and what follows it, which is within reach, or where no more is compared than is taken up
pub looked_both : (q : WholeQuery) (ls rs : List Entry) (k m n : ℕ) → HasLooked q ls k m → (right : HasLooked q rs m n) → (AllByRecursion (IsWithinReach q) ls) ⊎ (right.others ≡ 0) → HasLooked q (ls ++ rs) k n
looked_both q ls rs k m n left right far =
    let sum = count_by-append (is_taken_up q) ls rs in
    let most = left.most in
    let most_right = right.most in
    record {
      others = left.others + right.others;
      is = right.is ∙ added k (count_by (is_taken_up q) ls + left.others) (count_by (is_taken_up q) rs + right.others) (count_by (is_taken_up q) (ls ++ rs) + (left.others + right.others)) m (2 ^ 128 - 1) left.is (omega (arith, sum));
      most = elim far [
        | inl within ↦ (let fewer = left.reached within in omega (arith, fewer, most_right, sum))
        | inr none ↦ omega (arith, most, none, sum)
      ];
      reached = λ within.
          let fewer = left.reached (AllByRecursion_left (IsWithinReach q) ls rs within) in
          let fewer_right = right.reached (AllByRecursion_right (IsWithinReach q) ls rs within) in
          omega (arith, fewer, fewer_right, sum);
      within = let all = left.within in let all_right = right.within in let long = length-append ls rs in omega (arith, all, all_right, long, sum);
    }
  where
    added : (k a b c m w : ℕ) → m ≡ min (k + a) w → c ≡ a + b → min (m + b) w ≡ min (k + c) w
    added k a b c m w e f = omega (arith, e, f)

-- what begins before an entry within reach is within reach
pub within_reach_before : (q : WholeQuery) (root : Entry) (es : List Entry) → IsWithinReach q root → AllByRecursion (λ e. StandsBefore e root) es → AllByRecursion (IsWithinReach q) es
within_reach_before q root es h before = AllByRecursion-weaker (λ e. StandsBefore e root) (IsWithinReach q) (λ e b. lt-test_false q.high e.low (let top = lt-tested_false q.high root.low h in elim b [ inl less ↦ omega (arith, ints, top, less) | inr same ↦ (let low = same.0 in omega (arith, ints, top, low)) ])) es before
