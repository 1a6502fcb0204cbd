-- A search by halves that drops what has ended: where it ends, and how many orders it compares.
use Rattle.std.proofs.Common.{◌≡◌, ap, refl, ◌∙◌, arith, inl, inr, add-one}
use Rattle.std.specs.Prelude.{ℕ, zero, suc, Bool, true, false, ◌+◌, ◌-◌, ◌*◌, ◌^◌, ◌<◌, ◌≤◌, ◌⊎◌, min, List, [], ◌∷◌, ◌++◌, take, drop, length}
use Rattle.std.proofs.lemmas.Bool.{cases_lt}
use Rattle.std.proofs.Math.Nat.{two-pow-succ, add-mul, mul-le-mul_right}
use Rattle.overlay_base.specs.Segments.{WholeSegment}
use Rattle.overlay_sweep.specs.LiveRows.{segment_at}
use Rattle.overlay_sweep.specs.LivePositions.{HasNext, IsLivePosition}
use Rattle.overlay_sweep.proofs.laws.list.Searches.{short_count}

-- ---- where the place lies

-- Amid a search: the place lies between `low` and `high`.
pub record IsHalving (lasts before : WholeSegment → Bool) (ks : List WholeSegment) (low high : ℕ) : Type 0 where
  pub order : low ≤ high
  pub last_is : (low ≡ 0) ⊎ ((lasts (segment_at ks (low - 1)) ≡ true) × (before (segment_at ks (low - 1)) ≡ true))
  pub behind : HasNext (λ i. lasts (segment_at ks i)) (λ i. before (segment_at ks i)) (length ks) high

read_before : (ks : List WholeSegment) (i k : ℕ) → k < i → i < length ks → segment_at (take i ks ++ drop (suc i) ks) k ≡ segment_at ks k
read_before [] i k h w = absurd (omega (arith, w))
read_before (s ∷ ks) zero k h w = absurd (omega (arith, h))
read_before (s ∷ ks) (suc i) zero h w = refl
read_before (s ∷ ks) (suc i) (suc k) h w = read_before ks i k (omega (arith, h)) (omega (arith, w))

read_behind : (ks : List WholeSegment) (i k : ℕ) → i ≤ k → segment_at (take i ks ++ drop (suc i) ks) k ≡ segment_at ks (suc k)
read_behind [] zero k h = refl
read_behind [] (suc i) k h = refl
read_behind (s ∷ ks) zero k h = refl
read_behind (s ∷ ks) (suc i) zero h = absurd (omega (arith, h))
read_behind (s ∷ ks) (suc i) (suc k) h = read_behind ks i k (omega (arith, h))

length-without : (ks : List WholeSegment) (i : ℕ) → i < length ks → length (take i ks ++ drop (suc i) ks) + 1 ≡ length ks
length-without [] i h = absurd (omega (arith, h))
length-without (s ∷ ks) zero h = omega arith
length-without (s ∷ ks) (suc i) h = let e = length-without ks i (omega (arith, h)) in omega (arith, e)

-- an entry has ended, and those behind it up to an index
pub ended_from : (lasts : ℕ → Bool) (middle high : ℕ) → lasts middle ≡ false → ((k : ℕ) → middle + 1 ≤ k → k < high → lasts k ≡ false) → (k : ℕ) → middle ≤ k → k < high → lasts k ≡ false
ended_from lasts middle high here behind k a b = elim (cases_lt middle k) [
  | inl later ↦ behind k (omega (arith, later)) b
  | inr first ↦ (let same : k ≡ middle = omega (arith, first, a) in rw same here)
]

module _ (lasts before : WholeSegment → Bool) (ks : List WholeSegment) where
  pub halving_begins : (high : ℕ) → HasNext (λ i. lasts (segment_at ks i)) (λ i. before (segment_at ks i)) (length ks) high → IsHalving lasts before ks 0 high
  halving_begins high next = record { order = omega arith; last_is = inl refl; behind = next }

  module _ (low high : ℕ) (s : IsHalving lasts before ks low high) where
    pub halving_within : high ≤ length ks
    halving_within = omega (arith, s.behind.order, s.behind.within)

    module _ (middle : ℕ) (above : low ≤ middle) (under : middle < high) where
      pub halving_inside : middle < length ks
      halving_inside = omega (arith, under, halving_within)

      pub halving_up : lasts (segment_at ks middle) ≡ true → before (segment_at ks middle) ≡ true → IsHalving lasts before ks (middle + 1) high
      halving_up l b = record { order = omega (arith, under); last_is = inr (let e : middle + 1 - 1 ≡ middle = omega arith in rw e (l, b)); behind = s.behind }

      -- down to an entry that lasts, and further where those just below it have ended
      pub halving_down : lasts (segment_at ks middle) ≡ true → before (segment_at ks middle) ≡ false → (at : ℕ) → low ≤ at → at ≤ middle → ((k : ℕ) → at ≤ k → k < middle → lasts (segment_at ks k) ≡ false) → IsHalving lasts before ks low at
      halving_down l b at first order ended = record {
        order = first;
        last_is = s.last_is;
        behind = record { next = middle; order = order; within = omega (arith, halving_inside); ended = ended; is = inr (l, b) };
      }

      -- down past the last entries, where they have ended
      pub halving_past : ((k : ℕ) → middle ≤ k → k < high → lasts (segment_at ks k) ≡ false) → IsHalving lasts before ks low middle
      halving_past gone = record {
        order = above;
        last_is = s.last_is;
        behind = record {
          next = s.behind.next;
          order = omega (arith, s.behind.order, under);
          within = s.behind.within;
          ended = λ k a b. elim (cases_lt k high) [ inl inside ↦ gone k a inside | inr past ↦ s.behind.ended k past b ];
          is = s.behind.is;
        };
      }

      abbrev left : List WholeSegment
      left = take middle ks ++ drop (suc middle) ks

      one_less : length left + 1 ≡ length ks
      one_less = length-without ks middle halving_inside

      low_stays : (low ≡ 0) ⊎ ((lasts (segment_at ks (low - 1)) ≡ true) × (before (segment_at ks (low - 1)) ≡ true)) → (low ≡ 0) ⊎ ((lasts (segment_at left (low - 1)) ≡ true) × (before (segment_at left (low - 1)) ≡ true))
      low_stays (inl none) = inl none
      low_stays (inr is) = elim (cases_lt 0 low) [
        | inl some ↦ (let e = read_before ks middle (low - 1) (omega (arith, some, above)) halving_inside in inr (ap lasts e ∙ is.0, ap before e ∙ is.1))
        | inr none ↦ inl (omega (arith, none))
      ]

      next_stays : HasNext (λ i. lasts (segment_at ks i)) (λ i. before (segment_at ks i)) (length ks) high → HasNext (λ i. lasts (segment_at left i)) (λ i. before (segment_at left i)) (length left) (high - 1)
      next_stays n = record {
        next = n.next - 1;
        order = omega (arith, n.order, under);
        within = omega (arith, n.within, one_less);
        ended = λ k a b. ap lasts (read_behind ks middle k (omega (arith, a, under))) ∙ n.ended (suc k) (omega (arith, a, under)) (omega (arith, b, n.order, under));
        is = elim n.is [
          | inl all ↦ inl (omega (arith, all, one_less))
          | inr is ↦
              (let e = read_behind ks middle (n.next - 1) (omega (arith, n.order, under)) in
              let same : suc (n.next - 1) ≡ n.next = omega (arith, n.order, under) in
              let at = e ∙ ap (segment_at ks) same in
              inr (ap lasts at ∙ is.0, ap before at ∙ is.1))
        ];
      }

      pub halving_without : IsHalving lasts before (take middle ks ++ drop (suc middle) ks) low (high - 1)
      halving_without = record { order = omega (arith, above, under); last_is = low_stays s.last_is; behind = next_stays s.behind }

    pub halving_ends : high ≤ low → IsLivePosition (λ i. lasts (segment_at ks i)) (λ i. before (segment_at ks i)) (length ks) low
    halving_ends all =
        let same : high ≡ low = omega (arith, all, s.order) in record {
          within = omega (arith, s.order, halving_within);
          last_is = s.last_is;
          behind = rw same at s.behind;
        }

-- ---- how many orders

-- Amid a search that began among `first` entries: so many are between `low` and `high`, and so many orders were compared.
pub record IsCounting (first size asked : ℕ) : Type 0 where
  pub narrow : size * 2 ^ asked ≤ first
  pub few : (asked ≡ 0) ⊎ (2 ^ asked ≤ 2 * first)

pub counting_begins : (first size asked : ℕ) → size ≡ first → asked ≡ 0 → IsCounting first size asked
counting_begins first size asked all none = rw (all, none) (record { narrow = omega arith; few = inl refl })

module _ (first size asked : ℕ) (s : IsCounting first size asked) where
  -- the count stays far below its limit
  pub counts_one : first < 2 ^ 64 → (more : ℕ) → more ≡ min (asked + 1) (2 ^ 64 - 1) → more ≡ asked + 1
  counts_one short more e = elim s.few [
    | inl none ↦ omega (arith, e, none)
    | inr few ↦ omega (arith, e, short_count first asked few short)
  ]

  -- fewer are left, and no order was compared
  pub counting_without : (left : ℕ) → left ≤ size → IsCounting first left asked
  counting_without left fewer = record { narrow = omega (arith, s.narrow, mul-le-mul_right (2 ^ asked) fewer); few = s.few }

  -- one order was compared
  module _ (some : 1 ≤ size) (then : ℕ) (then_is : then ≡ asked + 1) where
    doubled : 2 ^ then ≡ 2 ^ asked + 2 ^ asked
    doubled = rw (then_is, add-one) (two-pow-succ asked)

    pub counting_half : (left : ℕ) → left + left ≤ size → IsCounting first left then
    counting_half left h = record {
      narrow = omega (arith, s.narrow, mul-le-mul_right (2 ^ asked) h, add-mul left left (2 ^ asked), ap (λ q. left * q) doubled);
      few = inr (omega (arith, doubled, mul-le-mul_right (2 ^ asked) some, s.narrow));
    }
