-- A search by halves: where it ends, and how many orders it compares.
use Rattle.std.proofs.Common.{◌≡◌, ap, refl, arith, inl, inr, add-one}
use Rattle.std.specs.Prelude.{ℕ, zero, suc, Bool, true, false, ◌+◌, ◌-◌, ◌*◌, ◌/◌, ◌^◌, ◌<◌, ◌≤◌, ◌⊎◌, min}
use Rattle.std.proofs.lemmas.Bool.{both_ways, cases_lt}
use Rattle.std.proofs.Math.Nat.{two-pow-succ, add-mul, mul-le-mul_right}
use Rattle.std.proofs.Math.Pow.{pow-lt}
use Rattle.overlay_upstream.specs.SearchCosts.{IsSearchAmong}
use Rattle.overlay_sweep.specs.steps.Positions.{IsPosition}
use Rattle.overlay_sweep.proofs.laws.list.Searches.{short_count}

-- Amid a search of many: the place lies behind `base` and no more than `size` further, and so many orders were compared.
pub record IsSearching (before : ℕ → Bool) (many base size asked : ℕ) : Type 0 where
  pub some : 1 ≤ size
  pub within : base + size ≤ many
  pub last_is : (base ≡ 0) ⊎ (before base ≡ true)
  pub beyond : ℕ
  pub beyond_most : beyond ≤ base + size
  pub beyond_least : base + size ≤ beyond + 1
  pub beyond_is : (beyond ≡ many) ⊎ (before beyond ≡ false)
  pub narrow : many ≤ size * 2 ^ asked
  pub wide : size * 2 ^ asked < many + 2 ^ asked
  pub few : 2 ^ asked < 2 * many

pub search_begins : (before : ℕ → Bool) (many size asked : ℕ) → 1 ≤ size → size ≡ many → asked ≡ 0 → IsSearching before many 0 size asked
search_begins before many size asked h all none = rw (all, none) (record {
  some = omega (arith, h, all);
  within = omega arith;
  last_is = inl refl;
  beyond = many;
  beyond_most = omega arith;
  beyond_least = omega arith;
  beyond_is = inl refl;
  narrow = omega arith;
  wide = omega arith;
  few = omega (arith, h, all);
})

module _ (before : ℕ → Bool) (many base size asked : ℕ) (s : IsSearching before many base size asked) where
  -- the count stays far below its limit
  pub counts_on : many < 2 ^ 64 → (more : ℕ) → more ≡ min (asked + 1) (2 ^ 64 - 1) → more ≡ asked + 1
  counts_on short more e = omega (arith, e, short_count many asked (omega (arith, s.few)) short)

  module _ (more : 1 < size) (half : ℕ) (half_is : half ≡ size / 2) (then : ℕ) (then_is : then ≡ asked + 1) where
    doubled : 2 ^ then ≡ 2 ^ asked + 2 ^ asked
    doubled = rw (then_is, add-one) (two-pow-succ asked)

    narrow_next : many ≤ (size - half) * 2 ^ then
    narrow_next =
        let parts : size ≡ half + (size - half) = omega (arith, half_is, more) in
        let least : half ≤ size - half = omega (arith, half_is, more) in
        omega (arith, s.narrow, ap (λ n. n * 2 ^ asked) parts, add-mul half (size - half) (2 ^ asked), mul-le-mul_right (2 ^ asked) least, ap (λ q. (size - half) * q) doubled)

    wide_next : (size - half) * 2 ^ then < many + 2 ^ then
    wide_next =
        let most : (size - half) + (size - half) ≤ size + 1 = omega (arith, half_is, more) in
        omega (arith, s.wide, mul-le-mul_right (2 ^ asked) most, add-mul (size - half) (size - half) (2 ^ asked), add-mul size 1 (2 ^ asked), doubled, ap (λ q. (size - half) * q) doubled)

    few_next : 2 ^ then < 2 * many
    few_next = omega (arith, s.wide, mul-le-mul_right (2 ^ asked) more, doubled)

    pub goes_up : before (base + half) ≡ true → IsSearching before many (base + half) (size - half) then
    goes_up h = record {
      some = omega (arith, half_is, more);
      within = omega (arith, half_is, more, s.within);
      last_is = inr h;
      beyond = s.beyond;
      beyond_most = omega (arith, half_is, more, s.beyond_most);
      beyond_least = omega (arith, half_is, more, s.beyond_least);
      beyond_is = s.beyond_is;
      narrow = narrow_next;
      wide = wide_next;
      few = few_next;
    }

    pub stays_down : before (base + half) ≡ false → IsSearching before many base (size - half) then
    stays_down h = record {
      some = omega (arith, half_is, more);
      within = omega (arith, half_is, more, s.within);
      last_is = s.last_is;
      beyond = base + half;
      beyond_most = omega (arith, half_is, more);
      beyond_least = omega (arith, half_is, more);
      beyond_is = inr h;
      narrow = narrow_next;
      wide = wide_next;
      few = few_next;
    }

  module _ (one : size ≤ 1) where
    pub ends_above : before base ≡ true → IsPosition before many (base + 1)
    ends_above h = record {
      within = omega (arith, s.within, s.some);
      last_is = inr (let e : base + 1 - 1 ≡ base = omega arith in rw e h);
      first_is = elim (cases_lt base s.beyond) [
        | inl above ↦
            (let e : s.beyond ≡ base + 1 = omega (arith, above, s.beyond_most, one) in
            rw e at s.beyond_is)
        | inr below ↦
            (let e : s.beyond ≡ base = omega (arith, below, s.beyond_least, s.some) in
            elim s.beyond_is [
              | inl all ↦ absurd (omega (arith, all, e, s.within, s.some))
              | inr other ↦ absurd (both_ways _ (rw e at other) h)
            ])
      ];
    }

    pub ends_below : before base ≡ false → IsPosition before many base
    ends_below h = record {
      within = omega (arith, s.within);
      last_is = elim s.last_is [ inl first ↦ inl first | inr other ↦ absurd (both_ways _ h other) ];
      first_is = inr h;
    }

    pub ends_asked : (then : ℕ) → then ≡ asked + 1 → IsSearchAmong many then
    ends_asked then e =
        let lone : size ≡ 1 = omega (arith, one, s.some) in
        let doubled : 2 ^ then ≡ 2 ^ asked + 2 ^ asked = rw (e, add-one) (two-pow-succ asked) in (
          omega (arith, doubled, rw lone at s.narrow),
          λ d enough. elim (cases_lt asked d) [
            | inl less ↦ omega (arith, e, less)
            | inr more ↦ absurd (no_more d enough more)
          ],
        )
      where
        no_more : (d : ℕ) → 2 * many ≤ 2 ^ d → d ≤ asked → ⊥
        no_more d enough more = elim (cases_lt d asked) [
          | inl less ↦ omega (arith, s.few, enough, pow-lt less)
          | inr same ↦ (let f : d ≡ asked = omega (arith, same, more) in omega (arith, s.few, rw f at enough))
        ]
