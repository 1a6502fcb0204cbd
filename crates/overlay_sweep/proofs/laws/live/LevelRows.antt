-- Rows of level segments: any two are apart, and what is live among them stays rows.
use Rattle.std.proofs.Common.{◌≡◌, ◌∙◌, ap, sym, subst, arith, inl, inr}
use Rattle.std.specs.Prelude.{ℕ, ◌*◌, ◌<◌, ◌⊎◌, ℤ, pos, ◌≤ℤ◌, int_lt, true, IsTrue, List, [], ◌∷◌}
use Rattle.std.specs.Int.{int_min, int_max}
use Rattle.std.specs.List.{Contains}
use Rattle.std.proofs.lemmas.Bool.{cases_lt, and_from, or_left, or_right}
use Rattle.std.proofs.lemmas.Int.{ints, clamps}
use Rattle.overlay_geometry.specs.Points.{Pair}
use Rattle.overlay_base.specs.Segments.{WholeSegment}
use Rattle.overlay_geometry.specs.Meeting.{are_apart}
use Rattle.overlay_geometry.specs.Ranges.{heights, is_off_range}
use Rattle.overlay_base.proofs.laws.geometry.Apart.{are_apart-itself, apart_in_y}
use Rattle.overlay_sweep.specs.Live.{HoldSameFrom, AreFreeAt}
use Rattle.overlay_sweep.specs.steps.LevelRows.{level_pair, level_row, AreRows}
use Rattle.overlay_geometry.proofs.laws.integers.Tests.{lt-test}
use Rattle.overlay_geometry.proofs.laws.lists.Elements.{Contains-from_Has, Has-from_Contains}

off_range : (j k : ℕ) → (j < k) ⊎ (k < j) → IsTrue (is_off_range (heights (level_pair j)) (level_pair k))
off_range j k (inl h) =
    let over : int_lt (int_max (pos (2 * j)) (pos (2 * j))) (pos (2 * k)) ≡ true = lt-test (int_max (pos (2 * j)) (pos (2 * j))) (pos (2 * k)) (omega (arith, ints, clamps, h)) in
    or_right _ _ (and_from _ _ over over)
off_range j k (inr h) =
    let under : int_lt (pos (2 * k)) (int_min (pos (2 * j)) (pos (2 * j))) ≡ true = lt-test (pos (2 * k)) (int_min (pos (2 * j)) (pos (2 * j))) (omega (arith, ints, clamps, h)) in
    or_left _ _ (and_from _ _ under under)

pub rows_apart : (j k : ℕ) → are_apart (level_pair j) (level_pair k) ≡ true
rows_apart j k =
    elim (cases_lt j k) [
      | inl h ↦ apart_in_y (level_pair j) (level_pair k) (off_range j k (inl h))
      | inr h ↦ elim (cases_lt k j) [
        | inl g ↦ apart_in_y (level_pair j) (level_pair k) (off_range j k (inr g))
        | inr g ↦ let same : j ≡ k = omega (arith, g, h) in subst (λ n. are_apart (level_pair j) (level_pair n) ≡ true) same (are_apart-itself (level_pair j))
      ]
    ]

pub rows_free : (x : ℤ) (sums : List WholeSegment) → AreRows x sums → AreFreeAt x sums
rows_free x sums rows = record {
  apart = λ s t m n l k.
      let p = rows s x (omega (arith, ints)) l m in
      let q = rows t x (omega (arith, ints)) k n in
      rw (p.1, q.1) (rows_apart p.0 q.0);
  one_sum = λ s t m n l k e.
      let p = rows s x (omega (arith, ints)) l m in
      let q = rows t x (omega (arith, ints)) k n in
      let pairs : level_pair p.0 ≡ level_pair q.0 = sym (ap (λ (u : WholeSegment). u.pair) p.1) ∙ e ∙ ap (λ (u : WholeSegment). u.pair) q.1 in
      let high : pos (2 * p.0) ≡ pos (2 * q.0) = ap (λ (u : Pair). u.a.y) pairs in
      let same : p.0 ≡ q.0 = omega (arith, ints, high) in
      p.1 ∙ ap level_row same ∙ sym q.1;
}

pub no_rows : (x : ℤ) (sums : List WholeSegment) → sums ≡ [] → AreRows x sums
no_rows x sums e = λ s y h l m. elim (Has-from_Contains [] s (subst (λ l. Contains l s) e m)) [ ]

pub rows_pushed : (x : ℤ) (k : ℕ) (sums : List WholeSegment) → AreRows x sums → AreRows x (level_row k ∷ sums)
rows_pushed x k sums rows = λ s y h l m. elim (Has-from_Contains (level_row k ∷ sums) s m) [ inl e ↦ (k, sym e) | inr n ↦ rows s y h l (Contains-from_Has sums s n) ]

pub rows_kept : (x : ℤ) (new old : List WholeSegment) → HoldSameFrom x new old → AreRows x old → AreRows x new
rows_kept x new old same rows = λ s y h l m. rows s y h l ((same s y h l).0 m)

pub rows_later : (x z : ℤ) (sums : List WholeSegment) → x ≤ℤ z → AreRows x sums → AreRows z sums
rows_later x z sums later rows = λ s y h l m. rows s y (omega (arith, ints, later, h)) l m

-- one row more
pub row_free : (x : ℤ) (k : ℕ) (s : WholeSegment) (sums : List WholeSegment) → x ≡ pos 0 → s ≡ level_row k → AreRows (pos 0) sums → AreFreeAt x (s ∷ sums)
row_free x k s sums e f rows = rw (e, f) (rows_free (pos 0) (level_row k ∷ sums) (rows_pushed (pos 0) k sums rows))

pub row_added : (x : ℤ) (k : ℕ) (s : WholeSegment) (new old : List WholeSegment) → x ≡ pos 0 → s ≡ level_row k → HoldSameFrom x new (s ∷ old) → AreRows (pos 0) old → AreRows (pos 0) new
row_added x k s new old e f same rows = rows_kept (pos 0) new (level_row k ∷ old) (rw (e, f) at same) (rows_pushed (pos 0) k old rows)
