-- Runs within a limit: from one pass to the next, where one goes beyond it, and how long the result is.
use Rattle.std.proofs.Common.{◌≡◌, sym, ap, ap₂, subst, ◌∙◌, ⊎_elim, arith, ℕ, suc, ◌+◌, ◌<◌, ◌≤◌, List, length, Bool, true, IsTrue, IsFalse}
use Rattle.std.specs.Prelude.{ℤ}
use Rattle.std.proofs.lemmas.Bool.{cases_lt}
use Rattle.overlay_base.specs.Segments.{WholeSegment}
use Rattle.overlay_base.specs.EdgeData.{DataSegment, Hooks}
use Rattle.overlay_base.proofs.laws.joins.Members.{length-join_le}
use Rattle.overlay_intersections.specs.Marks.{Placing}
use Rattle.overlay_cuts.specs.Pass.{cut}
use Rattle.overlay_cuts.specs.DataPass.{data_store_before}
use Rattle.overlay_cuts.specs.Nearness.{joined_in}
use Rattle.overlay_cuts.specs.Run.{Settings, placing_of_pass, after_passes, goes_on, leaves_range_within}
use Rattle.overlay_split.specs.RunLengths.{JoinsAtMost, IsFirstBeyond}
use Rattle.overlay_split.specs.steps.IsAt.{IsAt}
use Rattle.overlay_split.proofs.laws.nearness.Coverings.{joined_is}
use Rattle.overlay_split.proofs.laws.passes.Splitting.{made_next, fits_before}

module _ (settings : Settings) (given : List WholeSegment) (limit : ℕ) where
  -- what pass k + 1 joins
  next_is : (now : List WholeSegment) (placing : Placing) (k : ℕ) → placing ≡ placing_of_pass settings (suc k) → now ≡ after_passes settings given k → cut placing now ≡ joined_in settings given (suc k)
  unfolding joined_in
  next_is now placing k p e = ap₂ (λ (q : Placing) (l : List WholeSegment). cut q l) p e

  -- before the first pass
  pub joins_first : length given ≤ limit → JoinsAtMost settings given limit 0
  unfolding joined_in
  joins_first h = λ k le. let e : 0 ≡ k = omega (arith, le) in subst (λ (j : ℕ). length (joined_in settings given j) ≤ limit) e h

  -- one more pass
  pub joins_next : (now : List WholeSegment) (placing : Placing) (k n : ℕ) → JoinsAtMost settings given limit k → n ≡ k + 1 → placing ≡ placing_of_pass settings (suc k) → now ≡ after_passes settings given k → length (cut placing now) ≤ limit → JoinsAtMost settings given limit n
  joins_next now placing k n before m p e h = λ j le.
      ⊎_elim (λ (l : j < suc k). before j (omega (arith, l)))
      (λ (l : suc k ≤ j). let i : suc k ≡ j = omega (arith, l, le, m) in subst (λ (i : ℕ). length (joined_in settings given i) ≤ limit) i (subst (λ (l : List WholeSegment). length l ≤ limit) (next_is now placing k p e) h))
      (cases_lt j (suc k))

  -- the given list is longer than the limit
  pub beyond_first : limit < length given → IsFirstBeyond settings given limit 0
  unfolding joined_in
  beyond_first h = record { made = λ j l. absurd (omega (arith, l)); fits = λ j l. absurd (omega (arith, l)); within = λ j l. absurd (omega (arith, l)); beyond = h }

  -- a pass would make too many pieces
  beyond_next : (now : List WholeSegment) (placing : Placing) (k : ℕ) → ((j : ℕ) → j < suc k → IsTrue (goes_on settings given j)) → IsFalse (leaves_range_within settings given k) → JoinsAtMost settings given limit k → placing ≡ placing_of_pass settings (suc k) → now ≡ after_passes settings given k → limit < length (cut placing now) → IsFirstBeyond settings given limit (suc k)
  beyond_next now placing k made fits within p e h = record {
    made = made;
    fits = fits_before settings given k fits;
    within = λ j l. within j (omega (arith, l));
    beyond = subst (λ (l : List WholeSegment). limit < length l) (next_is now placing k p e) h;
  }

  -- so the result is no longer
  pub result_within : (now : List WholeSegment) (k : ℕ) → now ≡ after_passes settings given k → JoinsAtMost settings given limit k → length now ≤ limit
  result_within now k e within =
      let same = ap (λ (l : List WholeSegment). length l) (e ∙ sym (joined_is settings given k)) in
      let shorter = length-join_le (joined_in settings given k) in
      let last = within k (omega arith) in
      omega (arith, same, shorter, last)

module _ {D S : Type 0} (hooks : Hooks D S) (settings : Settings) (given : List WholeSegment) (data_given : List (DataSegment D)) (from : S) (limit : ℕ) where
  pub stops_first : (left : S) → left ≡ from → limit < length given → (k : ℕ) × IsFirstBeyond settings given limit k × (left ≡ data_store_before hooks settings data_given from k)
  unfolding data_store_before
  stops_first left e h = (0, beyond_first settings given limit h, e)

  pub stops_next : (least greatest : ℤ) (now : List WholeSegment) (data_now : List (DataSegment D)) (store : S) (k : ℕ) (changed goes : Bool) (placing : Placing) (left : S) →
      IsAt hooks settings least greatest given now data_given data_now from store k changed goes → goes ≡ true → placing ≡ placing_of_pass settings (suc k) → JoinsAtMost settings given limit k →
      limit < length (cut placing now) → left ≡ store → (k : ℕ) × IsFirstBeyond settings given limit k × (left ≡ data_store_before hooks settings data_given from k)
  unfolding data_store_before
  stops_next least greatest now data_now store k changed goes placing left at g p within h e =
      (suc k, beyond_next settings given limit now placing k (made_next settings given k at.made (sym at.goes_is ∙ g)) at.fits within p at.arrangement_is h, e ∙ at.store_is)
