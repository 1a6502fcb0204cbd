-- A list of live segments stays in order: where some have ended, at a later x, and with one more at its place.
use Rattle.std.proofs.Common.{◌≡◌, ap, ap₂, refl, sym, subst, ◌∙◌, arith, inl, inr}
use Rattle.std.specs.Prelude.{ℕ, zero, suc, ◌+◌, ◌-◌, ◌<◌, ◌≤◌, ℤ, ◌≤ℤ◌, Bool, true, false, not, cond, ◌⊎◌, List, [], ◌∷◌, ◌++◌, map, filter, take, drop, length}
use Rattle.std.specs.List.{range_with_len}
use Rattle.std.specs.Ordering.{is_lt}
use Rattle.std.proofs.lemmas.List.{map-append}
use Rattle.overlay_base.specs.Segments.{WholeSegment}
use Rattle.overlay_geometry.specs.Below.{under_segment_order}
use Rattle.overlay_geometry.proofs.laws.lists.Lists.{filter-map}
use Rattle.overlay_geometry.proofs.laws.lists.Lists as lists
use Rattle.overlay_sweep.specs.ChainWindings.{is_live}
use Rattle.overlay_sweep.specs.Live.{AreFreeAt}
use Rattle.overlay_sweep.specs.LiveRows.{Has, HasLast, HasFirst, segment_at, lasts_past, IsFromBelow}
use Rattle.overlay_sweep.specs.steps.Positions.{IsPosition}
use Rattle.overlay_sweep.proofs.laws.live.ScanSums.{lasting}
use Rattle.overlay_sweep.proofs.laws.list.RowOrders.{placed_from_below}
use Rattle.overlay_sweep.proofs.laws.list.RowGrowth.{length_pushed, from_below_pushed, free_pushed, segment_at_pushed, segment_at_last}
use Rattle.overlay_sweep.proofs.laws.list.ListReads.{in_row, row_parts, read_whole, read_first, read_rest}

-- ---- the same segments in the same order, by other indexes

matched : (f g : ℕ → WholeSegment) (is js : List ℕ) → map f is ≡ map g js → (j : ℕ) → Has js j → (i : ℕ) × Has is i × (f i ≡ g j)
matched f g is [] e j m = absurd m
matched f g [] (k ∷ js) e j m = absurd (cc)
matched f g (i ∷ is) (k ∷ js) e j (inl same) =
    let head : f i ≡ g k = cc in
    (i, inl refl, head ∙ ap g same)
matched f g (i ∷ is) (k ∷ js) e j (inr m) =
    let rest : map f is ≡ map g js = cc in
    let r = matched f g is js rest j m in
    (r.0, inr r.1, r.2)

pub from_below_same : (x : ℤ) (xs ys : List WholeSegment) (is js : List ℕ) → map (segment_at xs) is ≡ map (segment_at ys) js → IsFromBelow x xs is → IsFromBelow x ys js
from_below_same x xs ys is [] e f = tt
from_below_same x xs ys [] (j ∷ js) e f = absurd (cc)
from_below_same x xs ys (i ∷ is) (j ∷ js) e f =
    let head : segment_at xs i ≡ segment_at ys j = cc in
    let rest : map (segment_at xs) is ≡ map (segment_at ys) js = cc in (
      λ k m l o.
          let r = matched (segment_at xs) (segment_at ys) is js rest k m in
          let own = f.0 r.0 r.1 (subst (λ (s : WholeSegment). is_live x s.pair ≡ true) (sym head) l) (subst (λ (s : WholeSegment). is_live x s.pair ≡ true) (sym r.2) o) in
          subst (λ (s : WholeSegment). is_lt (under_segment_order (segment_at ys k).pair s.pair) ≡ false) head (subst (λ (s : WholeSegment). is_lt (under_segment_order s.pair (segment_at xs i).pair) ≡ false) r.2 own),
      from_below_same x xs ys is js rest f.1,
    )

-- ---- without those that have ended

has_filtered : (test : ℕ → Bool) (is : List ℕ) (j : ℕ) → Has (filter test is) j → Has is j
has_filtered test [] j m = m
has_filtered test (i ∷ is) j m = by_test (test i) (has_filtered test is j) m
  where
    by_test : (b : Bool) → (Has (filter test is) j → Has is j) → Has (cond b (i ∷ filter test is) (filter test is)) j → Has (i ∷ is) j
    by_test true h (inl e) = inl e
    by_test true h (inr n) = inr (h n)
    by_test false h n = inr (h n)

from_below_filtered : (x : ℤ) (segments : List WholeSegment) (test : ℕ → Bool) (order : List ℕ) → IsFromBelow x segments order → IsFromBelow x segments (filter test order)
from_below_filtered x segments test [] f = tt
from_below_filtered x segments test (i ∷ is) f = by_test (test i) (from_below_filtered x segments test is f.1)
  where
    by_test : (b : Bool) → IsFromBelow x segments (filter test is) → IsFromBelow x segments (cond b (i ∷ filter test is) (filter test is))
    by_test true h = (λ j m. f.0 j (has_filtered test is j m), h)
    by_test false h = h

pub from_below_lasting : (x : ℤ) (ks : List WholeSegment) → IsFromBelow x ks (range_with_len 0 (length ks)) → IsFromBelow x (filter (λ t. lasting x t) ks) (range_with_len 0 (length (filter (λ t. lasting x t) ks)))
from_below_lasting x ks f =
    let row : List ℕ = range_with_len 0 (length ks) in
    from_below_same x ks (filter (λ t. lasting x t) ks) (filter (λ i. lasting x (segment_at ks i)) row) (range_with_len 0 (length (filter (λ t. lasting x t) ks)))
    (sym (filter-map (λ t. lasting x t) (segment_at ks) row) ∙ ap (filter (λ t. lasting x t)) (read_whole ks) ∙ sym (read_whole (filter (λ t. lasting x t) ks)))
    (from_below_filtered x ks (λ i. lasting x (segment_at ks i)) row f)

-- ---- a position in the row of all indexes

module _ (found before lasts : ℕ → Bool) (many at : ℕ) (place : IsPosition found many at) (agree : (i : ℕ) → i < many → before i ≡ found i) (last : (i : ℕ) → i < many → lasts i ≡ true) where
  pub last_of_row : ((range_with_len 0 at ≡ []) × (at - 1 ≡ at - 1)) ⊎ HasLast lasts before (range_with_len 0 at) (at - 1)
  last_of_row = by_position at refl
    where
      by_position : (n : ℕ) → at ≡ n → ((range_with_len 0 at ≡ []) × (at - 1 ≡ at - 1)) ⊎ HasLast lasts before (range_with_len 0 at) (at - 1)
      by_position zero e = inl (ap (range_with_len 0) e, refl)
      by_position (suc n) e =
          let one : at ≡ (at - 1) + 1 = omega (arith, e) in
          let within : at - 1 < many = omega (arith, e, place.within) in
          inr (record {
            front = range_with_len 0 (at - 1);
            earlier_is = ap (range_with_len 0) one ∙ row_parts 0 (at - 1) 1 ∙ (let same : 0 + (at - 1) ≡ at - 1 = omega arith in ap (λ i. range_with_len 0 (at - 1) ++ i ∷ []) same);
            lasts_on = last (at - 1) within;
            is_before = agree (at - 1) within ∙ elim place.last_is [ inl first ↦ absurd (omega (arith, first, e)) | inr stands ↦ stands ];
          })

  pub first_of_row : (range_with_len at (many - at) ≡ []) ⊎ HasFirst lasts before (range_with_len at (many - at))
  first_of_row = by_rest (many - at) refl
    where
      by_rest : (n : ℕ) → many - at ≡ n → (range_with_len at (many - at) ≡ []) ⊎ HasFirst lasts before (range_with_len at (many - at))
      by_rest zero e = inl (ap (range_with_len at) e)
      by_rest (suc n) e =
          let within : at < many = omega (arith, e) in
          inr (record {
            first = at;
            rest = range_with_len (at + 1) n;
            later_is = ap (range_with_len at) e;
            lasts_on = last at within;
            is_after = agree at within ∙ elim place.first_is [ inl all ↦ absurd (omega (arith, all, within)) | inr after ↦ after ];
          })

pub row_at : (many at : ℕ) → at ≤ many → range_with_len 0 many ≡ range_with_len 0 at ++ range_with_len at (many - at)
row_at many at h =
    let whole : many ≡ at + (many - at) = omega (arith, h) in
    let same : 0 + at ≡ at = omega arith in
    ap (range_with_len 0) whole ∙ row_parts 0 at (many - at) ∙ ap (λ a. range_with_len 0 at ++ range_with_len a (many - at)) same

-- ---- one more

module _ (x : ℤ) (ks : List WholeSegment) (e : WholeSegment) (free : AreFreeAt x (e ∷ ks)) (begun : (s : WholeSegment) → lists.Has (ks ++ e ∷ []) s → s.pair.a.x ≤ℤ x) (lasts : (i : ℕ) → i < length ks → lasts_past x ks i ≡ true) (live : is_live x e.pair ≡ true)
    (at : ℕ) (place : IsPosition (λ i. not (is_lt (under_segment_order e.pair (segment_at ks i).pair))) (length ks) at) (ordered : IsFromBelow x ks (range_with_len 0 (length ks))) where
  abbrev pushed : List WholeSegment
  pushed = ks ++ e ∷ []

  abbrev row_before : List ℕ
  row_before = range_with_len 0 at

  abbrev row_after : List ℕ
  row_after = range_with_len at (length ks - at)

  abbrev passes : ℕ → Bool
  passes i = not (is_lt (under_segment_order (segment_at pushed (length ks)).pair (segment_at pushed i).pair))

  split : range_with_len 0 (length ks) ≡ row_before ++ row_after
  split = row_at (length ks) at place.within

  agree : (i : ℕ) → i < length ks → passes i ≡ not (is_lt (under_segment_order e.pair (segment_at ks i).pair))
  agree i h = rw (segment_at_last ks e, segment_at_pushed ks e i h) refl

  last_still : (i : ℕ) → i < length ks → lasts_past x pushed i ≡ true
  last_still i h = subst (λ (s : WholeSegment). lasting x s ≡ true) (sym (segment_at_pushed ks e i h)) (lasts i h)

  within_row : (i : ℕ) → Has (range_with_len 0 (length ks)) i → i < length ks
  within_row i m = let r = in_row 0 (length ks) i m in omega (arith, r.1)

  placed_last : IsFromBelow x pushed (row_before ++ length ks ∷ row_after)
  placed_last =
      placed_from_below x pushed (free_pushed x ks e free) begun row_before row_after
      (λ i m. let w = within_row i (subst (λ l. Has l i) (sym split) m) in omega (arith, w, length_pushed ks e))
      (subst (λ l. IsFromBelow x pushed l) split (from_below_pushed x ks e (range_with_len 0 (length ks)) within_row ordered))
      (length ks) (subst (λ (s : WholeSegment). is_live x s.pair ≡ true) (sym (segment_at_last ks e)) live) (at - 1) (at - 1)
      (last_of_row _ passes (lasts_past x pushed) (length ks) at place agree last_still)
      (first_of_row _ passes (lasts_past x pushed) (length ks) at place agree last_still)

  abbrev pub here : List WholeSegment
  here = take at ks ++ e ∷ drop at ks

  pub from_below_placed : IsFromBelow x here (range_with_len 0 (length here))
  from_below_placed =
      from_below_same x pushed here (row_before ++ length ks ∷ row_after) (range_with_len 0 (length here))
      (map-append (segment_at pushed) row_before (length ks ∷ row_after)
      ∙ ap₂ (λ l r. l ++ r) (read_first ks (e ∷ []) at place.within) (ap₂ (λ t l. t ∷ l) (segment_at_last ks e) (read_rest ks (e ∷ []) at place.within))
      ∙ sym (read_whole here))
      placed_last
