-- What is live in a scan tree is ordered from below: which of it is below a point, and where a new segment goes.
use Rattle.std.proofs.Common.{◌≡◌, ap, refl, sym, subst, ◌∙◌, arith, inl, inr, Less, Equal, Greater}
use Rattle.std.specs.Prelude.{ℕ, zero, suc, ◌<◌, ℤ, pos, ◌+ℤ◌, ◌*ℤ◌, ◌<ℤ◌, ◌≤ℤ◌, int_le, int_lt, Bool, true, false, not, ◌&&◌, ◌⊎◌, List, [], ◌∷◌, ◌++◌, length}
use Rattle.std.specs.List.{Contains}
use Rattle.std.specs.Ordering.{is_lt, ordering_then}
use Rattle.std.specs.declared.cmp.Ordering.{Ordering}
use Rattle.std.proofs.lemmas.Int.{ints, by_lt_z}
use Rattle.std.proofs.lemmas.Bool.{and_parts, and_from, both_ways, not-true, not-false}
use Rattle.overlay_geometry.specs.Points.{Point, Pair, turn}
use Rattle.overlay_base.specs.Segments.{WholeSegment}
use Rattle.overlay_base.specs.Windings.{Winding}
use Rattle.overlay_geometry.specs.Below.{width, height_cmp, angle_cmp, under_segment_order}
use Rattle.overlay_geometry.proofs.laws.geometry.Polynomials.{mul-pos, mul-nonpos}
use Rattle.overlay_geometry.proofs.laws.lists.Lists as lists
use Rattle.overlay_sweep.specs.ChainWindings.{is_live, directly_below}
use Rattle.overlay_sweep.specs.Live.{sum_below, AreFreeAt}
use Rattle.overlay_sweep.specs.LiveRows.{Has, HasLast, HasFirst, segment_at, lasts_past, is_live_at, IsFromBelow}
use Rattle.overlay_sweep.proofs.laws.columns.ColumnLines.{spans_column_parts}
use Rattle.overlay_sweep.proofs.laws.columns.ColumnOrder.{IsApart, is_apart}
use Rattle.overlay_sweep.proofs.laws.columns.Heights.{gap, gap_at_other_start, is_lt-height_cmp}
use Rattle.overlay_sweep.proofs.laws.live.Supports.{gap_mean, first_asymmetric, first-trans}
use Rattle.overlay_sweep.proofs.laws.columns.Tops.{spans_live, by_option}
use Rattle.overlay_sweep.proofs.laws.live.UnderOrders.{under_is_first}
use Rattle.overlay_sweep.proofs.laws.live.DirectlyBelow.{directly_below_is, directly_below_none, same_if_level, lies_below}
use Rattle.overlay_sweep.proofs.laws.list.Members.{Has-left, Has-right, Has-parts}
use Rattle.overlay_geometry.proofs.laws.integers.Tests.{le-test, lt-test, le-tested, lt-tested}
use Rattle.overlay_geometry.proofs.laws.lists.Elements.{Contains-from_Has}

abbrev pub is_first_at : ℤ → Pair → Pair → Bool
is_first_at x s t = is_lt (ordering_then (height_cmp x s t) (angle_cmp s t))

-- ---- what is at least as high as something, and below a point: so is that

mean_not_up : (wt wf wl t f g gt gf : ℤ) → pos 0 <ℤ wt → pos 0 <ℤ wf → pos 0 <ℤ wl → wf *ℤ gt ≡ wl *ℤ g +ℤ wt *ℤ gf → gt ≡ wl *ℤ t → gf ≡ wl *ℤ f → g ≤ℤ pos 0 → pos 0 <ℤ t → f ≤ℤ pos 0 → ⊥
mean_not_up wt wf wl t f g gt gf pt pf pl e et ef hg ht hf =
    let a = mul-pos wl t pl ht in
    let b = mul-pos wf gt pf (omega (arith, ints)) in
    let c = mul-nonpos wl g (omega (arith, ints)) hg in
    let d = mul-nonpos wl f (omega (arith, ints)) hf in
    let k = mul-nonpos wt gf (omega (arith, ints)) (omega (arith, ints)) in
    omega (arith, ints)

not_first_gap : (o r : Ordering) → is_lt (ordering_then o r) ≡ false → is_lt o ≡ false
not_first_gap Less r h = h
not_first_gap Equal r h = refl
not_first_gap Greater r h = refl

pub under_passes : (p : Point) (t f : Pair) → pos 0 <ℤ width t → pos 0 <ℤ width f → is_first_at p.x t f ≡ false → pos 0 <ℤ turn t.a t.b p → pos 0 <ℤ turn f.a f.b p
under_passes p t f wt wf h up =
    by_lt_z (pos 0) (turn f.a f.b p) (λ (k : pos 0 <ℤ turn f.a f.b p). k)
    (λ (down : turn f.a f.b p ≤ℤ pos 0).
    let line : Pair = record { a = p; b = record { x = p.x +ℤ pos 1; y = p.y } } in
    let flat : int_lt (pos 0) (gap p.x t f) ≡ false = sym (is_lt-height_cmp p.x t f) ∙ not_first_gap (height_cmp p.x t f) (angle_cmp t f) h in
    let low : gap p.x t f ≤ℤ pos 0 = by_lt_z (pos 0) (gap p.x t f) (λ (k : pos 0 <ℤ gap p.x t f). absurd (both_ways _ flat (lt-test (pos 0) (gap p.x t f) k))) (λ (k : gap p.x t f ≤ℤ pos 0). k) in
    let one : pos 0 <ℤ width line = omega (arith, ints) in
    absurd (mean_not_up (width t) (width f) (width line) (turn t.a t.b p) (turn f.a f.b p) (gap p.x t f) (gap p.x t line) (gap p.x f line) wt wf one (gap_mean p.x t f line) (gap_at_other_start t line) (gap_at_other_start f line) low up down))

-- ---- the order of a list, apart

from_below_before : (x : ℤ) (segments : List WholeSegment) (xs ys : List ℕ) (b : ℕ) → IsFromBelow x segments (xs ++ b ∷ ys) → (i : ℕ) → Has xs i → is_live_at x segments i ≡ true → is_live_at x segments b ≡ true → is_lt (under_segment_order (segment_at segments b).pair (segment_at segments i).pair) ≡ false
from_below_before x segments [] ys b f i m l k = absurd m
from_below_before x segments (z ∷ xs) ys b f i (inl e) l k = subst (λ j. is_lt (under_segment_order (segment_at segments b).pair (segment_at segments j).pair) ≡ false) e (f.0 b (Has-right xs (b ∷ ys) b (inl refl)) (subst (λ j. is_live_at x segments j ≡ true) (sym e) l) k)
from_below_before x segments (z ∷ xs) ys b f i (inr m) l k = from_below_before x segments xs ys b f.1 i m l k

from_below_after : (x : ℤ) (segments : List WholeSegment) (xs ys : List ℕ) (b : ℕ) → IsFromBelow x segments (xs ++ b ∷ ys) → (j : ℕ) → Has ys j → is_live_at x segments b ≡ true → is_live_at x segments j ≡ true → is_lt (under_segment_order (segment_at segments j).pair (segment_at segments b).pair) ≡ false
from_below_after x segments [] ys b f j m l k = f.0 j m l k
from_below_after x segments (z ∷ xs) ys b f j m l k = from_below_after x segments xs ys b f.1 j m l k

from_below_with : (x : ℤ) (segments : List WholeSegment) (xs ys : List ℕ) (b : ℕ) → IsFromBelow x segments (xs ++ ys) →
    ((i : ℕ) → Has xs i → is_live_at x segments i ≡ true → is_live_at x segments b ≡ true → is_lt (under_segment_order (segment_at segments b).pair (segment_at segments i).pair) ≡ false) →
    ((j : ℕ) → Has ys j → is_live_at x segments b ≡ true → is_live_at x segments j ≡ true → is_lt (under_segment_order (segment_at segments j).pair (segment_at segments b).pair) ≡ false) → IsFromBelow x segments (xs ++ b ∷ ys)
from_below_with x segments [] ys b f early late = (late, f)
from_below_with x segments (z ∷ xs) ys b f early late = (
  λ j m l k. elim (Has-parts xs (b ∷ ys) j m) [
    | inl n ↦ f.0 j (Has-left xs ys j n) l k
    | inr n ↦ elim n [
      | inl e ↦ subst (λ i. is_lt (under_segment_order (segment_at segments i).pair (segment_at segments z).pair) ≡ false) e (early z (inl refl) l (subst (λ i. is_live_at x segments i ≡ true) (sym e) k))
      | inr o ↦ f.0 j (Has-right xs ys j o) l k
    ]
  ],
  from_below_with x segments xs ys b f.1 (λ i m. early i (inr m)) late,
)

-- ---- what is live is in the list

nothing_live : (x : ℤ) → int_le (pos 0) x && int_lt x (pos 0) ≡ true → ⊥
nothing_live x h = let p = and_parts (int_le (pos 0) x) (int_lt x (pos 0)) h in let a = le-tested (pos 0) x p.0 in let b = lt-tested x (pos 0) p.1 in omega (arith, ints)

pub live_member : (x : ℤ) (segments : List WholeSegment) (i : ℕ) → is_live_at x segments i ≡ true → lists.Has segments (segment_at segments i)
live_member x [] i l = absurd (nothing_live x l)
live_member x (s ∷ segments) zero l = inl refl
live_member x (s ∷ segments) (suc i) l = inr (live_member x segments i l)

pub live_within : (x : ℤ) (segments : List WholeSegment) (i : ℕ) → is_live_at x segments i ≡ true → i < length segments
live_within x [] i l = absurd (nothing_live x l)
live_within x (s ∷ segments) zero l = omega arith
live_within x (s ∷ segments) (suc i) l = let h = live_within x segments i l in omega (arith, h)

pub member_at : (segments : List WholeSegment) (s : WholeSegment) → lists.Has segments s → (i : ℕ) × (segment_at segments i ≡ s)
member_at [] s m = absurd m
member_at (t ∷ segments) s (inl e) = (0, e)
member_at (t ∷ segments) s (inr m) = let r = member_at segments s m in (suc r.0, r.1)

begun_at : (x : ℤ) (segments : List WholeSegment) (i : ℕ) → ((s : WholeSegment) → lists.Has segments s → s.pair.a.x ≤ℤ x) → i < length segments → (segment_at segments i).pair.a.x ≤ℤ x
begun_at x [] i b h = absurd (omega (arith, h))
begun_at x (s ∷ segments) zero b h = b s (inl refl)
begun_at x (s ∷ segments) (suc i) b h = begun_at x segments i (λ t m. b t (inr m)) (omega (arith, h))

pub live_from : (x : ℤ) (segments : List WholeSegment) (i : ℕ) → ((s : WholeSegment) → lists.Has segments s → s.pair.a.x ≤ℤ x) → i < length segments → lasts_past x segments i ≡ true → is_live_at x segments i ≡ true
live_from x segments i b h l = and_from _ _ (le-test (segment_at segments i).pair.a.x x (begun_at x segments i b h)) l

module _ (x : ℤ) (segments : List WholeSegment) (free : AreFreeAt x segments) where
  holds_live : (i : ℕ) → is_live_at x segments i ≡ true → Contains segments (segment_at segments i)
  holds_live i l = Contains-from_Has segments (segment_at segments i) (live_member x segments i l)

  pub apart_live : (i j : ℕ) → is_live_at x segments i ≡ true → is_live_at x segments j ≡ true → IsApart (segment_at segments i).pair (segment_at segments j).pair
  apart_live i j l k = is_apart _ _ (free.apart (segment_at segments i) (segment_at segments j) (holds_live i l) (holds_live j k) l k)

  pub under_first : (i j : ℕ) → is_live_at x segments i ≡ true → is_live_at x segments j ≡ true → is_lt (under_segment_order (segment_at segments i).pair (segment_at segments j).pair) ≡ is_first_at x (segment_at segments i).pair (segment_at segments j).pair
  under_first i j l k = under_is_first x (segment_at segments i).pair (segment_at segments j).pair (spans_live x (segment_at segments i).pair l) (spans_live x (segment_at segments j).pair k) (apart_live i j l k)

  pub wide_live : (i : ℕ) → is_live_at x segments i ≡ true → pos 0 <ℤ width (segment_at segments i).pair
  wide_live i l = let p = spans_column_parts x (segment_at segments i).pair (spans_live x (segment_at segments i).pair l) in omega (arith, ints)

  -- ---- where a new segment goes

  module _ (begun : (s : WholeSegment) → lists.Has segments s → s.pair.a.x ≤ℤ x) (earlier later : List ℕ) (known : (i : ℕ) → Has (earlier ++ later) i → i < length segments) (ordered : IsFromBelow x segments (earlier ++ later)) where
    module _ (n : ℕ) (live_new : is_live_at x segments n ≡ true) (given last : ℕ)
        (last_is : ((earlier ≡ []) × (last ≡ given)) ⊎ HasLast (lasts_past x segments) (λ i. not (is_lt (under_segment_order (segment_at segments n).pair (segment_at segments i).pair))) earlier last)
        (first_is : (later ≡ []) ⊎ HasFirst (lasts_past x segments) (λ i. not (is_lt (under_segment_order (segment_at segments n).pair (segment_at segments i).pair))) later) where
      -- the new one does not run below an earlier one
      over_earlier : (i : ℕ) → Has earlier i → is_live_at x segments i ≡ true → is_live_at x segments n ≡ true → is_lt (under_segment_order (segment_at segments n).pair (segment_at segments i).pair) ≡ false
      over_earlier i m l k = elim last_is [
        | inl e ↦ absurd (subst (λ z. Has z i) e.0 m)
        | inr h ↦
            (let b_in : Has earlier last = subst (λ z. Has z last) (sym h.earlier_is) (Has-right h.front (last ∷ []) last (inl refl)) in
            let b_live = live_from x segments last begun (known last (Has-left earlier later last b_in)) h.lasts_on in
            let over : is_lt (under_segment_order (segment_at segments n).pair (segment_at segments last).pair) ≡ false = not-true _ h.is_before in
            elim (Has-parts h.front (last ∷ []) i (subst (λ z. Has z i) h.earlier_is m)) [
              | inr e ↦ elim e [ inl same ↦ subst (λ j. is_lt (under_segment_order (segment_at segments n).pair (segment_at segments j).pair) ≡ false) same over | inr none ↦ absurd none ]
              | inl f ↦
                  (let split : IsFromBelow x segments (h.front ++ last ∷ later) = subst (λ z. IsFromBelow x segments z) (ap (λ z. z ++ later) h.earlier_is ∙ assoc_one h.front last later) ordered in
                  let under = from_below_before x segments h.front later last split i f l b_live in
                  under_first n i k l
                  ∙ first-trans (segment_at segments n).pair (segment_at segments last).pair (segment_at segments i).pair (wide_live n k) (wide_live last b_live) (wide_live i l) x (sym (under_first n last k b_live) ∙ over) (sym (under_first last i b_live l) ∙ under))
            ])
      ]
        where
          assoc_one : (xs : List ℕ) (b : ℕ) (ys : List ℕ) → (xs ++ b ∷ []) ++ ys ≡ xs ++ b ∷ ys
          assoc_one [] b ys = refl
          assoc_one (z ∷ xs) b ys = ap (λ l. z ∷ l) (assoc_one xs b ys)

      -- no later one runs below the new one
      under_later : (j : ℕ) → Has later j → is_live_at x segments n ≡ true → is_live_at x segments j ≡ true → is_lt (under_segment_order (segment_at segments j).pair (segment_at segments n).pair) ≡ false
      under_later j m k l = elim first_is [
        | inl e ↦ absurd (subst (λ z. Has z j) e m)
        | inr h ↦
            (let f_in : Has later h.first = subst (λ z. Has z h.first) (sym h.later_is) (inl refl) in
            let f_live = live_from x segments h.first begun (known h.first (Has-right earlier later h.first f_in)) h.lasts_on in
            let under : is_lt (under_segment_order (segment_at segments n).pair (segment_at segments h.first).pair) ≡ true = not-false _ h.is_after in
            let back : is_first_at x (segment_at segments h.first).pair (segment_at segments n).pair ≡ false = first_asymmetric x (segment_at segments n).pair (segment_at segments h.first).pair (sym (under_first n h.first k f_live) ∙ under) in
            elim (subst (λ z. Has z j) h.later_is m) [
              | inl same ↦ subst (λ i. is_lt (under_segment_order (segment_at segments i).pair (segment_at segments n).pair) ≡ false) same (under_first h.first n f_live k ∙ back)
              | inr r ↦
                  (let split : IsFromBelow x segments (earlier ++ h.first ∷ h.rest) = subst (λ z. IsFromBelow x segments (earlier ++ z)) h.later_is ordered in
                  let over = from_below_after x segments earlier h.rest h.first split j r f_live l in
                  under_first j n l k
                  ∙ first-trans (segment_at segments j).pair (segment_at segments h.first).pair (segment_at segments n).pair (wide_live j l) (wide_live h.first f_live) (wide_live n k) x (sym (under_first j h.first l f_live) ∙ over) back)
            ])
      ]

      pub placed_from_below : IsFromBelow x segments (earlier ++ n ∷ later)
      placed_from_below = from_below_with x segments earlier later n ordered over_earlier under_later

-- ---- what is directly below a point

module _ (p : Point) (segments : List WholeSegment) (free : AreFreeAt p.x segments) (begun : (s : WholeSegment) → lists.Has segments s → s.pair.a.x ≤ℤ p.x) (earlier later : List ℕ)
    (known : (i : ℕ) → Has (earlier ++ later) i → i < length segments) (has_live : (i : ℕ) → is_live_at p.x segments i ≡ true → Has (earlier ++ later) i) (ordered : IsFromBelow p.x segments (earlier ++ later))
    (first_is : (later ≡ []) ⊎ HasFirst (lasts_past p.x segments) (λ i. int_lt (pos 0) (turn (segment_at segments i).pair.a (segment_at segments i).pair.b p)) later) (default : Winding) where
  below_tested : (i : ℕ) → int_lt (pos 0) (turn (segment_at segments i).pair.a (segment_at segments i).pair.b p) ≡ true → pos 0 <ℤ turn (segment_at segments i).pair.a (segment_at segments i).pair.b p
  below_tested i h = lt-tested _ _ h

  -- none of the later ones runs below p
  not_later : (i : ℕ) → Has later i → is_live_at p.x segments i ≡ true → int_lt (pos 0) (turn (segment_at segments i).pair.a (segment_at segments i).pair.b p) ≡ true → ⊥
  not_later i m l b = elim first_is [
    | inl e ↦ subst (λ z. Has z i) e m
    | inr h ↦
        (let f_in : Has later h.first = subst (λ z. Has z h.first) (sym h.later_is) (inl refl) in
        let f_live = live_from p.x segments h.first begun (known h.first (Has-right earlier later h.first f_in)) h.lasts_on in
        elim (subst (λ z. Has z i) h.later_is m) [
          | inl same ↦ both_ways _ h.is_after (subst (λ j. int_lt (pos 0) (turn (segment_at segments j).pair.a (segment_at segments j).pair.b p) ≡ true) (sym same) b)
          | inr r ↦
              (let split : IsFromBelow p.x segments (earlier ++ h.first ∷ h.rest) = subst (λ z. IsFromBelow p.x segments (earlier ++ z)) h.later_is ordered in
              let over = sym (under_first p.x segments free i h.first l f_live) ∙ from_below_after p.x segments earlier h.rest h.first split i r f_live l in
              both_ways _ h.is_after (lt-test (pos 0) _ (under_passes p (segment_at segments i).pair (segment_at segments h.first).pair (wide_live p.x segments free i l) (wide_live p.x segments free h.first f_live) over (below_tested i b))))
        ])
  ]

  -- a segment that lies below p, by its index
  found_at : (u : WholeSegment) → lists.Has segments u → lies_below p u ≡ true → (i : ℕ) × (segment_at segments i ≡ u) × (is_live_at p.x segments i ≡ true) × (int_lt (pos 0) (turn (segment_at segments i).pair.a (segment_at segments i).pair.b p) ≡ true) × Has earlier i
  found_at u m b =
      let r = member_at segments u m in
      let parts = and_parts (is_live p.x u.pair) _ b in
      let l : is_live_at p.x segments r.0 ≡ true = subst (λ (s : WholeSegment). is_live p.x s.pair ≡ true) (sym r.1) parts.0 in
      let k : int_lt (pos 0) (turn (segment_at segments r.0).pair.a (segment_at segments r.0).pair.b p) ≡ true = subst (λ (s : WholeSegment). int_lt (pos 0) (turn s.pair.a s.pair.b p) ≡ true) (sym r.1) parts.1 in
      (r.0, r.1, l, k, elim (Has-parts earlier later r.0 (has_live r.0 l)) [ inl n ↦ n | inr n ↦ absurd (not_later r.0 n l k) ])

  pub sum_of_none : earlier ≡ [] → sum_below segments p default ≡ default
  unfolding sum_below
  sum_of_none e =
      by_option (directly_below segments p)
      (λ none. rw none refl)
      (λ u found. let k = directly_below_is segments p u found in let i = found_at u k.0 k.1 in absurd (subst (λ z. Has z i.0) e i.4))

  pub sum_of_last : (last : ℕ) → HasLast (lasts_past p.x segments) (λ i. int_lt (pos 0) (turn (segment_at segments i).pair.a (segment_at segments i).pair.b p)) earlier last → sum_below segments p default ≡ (segment_at segments last).count
  unfolding sum_below
  sum_of_last last h =
      let b_in : Has earlier last = subst (λ z. Has z last) (sym h.earlier_is) (Has-right h.front (last ∷ []) last (inl refl)) in
      let b_live = live_from p.x segments last begun (known last (Has-left earlier later last b_in)) h.lasts_on in
      let b_member = live_member p.x segments last b_live in
      let b_below : lies_below p (segment_at segments last) ≡ true = and_from _ _ b_live h.is_before in
      by_option (directly_below segments p)
      (λ none. absurd (directly_below_none segments p none (segment_at segments last) b_member b_below))
      (λ u found.
      let k = directly_below_is segments p u found in
      let i = found_at u k.0 k.1 in
      let highest : is_first_at p.x (segment_at segments i.0).pair (segment_at segments last).pair ≡ false = subst (λ (s : WholeSegment). is_first_at p.x s.pair (segment_at segments last).pair ≡ false) (sym i.1) (k.2 (segment_at segments last) b_member b_below) in
      rw found (ap (λ (s : WholeSegment). s.count) (sym i.1 ∙ same i.0 i.2 b_live highest i.4)))
    where
      split : IsFromBelow p.x segments (h.front ++ last ∷ later)
      split = subst (λ z. IsFromBelow p.x segments z) (ap (λ z. z ++ later) h.earlier_is ∙ assoc_one h.front last later) ordered
        where
          assoc_one : (xs : List ℕ) (b : ℕ) (ys : List ℕ) → (xs ++ b ∷ []) ++ ys ≡ xs ++ b ∷ ys
          assoc_one [] b ys = refl
          assoc_one (z ∷ xs) b ys = ap (λ l. z ∷ l) (assoc_one xs b ys)

      same : (i : ℕ) → is_live_at p.x segments i ≡ true → is_live_at p.x segments last ≡ true → is_first_at p.x (segment_at segments i).pair (segment_at segments last).pair ≡ false → Has earlier i → segment_at segments i ≡ segment_at segments last
      same i l k highest m = elim (Has-parts h.front (last ∷ []) i (subst (λ z. Has z i) h.earlier_is m)) [
        | inr e ↦ elim e [ inl it ↦ ap (segment_at segments) (sym it) | inr none ↦ absurd none ]
        | inl f ↦
            free.one_sum (segment_at segments i) (segment_at segments last) (holds_live p.x segments free i l) (holds_live p.x segments free last k) l k
            (same_if_level p.x (segment_at segments i).pair (segment_at segments last).pair (spans_live p.x (segment_at segments i).pair l) (spans_live p.x (segment_at segments last).pair k) (apart_live p.x segments free i last l k) highest
            (sym (under_first p.x segments free last i k l) ∙ from_below_before p.x segments h.front later last split i f l k))
      ]
