-- What the live sums say of the segment directly below a point, and that they are free of crossings.
use Rattle.std.proofs.Common.{◌≡◌, ap, refl, sym, subst, ◌∙◌, arith, inl, inr}
use Rattle.std.specs.Prelude.{ℤ, pos, ◌-ℤ◌, ◌<ℤ◌, int_lt, Bool, true, false, ◌&&◌, List, [], ◌∷◌, map, filter, Some, None}
use Rattle.std.specs.Option.{option_map_or}
use Rattle.std.specs.Ordering.{is_lt, ordering_then}
use Rattle.std.proofs.lemmas.Int.{ints}
use Rattle.std.proofs.lemmas.Bool.{and_parts, both_ways, cases_Bool}
use Rattle.overlay_geometry.specs.Points.{Point, Pair, turn, pair_eq, pair_lt, pair_cmp}
use Rattle.overlay_geometry.specs.Sorting.{is_strictly_sorted}
use Rattle.overlay_base.specs.Windings.{empty}
use Rattle.overlay_base.specs.Segments.{WholeSegment, pairs}
use Rattle.overlay_geometry.specs.Meeting.{are_apart}
use Rattle.overlay_geometry.specs.Below.{height_cmp, angle_cmp}
use Rattle.overlay_geometry.proofs.laws.geometry.Points.{same_pair_by_eq, not_same_pair}
use Rattle.overlay_base.specs.Rules.{differ}
use Rattle.overlay_sweep.specs.ColumnWindings.{spans_column, is_below_in_column}
use Rattle.overlay_sweep.specs.ChainWindings.{directly_below, is_live, top}
use Rattle.overlay_sweep.specs.Live.{sum_below}
use Rattle.overlay_sweep.specs.Live.{HoldSameFrom, AreFreeAt}
use Rattle.overlay_sweep.proofs.laws.columns.ColumnLines.{spans_column_parts}
use Rattle.overlay_sweep.proofs.laws.columns.ColumnOrder.{IsApart, is_apart, apart_back, one_is_below}
use Rattle.overlay_sweep.proofs.laws.columns.Members.{greatest_is, greatest_none, sorted_all, sorted_tail, differ_when_less, IsArranged}
use Rattle.overlay_sweep.proofs.laws.live.Supports.{below_highest, first_same, first_asymmetric, first-trans}
use Rattle.overlay_sweep.proofs.laws.columns.Tops.{by_option, spans_live}
use Rattle.overlay_geometry.proofs.laws.lists.Lists.{Has, Has-filter, Has-filter_out, Has-map, Has-map_out, list_all-at}
use Rattle.overlay_geometry.proofs.laws.lists.Elements.{Contains-from_Has, Has-from_Contains}

-- the order of segments from below at one x
abbrev first_cmp : ℤ → WholeSegment → WholeSegment → Bool
first_cmp x t u = is_lt (ordering_then (height_cmp x t.pair u.pair) (angle_cmp t.pair u.pair))

abbrev pub lies_below : Point → WholeSegment → Bool
lies_below p t = is_live p.x t.pair && int_lt (pos 0) (turn t.pair.a t.pair.b p)

-- ---- directly below, as members

found_spans : (p : Point) (ys : List WholeSegment) (u : WholeSegment) → Has (filter (λ t. lies_below p t) ys) u → spans_column p.x u.pair ≡ true
found_spans p ys u n = spans_live p.x u.pair (and_parts (is_live p.x u.pair) _ (Has-filter_out (λ t. lies_below p t) ys u n).1).0

wide_by : (x : ℤ) (s : Pair) → spans_column x s ≡ true → pos 0 <ℤ (s.b.x -ℤ s.a.x)
wide_by x s h = let p = spans_column_parts x s h in omega (arith, ints)

pub directly_below_is : (ys : List WholeSegment) (p : Point) (t : WholeSegment) → directly_below ys p ≡ Some t →
    Has ys t × (lies_below p t ≡ true) × ((u : WholeSegment) → Has ys u → lies_below p u ≡ true → first_cmp p.x t u ≡ false)
unfolding directly_below
directly_below_is ys p t e =
    let k = greatest_is (λ t u. ordering_then (height_cmp p.x t.pair u.pair) (angle_cmp t.pair u.pair)) (λ u. spans_column p.x u.pair ≡ true)
    (λ u h. first_same p.x u.pair) (λ u v h k l. first_asymmetric p.x u.pair v.pair l)
    (λ u v w h k l. first-trans u.pair v.pair w.pair (wide_by p.x u.pair h) (wide_by p.x v.pair k) (wide_by p.x w.pair l) p.x)
    (filter (λ u. lies_below p u) ys) t (found_spans p ys) e in
    let mine = Has-filter_out (λ u. lies_below p u) ys t k.0 in
    (mine.0, mine.1, λ u n h. k.1 u (Has-filter (λ v. lies_below p v) ys u n h))

pub directly_below_none : (ys : List WholeSegment) (p : Point) → directly_below ys p ≡ None → (u : WholeSegment) → Has ys u → lies_below p u ≡ true → ⊥
unfolding directly_below
directly_below_none ys p e u n h = greatest_none (λ t u. ordering_then (height_cmp p.x t.pair u.pair) (angle_cmp t.pair u.pair)) (filter (λ v. lies_below p v) ys) u e (Has-filter (λ v. lies_below p v) ys u n h)

-- ---- two segments that share a column are in order

differ_both : (a b : Bool) → differ a b ≡ true → a ≡ true → b ≡ true → ⊥
differ_both true true h e f = both_ways false refl h
differ_both true false h e f = both_ways false refl f
differ_both false b h e f = both_ways false refl e

pub same_if_level : (x : ℤ) (s t : Pair) → spans_column x s ≡ true → spans_column x t ≡ true → IsApart s t →
    is_lt (ordering_then (height_cmp x s t) (angle_cmp s t)) ≡ false → is_lt (ordering_then (height_cmp x t s) (angle_cmp t s)) ≡ false → s ≡ t
same_if_level x s t hs ht apart n m = elim (cases_Bool (pair_eq s t)) [
  | inl e ↦ same_pair_by_eq s t e
  | inr e ↦
      let other = not_same_pair s t e in
      let back = λ (same : t ≡ s). other (sym same) in
      absurd (differ_both (is_below_in_column x s t) (is_below_in_column x t s) (one_is_below x s t hs ht apart other) (below_highest x t s ht hs (apart_back s t apart) back m) (below_highest x s t hs ht apart other n))
]

-- ---- a segment of an arrangement is known by its pair

pub same_by_pair : (xs : List WholeSegment) (s t : WholeSegment) → is_strictly_sorted pair_cmp (pairs xs) ≡ true → Has xs s → Has xs t → s.pair ≡ t.pair → s ≡ t
same_by_pair [] s t o m n e = absurd m
same_by_pair (x ∷ xs) s t o (inl f) (inl g) e = sym f ∙ g
same_by_pair (x ∷ xs) s t o (inl f) (inr n) e = absurd (differ_when_less x.pair t.pair (list_all-at (λ y. pair_lt x.pair y.pair) xs t (sorted_all x xs o) n) (ap (λ (v : WholeSegment). v.pair) f ∙ e))
same_by_pair (x ∷ xs) s t o (inr m) (inl g) e = absurd (differ_when_less x.pair s.pair (list_all-at (λ y. pair_lt x.pair y.pair) xs s (sorted_all x xs o) m) (ap (λ (v : WholeSegment). v.pair) g ∙ sym e))
same_by_pair (x ∷ xs) s t o (inr m) (inr n) e = same_by_pair xs s t (sorted_tail x xs o) m n e

-- ---- the tops of segments as live sums

abbrev pub topped : List WholeSegment → WholeSegment → WholeSegment
topped xs s = record { pair = s.pair; count = top xs s }

module _ (xs : List WholeSegment) (arranged : IsArranged xs) where
  pub apart_members : (s t : WholeSegment) → Has xs s → Has xs t → IsApart s.pair t.pair
  apart_members s t m n = is_apart s.pair t.pair (arranged.apart s t m n)

  module _ (x : ℤ) (live ys : List WholeSegment) (holds : HoldSameFrom x live (map (topped xs) ys)) (known : (s : WholeSegment) → Has ys s → Has xs s) where
    -- a live sum is the top of a segment
    source : (u : WholeSegment) → Has live u → is_live x u.pair ≡ true → (t : WholeSegment) × Has ys t × (u ≡ topped xs t)
    source u m l = let found = Has-map_out (topped xs) ys u (Has-from_Contains (map (topped xs) ys) u ((holds u x (omega (arith, ints)) l).0 (Contains-from_Has live u m))) in (found.0, found.1, sym found.2)

    stored : (t : WholeSegment) → Has ys t → is_live x t.pair ≡ true → Has live (topped xs t)
    stored t m l = Has-from_Contains live (topped xs t) ((holds (topped xs t) x (omega (arith, ints)) l).1 (Contains-from_Has (map (topped xs) ys) (topped xs t) (Has-map (topped xs) ys t m)))

    -- live sums are free of crossings
    pub free_at : AreFreeAt x live
    free_at = record {
      apart = λ s t m n l k.
          let a = source s (Has-from_Contains live s m) l in
          let b = source t (Has-from_Contains live t n) k in
          subst (λ v. are_apart v t.pair ≡ true) (sym (ap (λ (w : WholeSegment). w.pair) a.2)) (subst (λ v. are_apart a.0.pair v ≡ true) (sym (ap (λ (w : WholeSegment). w.pair) b.2)) (arranged.apart a.0 b.0 (known a.0 a.1) (known b.0 b.1)));
      one_sum = λ s t m n l k e.
          let a = source s (Has-from_Contains live s m) l in
          let b = source t (Has-from_Contains live t n) k in
          let same = same_by_pair xs a.0 b.0 arranged.sorted (known a.0 a.1) (known b.0 b.1) (ap (λ (w : WholeSegment). w.pair) (sym a.2) ∙ e ∙ ap (λ (w : WholeSegment). w.pair) b.2) in
          a.2 ∙ ap (topped xs) same ∙ sym b.2;
    }

  live_part : (p : Point) (t : WholeSegment) → lies_below p t ≡ true → is_live p.x t.pair ≡ true
  live_part p t h = (and_parts (is_live p.x t.pair) _ h).0

  -- where all segments that begin before p are known, their tops give that of the one directly below p
  pub sum_below_is : (p : Point) (live ys : List WholeSegment) → HoldSameFrom p.x live (map (topped xs) ys) → ((s : WholeSegment) → Has ys s → Has xs s) →
      ((s : WholeSegment) → Has xs s → lies_below p s ≡ true → Has ys s) → sum_below live p empty ≡ option_map_or (λ t. top xs t) (directly_below xs p) empty
  unfolding sum_below
  sum_below_is p live ys holds known early =
      by_option (directly_below xs p)
      (λ none. by_option (directly_below live p)
      (λ e. rw (e, none) refl)
      (λ u e.
      let k = directly_below_is live p u e in
      let a = source p.x live ys holds known u k.0 (live_part p u k.1) in
      absurd (directly_below_none xs p none a.0 (known a.0 a.1) (subst (λ v. lies_below p v ≡ true) a.2 k.1))))
      (λ t found.
      let j = directly_below_is xs p t found in
      let mine = stored p.x live ys holds known t (early t j.0 j.1) (live_part p t j.1) in
      by_option (directly_below live p)
      (λ e. absurd (directly_below_none live p e (topped xs t) mine j.1))
      (λ u e.
      let k = directly_below_is live p u e in
      let a = source p.x live ys holds known u k.0 (live_part p u k.1) in
      let below : lies_below p a.0 ≡ true = subst (λ v. lies_below p v ≡ true) a.2 k.1 in
      let not_less : first_cmp p.x a.0 t ≡ false = subst (λ (v : WholeSegment). first_cmp p.x v t ≡ false) a.2 (k.2 (topped xs t) mine j.1) in
      let same = same_if_level p.x a.0.pair t.pair (spans_live p.x a.0.pair (live_part p a.0 below)) (spans_live p.x t.pair (live_part p t j.1)) (apart_members a.0 t (known a.0 a.1) j.0) not_less (j.2 a.0 (known a.0 a.1) below) in
      let it = same_by_pair xs a.0 t arranged.sorted (known a.0 a.1) j.0 same in
      rw (e, found) (ap (λ (v : WholeSegment). v.count) a.2 ∙ ap (λ v. top xs v) it)))
