-- The support of each segment, found as a sweep goes: the states before a start point, and at it.
use Rattle.std.proofs.Common.{◌≡◌, ap, refl, sym, subst, ◌∙◌, arith, inl, inr, get_or, set, append_assoc, get_or-set_same, get_or-set_other}
use Rattle.std.specs.Prelude.{ℕ, zero, suc, ◌+◌, ◌<◌, ◌≤◌, ◌==◌, ℤ, pos, ◌≤ℤ◌, true, false, ◌⊎◌, List, [], ◌∷◌, ◌++◌, map, length, take, drop, Option, Some, None, slice_get}
use Rattle.std.specs.List.{AllByRecursion, enumerate_from, list_all}
use Rattle.std.specs.Ordering.{is_lt, ordering_then}
use Rattle.std.proofs.lemmas.Int.{ints}
use Rattle.std.proofs.lemmas.Bool.{and_parts, and_from, both_ways, eqb-true, eq-eqb, false≢true, cases_Bool}
use Rattle.std.proofs.lemmas.List.{take_all, append-nil, length-map, length-set, get_or-map}
use Rattle.std.proofs.lemmas.List.FromFn.{length-enumerate_from}
use Rattle.overlay_geometry.specs.Points.{Point, Pair, point_eq, point_lt, pair_lt, pair_cmp}
use Rattle.overlay_geometry.specs.Sorting.{is_strictly_sorted, stably_sorted}
use Rattle.overlay_geometry.specs.Meeting.{are_apart}
use Rattle.overlay_geometry.specs.Below.{height_cmp, angle_cmp}
use Rattle.overlay_base.specs.Windings.{Winding, empty}
use Rattle.overlay_base.specs.Segments.{WholeSegment, pairs}
use Rattle.overlay_base.specs.EdgeData.{DataSegment, without_data}
use Rattle.overlay_base.specs.declared.overlay_core.fill_rule.FillRule.{FillRule}
use Rattle.overlay_geometry.proofs.laws.lists.Lists.{AllByRecursion-at, Pairwise, Has, Has-map, Has-map_out, Has-filter, Has-filter_out}
use Rattle.overlay_geometry.proofs.laws.lists.Elements.{Contains-from_Has, Has-from_Contains, Has-append_out}
use Rattle.overlay_geometry.proofs.laws.geometry.Points.{before, same_by_eq, point_eq_same}
use Rattle.overlay_sweep.specs.ChainWindings.{neighbor_at_start, directly_below, support, is_live}
use Rattle.overlay_sweep.specs.Live.{sum_below, HoldSameFrom, AreFreeAt}
use Rattle.overlay_sweep.specs.Supports.{AreSupports}
use Rattle.overlay_sweep.specs.Sweep.{Visit, whole_of}
use Rattle.overlay_sweep.specs.steps.Numbered.{numbered}
use Rattle.overlay_sweep.specs.steps.WayOf.{WholeWay, ways_between, by_angle}
use Rattle.overlay_sweep.proofs.laws.columns.Members.{IsArranged, sorted_all, sorted_tail, differ_when_less}
use Rattle.overlay_sweep.proofs.laws.columns.Tops.{by_option, spans_live, starts_before, neighbor_is, no_neighbor}
use Rattle.overlay_sweep.proofs.laws.live.Supports.{angle_asymmetric, angle_same}
use Rattle.overlay_sweep.proofs.laws.live.PointChains.{AreStartingAt, angle_trans}
use Rattle.overlay_sweep.proofs.laws.live.DirectlyBelow.{lies_below, directly_below_is, directly_below_none, same_if_level, apart_members}
use Rattle.overlay_sweep.proofs.laws.live.Boundaries.{IsBlock, IsBoundary, below_begins_before, boundary_next, by_drop, drop_first, Has-take}
use Rattle.overlay_sweep.proofs.laws.live.LiveSums.{HoldSameFrom-trans, HoldSameFrom-later, HoldSameFrom-cons, HoldSameFrom-same, HoldSameFrom-push}
use Rattle.overlay_sweep.proofs.laws.visits.Visits.{visit_cmp, visit_to, listed, listed_from, visits_before, visits_of_block, wholes, visit_way, is_listed, wholes-listed, before_next, block_starts_at_point, listed_in_block, early_visited, ways_of_visits}
use Rattle.overlay_sweep.proofs.laws.visits.BlockSorts.{Has-stably_sorted}
use Rattle.overlay_sweep.proofs.laws.visits.SweepStates.{start_at, at_place, IsPlace}

-- ---- along the segments that start at one point each has the one before it as its support

module _ (xs : List WholeSegment) where
  -- the support of the first is o, that of each later one the one before it
  abbrev pub AreStood : Option WholeSegment → List WholeSegment → Type 0
  AreStood o [] = Unit {0}
  AreStood o (s ∷ ss) = (support xs s ≡ o) × AreStood (Some s) ss

module _ (xs : List WholeSegment) (arranged : IsArranged xs) (p : Point) where
  starts_before_from : (s t : WholeSegment) → s.pair.a ≡ p → t.pair.a ≡ p → is_lt (angle_cmp t.pair s.pair) ≡ true → starts_before s t ≡ true
  starts_before_from s t e f h = and_from _ _ (subst (λ q. point_eq t.pair.a q ≡ true) (f ∙ sym e) (point_eq_same t.pair.a)) h

  start_of : (s t : WholeSegment) → s.pair.a ≡ p → starts_before s t ≡ true → (t.pair.a ≡ p) × (is_lt (angle_cmp t.pair s.pair) ≡ true)
  start_of s t e h = let parts = and_parts (point_eq t.pair.a s.pair.a) _ h in (same_by_eq t.pair.a s.pair.a parts.0 ∙ e, parts.1)

  not_before_itself : (s : WholeSegment) → is_lt (angle_cmp s.pair s.pair) ≡ true → ⊥
  not_before_itself s h = both_ways (is_lt (angle_cmp s.pair s.pair)) (angle_same s.pair) h

  support_of_first : (s : WholeSegment) → Has xs s → s.pair.a ≡ p → ((t : WholeSegment) → Has xs t → t.pair.a ≡ p → is_lt (angle_cmp t.pair s.pair) ≡ true → ⊥) → support xs s ≡ directly_below xs p
  unfolding support
  support_of_first s m e none =
      by_option (neighbor_at_start xs s)
      (λ n. rw n (ap (λ q. directly_below xs q) e))
      (λ t n. let k = Has-filter_out (λ u. starts_before s u) xs t (neighbor_is xs arranged s m t n).0 in let q = start_of s t e k.1 in absurd (none t k.0 q.0 q.1))

  support_of_next : (s u : WholeSegment) → Has xs s → s.pair.a ≡ p → Has xs u → u.pair.a ≡ p → is_lt (angle_cmp u.pair s.pair) ≡ true →
      ((t : WholeSegment) → Has xs t → t.pair.a ≡ p → is_lt (angle_cmp t.pair s.pair) ≡ true → (t ≡ u) ⊎ (is_lt (angle_cmp t.pair u.pair) ≡ true)) → support xs s ≡ Some u
  unfolding support
  support_of_next s u m e n f h last =
      by_option (neighbor_at_start xs s)
      (λ none. absurd (no_neighbor xs arranged s m none u n (starts_before_from s u e f h)))
      (λ t found.
      let k = neighbor_is xs arranged s m t found in
      let mine = Has-filter_out (λ v. starts_before s v) xs t k.0 in
      let q = start_of s t e mine.1 in
      elim (last t mine.0 q.0 q.1) [
        | inl same ↦ rw found (ap (λ v. Some v) same)
        | inr less ↦ absurd (both_ways (is_lt (angle_cmp t.pair u.pair)) (k.1 u (Has-filter (λ v. starts_before s v) xs u n (starts_before_from s u e f h))) less)
      ])

  stood_from : (u : WholeSegment) (ss : List WholeSegment) → Has xs u → u.pair.a ≡ p →
      AllByRecursion (λ s. Has xs s × (s.pair.a ≡ p)) ss → AllByRecursion (λ s. is_lt (angle_cmp u.pair s.pair) ≡ true) ss → Pairwise (λ s t. is_lt (angle_cmp s.pair t.pair) ≡ true) ss →
      ((t : WholeSegment) → Has xs t → t.pair.a ≡ p → Has ss t ⊎ ((t ≡ u) ⊎ (is_lt (angle_cmp t.pair u.pair) ≡ true))) → AreStood xs (Some u) ss
  stood_from u [] m e a h r all = tt
  stood_from u (s ∷ ss) m e a h r all = (
    support_of_next s u a.0.0 a.0.1 m e h.0 (λ t n f l. elim (all t n f) [
      | inl (inl same) ↦ absurd (not_before_itself s (subst (λ v. is_lt (angle_cmp v.pair s.pair) ≡ true) (sym same) l))
      | inl (inr later) ↦ absurd (both_ways (is_lt (angle_cmp t.pair s.pair)) (angle_asymmetric s.pair t.pair (AllByRecursion-at (λ v. is_lt (angle_cmp s.pair v.pair) ≡ true) ss t r.0 later)) l)
      | inr earlier ↦ earlier
    ]),
    stood_from s ss a.0.0 a.0.1 a.1 r.0 r.1 (λ t n f. elim (all t n f) [
      | inl (inl same) ↦ inr (inl (sym same))
      | inl (inr later) ↦ inl later
      | inr (inl same) ↦ inr (inr (subst (λ v. is_lt (angle_cmp v.pair s.pair) ≡ true) (sym same) h.0))
      | inr (inr less) ↦ inr (inr (angle_trans xs arranged p t u s n m a.0.0 f e a.0.1 less h.0))
    ]),
  )

  -- the segments that start at p, the first on what lies directly below it
  pub starting_stand : (ns : List WholeSegment) → AreStartingAt xs p ns → AreStood xs (directly_below xs p) ns
  starting_stand [] starting = tt
  starting_stand (s ∷ ss) starting = (
    support_of_first s starting.members.0.0 starting.members.0.1 (λ t n f l. elim (starting.complete t n f) [
      | inl same ↦ not_before_itself s (subst (λ v. is_lt (angle_cmp v.pair s.pair) ≡ true) (sym same) l)
      | inr later ↦ both_ways (is_lt (angle_cmp t.pair s.pair)) (angle_asymmetric s.pair t.pair (AllByRecursion-at (λ v. is_lt (angle_cmp s.pair v.pair) ≡ true) ss t starting.rising.0 later)) l
    ]),
    stood_from s ss starting.members.0.0 starting.members.0.1 starting.members.1 starting.rising.0 starting.rising.1 (λ t n f. elim (starting.complete t n f) [
      | inl same ↦ inr (inl (sym same))
      | inr later ↦ inl later
    ]),
  )

-- ---- a segment of an arrangement is known by its pair

less_at : (x : WholeSegment) (ys : List WholeSegment) (n : ℕ) (f : WholeSegment) → list_all (λ y. pair_lt x.pair y.pair) ys ≡ true → n < length ys → pair_lt x.pair (get_or ys n f).pair ≡ true
less_at x [] n f a l = absurd (omega (arith, l))
less_at x (y ∷ ys) zero f a l = (and_parts (pair_lt x.pair y.pair) _ a).0
less_at x (y ∷ ys) (suc n) f a l = less_at x ys n f (and_parts (pair_lt x.pair y.pair) _ a).1 (omega (arith, l))

index_by_pair : (xs : List WholeSegment) (i j : ℕ) (d e : WholeSegment) → is_strictly_sorted pair_cmp (pairs xs) ≡ true → i < length xs → j < length xs → (get_or xs i d).pair ≡ (get_or xs j e).pair → i ≡ j
index_by_pair [] i j d e o h k s = absurd (omega (arith, h))
index_by_pair (x ∷ xs) zero zero d e o h k s = refl
index_by_pair (x ∷ xs) zero (suc j) d e o h k s = absurd (differ_when_less x.pair (get_or xs j e).pair (less_at x xs j e (sorted_all x xs o) (omega (arith, k))) s)
index_by_pair (x ∷ xs) (suc i) zero d e o h k s = absurd (differ_when_less x.pair (get_or xs i d).pair (less_at x xs i d (sorted_all x xs o) (omega (arith, h))) (sym s))
index_by_pair (x ∷ xs) (suc i) (suc j) d e o h k s = let r = index_by_pair xs i j d e (sorted_tail x xs o) (omega (arith, h)) (omega (arith, k)) s in omega (arith, r)

slice_get-at : {X : Type 0} (xs : List X) (i : ℕ) (x : X) → i < length xs → ((d : X) → get_or xs i d ≡ x) → slice_get xs i ≡ Some x
slice_get-at [] i x h e = absurd (omega (arith, h))
slice_get-at (y ∷ xs) zero x h e = ap (λ z. Some z) (e y)
slice_get-at (y ∷ xs) (suc i) x h e = slice_get-at xs i x (omega (arith, h)) e

slice_get-past : {X : Type 0} (xs : List X) (i : ℕ) → length xs ≤ i → slice_get xs i ≡ None
slice_get-past [] i h = refl
slice_get-past (y ∷ xs) zero h = absurd (omega (arith, h))
slice_get-past (y ∷ xs) (suc i) h = slice_get-past xs i (omega (arith, h))

-- ---- the indexes of segments as live sums

module _ {D : Type 0} (rule : FillRule) (list : List (DataSegment D)) (arranged : IsArranged (without_data list)) where
  abbrev pub coded : Visit D → WholeSegment
  coded v = record { pair = v.segment.pair; count = numbered v.index }

  abbrev AreKnown : List (Visit D) → Type 0
  AreKnown vs = (v : Visit D) → Has vs v → Has (listed rule list arranged) v

  member : (v : Visit D) → Has (listed rule list arranged) v → Has (without_data list) (whole_of v.segment)
  member v m = subst (λ l. Has l (whole_of v.segment)) (wholes-listed rule (without_data list) 0 list) (Has-map (λ (u : Visit D). whole_of u.segment) (listed rule list arranged) v m)

  length-xs : length (without_data list) ≡ length list
  length-xs = length-map list (λ s. record { pair = s.pair; count = s.count })

  at_index : (v : Visit D) → Has (listed rule list arranged) v → (v.index < length (without_data list)) × ((d : WholeSegment) → get_or (without_data list) v.index d ≡ whole_of v.segment)
  at_index v m =
      let is = is_listed rule (without_data list) list v m in (
        subst (λ n. v.index < n) (sym length-xs) is.within,
        λ d. get_or-map (λ (s : DataSegment D). whole_of s) list v.index v.segment d is.within ∙ ap whole_of (is.segment v.segment),
      )

  same_index : (u v : Visit D) → Has (listed rule list arranged) u → Has (listed rule list arranged) v → u.segment.pair ≡ v.segment.pair → u.index ≡ v.index
  same_index u v m n e =
      let a = at_index u m in
      let b = at_index v n in
      let d : WholeSegment = whole_of u.segment in
      index_by_pair (without_data list) u.index v.index d d arranged.sorted a.0 b.0 (ap (λ (s : WholeSegment). s.pair) (a.1 d) ∙ e ∙ ap (λ (s : WholeSegment). s.pair) (sym (b.1 d)))

  module _ (x : ℤ) (live : List WholeSegment) (vs : List (Visit D)) (holds : HoldSameFrom x live (map coded vs)) (known : AreKnown vs) where
    source : (u : WholeSegment) → Has live u → is_live x u.pair ≡ true → (v : Visit D) × Has vs v × (u ≡ coded v)
    source u m l = let found = Has-map_out coded vs u (Has-from_Contains (map coded vs) u ((holds u x (omega (arith, ints)) l).0 (Contains-from_Has live u m))) in (found.0, found.1, sym found.2)

    stored : (v : Visit D) → Has vs v → is_live x v.segment.pair ≡ true → Has live (coded v)
    stored v m l = Has-from_Contains live (coded v) ((holds (coded v) x (omega (arith, ints)) l).1 (Contains-from_Has (map coded vs) (coded v) (Has-map coded vs v m)))

    -- what is live is free of crossings
    pub free_coded : AreFreeAt x live
    free_coded = record {
      apart = λ s t m n l k.
          let a = source s (Has-from_Contains live s m) l in
          let b = source t (Has-from_Contains live t n) k in
          subst (λ v. are_apart v t.pair ≡ true) (sym (ap (λ (w : WholeSegment). w.pair) a.2)) (subst (λ v. are_apart a.0.segment.pair v ≡ true) (sym (ap (λ (w : WholeSegment). w.pair) b.2)) (arranged.apart (whole_of a.0.segment) (whole_of b.0.segment) (member a.0 (known a.0 a.1)) (member b.0 (known b.0 b.1))));
      one_sum = λ s t m n l k e.
          let a = source s (Has-from_Contains live s m) l in
          let b = source t (Has-from_Contains live t n) k in
          let same = same_index a.0 b.0 (known a.0 a.1) (known b.0 b.1) (ap (λ (w : WholeSegment). w.pair) (sym a.2) ∙ e ∙ ap (λ (w : WholeSegment). w.pair) b.2) in
          let pair : a.0.segment.pair ≡ b.0.segment.pair = ap (λ (w : WholeSegment). w.pair) (sym a.2) ∙ e ∙ ap (λ (w : WholeSegment). w.pair) b.2 in
          a.2 ∙ (λ i. record { pair = pair i; count = numbered (same i) }) ∙ sym b.2;
    }

  -- a sum is the number of a segment, or none
  pub data IsCodeOf (w : Winding) (o : Option WholeSegment) : Type 0 where
    of_none : o ≡ None → w ≡ empty → IsCodeOf w o
    of_one : (v : Visit D) → Has (listed rule list arranged) v → o ≡ Some (whole_of v.segment) → w ≡ numbered v.index → IsCodeOf w o

  live_part : (p : Point) (t : WholeSegment) → lies_below p t ≡ true → is_live p.x t.pair ≡ true
  live_part p t h = (and_parts (is_live p.x t.pair) _ h).0

  -- where all segments that begin before p are known, the sum below it is the number of the one directly below
  pub code_below : (p : Point) (live : List WholeSegment) (vs : List (Visit D)) → HoldSameFrom p.x live (map coded vs) → AreKnown vs →
      ((s : WholeSegment) → Has (without_data list) s → lies_below p s ≡ true → Has (wholes vs) s) → IsCodeOf (sum_below live p empty) (directly_below (without_data list) p)
  unfolding sum_below
  code_below p live vs holds known early =
      by_option (directly_below (without_data list) p)
      (λ none. of_none none (by_option (directly_below live p)
      (λ e. rw e refl)
      (λ u e.
      let k = directly_below_is live p u e in
      let a = source p.x live vs holds known u k.0 (live_part p u k.1) in
      absurd (directly_below_none (without_data list) p none (whole_of a.0.segment) (member a.0 (known a.0 a.1)) (subst (λ v. lies_below p v ≡ true) a.2 k.1)))))
      (λ t found.
      let j = directly_below_is (without_data list) p t found in
      let seen = Has-map_out (λ (v : Visit D). whole_of v.segment) vs t (early t j.0 j.1) in
      let is : whole_of seen.0.segment ≡ t = seen.2 in
      let lies : lies_below p (whole_of seen.0.segment) ≡ true = subst (λ v. lies_below p v ≡ true) (sym is) j.1 in
      let mine = stored p.x live vs holds known seen.0 seen.1 (live_part p (whole_of seen.0.segment) lies) in
      of_one seen.0 (known seen.0 seen.1) (found ∙ ap (λ v. Some v) (sym is)) (by_option (directly_below live p)
      (λ e. absurd (directly_below_none live p e (coded seen.0) mine lies))
      (λ u e.
      let k = directly_below_is live p u e in
      let a = source p.x live vs holds known u k.0 (live_part p u k.1) in
      let below : lies_below p (whole_of a.0.segment) ≡ true = subst (λ v. lies_below p v ≡ true) a.2 k.1 in
      let not_less = subst (λ (v : WholeSegment). is_lt (ordering_then (height_cmp p.x v.pair seen.0.segment.pair) (angle_cmp v.pair seen.0.segment.pair)) ≡ false) a.2 (k.2 (coded seen.0) mine lies) in
      let not_more = subst (λ (v : WholeSegment). is_lt (ordering_then (height_cmp p.x v.pair a.0.segment.pair) (angle_cmp v.pair a.0.segment.pair)) ≡ false) (sym is) (j.2 (whole_of a.0.segment) (member a.0 (known a.0 a.1)) below) in
      let same = same_if_level p.x a.0.segment.pair seen.0.segment.pair (spans_live p.x a.0.segment.pair (live_part p (whole_of a.0.segment) below)) (spans_live p.x seen.0.segment.pair (live_part p (whole_of seen.0.segment) lies))
      (apart_members (without_data list) arranged (whole_of a.0.segment) (whole_of seen.0.segment) (member a.0 (known a.0 a.1)) (member seen.0 (known seen.0 seen.1))) not_less not_more in
      let it = same_index a.0 seen.0 (known a.0 a.1) (known seen.0 seen.1) same in
      rw e (ap (λ (v : WholeSegment). v.count) a.2 ∙ ap numbered it))))

  -- the index that such a sum gives
  pub told_by_code : (w : Winding) (o : Option WholeSegment) (n : ℕ) → IsCodeOf w o → (w ≡ empty → n ≡ length list) → ((m : ℕ) → w ≡ numbered m → n ≡ m) → slice_get (without_data list) n ≡ o
  told_by_code w o n (of_none e f) none some = ap (slice_get (without_data list)) (none f) ∙ slice_get-past (without_data list) (length list) (omega (arith, length-xs)) ∙ sym e
  told_by_code w o n (of_one v m e f) none some = let k = at_index v m in ap (slice_get (without_data list)) (some v.index f) ∙ slice_get-at (without_data list) v.index (whole_of v.segment) k.0 k.1 ∙ sym e

  pub code_counts : (w : Winding) (o : Option WholeSegment) → IsCodeOf w o → (pos 0 ≤ℤ w.subj) × (pos 0 ≤ℤ w.clip)
  code_counts w o (of_none e f) = subst (λ (v : Winding). (pos 0 ≤ℤ v.subj) × (pos 0 ≤ℤ v.clip)) (sym f) (omega (arith, ints), omega (arith, ints))
  code_counts w o (of_one v m e f) = subst (λ (v : Winding). (pos 0 ≤ℤ v.subj) × (pos 0 ≤ℤ v.clip)) (sym f) (omega (arith, ints), omega (arith, ints))

  -- ---- the states

  -- the visits of all segments so far are live by their indexes, and the indexes of their supports are given
  pub record IsStanding (vs : List (Visit D)) (x : ℤ) (live : List WholeSegment) (supports : List ℕ) : Type 0 where
    pub holds : HoldSameFrom x live (map coded vs)
    pub known : (v : Visit D) → Has vs v → Has (listed rule list arranged) v
    pub told : (v : Visit D) → Has vs v → support (without_data list) (whole_of v.segment) ≡ slice_get (without_data list) (get_or supports v.index 0)
    pub each : length supports ≡ length list

  pub record IsBeforeStart (index : ℕ) (live : List WholeSegment) (supports : List ℕ) (may : ℤ → Type 0) : Type 0 where
    pub at_most : index ≤ length list
    pub boundary : IsBoundary (without_data list) index
    pub x : ℤ
    pub reaches : index < length list → x ≤ℤ (start_at (without_data list) index).x
    pub standing : IsStanding (visits_before rule list arranged index) x live supports
    pub time : (y : ℤ) → x ≤ℤ y → may y

  abbrev pub up_to_place : ℕ → ℕ → ℕ → List (Visit D)
  up_to_place i next k = visits_before rule list arranged i ++ take k (visits_of_block rule list arranged i next)

  pub record IsAmidStart (i next k : ℕ) (w : Winding) (live : List WholeSegment) (supports : List ℕ) (may : ℤ → Type 0) : Type 0 where
    pub order : i < next
    pub within : next ≤ length list
    pub block : IsBlock (without_data list) i next (start_at (without_data list) i)
    pub on : Option WholeSegment
    pub stood : AreStood (without_data list) on (wholes (drop k (visits_of_block rule list arranged i next)))
    pub code : IsCodeOf w on
    pub standing : IsStanding (up_to_place i next k) (start_at (without_data list) i).x live supports
    pub time : (y : ℤ) → (start_at (without_data list) i).x ≤ℤ y → may y

  abbrev no_handle : Unit {0} → Visit D → Unit {0} × Option (Unit {0})
  no_handle h v = (h, None)

  abbrev no_end : Unit {0} → Unit {0}
  no_end h = h

  abbrev pub IsPlaceAt : ℕ → ℕ → ℕ → Visit D → Type 0
  IsPlaceAt i next k v = IsPlace no_handle no_end rule list arranged tt i next k (start_at (without_data list) i) v

  pub before_all : (live : List WholeSegment) (supports : List ℕ) (may : ℤ → Type 0) → live ≡ [] → ((y : ℤ) → may y) → length supports ≡ length list → IsBeforeStart 0 live supports may
  unfolding stably_sorted
  before_all live supports may e time many = record {
    at_most = omega arith;
    boundary = tt;
    x = (start_at (without_data list) 0).x;
    reaches = λ h. omega (arith, ints);
    standing = record { holds = subst (λ l. HoldSameFrom (start_at (without_data list) 0).x l []) (sym e) (HoldSameFrom-same (start_at (without_data list) 0).x []); known = λ v m. absurd m; told = λ v m. absurd m; each = many };
    time = λ y h. time y;
  }

  pub free_before : (i : ℕ) (live : List WholeSegment) (supports : List ℕ) (may : ℤ → Type 0) → i < length list → IsBeforeStart i live supports may → AreFreeAt (start_at (without_data list) i).x live
  free_before i live supports may order state = free_coded (start_at (without_data list) i).x live (visits_before rule list arranged i) (HoldSameFrom-later state.x (start_at (without_data list) i).x live (map coded (visits_before rule list arranged i)) (state.reaches order) state.standing.holds) state.standing.known

  first_start : (i : ℕ) → i < length list → (u : WholeSegment) × (u.pair.a ≡ start_at (without_data list) i)
  first_start i h = (get_or (without_data list) i origin, ap (λ (s : Pair). s.a) (sym (get_or-map (λ (s : WholeSegment). s.pair) (without_data list) i origin (record { a = record { x = pos 0; y = pos 0 }; b = record { x = pos 0; y = pos 0 } }) (subst (λ n. i < n) (sym length-xs) h))))
    where
      origin : WholeSegment
      origin = record { pair = record { a = record { x = pos 0; y = pos 0 }; b = record { x = pos 0; y = pos 0 } }; count = empty }

  -- at a start point, with the sum below it
  pub come_to : (i next : ℕ) (live left : List WholeSegment) (supports : List ℕ) (may later : ℤ → Type 0) (w : Winding) → i < next → next ≤ length list → IsBlock (without_data list) i next (start_at (without_data list) i) → IsBeforeStart i live supports may →
      HoldSameFrom (start_at (without_data list) i).x left live → w ≡ sum_below live (start_at (without_data list) i) empty → ((y : ℤ) → (start_at (without_data list) i).x ≤ℤ y → later y) → IsAmidStart i next 0 w left supports later
  come_to i next live left supports may later w order within block state same sum time =
      let filled : i < length list = omega (arith, order, within) in
      let u = first_start i filled in
      let p = start_at (without_data list) i in
      let holds = HoldSameFrom-later state.x p.x live (map coded (visits_before rule list arranged i)) (state.reaches filled) state.standing.holds in
      let nil : up_to_place i next 0 ≡ visits_before rule list arranged i = append-nil (visits_before rule list arranged i) in
      record {
        order = order;
        within = within;
        block = block;
        on = directly_below (without_data list) p;
        stood = starting_stand (without_data list) arranged p (wholes (visits_of_block rule list arranged i next)) (block_starts_at_point rule list arranged i next p order block);
        code = subst (λ v. IsCodeOf v (directly_below (without_data list) p)) (sym sum) (code_below p live (visits_before rule list arranged i) holds state.standing.known (λ s m b. early_visited rule list arranged i next p order block s m (below_begins_before p s u.0.pair u.1 b)));
        standing = subst (λ vs. IsStanding vs p.x left supports) (sym nil) (record {
          holds = HoldSameFrom-trans p.x left live (map coded (visits_before rule list arranged i)) same holds;
          known = state.standing.known;
          told = state.standing.told;
          each = state.standing.each;
        });
        time = time;
      }

  -- the visit of a way that was collected
  pub way_place : {X P : Type 0} (i next k : ℕ) (w : Winding) (live : List WholeSegment) (supports : List ℕ) (may : ℤ → Type 0) → IsAmidStart i next k w live supports may → (f : X → WholeWay) (items : List X) → map f items ≡ by_angle (ways_between (without_data list) i next) → k < length items → (x : X) → x ≡ get_or items k x →
      ((v : Visit D) → IsPlaceAt i next k v → (f x).index ≡ v.index → P) → P
  way_place i next k w live supports may state f items same l x e g =
      at_place no_handle no_end rule list arranged tt i next (start_at (without_data list) i) state.order state.block k (map f items) same (subst (λ n. k < n) (sym (length-map items f)) l) (f x) (ap f e ∙ sym (get_or-map f items k x (f x) l)) g

  pub start_is_over : {X : Type 0} (i next k : ℕ) (w : Winding) (live : List WholeSegment) (supports : List ℕ) (may : ℤ → Type 0) → IsAmidStart i next k w live supports may → (f : X → WholeWay) (items : List X) → map f items ≡ by_angle (ways_between (without_data list) i next) → length items ≤ k → length (visits_of_block rule list arranged i next) ≤ k
  start_is_over i next k w live supports may state f items same l =
      let as_visits = same ∙ ways_of_visits rule list arranged i next (start_at (without_data list) i) state.order state.block in
      subst (λ n. n ≤ k) (sym (length-map items f) ∙ ap length as_visits ∙ length-map (visits_of_block rule list arranged i next) visit_way) l

  module _ (i next k : ℕ) (w : Winding) (live : List WholeSegment) (supports : List ℕ) (may : ℤ → Type 0) (v : Visit D) (at : IsPlaceAt i next k v) (state : IsAmidStart i next k w live supports may) where
    known_here : Has (listed rule list arranged) v
    known_here = AllByRecursion-at (λ u. Has (listed rule list arranged) u) (visits_of_block rule list arranged i next) v (listed_in_block rule list arranged i next (start_at (without_data list) i) state.order state.block) in_block
      where
        in_block : Has (visits_of_block rule list arranged i next) v
        in_block = Has-taken (k + 1) (visits_of_block rule list arranged i next) (subst (λ l. Has l v) (sym at.taken) (last (take k (visits_of_block rule list arranged i next))))
          where
            Has-taken : (n : ℕ) (us : List (Visit D)) → Has (take n us) v → Has us v
            Has-taken n us m = Has-take n us v m

            last : (us : List (Visit D)) → Has (us ++ v ∷ []) v
            last [] = inl refl
            last (u ∷ us) = inr (last us)

    stood_here : (support (without_data list) (whole_of v.segment) ≡ state.on) × AreStood (without_data list) (Some (whole_of v.segment)) (wholes (drop (k + 1) (visits_of_block rule list arranged i next)))
    stood_here = subst (λ l. AreStood (without_data list) state.on (wholes l)) at.here state.stood

    -- what is live, and the visit by its index, are free of crossings
    pub free_with : AreFreeAt (start_at (without_data list) i).x (coded v ∷ live)
    free_with = free_coded (start_at (without_data list) i).x (coded v ∷ live) (v ∷ up_to_place i next k) (HoldSameFrom-cons (start_at (without_data list) i).x (coded v) live (map coded (up_to_place i next k)) state.standing.holds)
        (λ u m. elim m [ inl same ↦ subst (λ z. Has (listed rule list arranged) z) same known_here | inr n ↦ state.standing.known u n ])

    more_visits : up_to_place i next (k + 1) ≡ up_to_place i next k ++ v ∷ []
    more_visits = ap (λ l. visits_before rule list arranged i ++ l) at.taken ∙ sym (append_assoc (visits_before rule list arranged i) (take k (visits_of_block rule list arranged i next)) (v ∷ []))

    coded_more : (vs : List (Visit D)) → map coded (vs ++ v ∷ []) ≡ map coded vs ++ coded v ∷ []
    coded_more [] = refl
    coded_more (u ∷ us) = ap (λ l. coded u ∷ l) (coded_more us)

    pub support_told : (n : ℕ) → (w ≡ empty → n ≡ length list) → ((m : ℕ) → w ≡ numbered m → n ≡ m) → slice_get (without_data list) n ≡ support (without_data list) (whole_of v.segment)
    support_told n none some = told_by_code w state.on n state.code none some ∙ sym stood_here.0

    -- the state after the visit
    pub gone_on : (n : ℕ) (t : Winding) (left : List WholeSegment) (later : ℤ → Type 0) → (w ≡ empty → n ≡ length list) → ((m : ℕ) → w ≡ numbered m → n ≡ m) → t ≡ numbered v.index →
        HoldSameFrom (start_at (without_data list) i).x left (coded v ∷ live) → ((y : ℤ) → (start_at (without_data list) i).x ≤ℤ y → later y) → IsAmidStart i next (k + 1) t left (set supports v.index n) later
    gone_on n t left later none some code holds time = record {
      order = state.order;
      within = state.within;
      block = state.block;
      on = Some (whole_of v.segment);
      stood = stood_here.1;
      code = of_one v known_here refl code;
      standing = subst (λ vs. IsStanding vs (start_at (without_data list) i).x left (set supports v.index n)) (sym more_visits) (record {
        holds = subst (λ l. HoldSameFrom (start_at (without_data list) i).x left l) (sym (coded_more (up_to_place i next k))) (cons_to_push (start_at (without_data list) i).x (coded v) (map coded (up_to_place i next k)) holds state.standing.holds);
        known = λ u m. elim (Has-append_out (up_to_place i next k) (v ∷ []) u m) [
          | inl l ↦ state.standing.known u l
          | inr (inl same) ↦ subst (λ z. Has (listed rule list arranged) z) same known_here
          | inr (inr none) ↦ elim none [ ]
        ];
        told = λ u m. elim (cases_Bool (u.index == v.index)) [
          | inl e ↦
              let same : u.index ≡ v.index = eqb-true u.index v.index e in
              let a = is_listed rule (without_data list) list u (known_all u m) in
              let b = is_listed rule (without_data list) list v known_here in
              let seg : u.segment ≡ v.segment = sym (a.segment v.segment) ∙ ap (λ j. get_or list j v.segment) same ∙ b.segment v.segment in
              let inside : v.index < length supports = omega (arith, b.within, state.standing.each) in
              ap (λ (s : DataSegment D). support (without_data list) (whole_of s)) seg ∙ sym (support_told n none some)
              ∙ ap (slice_get (without_data list)) (sym (ap (λ j. get_or (set supports v.index n) j 0) same ∙ get_or-set_same supports v.index n 0 inside))
          | inr e ↦ elim (Has-append_out (up_to_place i next k) (v ∷ []) u m) [
            | inl l ↦ state.standing.told u l ∙ ap (slice_get (without_data list)) (sym (get_or-set_other supports v.index u.index n 0 (λ s. false≢true (sym e ∙ eq-eqb u.index v.index s))))
            | inr (inl same) ↦ absurd (false≢true (sym e ∙ eq-eqb u.index v.index (ap (λ (z : Visit D). z.index) (sym same))))
            | inr (inr none) ↦ elim none [ ]
          ]
        ];
        each = length-set' supports v.index n ∙ state.standing.each;
      });
      time = time;
    }
      where
        known_all : (u : Visit D) → Has (up_to_place i next k ++ v ∷ []) u → Has (listed rule list arranged) u
        known_all u m = elim (Has-append_out (up_to_place i next k) (v ∷ []) u m) [
          | inl l ↦ state.standing.known u l
          | inr (inl same) ↦ subst (λ z. Has (listed rule list arranged) z) same known_here
          | inr (inr none) ↦ elim none [ ]
        ]

        length-set' : (ns : List ℕ) (j n : ℕ) → length (set ns j n) ≡ length ns
        length-set' ns j n = simp length-set

        cons_to_push : (x : ℤ) (e : WholeSegment) (ys : List WholeSegment) → HoldSameFrom x left (e ∷ live) → HoldSameFrom x live ys → HoldSameFrom x left (ys ++ e ∷ [])
        cons_to_push x e ys f g = HoldSameFrom-trans x left (e ∷ ys) (ys ++ e ∷ []) (HoldSameFrom-trans x left (e ∷ live) (e ∷ ys) f (HoldSameFrom-cons x e live ys g)) (λ s y l m. let k = HoldSameFrom-push x e ys s y l m in (k.1, k.0))

  -- past a start point
  pub gone_past : (i next k : ℕ) (w : Winding) (live : List WholeSegment) (supports : List ℕ) (may : ℤ → Type 0) → IsAmidStart i next k w live supports may → length (visits_of_block rule list arranged i next) ≤ k → IsBeforeStart next live supports may
  gone_past i next k w live supports may state past = record {
    at_most = state.within;
    boundary = boundary_next (without_data list) arranged i next (start_at (without_data list) i) state.order state.block;
    x = (start_at (without_data list) i).x;
    reaches = later_start;
    standing = subst (λ vs. IsStanding vs (start_at (without_data list) i).x live supports)
        (ap (λ l. visits_before rule list arranged i ++ l) (take_all k (visits_of_block rule list arranged i next) past) ∙ sym (before_next rule list arranged i next (start_at (without_data list) i) state.order state.block))
        state.standing;
    time = state.time;
  }
    where
      before_x : (p q : Point) → point_lt p q ≡ true → p.x ≤ℤ q.x
      before_x p q l = elim (before p q l) [ inl less ↦ omega (arith, ints) | inr same ↦ (let e = same.0 in omega (arith, ints)) ]

      later_start : next < length list → (start_at (without_data list) i).x ≤ℤ (start_at (without_data list) next).x
      later_start filled =
          let origin : Pair = record { a = record { x = pos 0; y = pos 0 }; b = record { x = pos 0; y = pos 0 } } in
          by_drop next (without_data list) (subst (λ n. next < n) (sym length-xs) filled) (λ q qs e.
          let late : point_lt (start_at (without_data list) i) q.pair.a ≡ true = (subst (λ l. AllByRecursion (λ s. point_lt (start_at (without_data list) i) s.pair.a ≡ true) l) e state.block.late).0 in
          let at : start_at (without_data list) next ≡ q.pair.a = ap (λ (s : Pair). s.a) (get_or-map (λ (s : WholeSegment). s.pair) (without_data list) next q origin (drop_first next (without_data list) q qs e).0 ∙ ap (λ (s : WholeSegment). s.pair) ((drop_first next (without_data list) q qs e).1 q)) in
          before_x (start_at (without_data list) i) (start_at (without_data list) next) (subst (λ z. point_lt (start_at (without_data list) i) z ≡ true) (sym at) late))

  listed_has : (n : ℕ) (ss : List (DataSegment D)) (i : ℕ) (s : WholeSegment) → slice_get (without_data ss) i ≡ Some s → (v : Visit D) × Has (listed_from rule (without_data list) n ss) v × (v.index ≡ n + i) × (whole_of v.segment ≡ s)
  listed_has n [] i s e = absurd (cc)
  listed_has n (t ∷ ss) zero s e = (visit_to rule (without_data list) (n, t), inl refl, (let k : n ≡ n + 0 = omega arith in k), cc)
  listed_has n (t ∷ ss) (suc i) s e =
      let r = listed_has (n + 1) ss i s e in
      (r.0, inr r.1, r.2 ∙ (let k : (n + 1) + i ≡ n + suc i = omega arith in k), r.3)

  -- all have been visited
  pub all_told : (index : ℕ) (live : List WholeSegment) (supports : List ℕ) (may : ℤ → Type 0) → IsBeforeStart index live supports may → length list ≤ index → AreSupports (without_data list) supports
  all_told index live supports may state past = record {
    each = state.standing.each ∙ sym length-xs;
    told = λ i s e.
        let r = listed_has 0 list i s e in
        let here : r.0.index ≡ i = r.2 ∙ (let k : 0 + i ≡ i = omega arith in k) in
        let long : length (listed rule list arranged) ≤ index = subst (λ n. n ≤ index) (sym (length-map (enumerate_from 0 list) _ ∙ length-enumerate_from 0 list)) past in
        let seen : Has (visits_before rule list arranged index) r.0 = Has-stably_sorted visit_cmp r.0 (take index (listed rule list arranged)) (subst (λ l. Has l r.0) (sym (take_all index (listed rule list arranged) long)) r.1) in
        ap (support (without_data list)) (sym r.3) ∙ state.standing.told r.0 seen ∙ ap (λ j. slice_get (without_data list) (get_or supports j 0)) here;
  }
