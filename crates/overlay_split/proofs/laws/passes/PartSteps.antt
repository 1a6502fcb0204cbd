-- The part of a list that is near rectangles, found from one segment to the next.
use Rattle.std.proofs.Common.{◌≡◌, refl, sym, ap, subst, ◌∙◌, arith, ℕ, zero, suc, ◌+◌, ◌-◌, ◌<◌, ◌≤◌, Bool, true, false, List, [], ◌∷◌, ◌++◌, map, take, filter, length, get_or, inl, inr, Ordering, Less, Equal, Greater, is_lt, is_gt}
use Rattle.std.specs.Prelude.{ℤ, ◌≤ℤ◌, ◌<ℤ◌, IsSortedByKey, Option, Some, None}
use Rattle.std.specs.Ordering.{ordering_reverse}
use Rattle.std.specs.List.{AllWithin}
use Rattle.std.proofs.lemmas.Bool.{cases_Bool, cases_lt}
use Rattle.std.proofs.lemmas.Int.{ints}
use Rattle.std.proofs.lemmas.List.{map-append, take_more, length-map, length-take, get_or_default}
use Rattle.overlay_geometry.specs.Points.{Pair, pair_cmp}
use Rattle.overlay_geometry.specs.Ranges.{Rect, do_rects_meet}
use Rattle.overlay_geometry.proofs.laws.geometry.Points.{pair_cmp_total}
use Rattle.overlay_geometry.proofs.laws.lists.Keys.{IsInOrder, IsInOrder-from_sort}
use Rattle.overlay_geometry.proofs.laws.lists.Lists.{AllByRecursion-map, AllByRecursion-map_out, AllByRecursion-filter_all, filter-map}
use Rattle.overlay_grid.specs.Grid.{Layout, IsInside, LieInside}
use Rattle.overlay_base.specs.Segments.{WholeSegment}
use Rattle.overlay_base.specs.SegmentOf.{ends_of, segment_of, segments_of, pairs_in}
use Rattle.overlay_base.specs.declared.segm.segment.Segment.{Segment}
use Rattle.overlay_split.specs.steps.ChangedBoxes.{box_of, meets_one, is_near, near_from}
use Rattle.overlay_split.proofs.laws.passes.RectSweeps.{ends_before}

filter-push_yes : {X : Type 0} (p : X → Bool) (xs : List X) (x : X) → p x ≡ true → filter p (xs ++ x ∷ []) ≡ filter p xs ++ x ∷ []
filter-push_yes p [] x h = rw h refl
filter-push_yes p (y ∷ ys) x h = elim (cases_Bool (p y)) [
  | inl k ↦ rw k (ap (λ l. y ∷ l) (filter-push_yes p ys x h))
  | inr k ↦ rw k (filter-push_yes p ys x h)
]

filter-push_no : {X : Type 0} (p : X → Bool) (xs : List X) (x : X) → p x ≡ false → filter p (xs ++ x ∷ []) ≡ filter p xs
filter-push_no p [] x h = rw h refl
filter-push_no p (y ∷ ys) x h = elim (cases_Bool (p y)) [
  | inl k ↦ rw k (ap (λ l. y ∷ l) (filter-push_no p ys x h))
  | inr k ↦ rw k (filter-push_no p ys x h)
]

module _ (rects : List Rect) where
  near_from-push_yes : (i : ℕ) (ps : List Pair) (q : Pair) → is_near rects q ≡ true → near_from rects i (ps ++ q ∷ []) ≡ near_from rects i ps ++ (i + length ps) ∷ []
  unfolding near_from
  near_from-push_yes i [] q h = rw h (ap (λ n. n ∷ []) (omega arith))
  near_from-push_yes i (p ∷ ps) q h =
      let e : suc i + length ps ≡ i + suc (length ps) = omega arith in
      let rest = near_from-push_yes (suc i) ps q h ∙ ap (λ n. near_from rects (suc i) ps ++ n ∷ []) e in
      elim (cases_Bool (is_near rects p)) [
        | inl k ↦ rw k (ap (λ l. i ∷ l) rest)
        | inr k ↦ rw k rest
      ]

  near_from-push_no : (i : ℕ) (ps : List Pair) (q : Pair) → is_near rects q ≡ false → near_from rects i (ps ++ q ∷ []) ≡ near_from rects i ps
  unfolding near_from
  near_from-push_no i [] q h = rw h refl
  near_from-push_no i (p ∷ ps) q h =
      let rest = near_from-push_no (suc i) ps q h in
      elim (cases_Bool (is_near rects p)) [
        | inl k ↦ rw k (ap (λ l. i ∷ l) rest)
        | inr k ↦ rw k rest
      ]

module _ {C I D : Type 0} {m : _} {w : _} {o : _} {e : _} {p : _} (rects : List Rect) (xs : List (Segment C I D m w o e p)) where
  abbrev Kept : ℕ → List (Segment C I D m w o e p)
  Kept i = filter (λ s. is_near rects (ends_of s)) (take i xs)

  abbrev Places : ℕ → List ℕ
  Places i = near_from rects 0 (pairs_in (take i xs))

  more_pairs : (i : ℕ) (x : Segment C I D m w o e p) → i < length xs → pairs_in (take (i + 1) xs) ≡ pairs_in (take i xs) ++ ends_of (get_or xs i x) ∷ []
  more_pairs i x lt =
      ap (λ l. pairs_in l) (take_more xs i x lt) ∙ ap (λ l. map (λ (u : WholeSegment). u.pair) l) (map-append segment_of (take i xs) (get_or xs i x ∷ []))
      ∙ map-append (λ (u : WholeSegment). u.pair) (segments_of (take i xs)) (segment_of (get_or xs i x) ∷ [])

  count_pairs : (i : ℕ) → i < length xs → length (pairs_in (take i xs)) ≡ i
  count_pairs i lt = length-map (segments_of (take i xs)) (λ (u : WholeSegment). u.pair) ∙ length-map (take i xs) segment_of ∙ length-take i xs ∙ omega (arith, lt)

  pub kept-yes : (i : ℕ) (x : Segment C I D m w o e p) → i < length xs → is_near rects (ends_of (get_or xs i x)) ≡ true → Kept (i + 1) ≡ Kept i ++ get_or xs i x ∷ []
  kept-yes i x lt h = ap (filter (λ s. is_near rects (ends_of s))) (take_more xs i x lt) ∙ filter-push_yes (λ s. is_near rects (ends_of s)) (take i xs) (get_or xs i x) h

  pub kept-no : (i : ℕ) (x : Segment C I D m w o e p) → i < length xs → is_near rects (ends_of (get_or xs i x)) ≡ false → Kept (i + 1) ≡ Kept i
  kept-no i x lt h = ap (filter (λ s. is_near rects (ends_of s))) (take_more xs i x lt) ∙ filter-push_no (λ s. is_near rects (ends_of s)) (take i xs) (get_or xs i x) h

  pub places-yes : (i : ℕ) (x : Segment C I D m w o e p) → i < length xs → is_near rects (ends_of (get_or xs i x)) ≡ true → Places (i + 1) ≡ Places i ++ i ∷ []
  places-yes i x lt h =
      let at : 0 + length (pairs_in (take i xs)) ≡ i = (let n = count_pairs i lt in omega (arith, n)) in
      ap (near_from rects 0) (more_pairs i x lt) ∙ near_from-push_yes rects 0 (pairs_in (take i xs)) (ends_of (get_or xs i x)) h ∙ ap (λ n. Places i ++ n ∷ []) at

  pub places-no : (i : ℕ) (x : Segment C I D m w o e p) → i < length xs → is_near rects (ends_of (get_or xs i x)) ≡ false → Places (i + 1) ≡ Places i
  places-no i x lt h = ap (near_from rects 0) (more_pairs i x lt) ∙ near_from-push_no rects 0 (pairs_in (take i xs)) (ends_of (get_or xs i x)) h

  not_right : (s t : Pair) → is_lt (pair_cmp t s) ≡ false → s.a.x ≤ℤ t.a.x
  not_right s t h = grind (arith, ints)

  up_through : (u v z : ℤ) → u ≤ℤ v → v ≤ℤ z → u ≤ℤ z
  up_through u v z h k = omega (arith, ints, h, k)

  below_through : (u v z t : ℤ) → u <ℤ v → v ≡ z → z ≤ℤ t → u <ℤ t
  below_through u v z t h e k = omega (arith, ints, h, e, k)

  -- those that follow start no further left
  pub starts_later : IsSortedByKey ends_of pair_cmp xs → (i n : ℕ) (d : Segment C I D m w o e p) → i + n < length xs → (ends_of (get_or xs i d)).a.x ≤ℤ (ends_of (get_or xs (i + n) d)).a.x
  starts_later sorted i zero d lt =
      let e : i ≡ i + 0 = omega arith in
      let same : (ends_of (get_or xs i d)).a.x ≤ℤ (ends_of (get_or xs i d)).a.x = omega (arith, ints) in
      subst (λ k. (ends_of (get_or xs i d)).a.x ≤ℤ (ends_of (get_or xs k d)).a.x) e same
  starts_later sorted i (suc n) d lt =
      let before = starts_later sorted i n d (omega (arith, lt)) in
      let step = not_right (ends_of (get_or xs (i + n) d)) (ends_of (get_or xs (i + n + 1) d)) (sorted (i + n) d (omega arith) (omega (arith, lt))) in
      let e : i + n + 1 ≡ i + suc n = omega arith in
      subst (λ k. (ends_of (get_or xs i d)).a.x ≤ℤ (ends_of (get_or xs k d)).a.x) e (up_through _ (ends_of (get_or xs (i + n) d)).a.x _ before step)

  -- ---- the rectangles that are over

  -- so many rectangles end left of each segment from a place on
  abbrev pub AreOver : ℕ → ℕ → Type 0
  AreOver i from = AllWithin (λ r. (k : ℕ) (d : Segment C I D m w o e p) → i ≤ k → k < length xs → r.max_x <ℤ (ends_of (get_or xs k d)).a.x) rects 0 from

  module _ (i from next : ℕ) (x : Segment C I D m w o e p) (inside : i < length xs) (over : AreOver i from) (z : ℤ) (left : z ≡ (ends_of (get_or xs i x)).a.x) (more : AllWithin (λ r. r.max_x <ℤ z) rects from next) where
    over_here : AllWithin (λ r. r.max_x <ℤ z) rects 0 next
    over_here k d low high = elim (cases_lt k from) [
      | inl lt ↦ subst (λ u. (get_or rects k d).max_x <ℤ u) (sym left) (over k d low lt i x (omega arith) inside)
      | inr ge ↦ more k d ge high
    ]

    pub over_off : (around : Rect) → around.min_x ≡ z → AllWithin (λ r. do_rects_meet r around ≡ false) rects 0 next
    over_off around e k d low high = ends_before (get_or rects k d) around (subst (λ u. (get_or rects k d).max_x <ℤ u) (sym e) (over_here k d low high))

    pub over_next : IsSortedByKey ends_of pair_cmp xs → AreOver (i + 1) next
    over_next sorted k d low high j y le lt =
        let at : i + (j - i) ≡ j = omega (arith, le) in
        let same : z ≡ (ends_of (get_or xs i y)).a.x = left ∙ ap (λ s. (ends_of s).a.x) (get_or_default xs i x y inside) in
        let later = subst (λ n. (ends_of (get_or xs i y)).a.x ≤ℤ (ends_of (get_or xs n y)).a.x) at (starts_later sorted i (j - i) y (omega (arith, at, lt))) in
        below_through (get_or rects k d).max_x z (ends_of (get_or xs i y)).a.x (ends_of (get_or xs j y)).a.x (over_here k d low high) same later

-- the test that code makes
pub near_is : (rects : List Rect) (around : Rect) (s t : Pair) (result : Bool) → result ≡ meets_one rects around → around ≡ box_of t → t ≡ s → is_near rects s ≡ result
unfolding is_near
near_is rects around s t result h e f = sym (h ∙ ap (meets_one rects) (e ∙ ap box_of f))

pub near_from-none : (rects : List Rect) → near_from rects 0 [] ≡ []
unfolding near_from
near_from-none rects = refl

-- ---- the part as a list

not_greater_turned : (s t : Pair) → is_gt (pair_cmp s t) ≡ false → is_lt (pair_cmp t s) ≡ false
not_greater_turned s t h = ap is_lt (pair_cmp_total.antisymm t s) ∙ by (pair_cmp s t) h
  where
    by : (r : Ordering) → is_gt r ≡ false → is_lt (ordering_reverse r) ≡ false
    by Less h = refl
    by Equal h = refl
    by Greater h = cc

kept_in_order : {X : Type 0} (key : X → Pair) (keep : X → Bool) (xs : List X) → IsInOrder pair_cmp (map key xs) → IsInOrder pair_cmp (map key (filter keep xs))
kept_in_order key keep [] h = tt
kept_in_order key keep (x ∷ xs) h =
    let rest = kept_in_order key keep xs h.1 in
    let later = AllByRecursion-map_out (λ j. is_gt (pair_cmp (key x) j) ≡ false) key xs h.0 in
    elim (cases_Bool (keep x)) [
      | inl k ↦ rw k (AllByRecursion-map (λ j. is_gt (pair_cmp (key x) j) ≡ false) key (filter keep xs) (AllByRecursion-filter_all keep (λ y. is_gt (pair_cmp (key x) (key y)) ≡ false) xs later), rest)
      | inr k ↦ rw k rest
    ]

sorted_from : {X : Type 0} (key : X → Pair) (xs : List X) → IsInOrder pair_cmp (map key xs) → IsSortedByKey key pair_cmp xs
sorted_from key [] h k d low high = absurd (omega (arith, high))
sorted_from key (x ∷ []) h k d low high = absurd (omega (arith, high))
sorted_from key (x ∷ y ∷ ys) h zero d low high = not_greater_turned (key x) (key y) h.0.0
sorted_from key (x ∷ y ∷ ys) h (suc k) d low high =
    let rest = sorted_from key (y ∷ ys) h.1 k d (omega arith) (omega (arith, high)) in
    let e : suc (k + 1) ≡ suc k + 1 = omega arith in
    subst (λ n. is_lt (pair_cmp (key (get_or (x ∷ y ∷ ys) n d)) (key (get_or (y ∷ ys) k d))) ≡ false) e rest

pub part_sorted : {C I D : Type 0} {m : _} {w : _} {o : _} {e : _} {p : _} (keep : Segment C I D m w o e p → Bool) (xs : List (Segment C I D m w o e p)) → IsSortedByKey ends_of pair_cmp xs → IsSortedByKey ends_of pair_cmp (filter keep xs)
part_sorted keep xs h = sorted_from ends_of (filter keep xs) (kept_in_order ends_of keep xs (IsInOrder-from_sort pair_cmp_total ends_of xs h))

-- the segments of the part, and their pairs
pub part_segments : {C I D : Type 0} {m : _} {w : _} {o : _} {e : _} {p : _} (keep : Pair → Bool) (xs : List (Segment C I D m w o e p)) → segments_of (filter (λ s. keep (ends_of s)) xs) ≡ filter (λ u. keep u.pair) (segments_of xs)
part_segments keep xs = sym (filter-map (λ u. keep u.pair) segment_of xs)

pub part_pairs : {C I D : Type 0} {m : _} {w : _} {o : _} {e : _} {p : _} (keep : Pair → Bool) (xs : List (Segment C I D m w o e p)) → pairs_in (filter (λ s. keep (ends_of s)) xs) ≡ filter keep (pairs_in xs)
part_pairs keep xs = ap (λ l. map (λ (u : WholeSegment). u.pair) l) (part_segments keep xs) ∙ sym (filter-map keep (λ (u : WholeSegment). u.pair) (segments_of xs))

pub part_inside : (grid : Option Layout) (keep : Pair → Bool) (ps : List Pair) → LieInside grid ps → LieInside grid (filter keep ps)
part_inside None keep ps h = tt
part_inside (Some l) keep ps h = AllByRecursion-filter_all keep (λ s. IsInside l s) ps h
