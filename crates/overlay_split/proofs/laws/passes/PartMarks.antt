-- The marks of the part of a list that is near some rectangles, at the indexes in the list, are the marks of the list.
use Rattle.std.proofs.Common.{◌≡◌, ◌≢◌, refl, sym, ap, ap₂, subst, ◌∙◌, inl, inr, arith, ℕ, zero, suc, ◌+◌, ◌-◌, ◌<◌, ◌≤◌, ◌==◌, true, false, cond, List, [], ◌∷◌, ◌++◌, map, length, filter, take, drop, set, get_or}
use Rattle.std.specs.Prelude.{All, slice_index_or, IsSortedByKey}
use Rattle.std.specs.List.{AllByRecursion}
use Rattle.std.specs.Ordering.{nat_cmp, is_lt}
use Rattle.std.proofs.lemmas.Bool.{cases_Bool, cases_lt, eq-eqb, ne_eqb, both_ways}
use Rattle.std.proofs.lemmas.List.{get_or-map, length-map, length-drop, get_or-drop, map-append, take_more, take_more_set, take_all, drop-set-lt}
use Rattle.std.proofs.lemmas.List.Elements.{recursion_from_All}
use Rattle.overlay_geometry.specs.Points.{Pair}
use Rattle.overlay_geometry.specs.Ranges.{Rect}
use Rattle.overlay_geometry.proofs.laws.lists.Lists.{AllByRecursion-weaker, Pairwise, filter-map, drop-later}
use Rattle.overlay_base.specs.Segments.{WholeSegment, pairs}
use Rattle.overlay_intersections.specs.MarkOf.{Mark, points_at, AreMarks}
use Rattle.overlay_intersections.specs.Marks.{Placing}
use Rattle.overlay_intersections.specs.PassMarks.{marks_on}
use Rattle.overlay_split.specs.steps.ChangedBoxes.{is_near, near_from, renamed, AreApartElsewhere}
use Rattle.overlay_cuts.proofs.laws.passes.MarkBlocks.{points_at-own, points_at-other}
use Rattle.overlay_split.proofs.laws.passes.UnmarkedPairs.{part_has_the_marks}

-- ---- the indexes of the pairs that are near

module _ (rects : List Rect) where
  near_from-yes : (i : ℕ) (s : Pair) (ps : List Pair) → is_near rects s ≡ true → near_from rects i (s ∷ ps) ≡ i ∷ near_from rects (suc i) ps
  unfolding near_from
  near_from-yes i s ps h = ap (λ b. cond b (i ∷ near_from rects (suc i) ps) (near_from rects (suc i) ps)) h

  near_from-no : (i : ℕ) (s : Pair) (ps : List Pair) → is_near rects s ≡ false → near_from rects i (s ∷ ps) ≡ near_from rects (suc i) ps
  unfolding near_from
  near_from-no i s ps h = ap (λ b. cond b (i ∷ near_from rects (suc i) ps) (near_from rects (suc i) ps)) h

  near_from-nothing : (i : ℕ) → near_from rects i [] ≡ []
  unfolding near_from
  near_from-nothing i = refl

  kept-yes : (s : Pair) (ps : List Pair) → is_near rects s ≡ true → filter (is_near rects) (s ∷ ps) ≡ s ∷ filter (is_near rects) ps
  kept-yes s ps h = ap (λ b. cond b (s ∷ filter (is_near rects) ps) (filter (is_near rects) ps)) h

  kept-no : (s : Pair) (ps : List Pair) → is_near rects s ≡ false → filter (is_near rects) (s ∷ ps) ≡ filter (is_near rects) ps
  kept-no s ps h = ap (λ b. cond b (s ∷ filter (is_near rects) ps) (filter (is_near rects) ps)) h

  -- as many as there are near pairs
  pub near_from-length : (i : ℕ) (ps : List Pair) → length (near_from rects i ps) ≡ length (filter (is_near rects) ps)
  near_from-length i [] = ap length (near_from-nothing i)
  near_from-length i (s ∷ ps) = elim (cases_Bool (is_near rects s)) [
    | inl k ↦ ap length (near_from-yes i s ps k) ∙ ap suc (near_from-length (suc i) ps) ∙ sym (ap length (kept-yes s ps k))
    | inr k ↦ ap length (near_from-no i s ps k) ∙ near_from-length (suc i) ps ∙ sym (ap length (kept-no s ps k))
  ]

  -- none is below the first, and each is below the next
  near_from-least : (i : ℕ) (ps : List Pair) → AllByRecursion (λ n. i ≤ n) (near_from rects i ps)
  near_from-least i [] = subst (AllByRecursion (λ n. i ≤ n)) (sym (near_from-nothing i)) tt
  near_from-least i (s ∷ ps) =
      let rest = AllByRecursion-weaker (λ n. suc i ≤ n) (λ n. i ≤ n) (λ n h. omega (arith, h)) (near_from rects (suc i) ps) (near_from-least (suc i) ps) in
      elim (cases_Bool (is_near rects s)) [
        | inl k ↦ subst (AllByRecursion (λ n. i ≤ n)) (sym (near_from-yes i s ps k)) (omega arith, rest)
        | inr k ↦ subst (AllByRecursion (λ n. i ≤ n)) (sym (near_from-no i s ps k)) rest
      ]

  near_from-rising : (i : ℕ) (ps : List Pair) → Pairwise (λ m n. m < n) (near_from rects i ps)
  near_from-rising i [] = subst (Pairwise (λ m n. m < n)) (sym (near_from-nothing i)) tt
  near_from-rising i (s ∷ ps) =
      elim (cases_Bool (is_near rects s)) [
        | inl k ↦ subst (Pairwise (λ m n. m < n)) (sym (near_from-yes i s ps k)) (AllByRecursion-weaker (λ n. suc i ≤ n) (λ n. i < n) (λ n h. omega (arith, h)) (near_from rects (suc i) ps) (near_from-least (suc i) ps), near_from-rising (suc i) ps)
        | inr k ↦ subst (Pairwise (λ m n. m < n)) (sym (near_from-no i s ps k)) (near_from-rising (suc i) ps)
      ]

  -- where the pair at a place is near, its index is listed where the part has it
  record IsListed (i : ℕ) (ps : List Pair) (k : ℕ) : Type 0 where
    place : ℕ
    within : place < length (filter (is_near rects) ps)
    pair : (d : Pair) → get_or (filter (is_near rects) ps) place d ≡ get_or ps k d
    index : get_or (near_from rects i ps) place 0 ≡ i + k

  is_listed : (i : ℕ) (ps : List Pair) (k : ℕ) → k < length ps → ((d : Pair) → is_near rects (get_or ps k d) ≡ true) → IsListed i ps k
  is_listed i [] k lt h = absurd (omega (arith, lt))
  is_listed i (s ∷ ps) zero lt h =
      let all = kept-yes s ps (h s) in
      record {
        place = 0;
        within = rw all (omega arith);
        pair = λ d. ap (λ l. get_or l 0 d) all;
        index = ap (λ l. get_or l 0 0) (near_from-yes i s ps (h s)) ∙ omega arith;
      }
  is_listed i (s ∷ ps) (suc k) lt h =
      let rest = is_listed (suc i) ps k (omega (arith, lt)) h in
      elim (cases_Bool (is_near rects s)) [
        | inl n ↦ (let more = rest.within in record {
          place = suc rest.place;
          within = rw (kept-yes s ps n) (omega (arith, more));
          pair = λ d. ap (λ l. get_or l (suc rest.place) d) (kept-yes s ps n) ∙ rest.pair d;
          index = ap (λ l. get_or l (suc rest.place) 0) (near_from-yes i s ps n) ∙ rest.index ∙ omega arith;
        })
        | inr n ↦ record {
          place = rest.place;
          within = rw (kept-no s ps n) rest.within;
          pair = λ d. ap (λ l. get_or l rest.place d) (kept-no s ps n) ∙ rest.pair d;
          index = ap (λ l. get_or l rest.place 0) (near_from-no i s ps n) ∙ rest.index ∙ omega arith;
        }
      ]

  -- where it is not near, its index is not listed
  off_list : (i : ℕ) (ps : List Pair) (k : ℕ) → k < length ps → ((d : Pair) → is_near rects (get_or ps k d) ≡ false) → AllByRecursion (λ n. n ≢ i + k) (near_from rects i ps)
  off_list i [] k lt h = absurd (omega (arith, lt))
  off_list i (s ∷ ps) zero lt h =
      subst (AllByRecursion (λ n. n ≢ i + 0)) (sym (near_from-no i s ps (h s)))
      (AllByRecursion-weaker (λ n. suc i ≤ n) (λ n. n ≢ i + 0) (λ n le e. omega (arith, le, e)) (near_from rects (suc i) ps) (near_from-least (suc i) ps))
  off_list i (s ∷ ps) (suc k) lt h =
      let rest = AllByRecursion-weaker (λ n. n ≢ suc i + k) (λ n. n ≢ i + suc k) (λ n ne e. ne (omega (arith, e))) (near_from rects (suc i) ps) (off_list (suc i) ps k (omega (arith, lt)) h) in
      elim (cases_Bool (is_near rects s)) [
        | inl n ↦ subst (AllByRecursion (λ n. n ≢ i + suc k)) (sym (near_from-yes i s ps n)) ((λ e. omega (arith, e)), rest)
        | inr n ↦ subst (AllByRecursion (λ n. n ≢ i + suc k)) (sym (near_from-no i s ps n)) rest
      ]

  below_end : (i : ℕ) (ps : List Pair) → AllByRecursion (λ n. n < i + length ps) (near_from rects i ps)
  below_end i [] = subst (AllByRecursion (λ n. n < i + 0)) (sym (near_from-nothing i)) tt
  below_end i (s ∷ ps) =
      let rest = AllByRecursion-weaker (λ n. n < suc i + length ps) (λ n. n < i + suc (length ps)) (λ n h. omega (arith, h)) (near_from rects (suc i) ps) (below_end (suc i) ps) in
      elim (cases_Bool (is_near rects s)) [
        | inl k ↦ subst (AllByRecursion (λ n. n < i + suc (length ps))) (sym (near_from-yes i s ps k)) (omega arith, rest)
        | inr k ↦ subst (AllByRecursion (λ n. n < i + suc (length ps))) (sym (near_from-no i s ps k)) rest
      ]

-- ---- marks at other indexes

at_place : (P : ℕ → Type 0) (ns : List ℕ) (j : ℕ) → AllByRecursion P ns → j < length ns → P (get_or ns j 0)
at_place P [] j h lt = absurd (omega (arith, lt))
at_place P (n ∷ ns) zero h lt = h.0
at_place P (n ∷ ns) (suc j) h lt = at_place P ns j h.1 (omega (arith, lt))

rises : (ns : List ℕ) (i j : ℕ) → Pairwise (λ m n. m < n) ns → i < j → j < length ns → get_or ns i 0 < get_or ns j 0
rises [] i j h lt le = absurd (omega (arith, le))
rises (n ∷ ns) zero zero h lt le = absurd (omega (arith, lt))
rises (n ∷ ns) zero (suc j) h lt le = at_place (λ m. n < m) ns j h.0 (omega (arith, le))
rises (n ∷ ns) (suc i) zero h lt le = absurd (omega (arith, lt))
rises (n ∷ ns) (suc i) (suc j) h lt le = rises ns i j h.1 (omega (arith, lt)) (omega (arith, le))

module _ (indexes : List ℕ) (rising : Pairwise (λ m n. m < n) indexes) where
  same_place : (i j : ℕ) → i < length indexes → j < length indexes → get_or indexes i 0 ≡ get_or indexes j 0 → i ≡ j
  same_place i j hi hj e = elim (cases_lt i j) [
    | inl lt ↦ (let up = rises indexes i j rising lt hj in absurd (omega (arith, up, e)))
    | inr le ↦ elim (cases_lt j i) [
      | inl lt ↦ (let up = rises indexes j i rising lt hi in absurd (omega (arith, up, e)))
      | inr ge ↦ omega (arith, le, ge)
    ]
  ]

  up_to : (i j : ℕ) → i ≤ j → j < length indexes → get_or indexes i 0 ≤ get_or indexes j 0
  up_to i j le hj = elim (cases_lt i j) [
    | inl lt ↦ (let up = rises indexes i j rising lt hj in omega (arith, up))
    | inr ge ↦ (let e : i ≡ j = omega (arith, le, ge) in subst (λ k. get_or indexes i 0 ≤ get_or indexes k 0) e (omega arith))
  ]

  -- the marks at a listed index are those at its place
  points-listed : (j : ℕ) (ms : List Mark) → j < length indexes → AllByRecursion (λ m. m.index < length indexes) ms → points_at (get_or indexes j 0) (map (renamed indexes) ms) ≡ points_at j ms
  points-listed j [] hj h = refl
  points-listed j (m ∷ ms) hj h =
      let rest = points-listed j ms hj h.1 in
      elim (cases_Bool (m.index == j)) [
        | inl same ↦
            (let e : m.index ≡ j = grind (arith, same) in
            points_at-own (get_or indexes j 0) (renamed indexes m) (map (renamed indexes) ms) (ap (λ k. get_or indexes k 0) e) ∙ ap (λ l. m.point ∷ l) rest ∙ sym (points_at-own j m ms e))
        | inr other ↦
            points_at-other (get_or indexes j 0) (renamed indexes m) (map (renamed indexes) ms) (ne_eqb (get_or indexes m.index 0) (get_or indexes j 0) (λ e. let same = eq-eqb m.index j (same_place m.index j h.0 hj e) in both_ways _ other same))
            ∙ rest ∙ sym (points_at-other j m ms other)
      ]

  -- and none are at others
  points-others : (k : ℕ) (ms : List Mark) → AllByRecursion (λ n. n ≢ k) indexes → AllByRecursion (λ m. m.index < length indexes) ms → points_at k (map (renamed indexes) ms) ≡ []
  points-others k [] off h = refl
  points-others k (m ∷ ms) off h =
      points_at-other k (renamed indexes m) (map (renamed indexes) ms) (ne_eqb (get_or indexes m.index 0) k (at_place (λ n. n ≢ k) indexes m.index off h.0)) ∙ points-others k ms off h.1

  -- they stay in order
  not_less : (i j : ℕ) → is_lt (nat_cmp j i) ≡ false → i ≤ j
  not_less i j h = grind (arith, h)

  is_not_less : (i j : ℕ) → i ≤ j → is_lt (nat_cmp j i) ≡ false
  is_not_less i j h = grind (arith, h)

  in_order : (ms : List Mark) → All (λ m. m.index < length indexes) ms → IsSortedByKey (λ m. m.index) nat_cmp ms → IsSortedByKey (λ m. m.index) nat_cmp (map (renamed indexes) ms)
  in_order ms within sorted = λ k d low high.
      let size = length-map ms (renamed indexes) in
      let this : get_or (map (renamed indexes) ms) k d ≡ renamed indexes (get_or ms k d) = get_or-map (renamed indexes) ms k d d (omega (arith, high, size)) in
      let next : get_or (map (renamed indexes) ms) (k + 1) d ≡ renamed indexes (get_or ms (k + 1) d) = get_or-map (renamed indexes) ms (k + 1) d d (omega (arith, high, size)) in
      let le = not_less _ _ (sorted k d low (omega (arith, high, size))) in
      rw (this, next) (is_not_less _ _ (up_to _ _ le (within (k + 1) d (omega (arith, high, size)))))

-- ---- the marks of the list

part_has : (placing : Placing) (segments : List WholeSegment) (rects : List Rect) → AreApartElsewhere rects (pairs segments) → (s : Pair) → (k : ℕ) → k < length (pairs segments) → ((d : Pair) → get_or (pairs segments) k d ≡ s) →
    marks_on placing segments s ≡ cond (is_near rects s) (marks_on placing (filter (λ u. is_near rects u.pair) segments) s) []
part_has placing segments rects apart s k lt is = (part_has_the_marks placing segments (is_near rects) apart).0 s (k, lt, is s)

module _ (placing : Placing) (segments : List WholeSegment) (rects : List Rect) (apart : AreApartElsewhere rects (pairs segments)) where
  abbrev Part : List WholeSegment
  Part = filter (λ u. is_near rects u.pair) segments

  abbrev Indexes : List ℕ
  Indexes = near_from rects 0 (pairs segments)

  part_pairs : pairs Part ≡ filter (is_near rects) (pairs segments)
  part_pairs = sym (filter-map (is_near rects) (λ (u : WholeSegment). u.pair) segments)

  pub part_size : length Indexes ≡ length Part
  part_size = near_from-length rects 0 (pairs segments) ∙ ap length (sym part_pairs) ∙ length-map Part (λ u. u.pair)

  module _ (ms : List Mark) (are : AreMarks placing Part ms) where
    inside : All (λ m. m.index < length Indexes) ms
    inside k d lt = let h = are.within k d lt in omega (arith, h, part_size)

    inside_each : AllByRecursion (λ m. m.index < length Indexes) ms
    inside_each = recursion_from_All (λ m. m.index < length Indexes) ms inside

    rising : Pairwise (λ m n. m < n) Indexes
    rising = near_from-rising rects 0 (pairs segments)

    each_index : (index : ℕ) (d : WholeSegment) → index < length segments → points_at index (map (renamed Indexes) ms) ≡ marks_on placing segments (slice_index_or segments index d).pair
    each_index index d lt =
        let s = (get_or segments index d).pair in
        let count = length-map segments (λ (u : WholeSegment). u.pair) in
        let here : index < length (pairs segments) = omega (arith, lt, count) in
        let at : (e : Pair) → get_or (pairs segments) index e ≡ s = λ e. get_or-map (λ (u : WholeSegment). u.pair) segments index d e lt in
        let has = part_has placing segments rects apart s index here at in
        elim (cases_Bool (is_near rects s)) [
          | inl near ↦
              (let listed = is_listed rects 0 (pairs segments) index here (λ e. ap (is_near rects) (at e) ∙ near) in
              let size = near_from-length rects 0 (pairs segments) in
              let within : listed.place < length Indexes = (let w = listed.within in omega (arith, w, size)) in
              let in_part : listed.place < length Part = omega (arith, within, part_size) in
              let pair_is : (get_or Part listed.place d).pair ≡ s = sym (get_or-map (λ (u : WholeSegment). u.pair) Part listed.place d s in_part) ∙ ap (λ l. get_or l listed.place s) part_pairs ∙ listed.pair s ∙ at s in
              let there : get_or Indexes listed.place 0 ≡ index = listed.index ∙ omega arith in
              ap (λ n. points_at n (map (renamed Indexes) ms)) (sym there)
              ∙ points-listed Indexes rising listed.place ms within inside_each
              ∙ are.each listed.place d in_part
              ∙ ap (marks_on placing Part) pair_is
              ∙ sym (has ∙ ap (λ b. cond b (marks_on placing Part s) []) near))
          | inr far ↦
              points-others Indexes rising index ms (AllByRecursion-weaker (λ n. n ≢ 0 + index) (λ n. n ≢ index) (λ n ne e. ne (omega (arith, e))) Indexes (off_list rects 0 (pairs segments) index here (λ e. ap (is_near rects) (at e) ∙ far))) inside_each
              ∙ sym (has ∙ ap (λ b. cond b (marks_on placing Part s) []) far)
        ]

    pub marks_of_part : AreMarks placing segments (map (renamed Indexes) ms)
    marks_of_part = record {
      in_order = in_order Indexes rising ms inside are.in_order;
      within = λ k d lt.
          let size = length-map ms (renamed Indexes) in
          let count = length-map segments (λ (u : WholeSegment). u.pair) in
          let this : get_or (map (renamed Indexes) ms) k d ≡ renamed Indexes (get_or ms k d) = get_or-map (renamed Indexes) ms k d d (omega (arith, lt, size)) in
          let below = at_place (λ n. n < 0 + length (pairs segments)) Indexes (get_or ms k d).index (below_end rects 0 (pairs segments)) (inside k d (omega (arith, lt, size))) in
          rw this (omega (arith, below, count));
      each = each_index;
    }

-- ---- renamed one by one

module _ {X Y : Type 0} (f : X → Y) (r : Y → Y) (given now : List X) (n : ℕ) (rest : drop n now ≡ drop n given) where
  sizes : length now - n ≡ length given - n
  sizes = sym (length-drop n now) ∙ ap length rest ∙ length-drop n given

  pub same_at : (d : X) → get_or now n d ≡ get_or given n d
  same_at d = sym (read now) ∙ ap (λ l. get_or l 0 d) rest ∙ read given
    where
      read : (l : List X) → get_or (drop n l) 0 d ≡ get_or l n d
      read l = get_or-drop n l 0 d ∙ ap (λ k. get_or l k d) (omega arith)

  pub rename_next : (v d : X) → map f (take n now) ≡ map r (map f (take n given)) → n < length given → f v ≡ r (f (get_or given n d)) → map f (take (n + 1) (set now n v)) ≡ map r (map f (take (n + 1) given))
  rename_next v d done lt is =
      let inside : n < length now = omega (arith, lt, sizes) in
      ap (map f) (take_more_set now n v inside) ∙ map-append f (take n now) (v ∷ [])
      ∙ ap₂ (λ (l m : List Y). l ++ m) done (ap (λ y. y ∷ []) is)
      ∙ sym (ap (λ l. map r (map f l)) (take_more given n d lt) ∙ ap (map r) (map-append f (take n given) (get_or given n d ∷ [])) ∙ map-append r (map f (take n given)) (f (get_or given n d) ∷ []))

  pub rest_next : (v : X) → drop (n + 1) (set now n v) ≡ drop (n + 1) given
  rest_next v = drop-set-lt (n + 1) now n v (omega arith) ∙ drop-later now given n (n + 1) (omega arith) rest

  pub rename_end : map f (take n now) ≡ map r (map f (take n given)) → length given ≤ n → map f now ≡ map r (map f given)
  rename_end done le = ap (map f) (sym (take_all n now (omega (arith, le, sizes)))) ∙ done ∙ ap (λ l. map r (map f l)) (take_all n given le)
