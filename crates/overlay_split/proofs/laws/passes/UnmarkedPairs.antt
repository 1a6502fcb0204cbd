-- Two segments that a pass does not mark are apart. And the marks of a list are those of a part of it, if every other pair is apart.
use Rattle.std.proofs.Common.{Ordering, Less, Equal, Greater, ◌≡◌, ap, ap₂, refl, sym, ◌∙◌, inl, inr, Bool, true, false, IsTrue, List, [], ◌∷◌, ◌++◌}
use Rattle.std.specs.Prelude.{not, ◌&&◌, ◌||◌, if◌then◌else◌, filter, flat_map, Contains}
use Rattle.std.specs.BTreeSet.{insert_key}
use Rattle.std.specs.List.{list_any}
use Rattle.std.proofs.lemmas.Bool.{cases_Bool, both_ways}
use Rattle.overlay_geometry.specs.Points.{Point, Pair, point_cmp, is_end, is_strictly_inside}
use Rattle.overlay_geometry.specs.Meeting.{do_cross, has_end_inside, are_apart}
use Rattle.overlay_geometry.specs.Sorting.{distinct_in_order}
use Rattle.overlay_base.specs.Segments.{WholeSegment, pairs}
use Rattle.overlay_base.proofs.laws.geometry.Apart.{are_apart_from}
use Rattle.overlay_intersections.specs.Marks.{Placing, ordered_mark, marks_by, cross_inexactly}
use Rattle.overlay_intersections.specs.PassMarks.{marks_on, is_rounded}
use Rattle.overlay_intersections.proofs.laws.marks.Marks.{marks_at_crossing, marks_at_ends}
use Rattle.overlay_intersections.proofs.laws.crossings.AnswerMarks.{crossing_ends_differ}
use Rattle.overlay_intersections.proofs.laws.crossings.Crossings.{do_cross-swap}
use Rattle.overlay_geometry.proofs.laws.lists.Lists.{Has, Has-filter_out, filter-map}
use Rattle.overlay_geometry.proofs.laws.lists.Elements.{Contains-from_Has, Has-from_Contains}
use Rattle.overlay_intersections.proofs.laws.marks.ApartPairs.{apart_have_no_mark, apart_are_exact}
use Rattle.overlay_split.specs.Laws.{UnmarkedAreApart, PartHasTheMarks}
use Rattle.overlay_cuts.proofs.laws.planar.Unmarked.{none_passes}
use Rattle.overlay_split.proofs.laws.paths.Potentials.{ordered_mark-swap}

-- ---- two that put no mark on one another

none_of_one : {X : Type 0} (f : X → Bool) (p : X) → filter f (p ∷ []) ≡ [] → f p ≡ false
none_of_one f p e = by_test (f p) refl
  where
    by_test : (b : Bool) → f p ≡ b → f p ≡ false
    by_test false h = h
    by_test true h = let one : filter f (p ∷ []) ≡ p ∷ [] = rw h refl in absurd (cc)

neither_of_two : {X : Type 0} (f : X → Bool) (p q : X) → filter f (p ∷ q ∷ []) ≡ [] → (f p ≡ false) × (f q ≡ false)
neither_of_two f p q e = by_test (f p) refl
  where
    by_test : (b : Bool) → f p ≡ b → (f p ≡ false) × (f q ≡ false)
    by_test false h = (h, none_of_one f q (rw h at e))
    by_test true h = let one : filter f (p ∷ q ∷ []) ≡ p ∷ filter f (q ∷ []) = rw h refl in absurd (cc)

no_cross-swap : (s t : Pair) → do_cross s t ≡ false → do_cross t s ≡ false
no_cross-swap s t h = elim (cases_Bool (do_cross t s)) [ inl c ↦ absurd (both_ways _ h (do_cross-swap t s c)) | inr n ↦ n ]

none_inside : (s t : Pair) → is_strictly_inside s t.a ≡ false → is_strictly_inside s t.b ≡ false → has_end_inside s t ≡ false
unfolding has_end_inside
none_inside s t h k = rw (h, k) refl

not_false : (b : Bool) → not b ≡ false → b ≡ true
not_false true h = refl
not_false false h = absurd (cc)

pub unmarked_apart : (placing : Placing) (s t : Pair) → marks_by placing s t ≡ [] → marks_by placing t s ≡ [] → IsTrue (are_apart s t)
unmarked_apart placing s t m n = elim (cases_Bool (do_cross s t)) [
  | inl c ↦
      (let mine = not_false _ (none_of_one (λ p. not (is_end s p)) _ (sym (marks_at_crossing placing s t c) ∙ m)) in
      let other = not_false _ (none_of_one (λ p. not (is_end t p)) _ (sym (marks_at_crossing placing t s (do_cross-swap s t c)) ∙ n)) in
      let same : is_end t (ordered_mark placing s t) ≡ true = ap (is_end t) (ordered_mark-swap placing s t) ∙ other in
      absurd (both_ways _ (crossing_ends_differ s t (ordered_mark placing s t) c mine) same))
  | inr c ↦
      (let mine = neither_of_two (λ p. is_strictly_inside s p) t.a t.b (sym (marks_at_ends placing s t c) ∙ m) in
      let other = neither_of_two (λ p. is_strictly_inside t p) s.a s.b (sym (marks_at_ends placing t s (no_cross-swap s t c)) ∙ n) in
      are_apart_from s t c (none_inside s t mine.0 mine.1) (none_inside t s other.0 other.1))
]

-- ---- a list

nothing_put : (cmp : Point → Point → Ordering) (ks : List Point) (k : Point) → insert_key cmp ks k ≡ [] → ⊥
nothing_put cmp [] k e = cc
nothing_put cmp (x ∷ ks) k e = by_order (cmp k x) refl
  where
    by_order : (r : Ordering) → cmp k x ≡ r → ⊥
    by_order Less h = absurd (let f : insert_key cmp (x ∷ ks) k ≡ k ∷ x ∷ ks = rw h refl in cc)
    by_order Equal h = absurd (let f : insert_key cmp (x ∷ ks) k ≡ x ∷ ks = rw h refl in cc)
    by_order Greater h = absurd (let f : insert_key cmp (x ∷ ks) k ≡ x ∷ insert_key cmp ks k = rw h refl in cc)

pub none_distinct : (ks : List Point) → distinct_in_order point_cmp ks ≡ [] → ks ≡ []
unfolding distinct_in_order
none_distinct [] e = refl
none_distinct (k ∷ ks) e = absurd (nothing_put point_cmp (distinct_in_order point_cmp ks) k e)

none_of_parts : {X : Type 0} (xs ys : List X) → xs ++ ys ≡ [] → (xs ≡ []) × (ys ≡ [])
none_of_parts [] ys e = (refl, e)
none_of_parts (x ∷ xs) ys e = absurd (cc)

none_of_each : {X Y : Type 0} (f : X → List Y) (xs : List X) → flat_map f xs ≡ [] → (x : X) → Has xs x → f x ≡ []
none_of_each f (y ∷ xs) e x (inl same) = ap f (sym same) ∙ (none_of_parts (f y) (flat_map f xs) e).0
none_of_each f (y ∷ xs) e x (inr i) = none_of_each f xs (none_of_parts (f y) (flat_map f xs) e).1 x i
none_of_each f [] e x i = absurd i

unmarked_by : (placing : Placing) (segments : List WholeSegment) (s t : Pair) → Has (pairs segments) t → marks_on placing segments s ≡ [] → marks_by placing s t ≡ []
unfolding marks_on
unmarked_by placing segments s t i e = none_of_each (λ u. marks_by placing s u) (pairs segments) (none_distinct _ e) t i

pub unmarked_are_apart : UnmarkedAreApart
unmarked_are_apart placing segments s t i j m n =
    unmarked_apart placing s t (unmarked_by placing segments s t (Has-from_Contains (pairs segments) t j) m) (unmarked_by placing segments t s (Has-from_Contains (pairs segments) s i) n)

-- ---- a part of a list

flat_map-part : {X Y : Type 0} (f : X → List Y) (keep : X → Bool) (xs : List X) → ((x : X) → Has xs x → keep x ≡ false → f x ≡ []) → flat_map f (filter keep xs) ≡ flat_map f xs
flat_map-part f keep [] h = refl
flat_map-part f keep (x ∷ xs) h = elim (cases_Bool (keep x)) [
  | inl k ↦ rw k (ap (λ l. f x ++ l) (flat_map-part f keep xs (λ y i. h y (inr i))))
  | inr k ↦ rw (k, h x (inl refl) k) (flat_map-part f keep xs (λ y i. h y (inr i)))
]

list_any-part : {X : Type 0} (p keep : X → Bool) (xs : List X) → ((x : X) → Has xs x → keep x ≡ false → p x ≡ false) → list_any p (filter keep xs) ≡ list_any p xs
list_any-part p keep [] h = refl
list_any-part p keep (x ∷ xs) h = elim (cases_Bool (keep x)) [
  | inl k ↦ rw k (ap (λ b. p x || b) (list_any-part p keep xs (λ y i. h y (inr i))))
  | inr k ↦ rw (k, h x (inl refl) k) (list_any-part p keep xs (λ y i. h y (inr i)))
]

flat_map-none : {X Y : Type 0} (f : X → List Y) (xs : List X) → ((x : X) → Has xs x → f x ≡ []) → flat_map f xs ≡ []
flat_map-none f [] h = refl
flat_map-none f (x ∷ xs) h = ap₂ (λ (l : List _) (r : List _). l ++ r) (h x (inl refl)) (flat_map-none f xs (λ z i. h z (inr i)))

list_any-same : {X : Type 0} (p q : X → Bool) (xs : List X) → ((x : X) → Has xs x → p x ≡ q x) → list_any p xs ≡ list_any q xs
list_any-same p q [] h = refl
list_any-same p q (x ∷ xs) h = ap₂ (λ a b. a || b) (h x (inl refl)) (list_any-same p q xs (λ y i. h y (inr i)))

module _ (placing : Placing) (segments : List WholeSegment) (keep : Pair → Bool) (apart : (s t : Pair) → Contains (pairs segments) s → Contains (pairs segments) t → (keep s && keep t) ≡ false → IsTrue (are_apart s t)) where
  abbrev part : List WholeSegment
  part = filter (λ u. keep u.pair) segments

  part_pairs : pairs part ≡ filter keep (pairs segments)
  part_pairs = sym (filter-map keep (λ (u : WholeSegment). u.pair) segments)

  either_left : (s t : Pair) → keep s ≡ false → (keep s && keep t) ≡ false
  either_left s t k = rw k refl

  either_right : (s t : Pair) → keep t ≡ false → (keep s && keep t) ≡ false
  either_right s t k = by_test (keep s) refl
    where
      by_test : (b : Bool) → keep s ≡ b → (keep s && keep t) ≡ false
      by_test true h = rw (h, k) refl
      by_test false h = rw h refl

  within : (s : Pair) → Has (pairs segments) s → Contains (pairs segments) s
  within s i = Contains-from_Has (pairs segments) s i

  kept_marks : (s : Pair) → Has (pairs segments) s → marks_on placing part s ≡ marks_on placing segments s
  unfolding marks_on
  kept_marks s i =
      ap (distinct_in_order point_cmp)
      (ap (flat_map (λ t. marks_by placing s t)) part_pairs
      ∙ flat_map-part (λ t. marks_by placing s t) keep (pairs segments) (λ t j k. apart_have_no_mark placing s t (apart s t (within s i) (within t j) (either_right s t k))))

  other_marks : (s : Pair) → Has (pairs segments) s → keep s ≡ false → marks_on placing segments s ≡ []
  unfolding marks_on distinct_in_order
  other_marks s i k = ap (distinct_in_order point_cmp) (flat_map-none (λ t. marks_by placing s t) (pairs segments) (λ t j. apart_have_no_mark placing s t (apart s t (within s i) (within t j) (either_left s t k))))

  part_marks : (s : Pair) → Has (pairs segments) s → marks_on placing segments s ≡ (if keep s then marks_on placing part s else [])
  part_marks s i = elim (cases_Bool (keep s)) [ inl k ↦ rw k (sym (kept_marks s i)) | inr k ↦ rw k (other_marks s i k) ]

  part_rounded : is_rounded segments ≡ is_rounded part
  unfolding is_rounded
  part_rounded =
      sym (ap (λ ps. list_any (λ s. list_any (λ t. cross_inexactly s t) ps) ps) part_pairs
      ∙ list_any-part (λ s. list_any (λ t. cross_inexactly s t) (filter keep (pairs segments))) keep (pairs segments) (λ s i k. none_passes _ (filter keep (pairs segments)) (λ t j. apart_are_exact s t (apart s t (within s i) (within t (Has-filter_out keep (pairs segments) t j).0) (either_left s t k))))
      ∙ list_any-same _ _ (pairs segments) (λ s i. list_any-part (λ t. cross_inexactly s t) keep (pairs segments) (λ t j k. apart_are_exact s t (apart s t (within s i) (within t j) (either_right s t k)))))

pub part_has_the_marks : PartHasTheMarks
part_has_the_marks placing segments keep apart = (λ s i. part_marks placing segments keep apart s (Has-from_Contains (pairs segments) s i), part_rounded placing segments keep apart)
