-- What the look at every two segments of a list finds is what a pass marks.
use Rattle.std.proofs.Common.{◌≡◌, refl, sym, ap, subst, ◌∙◌, ◌⊎◌, inl, inr, ℕ, ◌+◌, ◌<◌, ◌≤◌, zero, suc, arith, append_assoc, append-nil, Bool, true, false, ◌||◌, List, [], ◌∷◌, ◌++◌, length, get_or, drop}
use Rattle.std.specs.Prelude.{flat_map}
use Rattle.std.specs.List.{list_any, AllByRecursion}
use Rattle.std.specs.List.Sorted.{IsStrictlySortedBy}
use Rattle.std.proofs.lemmas.Bool.{or_cases, or_left, or_right, false_from_ne_true, both_ways}
use Rattle.std.proofs.lemmas.List.{get_or-map, length-map}
use Rattle.std.proofs.lemmas.List.Elements.{All-from_recursion}
use Rattle.std.specs.Cmp.{both_ways as same_tests}
use Rattle.overlay_geometry.specs.Points.{Point, Pair, point_cmp, is_strictly_inside}
use Rattle.overlay_geometry.specs.Sorting.{distinct_in_order}
use Rattle.overlay_geometry.specs.Meeting.{do_cross}
use Rattle.overlay_base.specs.Segments.{WholeSegment, pairs}
use Rattle.overlay_geometry.proofs.laws.geometry.Points.{point_cmp_total, point_same}
use Rattle.overlay_geometry.proofs.laws.lists.Keys.{AllByRecursion-distinct_in_order, Has-distinct_in_order, IsStrictlySortedBy-distinct}
use Rattle.overlay_geometry.proofs.laws.lists.Lists.{Has, AllByRecursion-at, AllByRecursion-from_Has, Has-append_left, Has-append_right, Has-map, Has-map_out, Has-flat_map, list_any-from_Has, Has-from_list_any}
use Rattle.overlay_geometry.proofs.laws.lists.Elements.{Has-append_out, Has-flat_map_out, same_from_elements}
use Rattle.overlay_base.proofs.laws.geometry.Apart.{do_cross_back, no_cross_itself}
use Rattle.overlay_intersections.specs.Marks.{Placing, marks_by, cross_inexactly}
use Rattle.overlay_intersections.specs.PassMarks.{marks_on, is_rounded}
use Rattle.overlay_intersections.specs.MarkOf.{Mark, AreMarks, points_at, mark_cmp}
use Rattle.overlay_intersections.specs.MarksBetween.{marks_at, marks_between, marks_with, marks_of_first, marks_of_each, first_crosses_inexactly, some_cross_inexactly}
use Rattle.overlay_intersections.proofs.laws.crossings.AnswerMarks.{by_bool}
use Rattle.overlay_intersections.proofs.laws.crossings.ExactCrossings.{is_exact_swap}
use Rattle.overlay_intersections.proofs.laws.crossings.Lines.{inside_parts}
use Rattle.overlay_intersections.proofs.laws.marks.Marks.{marks_at_ends}
use Rattle.overlay_intersections.proofs.laws.marks.ApartPairs.{none_of_two}
use Rattle.overlay_intersections.proofs.laws.marks.FoundMarks.{or_assoc, or_false}
use Rattle.overlay_intersections.proofs.laws.marks.MarkSets.{points_at_in_order, Has-points_at, Has-points_at_out, indexes_rise}

-- ---- a pair and itself

pub none_on_itself : (placing : Placing) (s : Pair) → marks_by placing s s ≡ []
none_on_itself placing s =
    marks_at_ends placing s s (no_cross_itself s)
    ∙ none_of_two (λ p. is_strictly_inside s p) s.a s.b
    (false_from_ne_true _ (λ h. (inside_parts s s.a h).3 refl))
    (false_from_ne_true _ (λ h. (inside_parts s s.b h).4 refl))

pub exact_with_itself : (s : Pair) → cross_inexactly s s ≡ false
unfolding cross_inexactly
exact_with_itself s = rw (no_cross_itself s) refl

pub cross_inexactly-back : (s t : Pair) → cross_inexactly s t ≡ cross_inexactly t s
unfolding cross_inexactly
cross_inexactly-back s t =
    by_bool (do_cross s t)
    (λ h. rw (h, sym (do_cross_back s t) ∙ h, is_exact_swap s t h) refl)
    (λ n. rw (n, sym (do_cross_back s t) ∙ n) refl)

-- ---- places in a list, counted from a number

abbrev pub StandsAt : ℕ → List Pair → ℕ → Pair → Type 0
StandsAt i [] n s = ⊥
StandsAt i (x ∷ xs) n s = ((i ≡ n) × (x ≡ s)) ⊎ StandsAt (i + 1) xs n s

pub stands_within : (i : ℕ) (xs : List Pair) (n : ℕ) (s : Pair) → StandsAt i xs n s → (i ≤ n) × (n < i + length xs)
stands_within i [] n s h = absurd h
stands_within i (x ∷ xs) n s (inl e) = let same = e.0 in (omega arith, omega arith)
stands_within i (x ∷ xs) n s (inr h) = let r = stands_within (i + 1) xs n s h in (omega (arith, r.0), omega (arith, r.1))

pub stands : (xs : List Pair) (i k : ℕ) (d : Pair) → k < length xs → StandsAt i xs (i + k) (get_or xs k d)
stands [] i k d lt = absurd (omega arith)
stands (x ∷ xs) i zero d lt = inl (omega arith, refl)
stands (x ∷ xs) i (suc k) d lt = inr (subst (λ (n : ℕ). StandsAt (i + 1) xs n (get_or xs k d)) (omega arith) (stands xs (i + 1) k d (omega arith)))

pub stands_alone : (xs : List Pair) (i k : ℕ) (d s : Pair) → StandsAt i xs (i + k) s → get_or xs k d ≡ s
stands_alone [] i k d s h = absurd h
stands_alone (x ∷ xs) i zero d s (inl e) = e.1
stands_alone (x ∷ xs) i zero d s (inr h) = let r = stands_within (i + 1) xs (i + zero) s h in absurd (omega (arith, r.0))
stands_alone (x ∷ xs) i (suc k) d s (inl e) = let same = e.0 in absurd (omega arith)
stands_alone (x ∷ xs) i (suc k) d s (inr h) = stands_alone xs (i + 1) k d s (subst (λ (n : ℕ). StandsAt (i + 1) xs n s) (omega arith) h)

-- ---- the marks that are found

pub at_out : (i : ℕ) (ps : List Point) (m : Mark) → Has (marks_at i ps) m → (i ≡ m.index) × Has ps m.point
at_out i ps m h =
    let r = Has-map_out (λ p. let made : Mark = record { index = i; point = p } in made) ps m h in
    (ap (λ (n : Mark). n.index) r.2, subst (Has ps) (ap (λ (n : Mark). n.point) r.2) r.1)

pub at_in : (i : ℕ) (ps : List Point) (p : Point) → Has ps p → Has (marks_at i ps) (record { index = i; point = p })
at_in i ps p h = Has-map (λ q. let made : Mark = record { index = i; point = q } in made) ps p h

-- a mark is put by one pair of the list on another
pub record IsPut (placing : Placing) (i : ℕ) (ss : List Pair) (m : Mark) : Type 0 where
  pub on : Pair
  pub by : Pair
  pub stands : StandsAt i ss m.index on
  pub has : Has ss by
  pub put : Has (marks_by placing on by) m.point

with_out : (placing : Placing) (i : ℕ) (s : Pair) (j : ℕ) (ts : List Pair) (m : Mark) → Has (marks_with placing i s j ts) m →
    (t : Pair) × Has ts t × (((i ≡ m.index) × Has (marks_by placing s t) m.point) ⊎ (StandsAt j ts m.index t × Has (marks_by placing t s) m.point))
unfolding marks_with marks_between
with_out placing i s j [] m h = absurd h
with_out placing i s j (t ∷ ts) m h = elim (Has-append_out (marks_at i (marks_by placing s t) ++ marks_at j (marks_by placing t s)) (marks_with placing i s (j + 1) ts) m h) [
  | inl here ↦ elim (Has-append_out (marks_at i (marks_by placing s t)) (marks_at j (marks_by placing t s)) m here) [
    | inl first ↦ (t, inl refl, inl (at_out i (marks_by placing s t) m first))
    | inr second ↦ let r = at_out j (marks_by placing t s) m second in (t, inl refl, inr (inl (r.0, refl), r.1))
  ]
  | inr later ↦ let r = with_out placing i s (j + 1) ts m later in (r.0, inr r.1, elim r.2 [ inl first ↦ inl first | inr second ↦ inr (inr second.0, second.1) ])
]

pub each_out : (placing : Placing) (i : ℕ) (ss : List Pair) (m : Mark) → Has (marks_of_each placing i ss) m → IsPut placing i ss m
unfolding marks_of_each
each_out placing i [] m h = absurd h
each_out placing i (s ∷ ss) m h = elim (Has-append_out (marks_with placing i s (i + 1) ss) (marks_of_each placing (i + 1) ss) m h) [
  | inl here ↦
      let r = with_out placing i s (i + 1) ss m here in
      elim r.2 [
        | inl first ↦ record { on = s; by = r.0; stands = inl (first.0, refl); has = inr r.1; put = first.1 }
        | inr second ↦ record { on = r.0; by = s; stands = inr second.0; has = inl refl; put = second.1 }
      ]
  | inr later ↦ let r = each_out placing (i + 1) ss m later in record { on = r.on; by = r.by; stands = inr r.stands; has = inr r.has; put = r.put }
]

with_first : (placing : Placing) (i : ℕ) (s : Pair) (j : ℕ) (ts : List Pair) (t : Pair) (p : Point) → Has ts t → Has (marks_by placing s t) p → Has (marks_with placing i s j ts) (record { index = i; point = p })
unfolding marks_with marks_between
with_first placing i s j [] t p h k = absurd h
with_first placing i s j (x ∷ ts) t p (inl e) k =
    Has-append_left (marks_at i (marks_by placing s x) ++ marks_at j (marks_by placing x s)) (marks_with placing i s (j + 1) ts) _
    (Has-append_left (marks_at i (marks_by placing s x)) (marks_at j (marks_by placing x s)) _ (at_in i (marks_by placing s x) p (subst (λ (u : Pair). Has (marks_by placing s u) p) (sym e) k)))
with_first placing i s j (x ∷ ts) t p (inr h) k = Has-append_right (marks_at i (marks_by placing s x) ++ marks_at j (marks_by placing x s)) (marks_with placing i s (j + 1) ts) _ (with_first placing i s (j + 1) ts t p h k)

with_second : (placing : Placing) (i : ℕ) (s : Pair) (j : ℕ) (ts : List Pair) (n : ℕ) (t : Pair) (p : Point) → StandsAt j ts n t → Has (marks_by placing t s) p → Has (marks_with placing i s j ts) (record { index = n; point = p })
unfolding marks_with marks_between
with_second placing i s j [] n t p h k = absurd h
with_second placing i s j (x ∷ ts) n t p (inl e) k =
    Has-append_left (marks_at i (marks_by placing s x) ++ marks_at j (marks_by placing x s)) (marks_with placing i s (j + 1) ts) _
    (Has-append_right (marks_at i (marks_by placing s x)) (marks_at j (marks_by placing x s)) _
    (subst (λ (l : ℕ). Has (marks_at j (marks_by placing x s)) (record { index = l; point = p })) e.0 (at_in j (marks_by placing x s) p (subst (λ (u : Pair). Has (marks_by placing u s) p) (sym e.1) k))))
with_second placing i s j (x ∷ ts) n t p (inr h) k = Has-append_right (marks_at i (marks_by placing s x) ++ marks_at j (marks_by placing x s)) (marks_with placing i s (j + 1) ts) _ (with_second placing i s (j + 1) ts n t p h k)

pub each_in : (placing : Placing) (i : ℕ) (ss : List Pair) (n : ℕ) (s t : Pair) (p : Point) → StandsAt i ss n s → Has ss t → Has (marks_by placing s t) p → Has (marks_of_each placing i ss) (record { index = n; point = p })
unfolding marks_of_each
each_in placing i [] n s t p h k l = absurd h
each_in placing i (x ∷ ss) n s t p (inl e) (inl f) l =
    absurd (subst (λ (ps : List Point). Has ps p) (ap (λ (u : Pair). marks_by placing s u) (sym f ∙ e.1) ∙ none_on_itself placing s) l)
each_in placing i (x ∷ ss) n s t p (inl e) (inr k) l =
    Has-append_left (marks_with placing i x (i + 1) ss) (marks_of_each placing (i + 1) ss) _
    (subst (λ (l : ℕ). Has (marks_with placing i x (i + 1) ss) (record { index = l; point = p })) e.0 (with_first placing i x (i + 1) ss t p k (subst (λ (u : Pair). Has (marks_by placing u t) p) (sym e.1) l)))
each_in placing i (x ∷ ss) n s t p (inr h) (inl f) l =
    Has-append_left (marks_with placing i x (i + 1) ss) (marks_of_each placing (i + 1) ss) _
    (with_second placing i x (i + 1) ss n s p h (subst (λ (u : Pair). Has (marks_by placing s u) p) (sym f) l))
each_in placing i (x ∷ ss) n s t p (inr h) (inr k) l = Has-append_right (marks_with placing i x (i + 1) ss) (marks_of_each placing (i + 1) ss) _ (each_in placing (i + 1) ss n s t p h k l)

-- ---- they are the marks of the pass

-- marks in strict order that are just the marks found
pub record AreFound (placing : Placing) (segments : List WholeSegment) (marks : List Mark) : Type 0 where
  pub in_order : IsStrictlySortedBy mark_cmp marks
  pub sound : (m : Mark) → Has marks m → Has (marks_of_each placing 0 (pairs segments)) m
  pub complete : (m : Mark) → Has (marks_of_each placing 0 (pairs segments)) m → Has marks m

found_at : (placing : Placing) (segments : List WholeSegment) (marks : List Mark) → AreFound placing segments marks → (k : ℕ) (d : WholeSegment) → k < length segments →
    points_at k marks ≡ marks_on placing segments (get_or segments k d).pair
unfolding marks_on
found_at placing segments marks found k d lt =
    same_from_elements point_cmp_total (points_at k marks) (distinct_in_order point_cmp (flat_map (λ t. marks_by placing here t) ps))
    (points_at_in_order k marks found.in_order) (IsStrictlySortedBy-distinct point_cmp_total (flat_map (λ t. marks_by placing here t) ps)) sound complete
  where
    ps : List Pair
    ps = pairs segments

    here : Pair
    here = (get_or segments k d).pair

    there : get_or ps k d.pair ≡ here
    there = get_or-map (λ (s : WholeSegment). s.pair) segments k d d.pair lt

    sound : (p : Point) → Has (points_at k marks) p → Has (distinct_in_order point_cmp (flat_map (λ t. marks_by placing here t) ps)) p
    sound p h =
        let r = Has-points_at_out k marks p h in
        let put = each_out placing 0 ps r.0 (found.sound r.0 r.1) in
        let on : put.on ≡ here = sym (stands_alone ps 0 k d.pair put.on (subst (λ (n : ℕ). StandsAt 0 ps n put.on) (r.2 ∙ omega arith) put.stands)) ∙ there in
        Has-distinct_in_order point_cmp_total point_same (flat_map (λ t. marks_by placing here t) ps) p
        (Has-flat_map (λ t. marks_by placing here t) ps put.by p put.has (subst (λ (u : Pair). Has (marks_by placing u put.by) p) on (subst (Has (marks_by placing put.on put.by)) r.3 put.put)))

    complete : (p : Point) → Has (distinct_in_order point_cmp (flat_map (λ t. marks_by placing here t) ps)) p → Has (points_at k marks) p
    complete p h =
        let all = flat_map (λ t. marks_by placing here t) ps in
        let i = AllByRecursion-at (Has all) (distinct_in_order point_cmp all) p (AllByRecursion-distinct_in_order point_cmp (Has all) all (AllByRecursion-from_Has (Has all) all (λ q j. j))) h in
        let r = Has-flat_map_out (λ t. marks_by placing here t) ps p i in
        let at : StandsAt 0 ps k here = subst (λ (n : ℕ). StandsAt 0 ps n here) (omega arith) (subst (StandsAt 0 ps (0 + k)) there (stands ps 0 k d.pair (subst (λ (n : ℕ). k < n) (sym (length-map segments (λ (s : WholeSegment). s.pair))) lt))) in
        Has-points_at k marks p (found.complete _ (each_in placing 0 ps k here r.0 p at r.1 r.2))

found_within : (placing : Placing) (segments : List WholeSegment) (marks : List Mark) → AreFound placing segments marks → AllByRecursion (λ m. m.index < length segments) marks
found_within placing segments marks found = AllByRecursion-from_Has (λ m. m.index < length segments) marks
    (λ m h. let put = each_out placing 0 (pairs segments) m (found.sound m h) in
    let r = stands_within 0 (pairs segments) m.index put.on put.stands in
    let e = length-map segments (λ (s : WholeSegment). s.pair) in
    omega (arith, r.1, e))

pub AreMarks-from_found : (placing : Placing) (segments : List WholeSegment) (marks : List Mark) → AreFound placing segments marks → AreMarks placing segments marks
AreMarks-from_found placing segments marks found = record {
  in_order = indexes_rise marks found.in_order;
  within = All-from_recursion (λ m. m.index < length segments) marks (found_within placing segments marks found);
  each = found_at placing segments marks found;
}

-- ---- whether the pass is rounded

pub some_out : (ss : List Pair) → some_cross_inexactly ss ≡ true → (s : Pair) × (t : Pair) × Has ss s × Has ss t × (cross_inexactly s t ≡ true)
unfolding some_cross_inexactly
some_out [] h = absurd (both_ways false refl h)
some_out (s ∷ ss) h = elim (or_cases (list_any (λ t. cross_inexactly s t) ss) (some_cross_inexactly ss) h) [
  | inl here ↦ let r = Has-from_list_any (λ t. cross_inexactly s t) ss here in (s, r.0, inl refl, inr r.1, r.2)
  | inr later ↦ let r = some_out ss later in (r.0, r.1, inr r.2, inr r.3, r.4)
]

pub some_in : (ss : List Pair) (s t : Pair) → Has ss s → Has ss t → cross_inexactly s t ≡ true → some_cross_inexactly ss ≡ true
unfolding some_cross_inexactly
some_in [] s t h k c = absurd h
some_in (x ∷ ss) s t (inl e) (inl f) c = absurd (both_ways (cross_inexactly s t) (ap (cross_inexactly s) (sym f ∙ e) ∙ exact_with_itself s) c)
some_in (x ∷ ss) s t (inl e) (inr k) c = or_left _ _ (list_any-from_Has (λ u. cross_inexactly x u) ss t k (ap (λ (u : Pair). cross_inexactly u t) e ∙ c))
some_in (x ∷ ss) s t (inr h) (inl f) c = or_left _ _ (list_any-from_Has (λ u. cross_inexactly x u) ss s h (cross_inexactly-back x s ∙ ap (cross_inexactly s) f ∙ c))
some_in (x ∷ ss) s t (inr h) (inr k) c = or_right _ _ (some_in ss s t h k c)

pub some_cross_inexactly-is : (segments : List WholeSegment) → some_cross_inexactly (pairs segments) ≡ is_rounded segments
unfolding is_rounded
some_cross_inexactly-is segments =
    same_tests (some_cross_inexactly ps) (list_any (λ s. list_any (λ t. cross_inexactly s t) ps) ps)
    (λ h. let r = some_out ps h in list_any-from_Has (λ s. list_any (λ t. cross_inexactly s t) ps) ps r.0 r.2 (list_any-from_Has (λ t. cross_inexactly r.0 t) ps r.1 r.3 r.4))
    (λ h. let r = Has-from_list_any (λ s. list_any (λ t. cross_inexactly s t) ps) ps h in
    let q = Has-from_list_any (λ t. cross_inexactly r.0 t) ps r.2 in
    some_in ps r.0 q.0 r.1 q.1 q.2)
  where
    ps : List Pair
    ps = pairs segments

-- ---- the walk over all

-- where the walk is: what it has found and what is left make up the whole
pub record IsWalked (placing : Placing) (ps : List Pair) (now : List Mark) (rounded : Bool) (i : ℕ) : Type 0 where
  pub found : now ++ marks_of_each placing i (drop i ps) ≡ marks_of_each placing 0 ps
  pub flag : (rounded || some_cross_inexactly (drop i ps)) ≡ some_cross_inexactly ps

each_more : (placing : Placing) (i : ℕ) (ps : List Pair) (s : Pair) → drop i ps ≡ s ∷ drop (i + 1) ps → marks_of_each placing i (drop i ps) ≡ marks_of_first placing i (drop i ps) ++ marks_of_each placing (i + 1) (drop (i + 1) ps)
unfolding marks_of_each marks_of_first
each_more placing i ps s d = rw d refl

some_more : (i : ℕ) (ps : List Pair) (s : Pair) → drop i ps ≡ s ∷ drop (i + 1) ps → some_cross_inexactly (drop i ps) ≡ (first_crosses_inexactly (drop i ps) || some_cross_inexactly (drop (i + 1) ps))
unfolding some_cross_inexactly first_crosses_inexactly
some_more i ps s d = rw d refl

-- one more segment with those that follow it
pub IsWalked-more : (placing : Placing) (ps : List Pair) (now next : List Mark) (rounded b : Bool) (i : ℕ) (s : Pair) → IsWalked placing ps now rounded i → drop i ps ≡ s ∷ drop (i + 1) ps →
    next ≡ now ++ marks_of_first placing i (drop i ps) → b ≡ (rounded || first_crosses_inexactly (drop i ps)) → IsWalked placing ps next b (i + 1)
IsWalked-more placing ps now next rounded b i s w d n r = record {
  found =
      ap (λ (ms : List Mark). ms ++ marks_of_each placing (i + 1) (drop (i + 1) ps)) n
      ∙ append_assoc now (marks_of_first placing i (drop i ps)) (marks_of_each placing (i + 1) (drop (i + 1) ps))
      ∙ ap (λ (ms : List Mark). now ++ ms) (sym (each_more placing i ps s d)) ∙ w.found;
  flag =
      ap (λ (c : Bool). c || some_cross_inexactly (drop (i + 1) ps)) r
      ∙ or_assoc rounded (first_crosses_inexactly (drop i ps)) (some_cross_inexactly (drop (i + 1) ps))
      ∙ ap (λ (c : Bool). rounded || c) (sym (some_more i ps s d)) ∙ w.flag;
}

none_to_walk : (placing : Placing) (ps : List Pair) (i : ℕ) → length ps ≤ i → drop i ps ≡ []
none_to_walk placing [] zero le = refl
none_to_walk placing [] (suc i) le = refl
none_to_walk placing (p ∷ ps) zero le = absurd (omega arith)
none_to_walk placing (p ∷ ps) (suc i) le = none_to_walk placing ps i (omega arith)

pub IsWalked-end : (placing : Placing) (ps : List Pair) (now : List Mark) (rounded : Bool) (i : ℕ) → IsWalked placing ps now rounded i → length ps ≤ i → (now ≡ marks_of_each placing 0 ps) × (rounded ≡ some_cross_inexactly ps)
unfolding marks_of_each some_cross_inexactly
IsWalked-end placing ps now rounded i w le =
    let found = rw (none_to_walk placing ps i le) at w.found in
    let flag = rw (none_to_walk placing ps i le) at w.flag in
    (sym (append-nil now) ∙ found, or_false rounded ∙ flag)
