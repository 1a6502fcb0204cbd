-- The marks that a sweep finds, each segment with those that a look-up finds before it, are those of the pass.
use Rattle.std.proofs.Common.{◌≡◌, refl, sym, ap, ap₂, subst, ◌∙◌, ◌⊎◌, inl, inr, ℕ, zero, suc, ◌+◌, ◌<◌, ◌==◌, arith, Bool, true, false, ◌||◌, List, [], ◌∷◌, ◌++◌, length, get_or, take, append_assoc, append-nil}
use Rattle.std.specs.Prelude.{flat_map}
use Rattle.std.specs.List.{AllByRecursion}
use Rattle.std.specs.Cmp.{both_ways as same_tests}
use Rattle.std.proofs.lemmas.Bool.{or_cases, or_left, or_right, both_ways, cases_order, false_from_ne_true, eqb-true}
use Rattle.std.proofs.lemmas.List.{take_more}
use Rattle.std.proofs.lemmas.List.Folds.{list_any_more}
use Rattle.std.proofs.lemmas.List.Concat.{flat_map-cons}
use Rattle.std.proofs.lemmas.Grind.{flat_map-append}
use Rattle.overlay_geometry.specs.Points.{Point, Pair}
use Rattle.overlay_geometry.proofs.laws.lists.Lists.{Has, AllByRecursion-at, Has-append_left, Has-append_right, Has-flat_map, list_any-from_Has, Has-from_list_any}
use Rattle.overlay_geometry.proofs.laws.lists.Elements.{Has-append_out, Has-flat_map_out}
use Rattle.overlay_intersections.specs.Marks.{Placing, marks_by, cross_inexactly}
use Rattle.overlay_intersections.specs.MarkOf.{Mark}
use Rattle.overlay_intersections.specs.MarksBetween.{marks_at, marks_between, marks_of_each, some_cross_inexactly}
use Rattle.overlay_tree.specs.steps.TreeSweep.{AreFoundBefore}
use Rattle.overlay_tree.specs.steps.Swept.{nowhere, pair_at, marks_with_found, crosses_found}
use Rattle.overlay_intersections.proofs.laws.marks.ApartPairs.{AreApart, AreApart-back, apart_have_no_mark, apart_are_exact}
use Rattle.overlay_intersections.proofs.laws.marks.FoundEach.{StandsAt, stands, stands_alone, stands_within, at_in, at_out, each_in, each_out, some_in, some_out, none_on_itself, exact_with_itself, cross_inexactly-back}
use Rattle.std.proofs.Math.Nat.{zero-add}

-- ---- places in a list, by index

place : (ps : List Pair) (i : ℕ) → i < length ps → StandsAt 0 ps i (pair_at ps i)
place ps i lt = subst (λ (n : ℕ). StandsAt 0 ps n (pair_at ps i)) (zero-add i) (stands ps 0 i nowhere lt)

placed : (ps : List Pair) (i : ℕ) (s : Pair) → StandsAt 0 ps i s → (i < length ps) × (pair_at ps i ≡ s)
placed ps i s h =
    let r = stands_within 0 ps i s h in
    (omega (arith, r.1), stands_alone ps 0 i nowhere s (subst (λ (n : ℕ). StandsAt 0 ps n s) (plus_zero i) h))
  where
    plus_zero : (n : ℕ) → n ≡ 0 + n
    plus_zero n = omega arith

Has-at : (ps : List Pair) (i : ℕ) (d : Pair) → i < length ps → Has ps (get_or ps i d)
Has-at [] i d lt = absurd (omega arith)
Has-at (p ∷ ps) zero d lt = inl refl
Has-at (p ∷ ps) (suc i) d lt = inr (Has-at ps i d (omega arith))

index_of : (ps : List Pair) (d s : Pair) → Has ps s → (i : ℕ) × (i < length ps) × (get_or ps i d ≡ s)
index_of [] d s h = absurd h
index_of (p ∷ ps) d s (inl e) = (0, omega arith, e)
index_of (p ∷ ps) d s (inr h) = let r = index_of ps d s h in (suc r.0, omega (arith, r.1), r.2)

-- ---- marks of two

between_first : (placing : Placing) (i : ℕ) (s : Pair) (j : ℕ) (t : Pair) (p : Point) → Has (marks_by placing s t) p → Has (marks_between placing i s j t) (record { index = i; point = p })
unfolding marks_between
between_first placing i s j t p h = Has-append_left (marks_at i (marks_by placing s t)) (marks_at j (marks_by placing t s)) _ (at_in i (marks_by placing s t) p h)

between_second : (placing : Placing) (i : ℕ) (s : Pair) (j : ℕ) (t : Pair) (p : Point) → Has (marks_by placing t s) p → Has (marks_between placing i s j t) (record { index = j; point = p })
unfolding marks_between
between_second placing i s j t p h = Has-append_right (marks_at i (marks_by placing s t)) (marks_at j (marks_by placing t s)) _ (at_in j (marks_by placing t s) p h)

between_out : (placing : Placing) (ps : List Pair) (i j : ℕ) (m : Mark) → i < length ps → j < length ps → Has (marks_between placing i (pair_at ps i) j (pair_at ps j)) m → Has (marks_of_each placing 0 ps) m
unfolding marks_between
between_out placing ps i j m wi wj h = elim (Has-append_out (marks_at i (marks_by placing s t)) (marks_at j (marks_by placing t s)) m h) [
  | inl first ↦ let r = at_out i (marks_by placing s t) m first in subst (λ (n : ℕ). Has all (record { index = n; point = m.point })) r.0 (each_in placing 0 ps i s t m.point (place ps i wi) (Has-at ps j nowhere wj) r.1)
  | inr second ↦ let r = at_out j (marks_by placing t s) m second in subst (λ (n : ℕ). Has all (record { index = n; point = m.point })) r.0 (each_in placing 0 ps j t s m.point (place ps j wj) (Has-at ps i nowhere wi) r.1)
]
  where
    s : Pair
    s = pair_at ps i

    t : Pair
    t = pair_at ps j

    all : List Mark
    all = marks_of_each placing 0 ps

-- ---- the sweep

-- What the sweep has found so far: marks that pairs of the list put on one another, and all those of the first j.
pub record IsMarked (placing : Placing) (ps : List Pair) (marks : List Mark) (rounded : Bool) (j : ℕ) : Type 0 where
  pub sound : (m : Mark) → Has marks m → Has (marks_of_each placing 0 ps) m
  pub first : (i k : ℕ) (p : Point) → i < k → k < j → Has (marks_by placing (pair_at ps i) (pair_at ps k)) p → Has marks (record { index = i; point = p })
  pub second : (i k : ℕ) (p : Point) → i < k → k < j → Has (marks_by placing (pair_at ps k) (pair_at ps i)) p → Has marks (record { index = k; point = p })
  pub told : rounded ≡ true → some_cross_inexactly ps ≡ true
  pub tells : (i k : ℕ) → i < k → k < j → cross_inexactly (pair_at ps i) (pair_at ps k) ≡ true → rounded ≡ true

pub IsMarked-start : (placing : Placing) (ps : List Pair) → IsMarked placing ps [] false 0
IsMarked-start placing ps = record {
  sound = λ m h. absurd h;
  first = λ i k p lt w h. absurd (omega arith);
  second = λ i k p lt w h. absurd (omega arith);
  told = λ h. absurd (both_ways false refl h);
  tells = λ i k lt w h. absurd (omega arith);
}

-- of two where one marks the other, or that cross inexactly, neither is apart from the other
marked_near : (placing : Placing) (s t : Pair) (p : Point) → Has (marks_by placing s t) p → AreApart s t → ⊥
marked_near placing s t p h apart = subst (λ (ps : List Point). Has ps p) (apart_have_no_mark placing s t apart) h

crossing_near : (s t : Pair) → cross_inexactly s t ≡ true → AreApart s t → ⊥
crossing_near s t h apart = both_ways (cross_inexactly s t) (apart_are_exact s t apart) h

-- those that are found before the one at an index, as elements
record AreFound (ps : List Pair) (found : List ℕ) (j : ℕ) : Type 0 where
  earlier : AllByRecursion (λ i. i < j) found
  near : (i : ℕ) → i < j → (AreApart (pair_at ps i) (pair_at ps j) → ⊥) → Has found i

AreFound-from : (ps : List Pair) (found : List ℕ) (j : ℕ) → AreFoundBefore ps found j → AreFound ps found j
AreFound-from ps found j are = record {
  earlier = are.earlier;
  near = λ i lt near.
      let r = Has-from_list_any (λ k. k == i) found (are.near i lt (false_from_ne_true _ near)) in
      subst (Has found) (eqb-true r.0 i r.2) r.1;
}

last_or_before : (k j : ℕ) → k < j + 1 → (k ≡ j) ⊎ (k < j)
last_or_before k j lt = elim (cases_order k j) [ inl e ↦ inl e | inr (inl l) ↦ inr l | inr (inr m) ↦ absurd (omega arith) ]

pub IsMarked-more : (placing : Placing) (ps : List Pair) (now next : List Mark) (rounded b : Bool) (j : ℕ) (found : List ℕ) → IsMarked placing ps now rounded j → AreFoundBefore ps found j → j < length ps →
    next ≡ now ++ marks_with_found placing ps j found → b ≡ (rounded || crosses_found ps j found) → IsMarked placing ps next b (j + 1)
IsMarked-more placing ps now next rounded b j found marked before w n r =
    let are = AreFound-from ps found j before in
    record {
      sound = λ m h. elim (Has-append_out now new m (subst (λ (ms : List Mark). Has ms m) n h)) [
        | inl old ↦ marked.sound m old
        | inr here ↦
            let q = Has-flat_map_out made found m here in
            between_out placing ps q.0 j m (below q.0 (AllByRecursion-at (λ i. i < j) found q.0 are.earlier q.1)) w q.2
      ];
      first = λ i k p lt wk h. elim (last_or_before k j wk) [
        | inl e ↦
            let here : Has (marks_by placing (pair_at ps i) (pair_at ps j)) p = subst (λ (l : ℕ). Has (marks_by placing (pair_at ps i) (pair_at ps l)) p) e h in
            let there = are.near i (subst (λ (l : ℕ). i < l) e lt) (marked_near placing (pair_at ps i) (pair_at ps j) p here) in
            into (record { index = i; point = p }) (Has-flat_map made found i (record { index = i; point = p }) there (between_first placing i (pair_at ps i) j (pair_at ps j) p here))
        | inr less ↦ kept (record { index = i; point = p }) (marked.first i k p lt less h)
      ];
      second = λ i k p lt wk h. elim (last_or_before k j wk) [
        | inl e ↦
            let here : Has (marks_by placing (pair_at ps j) (pair_at ps i)) p = subst (λ (l : ℕ). Has (marks_by placing (pair_at ps l) (pair_at ps i)) p) e h in
            let there = are.near i (subst (λ (l : ℕ). i < l) e lt) (λ apart. marked_near placing (pair_at ps j) (pair_at ps i) p here (AreApart-back (pair_at ps i) (pair_at ps j) apart)) in
            subst (λ (l : ℕ). Has next (record { index = l; point = p })) (sym e)
            (into (record { index = j; point = p }) (Has-flat_map made found i (record { index = j; point = p }) there (between_second placing i (pair_at ps i) j (pair_at ps j) p here)))
        | inr less ↦ kept (record { index = k; point = p }) (marked.second i k p lt less h)
      ];
      told = λ h. elim (or_cases rounded (crosses_found ps j found) (sym r ∙ h)) [
        | inl old ↦ marked.told old
        | inr here ↦
            let q = Has-from_list_any (λ i. cross_inexactly (pair_at ps i) (pair_at ps j)) found here in
            some_in ps (pair_at ps q.0) (pair_at ps j) (Has-at ps q.0 nowhere (below q.0 (AllByRecursion-at (λ i. i < j) found q.0 are.earlier q.1))) (Has-at ps j nowhere w) q.2
      ];
      tells = λ i k lt wk h. elim (last_or_before k j wk) [
        | inl e ↦
            let here : cross_inexactly (pair_at ps i) (pair_at ps j) ≡ true = subst (λ (l : ℕ). cross_inexactly (pair_at ps i) (pair_at ps l) ≡ true) e h in
            let there = are.near i (subst (λ (l : ℕ). i < l) e lt) (crossing_near (pair_at ps i) (pair_at ps j) here) in
            r ∙ or_right rounded (crosses_found ps j found) (list_any-from_Has (λ l. cross_inexactly (pair_at ps l) (pair_at ps j)) found i there here)
        | inr less ↦ r ∙ or_left rounded (crosses_found ps j found) (marked.tells i k lt less h)
      ];
    }
  where
    made : ℕ → List Mark
    made i = marks_between placing i (pair_at ps i) j (pair_at ps j)

    new : List Mark
    new = flat_map made found

    below : (i : ℕ) → i < j → i < length ps
    below i lt = omega arith

    kept : (m : Mark) → Has now m → Has next m
    kept m h = subst (λ (ms : List Mark). Has ms m) (sym n) (Has-append_left now new m h)

    into : (m : Mark) → Has new m → Has next m
    into m h = subst (λ (ms : List Mark). Has ms m) (sym n) (Has-append_right now new m h)

-- ---- those found, one by one

flat_map-more : (f : ℕ → List Mark) (found : List ℕ) (i : ℕ) → i < length found → flat_map f (take (i + 1) found) ≡ flat_map f (take i found) ++ f (get_or found i 0)
flat_map-more f found i lt =
    ap (flat_map f) (take_more found i 0 lt) ∙ flat_map-append f (take i found) (get_or found i 0 ∷ []) ∙ ap (λ (ms : List Mark). flat_map f (take i found) ++ ms) (flat_map-cons f (get_or found i 0) [] ∙ append-nil (f (get_or found i 0)))

pub marks_with_found-more : (placing : Placing) (ps : List Pair) (j : ℕ) (found : List ℕ) (i : ℕ) (s t : Pair) (first now next : List Mark) → i < length found → pair_at ps (get_or found i 0) ≡ s → pair_at ps j ≡ t →
    now ≡ first ++ marks_with_found placing ps j (take i found) → next ≡ now ++ marks_between placing (get_or found i 0) s j t → next ≡ first ++ marks_with_found placing ps j (take (i + 1) found)
marks_with_found-more placing ps j found i s t first now next lt es et e n =
    n ∙ ap₂ (λ (ms ns : List Mark). ms ++ ns) e (ap₂ (λ (u v : Pair). marks_between placing (get_or found i 0) u j v) (sym es) (sym et))
    ∙ append_assoc first (marks_with_found placing ps j (take i found)) (marks_between placing (get_or found i 0) (pair_at ps (get_or found i 0)) j (pair_at ps j))
    ∙ ap (λ (ms : List Mark). first ++ ms) (sym (flat_map-more (λ k. marks_between placing k (pair_at ps k) j (pair_at ps j)) found i lt))

pub crosses_found-more : (ps : List Pair) (j : ℕ) (found : List ℕ) (i : ℕ) (s t : Pair) (rounded b : Bool) → i < length found → pair_at ps (get_or found i 0) ≡ s → pair_at ps j ≡ t →
    rounded ≡ crosses_found ps j (take i found) → b ≡ (rounded || cross_inexactly s t) → b ≡ crosses_found ps j (take (i + 1) found)
crosses_found-more ps j found i s t rounded b lt es et e r =
    r ∙ ap₂ (λ (c d : Bool). c || d) e (ap₂ (λ (u v : Pair). cross_inexactly u v) (sym es) (sym et)) ∙ sym (list_any_more (λ k. cross_inexactly (pair_at ps k) (pair_at ps j)) found i 0 lt)

-- ---- the end

pub all_marked : (placing : Placing) (ps : List Pair) (marks : List Mark) (rounded : Bool) → IsMarked placing ps marks rounded (length ps) → (m : Mark) → Has (marks_of_each placing 0 ps) m → Has marks m
all_marked placing ps marks rounded marked m h =
    let put = each_out placing 0 ps m h in
    let on = placed ps m.index put.on put.stands in
    let by = index_of ps nowhere put.by put.has in
    let k = by.0 in
    let mark : Has (marks_by placing (pair_at ps m.index) (pair_at ps k)) m.point = subst (λ (t : Pair). Has (marks_by placing (pair_at ps m.index) t) m.point) (sym by.2) (subst (λ (s : Pair). Has (marks_by placing s put.by) m.point) (sym on.1) put.put) in
    elim (cases_order m.index k) [
      | inl e ↦ absurd (subst (λ (l : List Point). Has l m.point) (ap (λ (n : ℕ). marks_by placing (pair_at ps m.index) (pair_at ps n)) (sym e) ∙ none_on_itself placing (pair_at ps m.index)) mark)
      | inr (inl less) ↦ marked.first m.index k m.point less by.1 mark
      | inr (inr more) ↦ marked.second k m.index m.point more on.0 mark
    ]

pub all_told : (placing : Placing) (ps : List Pair) (marks : List Mark) (rounded : Bool) → IsMarked placing ps marks rounded (length ps) → rounded ≡ some_cross_inexactly ps
all_told placing ps marks rounded marked = same_tests rounded (some_cross_inexactly ps) marked.told (λ h.
    let r = some_out ps h in
    let a = index_of ps nowhere r.0 r.2 in
    let b = index_of ps nowhere r.1 r.3 in
    let crosses : cross_inexactly (pair_at ps a.0) (pair_at ps b.0) ≡ true = ap₂ (λ (s t : Pair). cross_inexactly s t) a.2 b.2 ∙ r.4 in
    elim (cases_order a.0 b.0) [
      | inl e ↦ absurd (both_ways (cross_inexactly (pair_at ps a.0) (pair_at ps b.0)) (ap (λ (n : ℕ). cross_inexactly (pair_at ps a.0) (pair_at ps n)) (sym e) ∙ exact_with_itself (pair_at ps a.0)) crosses)
      | inr (inl less) ↦ marked.tells a.0 b.0 less b.1 crosses
      | inr (inr more) ↦ marked.tells b.0 a.0 more a.1 (cross_inexactly-back (pair_at ps b.0) (pair_at ps a.0) ∙ crosses)
    ])
