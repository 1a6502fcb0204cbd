-- The second ends of links, those of vertical links after the others: at each point they are in the order of the links.
use Rattle.std.proofs.Common.{◌≡◌, ◌∙◌, refl, sym, ap, ap₂, ℕ, ◌+◌, ◌<◌, ◌≤◌, zero-add, Bool, true, false, List, [], ◌∷◌, ◌++◌, map, take, length, get_or, if◌then◌else◌, arith}
use Rattle.std.specs.Prelude.{◌<ℤ◌}
use Rattle.std.specs.Bool.{beq}
use Rattle.std.specs.List.{AllByRecursion, filter, enumerate_from}
use Rattle.std.specs.List.Sorted.{IsStrictlySortedBy, IsStableByKey, ties}
use Rattle.std.specs.declared.cmp.Ordering.TheVariants.{Less}
use Rattle.std.proofs.lemmas.Int.{ints}
use Rattle.std.proofs.lemmas.List.{append-nil, get_or-map, length-map, map-append, take_more, take_all}
use Rattle.std.proofs.lemmas.List.FromFn.{length-enumerate_from, get_or-enumerate_from}
use Rattle.std.proofs.lemmas.List.Elements.{filter-append}
use Rattle.overlay_geometry.specs.Points.{Point, Pair, point_cmp, point_lt, pair_cmp, is_ordered, is_vertical}
use Rattle.overlay_geometry.proofs.laws.lists.Lists.{Pairwise, AllByRecursion-both, AllByRecursion-weaker, filter-map}
use Rattle.overlay_build.specs.steps.EndOf.{WholeEnd}
use Rattle.overlay_build.specs.steps.LinkEnds.{numbered_ends, ends_where}

-- ---- a list dealt by a test

module _ {X : Type 0} (test : X → Bool) where
  -- the elements on which the test is true, or those on which it is false
  abbrev testing : Bool → List X → List X
  testing wanted xs = filter (λ x. beq (test x) wanted) xs

  -- where what fails the test is not one's own, nothing of it is
  none_of_own : (own : X → Bool) (xs : List X) → AllByRecursion (λ y. test y ≡ false → own y ≡ false) xs → filter own (testing false xs) ≡ []
  none_of_own own [] h = refl
  none_of_own own (x ∷ xs) h = by (test x) refl (none_of_own own xs h.1)
    where
      by : (t : Bool) → test x ≡ t → filter own (testing false xs) ≡ [] → filter own (testing false (x ∷ xs)) ≡ []
      by true t none = rw t none
      by false t none = let o = h.0 t in rw (t, o) none

  -- those that fail it and then those that pass: where none of one's own that passes comes before one that fails, one's own stay in order
  filter-dealt : (own : X → Bool) (xs : List X) → Pairwise (λ x y. test x ≡ true → own x ≡ true → test y ≡ false → own y ≡ false) xs
      → filter own (testing false xs ++ testing true xs) ≡ filter own xs
  filter-dealt own [] h = refl
  filter-dealt own (x ∷ xs) h = by (test x) (own x) refl refl (filter-dealt own xs h.1)
    where
      by : (t o : Bool) → test x ≡ t → own x ≡ o → filter own (testing false xs ++ testing true xs) ≡ filter own xs
          → filter own (testing false (x ∷ xs) ++ testing true (x ∷ xs)) ≡ filter own (x ∷ xs)
      by false true t o ih = rw (t, o) (ap (λ l. x ∷ l) ih)
      by false false t o ih = rw (t, o) ih
      by true false t o ih = rw t (filter-append own (testing false xs) (x ∷ testing true xs) ∙ rw o (sym (filter-append own (testing false xs) (testing true xs)) ∙ ih))
      by true true t o ih =
          let none = none_of_own own xs (AllByRecursion-weaker _ _ (λ y k. k t o) xs h.0) in
          let rest : filter own (testing true xs) ≡ filter own xs = ap (λ l. l ++ filter own (testing true xs)) (sym none) ∙ sym (filter-append own (testing false xs) (testing true xs)) ∙ ih in
          rw t (filter-append own (testing false xs) (x ∷ testing true xs) ∙ rw (o, none) (ap (λ l. x ∷ l) rest))

-- ---- links with their indexes

Pairwise-enumerate_from : (R : Pair → Pair → Type 0) (n : ℕ) (links : List Pair) → Pairwise R links → Pairwise (λ (e f : ℕ × Pair). R e.1 f.1) (enumerate_from n links)
Pairwise-enumerate_from R n [] h = tt
Pairwise-enumerate_from R n (s ∷ ss) h = (each n ss h.0, Pairwise-enumerate_from R (n + 1) ss h.1)
  where
    each : (n : ℕ) (ss : List Pair) → AllByRecursion (R s) ss → AllByRecursion (λ (e : ℕ × Pair). R s e.1) (enumerate_from (n + 1) ss)
    each n [] h = tt
    each n (t ∷ ss) h = (h.0, each (n + 1) ss h.1)

-- ---- second ends

-- a link that is not vertical ends right of the vertical ones before it
ends_right : (s t : Pair) → pair_cmp s t ≡ Less → is_ordered t ≡ true → is_vertical s ≡ true → is_vertical t ≡ false → s.b.x <ℤ t.b.x
ends_right s t less up v w = grind (arith, ints)

not_tied : (p q r : Point) → q.x <ℤ r.x → ties point_lt p q ≡ true → ties point_lt p r ≡ false
not_tied p q r less tied = grind (arith, ints)

-- so it ends at no point where one of them ends
EndsApart : Point → Pair → Pair → Type 0
EndsApart p s t = is_vertical s ≡ true → ties point_lt p s.b ≡ true → is_vertical t ≡ false → ties point_lt p t.b ≡ false

ends_apart : (p : Point) (links : List Pair) → IsStrictlySortedBy pair_cmp links → AllByRecursion (λ s. is_ordered s ≡ true) links → Pairwise (EndsApart p) links
unfolding IsStrictlySortedBy EndsApart
ends_apart p [] h up = tt
ends_apart p (s ∷ ss) h up =
    (AllByRecursion-weaker _ _ (λ t k v tied w. not_tied p s.b t.b (ends_right s t k.0 k.1 v w) tied) ss (AllByRecursion-both _ _ ss h.0 up.1), ends_apart p ss h.1 up.1)

-- the ends at each point, those of vertical links after the others, are in the order of the links
pub ends_where-stable : (links : List Pair) → IsStrictlySortedBy pair_cmp links → AllByRecursion (λ s. is_ordered s ≡ true) links
    → IsStableByKey (λ (e : WholeEnd). e.point) point_cmp (numbered_ends links) (ends_where false links ++ ends_where true links)
unfolding EndsApart
ends_where-stable links h up = λ u.
    let end : ℕ × Pair → WholeEnd = λ e. record { index = e.0; point = e.1.b } in
    let own : WholeEnd → Bool = λ e. ties point_lt u.point e.point in
    let test : ℕ × Pair → Bool = λ e. is_vertical e.1 in
    let all : List (ℕ × Pair) = enumerate_from 0 links in
    ap (filter own) (sym (map-append end (testing test false all) (testing test true all)))
    ∙ filter-map own end (testing test false all ++ testing test true all)
    ∙ ap (map end) (filter-dealt test (λ e. own (end e)) all (Pairwise-enumerate_from (EndsApart u.point) 0 links (ends_apart u.point links h up)))
    ∙ sym (filter-map own end all)

-- ---- those of the first links

-- the ends of the vertical ones of the first links, or of the others
abbrev pub first_ends_where : ℕ → Bool → List Pair → List WholeEnd
first_ends_where n are_vertical links = map (λ e. record { index = e.0; point = e.1.b }) (filter (λ e. beq (is_vertical e.1) are_vertical) (take n (enumerate_from 0 links)))

-- of one link more
first_ends_where-more : {X : Type 0} (f : X → Pair) (xs : List X) (i : ℕ) (x : X) (are_vertical : Bool) → i < length xs → x ≡ get_or xs i x →
    first_ends_where (i + 1) are_vertical (map f xs) ≡ first_ends_where i are_vertical (map f xs) ++ (if beq (is_vertical (f x)) are_vertical then record { index = i; point = (f x).b } ∷ [] else [])
first_ends_where-more f xs i x are_vertical h is =
    let end : ℕ × Pair → WholeEnd = λ e. record { index = e.0; point = e.1.b } in
    let test : ℕ × Pair → Bool = λ e. beq (is_vertical e.1) are_vertical in
    let all : List (ℕ × Pair) = enumerate_from 0 (map f xs) in
    let within : i < length (map f xs) = rw length-map h in
    let listed : i < length all = rw length-enumerate_from within in
    let here : get_or all i (i, f x) ≡ (i, f x) =
    get_or-enumerate_from 0 (map f xs) i (i, f x) within ∙ ap₂ (λ (n : ℕ) (s : Pair). (n, s)) (zero-add i) (get_or-map f xs i x (f x) h ∙ ap f (sym is)) in
    let only : map end (filter test ((i, f x) ∷ [])) ≡ (if test (i, f x) then end (i, f x) ∷ [] else []) = by end test (i, f x) (test (i, f x)) refl in
    ap (λ l. map end (filter test l)) (take_more all i (i, f x) listed ∙ ap (λ e. take i all ++ e ∷ []) here)
    ∙ ap (map end) (filter-append test (take i all) ((i, f x) ∷ []))
    ∙ map-append end (filter test (take i all)) (filter test ((i, f x) ∷ []))
    ∙ ap (λ l. map end (filter test (take i all)) ++ l) only
  where
    by : (end : ℕ × Pair → WholeEnd) (test : ℕ × Pair → Bool) (e : ℕ × Pair) (t : Bool) → test e ≡ t → map end (filter test (e ∷ [])) ≡ (if test e then end e ∷ [] else [])
    by end test e true t = rw t refl
    by end test e false t = rw t refl

pub first_ends_where-taken : {X : Type 0} (f : X → Pair) (xs : List X) (i : ℕ) (x : X) (are_vertical : Bool) → i < length xs → x ≡ get_or xs i x → beq (is_vertical (f x)) are_vertical ≡ true →
    first_ends_where (i + 1) are_vertical (map f xs) ≡ first_ends_where i are_vertical (map f xs) ++ record { index = i; point = (f x).b } ∷ []
first_ends_where-taken f xs i x are_vertical h is t =
    first_ends_where-more f xs i x are_vertical h is ∙ ap (λ b. first_ends_where i are_vertical (map f xs) ++ (if b then record { index = i; point = (f x).b } ∷ [] else [])) t

pub first_ends_where-passed : {X : Type 0} (f : X → Pair) (xs : List X) (i : ℕ) (x : X) (are_vertical : Bool) → i < length xs → x ≡ get_or xs i x → beq (is_vertical (f x)) are_vertical ≡ false →
    first_ends_where (i + 1) are_vertical (map f xs) ≡ first_ends_where i are_vertical (map f xs)
first_ends_where-passed f xs i x are_vertical h is t =
    first_ends_where-more f xs i x are_vertical h is
    ∙ ap (λ b. first_ends_where i are_vertical (map f xs) ++ (if b then record { index = i; point = (f x).b } ∷ [] else [])) t
    ∙ append-nil (first_ends_where i are_vertical (map f xs))

-- of all links
pub first_ends_where-all : {X : Type 0} (f : X → Pair) (xs : List X) (i : ℕ) (are_vertical : Bool) → length xs ≤ i → first_ends_where i are_vertical (map f xs) ≡ ends_where are_vertical (map f xs)
first_ends_where-all f xs i are_vertical h =
    let n : length (enumerate_from 0 (map f xs)) ≡ length xs = length-enumerate_from 0 (map f xs) ∙ length-map xs f in
    ap (λ l. map (λ e. record { index = e.0; point = e.1.b }) (filter (λ (e : ℕ × Pair). beq (is_vertical e.1) are_vertical) l)) (take_all i (enumerate_from 0 (map f xs)) (omega (arith, n, h)))
