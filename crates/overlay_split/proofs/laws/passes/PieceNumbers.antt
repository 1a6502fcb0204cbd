-- How many pieces a pass makes: as many as there are segments and marks.
use Rattle.std.proofs.Common.{◌≡◌, ◌==◌, refl, sym, ap, ap₂, ◌∙◌, inl, inr, arith, ℕ, suc, ◌+◌, ◌<◌, ◌≤◌, true, false, List, [], ◌∷◌, take, drop, length, sum_by}
use Rattle.std.specs.List.{AllByRecursion}
use Rattle.std.proofs.lemmas.Bool.{cases_Bool, eqb-true, eq-eqb, ne_eqb}
use Rattle.std.proofs.lemmas.List.{length-append}
use Rattle.std.proofs.lemmas.List.Concat.{length-flat_map}
use Rattle.std.proofs.lemmas.List.Elements.{recursion_from_All}
use Rattle.std.proofs.lemmas.List.Sums.{sum_by-cons}
use Rattle.overlay_geometry.specs.Points.{Point, point_cmp}
use Rattle.overlay_geometry.specs.Sorting.{distinct_in_order}
use Rattle.overlay_geometry.proofs.laws.lists.Lists.{sum_by-map}
use Rattle.overlay_base.specs.Windings.{Winding}
use Rattle.overlay_base.specs.Segments.{WholeSegment}
use Rattle.overlay_intersections.specs.Marks.{Placing}
use Rattle.overlay_intersections.specs.MarkOf.{Mark, AreMarks, points_at}
use Rattle.overlay_intersections.specs.PassMarks.{marks_on, mark_count}
use Rattle.overlay_cuts.specs.Path.{columns_of, path_from, path, pieces_along, pieces}
use Rattle.overlay_cuts.specs.Pass.{cut_by, cut}
use Rattle.overlay_cuts.proofs.laws.paths.Paths.{all_of-columns_of}
use Rattle.overlay_split.proofs.laws.paths.Monotone.{length-path_from}
use Rattle.overlay_split.proofs.laws.paths.Potentials.{distinct-marks_on}
use Rattle.overlay_cuts.proofs.laws.passes.CutWalks.{read_place}
use Rattle.overlay_cuts.proofs.laws.passes.MarkBlocks.{points_at-own, points_at-other, strictly}

-- ---- the pieces of a cut

length-pieces_along : (count : Winding) (p : Point) (points : List Point) → length (pieces_along count (p ∷ points)) ≡ length points
unfolding pieces_along
length-pieces_along count p [] = refl
length-pieces_along count p (q ∷ points) = ap suc (length-pieces_along count q points)

length-pieces : (s : WholeSegment) (marks : List Point) → length (pieces s marks) ≡ length (distinct_in_order point_cmp marks) + 1
unfolding pieces path
length-pieces s marks =
    length-pieces_along s.count s.pair.a (path_from s.pair.a (columns_of marks) s.pair.b)
    ∙ length-path_from (columns_of marks) s.pair.a s.pair.b
    ∙ ap (λ (ps : List Point). length ps + 1) (all_of-columns_of marks)

first_and_others : {X : Type 0} (xs : List X) → length (take 1 xs) + length (drop 1 xs) ≡ length xs
first_and_others [] = refl
first_and_others (x ∷ xs) = omega arith

-- where each part is one longer than a number, all parts are as long as these numbers and the list together
length_of_parts : {X Y : Type 0} (part : X → List Y) (number : X → ℕ) → ((x : X) → length (part x) ≡ number x + 1) → (xs : List X) → sum_by (λ x. length (take 1 (part x))) xs + sum_by (λ x. length (drop 1 (part x))) xs ≡ length xs + sum_by number xs
length_of_parts part number e [] = refl
length_of_parts part number e (x ∷ xs) =
    let firsts = sum_by-cons (λ y. length (take 1 (part y))) x xs in
    let others = sum_by-cons (λ y. length (drop 1 (part y))) x xs in
    let numbers = sum_by-cons number x xs in
    let here = first_and_others (part x) in
    let one = e x in
    let rest = length_of_parts part number e xs in
    omega (arith, firsts, others, numbers, here, one, rest)

pub length-cut : (placing : Placing) (segments : List WholeSegment) → length (cut placing segments) ≡ length segments + mark_count placing segments
unfolding cut_by mark_count
length-cut placing segments =
    let part = λ (s : WholeSegment). pieces s (marks_on placing segments s.pair) in
    let number = λ (s : WholeSegment). length (marks_on placing segments s.pair) in
    length-append _ _
    ∙ ap₂ ◌+◌ (length-flat_map (λ s. take 1 (part s)) segments) (length-flat_map (λ s. drop 1 (part s)) segments)
    ∙ length_of_parts part number (λ s. length-pieces s (marks_on placing segments s.pair) ∙ ap (λ (ps : List Point). length ps + 1) (distinct-marks_on placing segments s.pair)) segments
    ∙ ap (λ n. length segments + n) (sym (sum_by-map (λ p. length (marks_on placing segments p)) (λ (s : WholeSegment). s.pair) segments))

-- ---- the marks of a list, counted by index

-- a number for each element of a list, by its index, added from an index on
sum_from : {X : Type 0} → (ℕ → ℕ) → ℕ → List X → ℕ
sum_from f i [] = 0
sum_from f i (x ∷ xs) = f i + sum_from f (suc i) xs

sum_from-zero : {X : Type 0} (i : ℕ) (xs : List X) → sum_from (λ j. 0) i xs ≡ 0
unfolding sum_from
sum_from-zero i [] = refl
sum_from-zero i (x ∷ xs) = let rest = sum_from-zero (suc i) xs in omega (arith, rest)

sum_from-add : {X : Type 0} (f g h : ℕ → ℕ) → ((j : ℕ) → f j ≡ g j + h j) → (i : ℕ) (xs : List X) → sum_from f i xs ≡ sum_from g i xs + sum_from h i xs
unfolding sum_from
sum_from-add f g h e i [] = refl
sum_from-add f g h e i (x ∷ xs) = let here = e i in let rest = sum_from-add f g h e (suc i) xs in omega (arith, here, rest)

-- how many of a mark have an index
abbrev own : Mark → ℕ → ℕ
own m j = length (points_at j (m ∷ []))

own-here : (m : Mark) (j : ℕ) → m.index ≡ j → own m j ≡ 1
own-here m j e = ap length (points_at-own j m [] e)

own-other : (m : Mark) (j : ℕ) → (m.index == j) ≡ false → own m j ≡ 0
own-other m j e = ap length (points_at-other j m [] e)

one_more : (m : Mark) (ms : List Mark) (j : ℕ) → length (points_at j (m ∷ ms)) ≡ own m j + length (points_at j ms)
one_more m ms j = elim (cases_Bool (m.index == j)) [
  | inl at ↦ let same = eqb-true m.index j at in let all = ap length (points_at-own j m ms same) in let one = own-here m j same in omega (arith, all, one)
  | inr past ↦ let all = ap length (points_at-other j m ms past) in let none = own-other m j past in omega (arith, all, none)
]

own_past : {X : Type 0} (m : Mark) (i : ℕ) (xs : List X) → m.index < i → sum_from (own m) i xs ≡ 0
unfolding sum_from
own_past m i [] lt = refl
own_past m i (x ∷ xs) lt = let here = own-other m i (ne_eqb m.index i (λ e. omega (arith, e, lt))) in let rest = own_past m (suc i) xs (omega (arith, lt)) in omega (arith, here, rest)

own_once : {X : Type 0} (m : Mark) (i : ℕ) (xs : List X) → i ≤ m.index → m.index < i + length xs → sum_from (own m) i xs ≡ 1
unfolding sum_from
own_once m i [] le lt = absurd (omega (arith, le, lt))
own_once m i (x ∷ xs) le lt = elim (cases_Bool (m.index == i)) [
  | inl at ↦ let same = eqb-true m.index i at in let here = own-here m i same in let rest = own_past m (suc i) xs (omega (arith, same)) in omega (arith, here, rest)
  | inr past ↦ let here = own-other m i past in let rest = own_once m (suc i) xs (strictly i m.index le (λ e. differs past e)) (omega (arith, lt)) in omega (arith, here, rest)
]
  where
    differs : (m.index == i) ≡ false → m.index ≡ i → ⊥
    differs past e = let both : true ≡ false = sym (eq-eqb m.index i e) ∙ past in cc

counted : {X : Type 0} (xs : List X) (ms : List Mark) → AllByRecursion (λ m. m.index < length xs) ms → sum_from (λ j. length (points_at j ms)) 0 xs ≡ length ms
counted xs [] h = sum_from-zero 0 xs
counted xs (m ∷ ms) h =
    let all = sum_from-add (λ j. length (points_at j (m ∷ ms))) (own m) (λ j. length (points_at j ms)) (one_more m ms) 0 xs in
    let one = own_once m 0 xs (omega arith) (let inside = h.0 in omega (arith, inside)) in
    let rest = counted xs ms h.1 in
    omega (arith, all, one, rest)

-- numbers by index that are those of the elements
sum_from-elements : {X : Type 0} (f : ℕ → ℕ) (g : X → ℕ) (i : ℕ) (xs : List X) → ((j : ℕ) (x : X) (rest : List X) → drop j xs ≡ x ∷ rest → f (i + j) ≡ g x) → sum_from f i xs ≡ sum_by g xs
unfolding sum_from
sum_from-elements f g i [] e = refl
sum_from-elements f g i (x ∷ xs) e =
    let here = e 0 x xs refl in
    let rest = sum_from-elements f g (suc i) xs (λ j y ys d. let same : suc i + j ≡ i + suc j = omega arith in ap f same ∙ e (suc j) y ys d) in
    let sum = sum_by-cons g x xs in
    let first : f (i + 0) ≡ f i = ap f (let same : i + 0 ≡ i = omega arith in same) in
    omega (arith, here, rest, sum, first)

module _ (placing : Placing) (segments : List WholeSegment) (all : List Mark) (are : AreMarks placing segments all) where
  length-marks : length all ≡ mark_count placing segments
  unfolding mark_count
  length-marks =
      sym (counted segments all (recursion_from_All (λ m. m.index < length segments) all are.within))
      ∙ sum_from-elements (λ j. length (points_at j all)) (λ (s : WholeSegment). length (marks_on placing segments s.pair)) 0 segments
      (λ j s rest e. let r = read_place segments j s rest e in let same : 0 + j ≡ j = omega arith in ap (λ n. length (points_at n all)) same ∙ ap length (are.each j s r.0 ∙ ap (λ (t : WholeSegment). marks_on placing segments t.pair) (r.1 s)))
      ∙ sym (sum_by-map (λ p. length (marks_on placing segments p)) (λ (s : WholeSegment). s.pair) segments)

  -- so the pieces are counted before the cut
  pub pieces_counted : length segments + length all ≡ length (cut placing segments)
  pieces_counted = ap (λ n. length segments + n) length-marks ∙ sym (length-cut placing segments)
