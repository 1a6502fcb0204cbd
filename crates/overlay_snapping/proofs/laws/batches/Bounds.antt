-- Joins of pieces some at a time: where counts on a pair are small, no running sum leaves the range; a join makes them no greater.
use Rattle.std.proofs.Common.{◌≡◌, ◌+◌, ◌^◌, ◌≤◌, ◌<◌, Bool, true, false, cond, List, [], ◌∷◌, ◌++◌, not, ◌||◌, Less, lt-ltb, refl, sym, ap, ap₂, subst, ◌∙◌, arith, IsFalse}
use Rattle.std.specs.Prelude.{ℤ, ◌+ℤ◌, unsigned_abs}
use Rattle.std.specs.List.{AllByRecursion, list_any}
use Rattle.std.proofs.lemmas.Int.{ints}
use Rattle.overlay_geometry.specs.Points.{Pair, pair_cmp, pair_eq}
use Rattle.overlay_base.specs.Windings.{Winding, empty, add, is_count_in_range}
use Rattle.overlay_base.specs.Segments.{WholeSegment, pairs, segments_at, winding_at}
use Rattle.overlay_base.specs.Join.{join, join_leaves_range}
use Rattle.overlay_base.specs.steps.Early.{magnitude, magnitudes}
use Rattle.overlay_geometry.proofs.laws.geometry.Points.{same_pair_by_eq}
use Rattle.overlay_base.proofs.laws.geometry.Pairs.{pair_eq-greater}
use Rattle.std.proofs.lemmas.Bool.{and_from}
use Rattle.overlay_base.proofs.laws.counts.Windings.{empty-add}
use Rattle.overlay_base.proofs.laws.joins.Bags.{count_at, winding_at-nil, winding_at-cons, winding_at-join}
use Rattle.overlay_base.proofs.laws.joins.Early.{magnitudes-cons}
use Rattle.overlay_base.proofs.laws.joins.Maps.{IsSummed, IsSummed-join, IsSummed-tail, winding_at-head, tail_sorted}
use Rattle.overlay_base.proofs.laws.joins.Ranges.{sums_leave, sums_leave-nil, sums_leave-same, sums_leave-other, join_leaves_range-sums}
use Rattle.overlay_snapping.specs.steps.Batches.{magnitudes_at}

abs-add : (x y : ℤ) → unsigned_abs (x +ℤ y) ≤ unsigned_abs x + unsigned_abs y
abs-add x y = omega (arith, ints)

magnitude-add : (c d : Winding) → magnitude (add c d) ≤ magnitude c + magnitude d
magnitude-add c d = let x = abs-add c.subj d.subj in let y = abs-add c.clip d.clip in omega arith

-- ---- the counts on one pair

pub magnitudes_at-same : (s : WholeSegment) (ss : List WholeSegment) (q : Pair) → pair_eq s.pair q ≡ true → magnitudes_at (s ∷ ss) q ≡ magnitude s.count + magnitudes_at ss q
unfolding magnitudes_at
magnitudes_at-same s ss q e = ap (λ b. magnitudes (cond b (s ∷ segments_at ss q) (segments_at ss q))) e ∙ magnitudes-cons s (segments_at ss q)

pub magnitudes_at-other : (s : WholeSegment) (ss : List WholeSegment) (q : Pair) → pair_eq s.pair q ≡ false → magnitudes_at (s ∷ ss) q ≡ magnitudes_at ss q
unfolding magnitudes_at
magnitudes_at-other s ss q e = ap (λ b. magnitudes (cond b (s ∷ segments_at ss q) (segments_at ss q))) e

pub magnitudes_at-nil : (q : Pair) → magnitudes_at [] q ≡ 0
unfolding magnitudes_at
magnitudes_at-nil q = refl

pub magnitudes_at-append : (xs ys : List WholeSegment) (q : Pair) → magnitudes_at (xs ++ ys) q ≡ magnitudes_at xs q + magnitudes_at ys q
magnitudes_at-append [] ys q = let n = magnitudes_at-nil q in omega arith
magnitudes_at-append (x ∷ xs) ys q = by (pair_eq x.pair q) refl (magnitudes_at-append xs ys q)
  where
    by : (b : Bool) → pair_eq x.pair q ≡ b → magnitudes_at (xs ++ ys) q ≡ magnitudes_at xs q + magnitudes_at ys q → magnitudes_at ((x ∷ xs) ++ ys) q ≡ magnitudes_at (x ∷ xs) q + magnitudes_at ys q
    by true e h = let l = magnitudes_at-same x (xs ++ ys) q e in let r = magnitudes_at-same x xs q e in omega arith
    by false e h = let l = magnitudes_at-other x (xs ++ ys) q e in let r = magnitudes_at-other x xs q e in omega arith

count_at-same : (s : WholeSegment) (q : Pair) → pair_eq s.pair q ≡ true → count_at q s ≡ s.count
count_at-same s q e = ap (λ b. cond b s.count empty) e

count_at-other : (s : WholeSegment) (q : Pair) → pair_eq s.pair q ≡ false → count_at q s ≡ empty
count_at-other s q e = ap (λ b. cond b s.count empty) e

pub magnitude_of_winding : (bag : List WholeSegment) (q : Pair) → magnitude (winding_at bag q) ≤ magnitudes_at bag q
magnitude_of_winding [] q = let n = magnitudes_at-nil q in let w : magnitude (winding_at [] q) ≡ 0 = ap magnitude (winding_at-nil q) in omega arith
magnitude_of_winding (s ∷ ss) q = by (pair_eq s.pair q) refl (magnitude_of_winding ss q)
  where
    by : (b : Bool) → pair_eq s.pair q ≡ b → magnitude (winding_at ss q) ≤ magnitudes_at ss q → magnitude (winding_at (s ∷ ss) q) ≤ magnitudes_at (s ∷ ss) q
    by true e h =
        let w : magnitude (winding_at (s ∷ ss) q) ≡ magnitude (add s.count (winding_at ss q)) = ap magnitude (winding_at-cons s ss q ∙ ap (λ c. add c (winding_at ss q)) (count_at-same s q e)) in
        let a = magnitude-add s.count (winding_at ss q) in
        let m = magnitudes_at-same s ss q e in
        omega arith
    by false e h =
        let w : magnitude (winding_at (s ∷ ss) q) ≡ magnitude (winding_at ss q) = ap magnitude (winding_at-cons s ss q ∙ ap (λ c. add c (winding_at ss q)) (count_at-other s q e) ∙ empty-add (winding_at ss q)) in
        let m = magnitudes_at-other s ss q e in
        omega arith

-- ---- a join

none_at : (q : Pair) (ss : List WholeSegment) → AllByRecursion (λ r. pair_cmp q r ≡ Less) (pairs ss) → magnitudes_at ss q ≡ 0
none_at q [] h = magnitudes_at-nil q
none_at q (s ∷ ss) h = magnitudes_at-other s ss q (pair_eq-greater s.pair q h.0) ∙ none_at q ss h.1

-- where segments are in strict order, at most one is on a pair
at_most_one : (ss : List WholeSegment) → IsSummed ss → (q : Pair) → magnitudes_at ss q ≡ magnitude (winding_at ss q)
at_most_one [] h q = magnitudes_at-nil q ∙ sym (ap magnitude (winding_at-nil q))
at_most_one (s ∷ ss) h q = by (pair_eq s.pair q) refl (at_most_one ss (IsSummed-tail s ss h) q)
  where
    by : (b : Bool) → pair_eq s.pair q ≡ b → magnitudes_at ss q ≡ magnitude (winding_at ss q) → magnitudes_at (s ∷ ss) q ≡ magnitude (winding_at (s ∷ ss) q)
    by true e ih =
        let here = same_pair_by_eq s.pair q e in
        let none = none_at q ss (subst (λ p. AllByRecursion (λ r. pair_cmp p r ≡ Less) (pairs ss)) here (tail_sorted s ss h).0) in
        let all : magnitude (winding_at (s ∷ ss) q) ≡ magnitude s.count = ap magnitude (ap (winding_at (s ∷ ss)) (sym here) ∙ winding_at-head s ss h) in
        let m = magnitudes_at-same s ss q e in
        omega arith
    by false e ih =
        magnitudes_at-other s ss q e ∙ ih
        ∙ sym (ap magnitude (winding_at-cons s ss q ∙ ap (λ c. add c (winding_at ss q)) (count_at-other s q e) ∙ empty-add (winding_at ss q)))

pub magnitudes_at-join : (bag : List WholeSegment) (q : Pair) → magnitudes_at (join bag) q ≤ magnitudes_at bag q
magnitudes_at-join bag q =
    let a = at_most_one (join bag) (IsSummed-join bag) q in
    let b : magnitude (winding_at (join bag) q) ≡ magnitude (winding_at bag q) = ap magnitude (winding_at-join bag q) in
    let c = magnitude_of_winding bag q in
    omega arith

-- ---- no sum leaves the range

in_range : (c : Winding) → magnitude c < 2 ^ 31 → is_count_in_range c ≡ true
in_range c h = and_from _ _ (lt-ltb (unsigned_abs c.subj) (2 ^ 31) (omega arith)) (lt-ltb (unsigned_abs c.clip) (2 ^ 31) (omega arith))

sums_stay : (c : Winding) (ts : List WholeSegment) (q : Pair) → magnitude c + magnitudes_at ts q < 2 ^ 31 → sums_leave c ts q ≡ false
sums_stay c [] q h = sums_leave-nil c q
sums_stay c (t ∷ ts) q h = by (pair_eq t.pair q) refl (λ d. sums_stay d ts q)
  where
    by : (b : Bool) → pair_eq t.pair q ≡ b → ((d : Winding) → magnitude d + magnitudes_at ts q < 2 ^ 31 → sums_leave d ts q ≡ false) → sums_leave c (t ∷ ts) q ≡ false
    by true e ih =
        let a = magnitude-add c t.count in
        let m = magnitudes_at-same t ts q e in
        sums_leave-same c t ts q e ∙ ap₂ (λ x y. not x || y) (in_range (add c t.count) (omega arith)) (ih (add c t.count) (omega arith))
    by false e ih = let m = magnitudes_at-other t ts q e in sums_leave-other c t ts q e ∙ ih c (omega arith)

none_leave : (bag segments : List WholeSegment) → ((q : Pair) → magnitudes_at bag q < 2 ^ 31) → list_any (λ s. sums_leave empty bag s.pair) segments ≡ false
none_leave bag [] h = refl
none_leave bag (s ∷ ss) h = let n = h s.pair in ap₂ (λ a b. a || b) (sums_stay empty bag s.pair (omega arith)) (none_leave bag ss h)

-- where the counts on each pair are that small together, no running sum leaves the range
pub bounded_sums_stay : (bag : List WholeSegment) → ((q : Pair) → magnitudes_at bag q < 2 ^ 31) → IsFalse (join_leaves_range bag)
bounded_sums_stay bag h = join_leaves_range-sums bag ∙ none_leave bag bag h
