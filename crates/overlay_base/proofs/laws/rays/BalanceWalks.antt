-- A walk along counts in the order of their points: the counts at the point at hand, added, and those still to come have the sums of all.
use Rattle.std.proofs.Common.{◌≡◌, ℤ, pos, ◌+ℤ◌, true, false, cond, Ordering, Less, Equal, Greater, is_eq, is_gt, List, [], ◌∷◌, map, IsSortedByKey, Some, None, refl, sym, ap, ap₂, subst, ◌∙◌, arith}
use Rattle.std.specs.List.{AllByRecursion, slice_get}
use Rattle.std.proofs.lemmas.Int.{ints}
use Rattle.std.proofs.lemmas.Simd.{map-map}
use Rattle.std.proofs.lemmas.Bool.{and_parts, both_ways, false_from_ne_true}
use Rattle.overlay_geometry.specs.Points.{Point, point_cmp, point_eq, pair_eq}
use Rattle.overlay_geometry.specs.PointOf.{point_of}
use Rattle.overlay_base.specs.Windings.{empty, add}
use Rattle.overlay_base.specs.Segments.{WholeSegment, winding_at}
use Rattle.overlay_base.specs.BalanceTest.{point_pair}
use Rattle.overlay_base.specs.EndCountOf.{end_count_of, end_counts_of}
use Rattle.overlay_base.specs.declared.segm.balance.EndCount.{EndCount}
use Rattle.overlay_geometry.proofs.laws.geometry.Points.{point_cmp_total, same_by_eq, point_eq_same, is_eq-then}
use Rattle.overlay_geometry.proofs.laws.lists.Keys.{IsInOrder, IsInOrder-from_sort, AllByRecursion-less_in_order, Less-from_tests, is_eq-reverse}
use Rattle.overlay_base.proofs.laws.counts.Windings.{add_assoc, add-empty, empty-add, cond-empty, cond-add}
use Rattle.overlay_base.proofs.laws.joins.Bags.{winding_at-nil, winding_at-cons, winding_at-here, winding_at-other}

abbrev pub points : List WholeSegment → List Point
points bag = map (λ s. s.pair.a) bag

-- a count without a mask at a point
abbrev pub at : Point → ℤ → ℤ → WholeSegment
at p subj clip = record { pair = point_pair p; count = record { subj = subj; clip = clip; mask = 0 } }

-- nothing is left at any point
abbrev pub Cancels : List WholeSegment → Type 0
Cancels bag = (p : Point) → winding_at bag (point_pair p) ≡ empty

-- how far a walk along the bag has come: the point at hand, the counts there so far, what is still to come
pub record IsWalked (bag : List WholeSegment) (p : Point) (subj clip : ℤ) (rest : List WholeSegment) : Type 0 where
  pub same : (q : Point) → winding_at (at p subj clip ∷ rest) (point_pair q) ≡ winding_at bag (point_pair q)
  pub in_order : IsInOrder point_cmp (p ∷ points rest)

-- ---- order

not_above : (p : Point) → is_gt (point_cmp p p) ≡ false
not_above p = by (point_cmp p p) (point_eq_same p)
  where
    by : (r : Ordering) → is_eq r ≡ true → is_gt r ≡ false
    by Less h = refl
    by Equal h = refl
    by Greater h = cc

-- a point that is neither below the point at hand nor equal to it is above it
above : (p q : Point) → is_gt (point_cmp p q) ≡ false → point_eq q p ≡ false → point_cmp p q ≡ Less
above p q h e = Less-from_tests (point_cmp p q) h (ap is_eq (point_cmp_total.antisymm p q) ∙ is_eq-reverse (point_cmp q p) ∙ e)

-- counts at points above another add up to nothing there
absent : (p : Point) (bag : List WholeSegment) → AllByRecursion (λ q. point_cmp p q ≡ Less) (points bag) → winding_at bag (point_pair p) ≡ empty
absent p [] h = winding_at-nil (point_pair p)
absent p (s ∷ bag) h = winding_at-other s bag (point_pair p) (false_from_ne_true _ other) ∙ absent p bag h.1
  where
    apart : point_eq s.pair.a p ≡ false
    apart = ap is_eq (point_cmp_total.antisymm s.pair.a p) ∙ is_eq-reverse (point_cmp p s.pair.a) ∙ ap is_eq h.0

    other : pair_eq s.pair (point_pair p) ≡ true → ⊥
    other e = both_ways _ apart (and_parts _ _ (sym (is_eq-then (point_cmp s.pair.a p) (point_cmp s.pair.b p)) ∙ e)).0

-- ---- steps

-- a count of nothing changes no sum
without_nothing : (p : Point) (bag : List WholeSegment) (q : Point) → winding_at (at p (pos 0) (pos 0) ∷ bag) (point_pair q) ≡ winding_at bag (point_pair q)
without_nothing p bag q =
    winding_at-cons (at p (pos 0) (pos 0)) bag (point_pair q) ∙ ap (λ c. add c (winding_at bag (point_pair q))) (cond-empty (pair_eq (point_pair p) (point_pair q))) ∙ empty-add (winding_at bag (point_pair q))

-- two counts at one point are their sum
together : (p : Point) (u v x y : ℤ) (bag : List WholeSegment) (q : Point) → winding_at (at p (u +ℤ x) (v +ℤ y) ∷ bag) (point_pair q) ≡ winding_at (at p u v ∷ at p x y ∷ bag) (point_pair q)
together p u v x y bag q =
    winding_at-cons (at p (u +ℤ x) (v +ℤ y)) bag (point_pair q)
    ∙ ap (λ c. add c (winding_at bag (point_pair q))) (cond-add (pair_eq (point_pair p) (point_pair q)) (at p u v).count (at p x y).count)
    ∙ add_assoc (cond (pair_eq (point_pair p) (point_pair q)) (at p u v).count empty) (cond (pair_eq (point_pair p) (point_pair q)) (at p x y).count empty) (winding_at bag (point_pair q))
    ∙ sym (winding_at-cons (at p u v) (at p x y ∷ bag) (point_pair q) ∙ ap (add (cond (pair_eq (point_pair p) (point_pair q)) (at p u v).count empty)) (winding_at-cons (at p x y) bag (point_pair q)))

IsWalked-start : (e : WholeSegment) (rest : List WholeSegment) → IsInOrder point_cmp (points (e ∷ rest)) → IsWalked (e ∷ rest) e.pair.a (pos 0) (pos 0) (e ∷ rest)
IsWalked-start e rest o = record { same = without_nothing e.pair.a (e ∷ rest); in_order = ((not_above e.pair.a, o.0), o) }

-- one more count at the point at hand
pub IsWalked-more : (bag : List WholeSegment) (p q r : Point) (u v x y m n : ℤ) (rest : List WholeSegment) → IsWalked bag p u v (at q x y ∷ rest) → point_eq q p ≡ true →
    r ≡ p → m ≡ u +ℤ x → n ≡ v +ℤ y → IsWalked bag r m n rest
IsWalked-more bag p q r u v x y m n rest w e at_hand h k =
    let here : IsWalked bag p u v (at p x y ∷ rest) = subst (λ (o : Point). IsWalked bag p u v (at o x y ∷ rest)) (same_by_eq q p e) w in
    let all : IsWalked bag p (u +ℤ x) (v +ℤ y) rest = record { same = λ o. together p u v x y rest o ∙ here.same o; in_order = (here.in_order.0.1, here.in_order.1.1) } in
    rw (at_hand, h, k) all

-- nothing is left at the point at hand: the next one, with its count
pub IsWalked-next : (bag : List WholeSegment) (p q r : Point) (u v x y m n : ℤ) (rest : List WholeSegment) → IsWalked bag p u v (at q x y ∷ rest) → u ≡ pos 0 → v ≡ pos 0 →
    r ≡ q → m ≡ u +ℤ x → n ≡ v +ℤ y → IsWalked bag r m n rest
IsWalked-next bag p q r u v x y m n rest w none_u none_v at_next h k =
    let gone : IsWalked bag p (pos 0) (pos 0) (at q x y ∷ rest) = subst (λ (o : ℤ). IsWalked bag p (pos 0) o (at q x y ∷ rest)) none_v (subst (λ (o : ℤ). IsWalked bag p o v (at q x y ∷ rest)) none_u w) in
    let next : IsWalked bag q x y rest = record { same = λ o. sym (without_nothing p (at q x y ∷ rest) o) ∙ gone.same o; in_order = gone.in_order.1 } in
    let m_is : m ≡ x = omega (arith, ints) in
    let n_is : n ≡ y = omega (arith, ints) in
    rw (at_next, m_is, n_is) next

-- ---- results

-- no count to come is at the point at hand: so what is there is what all counts add up to there
nothing_here : (bag : List WholeSegment) (p : Point) (u v : ℤ) (rest : List WholeSegment) → IsWalked bag p u v rest → AllByRecursion (λ q. point_cmp p q ≡ Less) (points rest) → Cancels bag → (u ≡ pos 0) × (v ≡ pos 0)
nothing_here bag p u v rest w all none =
    let is : (at p u v).count ≡ empty = sym (add-empty (at p u v).count) ∙ ap (add (at p u v).count) (sym (absent p rest all)) ∙ sym (winding_at-here (at p u v) rest) ∙ w.same p ∙ none p in
    (ap (λ c. c.subj) is, ap (λ c. c.clip) is)

pub left_over : (bag : List WholeSegment) (p q : Point) (u v x y : ℤ) (rest : List WholeSegment) → IsWalked bag p u v (at q x y ∷ rest) → point_eq q p ≡ false → Cancels bag → (u ≡ pos 0) × (v ≡ pos 0)
left_over bag p q u v x y rest w e none =
    let less = above p q w.in_order.0.0 e in
    nothing_here bag p u v (at q x y ∷ rest) w (less, AllByRecursion-less_in_order point_cmp_total p q (points rest) less w.in_order.1.0) none

pub left_at_end : (bag : List WholeSegment) (p : Point) (u v : ℤ) → IsWalked bag p u v [] → Cancels bag → (u ≡ pos 0) × (v ≡ pos 0)
left_at_end bag p u v w none = nothing_here bag p u v [] w tt none

pub nothing_left : (bag : List WholeSegment) (p : Point) (u v : ℤ) → IsWalked bag p u v [] → u ≡ pos 0 → v ≡ pos 0 → Cancels bag
nothing_left bag p u v w none_u none_v q =
    sym (w.same q) ∙ ap₂ (λ (m n : ℤ). winding_at (at p m n ∷ []) (point_pair q)) none_u none_v ∙ without_nothing p [] q ∙ winding_at-nil (point_pair q)

none_at_all : Cancels []
none_at_all p = winding_at-nil (point_pair p)

-- ---- the code's counts

pub points_in_order : {I : Type 0} (whole : I → ℤ) (ends : List (EndCount I)) → IsSortedByKey (λ e. point_of whole e.point) point_cmp ends → IsInOrder point_cmp (points (end_counts_of whole ends))
points_in_order whole ends h = subst (λ ps. IsInOrder point_cmp ps) (sym (map-map (λ s. s.pair.a) (λ e. end_count_of whole e) ends)) (IsInOrder-from_sort point_cmp_total (λ e. point_of whole e.point) ends h)

pub started : {I : Type 0} (whole : I → ℤ) (ends : List (EndCount I)) (first : EndCount I) → Some first ≡ slice_get ends 0 → IsSortedByKey (λ e. point_of whole e.point) point_cmp ends →
    IsWalked (end_counts_of whole ends) (point_of whole first.point) (pos 0) (pos 0) (end_counts_of whole ends)
started whole [] first is h = cc
started whole (e ∷ ends) first is h =
    let same : first ≡ e = cc in
    subst (λ (p : Point). IsWalked (end_counts_of whole (e ∷ ends)) p (pos 0) (pos 0) (end_counts_of whole (e ∷ ends))) (sym (ap (λ x. point_of whole x.point) same))
    (IsWalked-start (end_count_of whole e) (end_counts_of whole ends) (points_in_order whole (e ∷ ends) h))

pub none_given : {I : Type 0} (whole : I → ℤ) (ends : List (EndCount I)) → None ≡ slice_get ends 0 → Cancels (end_counts_of whole ends)
none_given whole [] is = none_at_all
none_given whole (e ∷ ends) is = cc
