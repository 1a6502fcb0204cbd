-- The running sums of the walk over a bag in order of its pairs: one of them leaves the range exactly where the join does.
use Rattle.std.proofs.Common.{◌≡◌, Bool, true, false, cond, not, ◌&&◌, ◌||◌, List, [], ◌∷◌, filter, IsPermutation, refl, sym, ap, ap₂, ◌∙◌, Ordering, Less, Equal, Greater, is_eq, is_lt}
use Rattle.std.specs.Ordering.{ordering_reverse}
use Rattle.std.specs.List.{AllByRecursion, list_any, list_all}
use Rattle.std.specs.List.Sorted.{IsStableByKey}
use Rattle.std.proofs.Math.Bool.{or_assoc, or-false}
use Rattle.std.proofs.lemmas.Bool.{and_parts}
use Rattle.std.proofs.lemmas.List.Sorted.{list_any-IsPermutation}
use Rattle.overlay_geometry.specs.Points.{Pair, pair_cmp, pair_eq}
use Rattle.overlay_base.specs.Windings.{Winding, empty, add, is_count_in_range}
use Rattle.overlay_base.specs.Segments.{WholeSegment, pairs, counts, segments_at}
use Rattle.overlay_base.specs.Join.{sums_from, running_sums, join_leaves_range}
use Rattle.overlay_base.specs.Laws.{StableSortKeepsSums}
use Rattle.overlay_geometry.proofs.laws.geometry.Points.{pair_cmp_total, pair_eq_same, same_pair_by_eq}
use Rattle.overlay_base.proofs.laws.counts.Windings.{empty-add}
use Rattle.overlay_geometry.proofs.laws.lists.Lists.{or_itself, or-list_any}
use Rattle.overlay_base.proofs.laws.geometry.Pairs.{pair_eq-less, pair_eq-greater, plus, below_rest}
use Rattle.overlay_geometry.proofs.laws.lists.Keys.{IsInOrder}

-- ---- the walk's running sums

abbrev pub is_too_large : Winding → Bool
is_too_large c = not (is_count_in_range c)

-- whether a sum of the walk is too large, where s is what was added up so far on its pair
abbrev pub walk_leaves_from : WholeSegment → List WholeSegment → Bool
walk_leaves_from s [] = is_too_large s.count
walk_leaves_from s (t ∷ ts) = is_too_large s.count || elim (pair_eq s.pair t.pair) [ true ↦ walk_leaves_from (plus s t) ts | false ↦ walk_leaves_from t ts ]

abbrev pub walk_leaves_range : List WholeSegment → Bool
walk_leaves_range [] = false
walk_leaves_range (s ∷ ss) = walk_leaves_from s ss

-- whether one of the sums c + first, c + first + second, .. at a pair is too large
abbrev pub sums_leave : Winding → List WholeSegment → Pair → Bool
sums_leave c segments pair = list_any is_too_large (sums_from c (counts (segments_at segments pair)))

pub sums_leave-nil : (c : Winding) (pair : Pair) → sums_leave c [] pair ≡ false
unfolding sums_from
sums_leave-nil c pair = refl

pub sums_leave-same : (c : Winding) (t : WholeSegment) (ts : List WholeSegment) (pair : Pair) → pair_eq t.pair pair ≡ true → sums_leave c (t ∷ ts) pair ≡ (is_too_large (add c t.count) || sums_leave (add c t.count) ts pair)
unfolding sums_from
sums_leave-same c t ts pair e = ap (λ b. list_any is_too_large (sums_from c (counts (cond b (t ∷ segments_at ts pair) (segments_at ts pair))))) e

pub sums_leave-other : (c : Winding) (t : WholeSegment) (ts : List WholeSegment) (pair : Pair) → pair_eq t.pair pair ≡ false → sums_leave c (t ∷ ts) pair ≡ sums_leave c ts pair
sums_leave-other c t ts pair e = ap (λ b. list_any is_too_large (sums_from c (counts (cond b (t ∷ segments_at ts pair) (segments_at ts pair))))) e

pub sums_leave-above : (c : Winding) (pair : Pair) (ts : List WholeSegment) → AllByRecursion (λ k. pair_cmp pair k ≡ Less) (pairs ts) → sums_leave c ts pair ≡ false
sums_leave-above c pair [] a = sums_leave-nil c pair
sums_leave-above c pair (t ∷ ts) a = sums_leave-other c t ts pair (pair_eq-greater t.pair pair a.0) ∙ sums_leave-above c pair ts a.1

pub join_leaves_range-sums : (segments : List WholeSegment) → join_leaves_range segments ≡ list_any (λ s. sums_leave empty segments s.pair) segments
unfolding join_leaves_range running_sums
join_leaves_range-sums segments = refl

-- of the other pairs than the first
abbrev others_leave : Pair → List WholeSegment → List WholeSegment → Bool
others_leave pair segments ts = list_any (λ u. not (pair_eq pair u.pair) && sums_leave empty segments u.pair) ts

others_leave-cons : (t : WholeSegment) (ts us : List WholeSegment) → others_leave t.pair (t ∷ ts) us ≡ others_leave t.pair ts us
others_leave-cons t ts us = λ i. list_any (λ (u : WholeSegment). each u (pair_eq t.pair u.pair) refl i) us
  where
    each : (u : WholeSegment) (b : Bool) → pair_eq t.pair u.pair ≡ b → (not b && sums_leave empty (t ∷ ts) u.pair) ≡ (not b && sums_leave empty ts u.pair)
    each u true e = refl
    each u false e = sums_leave-other empty t ts u.pair e

others_leave-above : (pair : Pair) (segments ts : List WholeSegment) → AllByRecursion (λ k. pair_cmp pair k ≡ Less) (pairs ts) → others_leave pair segments ts ≡ list_any (λ s. sums_leave empty segments s.pair) ts
others_leave-above pair segments [] a = refl
others_leave-above pair segments (t ∷ ts) a =
    ap₂ (λ b c. (not b && sums_leave empty segments t.pair) || c) (pair_eq-less pair t.pair a.0) (others_leave-above pair segments ts a.1)

-- a join leaves the range by the sums on the first pair, or by those on the others
first_pair : (t : WholeSegment) (ts : List WholeSegment) → join_leaves_range (t ∷ ts) ≡ (is_too_large t.count || (sums_leave t.count ts t.pair || others_leave t.pair ts ts))
first_pair t ts =
    join_leaves_range-sums (t ∷ ts)
    ∙ or-list_any here (λ u. sums_leave empty (t ∷ ts) u.pair) (λ u. not (pair_eq t.pair u.pair) && sums_leave empty ts u.pair) (λ u. each u (pair_eq t.pair u.pair) refl) ts
    ∙ ap (λ b. b || others_leave t.pair ts ts) (sums_leave-same empty t ts t.pair (pair_eq_same t.pair) ∙ ap (λ c. is_too_large c || sums_leave c ts t.pair) (empty-add t.count))
    ∙ or_assoc (is_too_large t.count) (sums_leave t.count ts t.pair) (others_leave t.pair ts ts)
  where
    here : Bool
    here = sums_leave empty (t ∷ ts) t.pair

    each : (u : WholeSegment) (b : Bool) → pair_eq t.pair u.pair ≡ b → (here || sums_leave empty (t ∷ ts) u.pair) ≡ (here || (not b && sums_leave empty ts u.pair))
    each u true e = ap (λ q. here || sums_leave empty (t ∷ ts) q) (sym (same_pair_by_eq t.pair u.pair e)) ∙ or_itself here
    each u false e = ap (λ b. here || b) (sums_leave-other empty t ts u.pair e)

walk_leaves_from-join : (s : WholeSegment) (ts : List WholeSegment) → IsInOrder pair_cmp (pairs (s ∷ ts)) → walk_leaves_from s ts ≡ join_leaves_range (s ∷ ts)
walk_leaves_from-join s [] o = sym (first_pair s [] ∙ ap (λ b. is_too_large s.count || (b || false)) (sums_leave-nil s.count s.pair) ∙ or-false (is_too_large s.count))
walk_leaves_from-join s (t ∷ ts) o = ap (λ b. is_too_large s.count || b) (by (pair_eq s.pair t.pair) refl (walk_leaves_from-join (plus s t) ts (o.0.1, o.1.1)) (walk_leaves_from-join t ts o.1)) ∙ sym (first_pair s (t ∷ ts))
  where
    by : (b : Bool) → pair_eq s.pair t.pair ≡ b → walk_leaves_from (plus s t) ts ≡ join_leaves_range (plus s t ∷ ts) → walk_leaves_from t ts ≡ join_leaves_range (t ∷ ts)
        → ◌≡◌ {A = Bool} (elim b [ true ↦ walk_leaves_from (plus s t) ts | false ↦ walk_leaves_from t ts ]) (sums_leave s.count (t ∷ ts) s.pair || others_leave s.pair (t ∷ ts) (t ∷ ts))
    by true e together apart =
        let same = same_pair_by_eq s.pair t.pair e in
        together ∙ first_pair (plus s t) ts ∙ sym (or_assoc (is_too_large (add s.count t.count)) (sums_leave (add s.count t.count) ts s.pair) (others_leave s.pair ts ts))
        ∙ ap₂ (λ b c. b || c)
        (sym (sums_leave-same s.count t ts s.pair (ap (λ q. pair_eq q s.pair) (sym same) ∙ pair_eq_same s.pair)))
        (sym (ap (λ b. (not b && sums_leave empty (t ∷ ts) t.pair) || others_leave s.pair (t ∷ ts) ts) e ∙ (λ i. others_leave (same i) (t ∷ ts) ts) ∙ others_leave-cons t ts ts ∙ (λ i. others_leave (sym same i) ts ts)))
    by false e together apart =
        let above = below_rest s t ts o e in
        apart ∙ join_leaves_range-sums (t ∷ ts) ∙ sym (others_leave-above s.pair (t ∷ ts) (t ∷ ts) above)
        ∙ ap (λ b. b || others_leave s.pair (t ∷ ts) (t ∷ ts)) (sym (sums_leave-above s.count s.pair (t ∷ ts) above))

-- in order of the pairs some sum of the walk is too large exactly where the join leaves the range
pub walk_leaves_range-join : (bag : List WholeSegment) → IsInOrder pair_cmp (pairs bag) → walk_leaves_range bag ≡ join_leaves_range bag
walk_leaves_range-join [] o = sym (join_leaves_range-sums [])
walk_leaves_range-join (s ∷ ss) o = walk_leaves_from-join s ss o

-- ---- counts in range need no look of their own: only sums of two do

abbrev pub additions_leave_from : WholeSegment → List WholeSegment → Bool
additions_leave_from s [] = false
additions_leave_from s (t ∷ ts) = elim (pair_eq s.pair t.pair) [ true ↦ is_too_large (add s.count t.count) || additions_leave_from (plus s t) ts | false ↦ additions_leave_from t ts ]

abbrev pub additions_leave_range : List WholeSegment → Bool
additions_leave_range [] = false
additions_leave_range (s ∷ ss) = additions_leave_from s ss

additions_leave : (s : WholeSegment) (ts : List WholeSegment) → list_all (λ u. is_count_in_range u.count) ts ≡ true → walk_leaves_from s ts ≡ (is_too_large s.count || additions_leave_from s ts)
additions_leave s [] h = sym (or-false (is_too_large s.count))
additions_leave s (t ∷ ts) h =
    let parts = and_parts _ _ h in
    ap (λ b. is_too_large s.count || b) (by (pair_eq s.pair t.pair) (ap not parts.0) (additions_leave (plus s t) ts parts.1) (additions_leave t ts parts.1))
  where
    by : (b : Bool) → is_too_large t.count ≡ false → walk_leaves_from (plus s t) ts ≡ (is_too_large (add s.count t.count) || additions_leave_from (plus s t) ts) → walk_leaves_from t ts ≡ (is_too_large t.count || additions_leave_from t ts)
        → ◌≡◌ {A = Bool} (elim b [ true ↦ walk_leaves_from (plus s t) ts | false ↦ walk_leaves_from t ts ]) (elim b [ true ↦ is_too_large (add s.count t.count) || additions_leave_from (plus s t) ts | false ↦ additions_leave_from t ts ])
    by true e together apart = together
    by false e together apart = apart ∙ ap (λ b. b || additions_leave_from t ts) e

pub additions_leave_range-join : (bag : List WholeSegment) → IsInOrder pair_cmp (pairs bag) → list_all (λ u. is_count_in_range u.count) bag ≡ true → additions_leave_range bag ≡ join_leaves_range bag
additions_leave_range-join [] o h = walk_leaves_range-join [] o
additions_leave_range-join (s ∷ ss) o h =
    let parts = and_parts _ _ h in
    sym (additions_leave s ss parts.1 ∙ ap (λ b. not b || additions_leave_from s ss) parts.0) ∙ walk_leaves_range-join (s ∷ ss) o

-- a loop's steps, with `additions_leave_from s (drop i bag)` for what is left to add
pub additions_leave_from-same : (s t : WholeSegment) (ts : List WholeSegment) → pair_eq s.pair t.pair ≡ true → additions_leave_from s (t ∷ ts) ≡ (is_too_large (add s.count t.count) || additions_leave_from (plus s t) ts)
additions_leave_from-same s t ts e = ap (λ b. elim b as (λ _. Bool) [ true ↦ is_too_large (add s.count t.count) || additions_leave_from (plus s t) ts | false ↦ additions_leave_from t ts ]) e

pub additions_leave_from-other : (s t : WholeSegment) (ts : List WholeSegment) → pair_eq s.pair t.pair ≡ false → additions_leave_from s (t ∷ ts) ≡ additions_leave_from t ts
additions_leave_from-other s t ts e = ap (λ b. elim b as (λ _. Bool) [ true ↦ is_too_large (add s.count t.count) || additions_leave_from (plus s t) ts | false ↦ additions_leave_from t ts ]) e

-- ---- a stable sort by pair keeps the running sums

ties_are_equal : (pair q : Pair) → (not (is_lt (pair_cmp pair q)) && not (is_lt (pair_cmp q pair))) ≡ pair_eq q pair
ties_are_equal pair q = ap (λ r. not (is_lt r) && not (is_lt (pair_cmp q pair))) (pair_cmp_total.antisymm pair q) ∙ by (pair_cmp q pair)
  where
    by : (r : Ordering) → (not (is_lt (ordering_reverse r)) && not (is_lt r)) ≡ is_eq r
    by Less = refl
    by Equal = refl
    by Greater = refl

pub segments_at-stable : (xs ys : List WholeSegment) → IsStableByKey (λ s. s.pair) pair_cmp xs ys → (pair : Pair) → segments_at ys pair ≡ segments_at xs pair
segments_at-stable xs ys h pair = sym (tests ys) ∙ h (record { pair = pair; count = empty }) ∙ tests xs
  where
    tests : (l : List WholeSegment) → filter (λ s. not (is_lt (pair_cmp pair s.pair)) && not (is_lt (pair_cmp s.pair pair))) l ≡ segments_at l pair
    tests l = λ i. filter (λ s. ties_are_equal pair s.pair i) l

pub join_leaves_range-stable : (xs ys : List WholeSegment) → IsPermutation xs ys → IsStableByKey (λ s. s.pair) pair_cmp xs ys → join_leaves_range ys ≡ join_leaves_range xs
join_leaves_range-stable xs ys p h =
    join_leaves_range-sums ys ∙ (λ i. list_any (λ s. list_any is_too_large (sums_from empty (counts (segments_at-stable xs ys h s.pair i)))) ys)
    ∙ sym (list_any-IsPermutation (λ s. sums_leave empty xs s.pair) xs ys p) ∙ sym (join_leaves_range-sums xs)

pub stable_sort_keeps_sums : StableSortKeepsSums
unfolding running_sums
stable_sort_keeps_sums bag sorted p h = (λ pair. ap (λ l. sums_from empty (counts l)) (segments_at-stable bag sorted h pair), join_leaves_range-stable bag sorted p h)
