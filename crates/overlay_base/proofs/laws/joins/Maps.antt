-- The join of a bag is a map, and a map is known by its windings: so joins of equal windings are equal.
use Rattle.std.proofs.Common.{◌≡◌, Bool, true, false, cond, List, [], ◌∷◌, ◌++◌, map, filter, IsPermutation, refl, sym, ap, ap₂, subst, ◌∙◌, Ordering, Less, Equal, Greater, true≢false, IsTrue}
use Rattle.std.specs.Ordering.{ordering_reverse}
use Rattle.std.specs.List.{AllByRecursion, list_all}
use Rattle.std.specs.List.Sorted.{IsStrictlySortedBy}
use Rattle.std.proofs.lemmas.Bool.{and_parts, and_from}
use Rattle.std.proofs.lemmas.List.Kept.{IsStrictlySortedBy-filter}
use Rattle.std.proofs.lemmas.List.Folds.{list_all-map}
use Rattle.overlay_geometry.specs.Points.{Pair, pair_cmp, pair_eq, is_ordered}
use Rattle.overlay_geometry.specs.Sorting.{distinct_in_order}
use Rattle.overlay_base.specs.Windings.{Winding, empty, add, is_not_empty}
use Rattle.overlay_base.specs.Segments.{WholeSegment, pairs, winding_at, is_map, are_ordered}
use Rattle.overlay_base.specs.Join.{summed, join}
use Rattle.overlay_base.specs.Laws.{JoinIsMap, MapIsItsWindings, JoinIsOnlyMap, JoinOfParts}
use Rattle.overlay_geometry.proofs.laws.geometry.Points.{pair_cmp_total, pair_same, pair_eq_same, same_pair_by_eq}
use Rattle.overlay_base.proofs.laws.counts.Windings.{empty-add, add-empty}
use Rattle.overlay_base.proofs.laws.geometry.Pairs.{pair_eq-greater}
use Rattle.overlay_geometry.proofs.laws.lists.Lists.{list_all-and, list_all-and_parts, list_all-filter_itself, list_all-filter}
use Rattle.overlay_geometry.proofs.laws.lists.Keys.{AllByRecursion-less, IsStrictlySortedBy-distinct, is_strictly_sorted-from, IsStrictlySortedBy-from_test, list_all-distinct_in_order}
use Rattle.overlay_base.proofs.laws.joins.Bags.{winding_at-nil, winding_at-cons, winding_at-append, winding_at-IsPermutation, winding_at-join}

-- ---- lists like a join's

-- pairs in strict order, and no count empty: a map, but that a pair's ends may be in any order
pub record IsSummed (segments : List WholeSegment) : Type 0 where
  pub sorted : IsStrictlySortedBy pair_cmp (pairs segments)
  pub none_empty : list_all (λ s. is_not_empty s.count) segments ≡ true

pub IsSummed-from_map : (segments : List WholeSegment) → IsTrue (is_map segments) → IsSummed segments
unfolding is_map
IsSummed-from_map segments h =
    let parts = and_parts _ _ h in
    record { sorted = IsStrictlySortedBy-from_test pair_cmp_total (pairs segments) parts.0; none_empty = (list_all-and_parts (λ s. is_ordered s.pair) (λ s. is_not_empty s.count) segments parts.1).1 }

pub are_ordered-map : (segments : List WholeSegment) → IsTrue (is_map segments) → IsTrue (are_ordered segments)
unfolding is_map
are_ordered-map segments h = (list_all-and_parts (λ s. is_ordered s.pair) (λ s. is_not_empty s.count) segments (and_parts _ _ h).1).0

pub is_map-from : (segments : List WholeSegment) → IsSummed segments → IsTrue (are_ordered segments) → IsTrue (is_map segments)
unfolding is_map
is_map-from segments s o = and_from _ _ (is_strictly_sorted-from pair_cmp_total (pairs segments) s.sorted) (list_all-and (λ s. is_ordered s.pair) (λ s. is_not_empty s.count) segments o s.none_empty)

-- ---- the join is one

pairs-filter : (f : Pair → Winding) (ks : List Pair) → pairs (filter (λ s. is_not_empty s.count) (map (λ k. record { pair = k; count = f k }) ks)) ≡ filter (λ k. is_not_empty (f k)) ks
pairs-filter f [] = refl
pairs-filter f (k ∷ ks) = by (is_not_empty (f k)) (pairs-filter f ks)
  where
    rest : List WholeSegment
    rest = filter (λ s. is_not_empty s.count) (map (λ k. record { pair = k; count = f k }) ks)

    by : (b : Bool) → pairs rest ≡ filter (λ k. is_not_empty (f k)) ks → pairs (cond b (record { pair = k; count = f k } ∷ rest) rest) ≡ cond b (k ∷ filter (λ k. is_not_empty (f k)) ks) (filter (λ k. is_not_empty (f k)) ks)
    by true ih = ap (λ l. k ∷ l) ih
    by false ih = ih

pub IsSummed-join : (bag : List WholeSegment) → IsSummed (join bag)
unfolding join summed
IsSummed-join bag = record {
  sorted = subst (IsStrictlySortedBy pair_cmp) (sym (pairs-filter (winding_at bag) (distinct_in_order pair_cmp (pairs bag)))) (IsStrictlySortedBy-filter pair_cmp (λ k. is_not_empty (winding_at bag k)) _ (IsStrictlySortedBy-distinct pair_cmp_total (pairs bag)));
  none_empty = list_all-filter_itself (λ s. is_not_empty s.count) (summed bag);
}

pub are_ordered-join : (bag : List WholeSegment) → IsTrue (are_ordered bag) → IsTrue (are_ordered (join bag))
unfolding join summed
are_ordered-join bag h =
    list_all-filter (λ s. is_ordered s.pair) (λ s. is_not_empty s.count) (summed bag)
    (list_all-map (λ s. is_ordered s.pair) (λ pair. record { pair = pair; count = winding_at bag pair }) (distinct_in_order pair_cmp (pairs bag))
    ∙ list_all-distinct_in_order pair_cmp is_ordered (pairs bag) (list_all-map is_ordered (λ s. s.pair) bag ∙ h))

pub is_map-join : (bag : List WholeSegment) → IsTrue (are_ordered bag) → IsTrue (is_map (join bag))
is_map-join bag h = is_map-from (join bag) (IsSummed-join bag) (are_ordered-join bag h)

pub join_is_map : JoinIsMap
join_is_map bag h = (is_map-join bag h, winding_at-join bag)

-- ---- a map is its windings

not_of_empty : (c : Winding) → is_not_empty c ≡ true → c ≡ empty → ⊥
not_of_empty c h e = true≢false (sym h ∙ ap is_not_empty e)

-- nothing winds below the first pair
pub winding_at-below : (pair : Pair) (segments : List WholeSegment) → AllByRecursion (λ q. pair_cmp pair q ≡ Less) (pairs segments) → winding_at segments pair ≡ empty
winding_at-below pair [] a = winding_at-nil pair
winding_at-below pair (s ∷ ss) a =
    winding_at-cons s ss pair ∙ ap₂ add (ap (λ b. cond b s.count empty) (pair_eq-greater s.pair pair a.0)) (winding_at-below pair ss a.1) ∙ empty-add empty

module _ (s : WholeSegment) (ss : List WholeSegment) (o : IsSummed (s ∷ ss)) where
  pub tail_sorted : AllByRecursion (λ q. pair_cmp s.pair q ≡ Less) (pairs ss) × IsStrictlySortedBy pair_cmp (pairs ss)
  unfolding IsStrictlySortedBy
  tail_sorted = o.sorted

  pub IsSummed-tail : IsSummed ss
  IsSummed-tail = record { sorted = tail_sorted.1; none_empty = (and_parts _ _ o.none_empty).1 }

  pub winding_at-head : winding_at (s ∷ ss) s.pair ≡ s.count
  winding_at-head = winding_at-cons s ss s.pair ∙ ap₂ add (ap (λ b. cond b s.count empty) (pair_eq_same s.pair)) (winding_at-below s.pair ss tail_sorted.0) ∙ add-empty s.count

  head_not_empty : s.count ≡ empty → ⊥
  head_not_empty = not_of_empty s.count (and_parts _ _ o.none_empty).0

  below_head : (pair : Pair) → pair_cmp pair s.pair ≡ Less → winding_at (s ∷ ss) pair ≡ empty
  below_head pair e = winding_at-below pair (s ∷ ss) (e, AllByRecursion-less pair_cmp_total pair s.pair (pairs ss) e tail_sorted.0)

-- the windings of the tail are those of the whole where they are not the head's
tail_windings : (s : WholeSegment) (ss : List WholeSegment) (t : WholeSegment) (ts : List WholeSegment) → IsSummed (s ∷ ss) → IsSummed (t ∷ ts) → s.pair ≡ t.pair → ((pair : Pair) → winding_at (s ∷ ss) pair ≡ winding_at (t ∷ ts) pair) → (pair : Pair) → winding_at ss pair ≡ winding_at ts pair
tail_windings s ss t ts o p e h pair = by (pair_eq s.pair pair) refl
  where
    by : (b : Bool) → pair_eq s.pair pair ≡ b → winding_at ss pair ≡ winding_at ts pair
    by true k =
        let here = same_pair_by_eq s.pair pair k in
        winding_at-below pair ss (subst (λ q. AllByRecursion (λ r. pair_cmp q r ≡ Less) (pairs ss)) here (tail_sorted s ss o).0)
        ∙ sym (winding_at-below pair ts (subst (λ q. AllByRecursion (λ r. pair_cmp q r ≡ Less) (pairs ts)) (sym e ∙ here) (tail_sorted t ts p).0))
    by false k =
        sym (winding_at-cons s ss pair ∙ ap (λ b. add (cond b s.count empty) (winding_at ss pair)) k ∙ empty-add _)
        ∙ h pair
        ∙ winding_at-cons t ts pair ∙ ap (λ b. add (cond b t.count empty) (winding_at ts pair)) (ap (λ q. pair_eq q pair) (sym e) ∙ k) ∙ empty-add _

-- two such lists with the same windings are the same list
pub same_from_windings : (xs ys : List WholeSegment) → IsSummed xs → IsSummed ys → ((pair : Pair) → winding_at xs pair ≡ winding_at ys pair) → xs ≡ ys
same_from_windings [] [] o p h = refl
same_from_windings [] (t ∷ ts) o p h = absurd (head_not_empty t ts p (sym (winding_at-head t ts p) ∙ sym (h t.pair) ∙ winding_at-nil t.pair))
same_from_windings (s ∷ ss) [] o p h = absurd (head_not_empty s ss o (sym (winding_at-head s ss o) ∙ h s.pair ∙ winding_at-nil s.pair))
same_from_windings (s ∷ ss) (t ∷ ts) o p h = by (pair_cmp s.pair t.pair) refl (λ e. same_from_windings ss ts (IsSummed-tail s ss o) (IsSummed-tail t ts p) (tail_windings s ss t ts o p e h))
  where
    by : (r : Ordering) → pair_cmp s.pair t.pair ≡ r → (s.pair ≡ t.pair → ss ≡ ts) → s ∷ ss ≡ t ∷ ts
    by Less e ih = absurd (head_not_empty s ss o (sym (winding_at-head s ss o) ∙ h s.pair ∙ below_head t ts p s.pair e))
    by Equal e ih =
        let same = pair_same s.pair t.pair e in
        let count : s.count ≡ t.count = sym (winding_at-head s ss o) ∙ h s.pair ∙ ap (winding_at (t ∷ ts)) same ∙ winding_at-head t ts p in
        let rest = ih same in
        λ i. record { pair = same i; count = count i } ∷ rest i
    by Greater e ih =
        let less : pair_cmp t.pair s.pair ≡ Less = pair_cmp_total.antisymm t.pair s.pair ∙ ap ordering_reverse e in
        absurd (head_not_empty t ts p (sym (winding_at-head t ts p) ∙ sym (h t.pair) ∙ below_head s ss o t.pair less))

pub map_is_its_windings : MapIsItsWindings
map_is_its_windings xs ys o p = same_from_windings xs ys (IsSummed-from_map xs o) (IsSummed-from_map ys p)

-- ---- hence

-- bags with the same windings have one join
pub join_from_windings : (xs ys : List WholeSegment) → ((pair : Pair) → winding_at xs pair ≡ winding_at ys pair) → join xs ≡ join ys
join_from_windings xs ys h = same_from_windings (join xs) (join ys) (IsSummed-join xs) (IsSummed-join ys) (λ pair. winding_at-join xs pair ∙ h pair ∙ sym (winding_at-join ys pair))

-- a list with the windings of a bag, in strict order and without empty counts, is the bag's join
pub is_join : (bag segments : List WholeSegment) → IsSummed segments → ((pair : Pair) → winding_at segments pair ≡ winding_at bag pair) → segments ≡ join bag
is_join bag segments o h = same_from_windings segments (join bag) o (IsSummed-join bag) (λ pair. h pair ∙ sym (winding_at-join bag pair))

-- the join of a map is that map
pub join-summed : (segments : List WholeSegment) → IsSummed segments → join segments ≡ segments
join-summed segments o = sym (is_join segments segments o (λ pair. refl))

pub join-map : (segments : List WholeSegment) → IsTrue (is_map segments) → join segments ≡ segments
join-map segments h = join-summed segments (IsSummed-from_map segments h)

pub join-join : (bag : List WholeSegment) → join (join bag) ≡ join bag
join-join bag = join-summed (join bag) (IsSummed-join bag)

-- the order of a bag does not count
pub join-IsPermutation : (xs ys : List WholeSegment) → IsPermutation xs ys → join ys ≡ join xs
join-IsPermutation xs ys p = join_from_windings ys xs (winding_at-IsPermutation xs ys p)

-- a part of a bag may be joined beforehand
pub join-append_left : (xs ys : List WholeSegment) → join (join xs ++ ys) ≡ join (xs ++ ys)
join-append_left xs ys = join_from_windings _ _ (λ pair. winding_at-append (join xs) ys pair ∙ ap (λ c. add c (winding_at ys pair)) (winding_at-join xs pair) ∙ sym (winding_at-append xs ys pair))

pub join-append_right : (xs ys : List WholeSegment) → join (xs ++ join ys) ≡ join (xs ++ ys)
join-append_right xs ys = join_from_windings _ _ (λ pair. winding_at-append xs (join ys) pair ∙ ap (add (winding_at xs pair)) (winding_at-join ys pair) ∙ sym (winding_at-append xs ys pair))

pub join_is_only_map : JoinIsOnlyMap
join_is_only_map bag segments h = is_join bag segments (IsSummed-from_map segments h)

pub join_of_parts : JoinOfParts
join_of_parts xs ys = (join-append_left xs ys, join-append_right xs ys)
