-- Sums over bags of segments, and that the join of a bag has the sums of the bag.
use Rattle.std.proofs.Common.{◌≡◌, Bool, true, false, cond, ◌||◌, List, [], ◌∷◌, ◌++◌, map, IsPermutation, refl, sym, ap, ap₂, subst, ◌∙◌, Less, eqb-true}
use Rattle.std.specs.List.{AllByRecursion}
use Rattle.std.specs.List.Sorted.{IsStrictlySortedBy}
use Rattle.std.proofs.lemmas.Bool.{and_parts, or_parts, or_left, or_right, not-false}
use Rattle.overlay_geometry.specs.Points.{Pair, pair_cmp, pair_eq}
use Rattle.overlay_geometry.specs.Sorting.{distinct_in_order}
use Rattle.overlay_base.specs.Windings.{Winding, empty, add, weight, total, winding_eq, is_not_empty}
use Rattle.overlay_base.specs.Segments.{WholeSegment, pairs, counts, segments_at, winding_at, total_weight}
use Rattle.overlay_base.specs.Join.{summed, join}
use Rattle.overlay_base.specs.Sums.{IsCommutativeMonoid, gathered}
use Rattle.overlay_base.specs.Laws.{CountsAddUp}
use Rattle.overlay_base.proofs.laws.counts.Windings.{cond-empty, cond-add, add_comm, add_assoc, empty-add, same_windings, weight-add}
use Rattle.overlay_geometry.proofs.laws.geometry.Points.{pair_cmp_total, pair_eq_same, same_pair_by_eq}
use Rattle.overlay_base.proofs.laws.geometry.Pairs.{pair_eq-less, pair_eq-comm, holds, holds-distinct}
use Rattle.overlay_geometry.proofs.laws.lists.Keys.{IsStrictlySortedBy-distinct}
use Rattle.overlay_base.proofs.laws.lists.Monoids.{gathered-append, gathered-unit, gathered-op, gathered-same, gathered-filter, gathered-IsPermutation, gathered-map, gathered-through}
use Rattle.overlay_geometry.proofs.laws.integers.Tests.{eq-tested}

-- ---- totals

pub windings_add : CountsAddUp
windings_add = record { comm = add_comm; assoc = add_assoc; unit_left = empty-add }

pub total-gathered : (cs : List Winding) → total cs ≡ gathered add empty (λ (c : Winding). c) cs
unfolding total
total-gathered [] = refl
total-gathered (c ∷ cs) = ap (add c) (total-gathered cs)

pub total-map : {X : Type 0} (f : X → Winding) (xs : List X) → total (map f xs) ≡ gathered add empty f xs
total-map f xs = total-gathered (map f xs) ∙ gathered-map add empty (λ c. c) f xs

-- ---- windings at a pair, and weights

-- the count of a segment on that pair, and nothing of any other
abbrev pub count_at : Pair → WholeSegment → Winding
count_at pair s = cond (pair_eq s.pair pair) s.count empty

pub winding_at-gathered : (bag : List WholeSegment) (pair : Pair) → winding_at bag pair ≡ gathered add empty (count_at pair) bag
unfolding winding_at
winding_at-gathered bag pair = total-map (λ s. s.count) (segments_at bag pair) ∙ gathered-filter windings_add (λ s. s.count) (λ s. pair_eq s.pair pair) bag

pub winding_at-nil : (pair : Pair) → winding_at [] pair ≡ empty
winding_at-nil pair = winding_at-gathered [] pair

pub winding_at-cons : (s : WholeSegment) (bag : List WholeSegment) (pair : Pair) → winding_at (s ∷ bag) pair ≡ add (count_at pair s) (winding_at bag pair)
winding_at-cons s bag pair = winding_at-gathered (s ∷ bag) pair ∙ ap (add (count_at pair s)) (sym (winding_at-gathered bag pair))

-- of the counts at a pair, that of the first segment is there where the pair is its own
pub winding_at-here : (s : WholeSegment) (bag : List WholeSegment) → winding_at (s ∷ bag) s.pair ≡ add s.count (winding_at bag s.pair)
winding_at-here s bag = winding_at-cons s bag s.pair ∙ ap (λ b. add (cond b s.count empty) (winding_at bag s.pair)) (pair_eq_same s.pair)

pub winding_at-other : (s : WholeSegment) (bag : List WholeSegment) (pair : Pair) → pair_eq s.pair pair ≡ false → winding_at (s ∷ bag) pair ≡ winding_at bag pair
winding_at-other s bag pair e = winding_at-cons s bag pair ∙ ap (λ b. add (cond b s.count empty) (winding_at bag pair)) e ∙ empty-add (winding_at bag pair)

-- a pair that is not in a bag has no winding there
pub winding_at-absent : (bag : List WholeSegment) (q : Pair) → holds (pairs bag) q ≡ false → winding_at bag q ≡ empty
winding_at-absent [] q h = winding_at-nil q
winding_at-absent (s ∷ bag) q h =
    let parts = or_parts _ _ h in
    winding_at-other s bag q (pair_eq-comm s.pair q ∙ parts.0) ∙ winding_at-absent bag q parts.1

pub winding_at-append : (xs ys : List WholeSegment) (pair : Pair) → winding_at (xs ++ ys) pair ≡ add (winding_at xs pair) (winding_at ys pair)
winding_at-append xs ys pair = winding_at-gathered (xs ++ ys) pair ∙ gathered-append windings_add (count_at pair) xs ys ∙ ap₂ add (sym (winding_at-gathered xs pair)) (sym (winding_at-gathered ys pair))

pub winding_at-IsPermutation : (xs ys : List WholeSegment) → IsPermutation xs ys → (pair : Pair) → winding_at ys pair ≡ winding_at xs pair
winding_at-IsPermutation xs ys p pair = winding_at-gathered ys pair ∙ gathered-IsPermutation windings_add (count_at pair) xs ys p ∙ sym (winding_at-gathered xs pair)

pub total_weight-gathered : (bag : List WholeSegment) → total_weight bag ≡ gathered add empty (λ s. weight s.count) bag
unfolding total_weight
total_weight-gathered bag = total-map (λ s. weight s.count) bag

-- the weight of a sum is the sum of the weights
pub total_weight-total : (bag : List WholeSegment) → total_weight bag ≡ weight (total (counts bag))
total_weight-total bag = total_weight-gathered bag ∙ sym (ap weight (total-map (λ s. s.count) bag) ∙ gathered-through add empty add empty weight refl weight-add (λ s. s.count) bag)

-- ---- what adds up over a bag adds up to the same over its join

pub winding_eq-true : (c d : Winding) → winding_eq c d ≡ true → c ≡ d
winding_eq-true c d h =
    let rest = and_parts _ _ h in
    let parts = and_parts _ _ rest.0 in
    same_windings c d (eq-tested _ _ parts.0) (eq-tested _ _ parts.1) (eqb-true _ _ rest.1)

pub is_not_empty-false : (c : Winding) → is_not_empty c ≡ false → c ≡ empty
is_not_empty-false c h = winding_eq-true c empty (not-false _ h)

module _ {M : Type 0} {op : M → M → M} {unit : M} (laws : IsCommutativeMonoid op unit) where
  none_of : (q : Pair) (v : M) (ks : List Pair) → AllByRecursion (λ k. pair_cmp q k ≡ Less) ks → gathered op unit (λ k. cond (pair_eq q k) v unit) ks ≡ unit
  none_of q v [] a = refl
  none_of q v (k ∷ ks) a = ap₂ op (ap (λ b. cond b v unit) (pair_eq-less q k a.0)) (none_of q v ks a.1) ∙ laws.unit_left unit

  one_of : (q : Pair) (v : M) (ks : List Pair) → IsStrictlySortedBy pair_cmp ks → gathered op unit (λ k. cond (pair_eq q k) v unit) ks ≡ cond (holds ks q) v unit
  unfolding IsStrictlySortedBy
  one_of q v [] s = refl
  one_of q v (k ∷ ks) s = by (pair_eq q k) refl (one_of q v ks s.1)
    where
      by : (b : Bool) → pair_eq q k ≡ b → gathered op unit (λ k. cond (pair_eq q k) v unit) ks ≡ cond (holds ks q) v unit → op (cond b v unit) (gathered op unit (λ k. cond (pair_eq q k) v unit) ks) ≡ cond (b || holds ks q) v unit
      by true e ih = ap (op v) (none_of q v ks (subst (λ p. AllByRecursion (λ k. pair_cmp p k ≡ Less) ks) (sym (same_pair_by_eq q k e)) s.0)) ∙ laws.comm v unit ∙ laws.unit_left v
      by false e ih = laws.unit_left _ ∙ ih

  covered : (f : WholeSegment → M) (ks : List Pair) (bag : List WholeSegment) → ((q : Pair) → holds (pairs bag) q ≡ true → holds ks q ≡ true) → gathered op unit (λ s. cond (holds ks s.pair) (f s) unit) bag ≡ gathered op unit f bag
  covered f ks [] h = refl
  covered f ks (s ∷ bag) h =
      ap₂ op (ap (λ b. cond b (f s) unit) (h s.pair (or_left _ _ (pair_eq_same s.pair)))) (covered f ks bag (λ q e. h q (or_right _ _ e)))

  -- h adds up the counts at each pair
  module _ (h : Pair → Winding → M) (nothing : (p : Pair) → h p empty ≡ unit) (sums : (p : Pair) (c d : Winding) → h p (add c d) ≡ op (h p c) (h p d)) where
    at_pair : (s : WholeSegment) (k : Pair) (b : Bool) → pair_eq s.pair k ≡ b → h k (cond b s.count empty) ≡ cond b (h s.pair s.count) unit
    at_pair s k true e = ap (λ p. h p s.count) (sym (same_pair_by_eq s.pair k e))
    at_pair s k false e = nothing k

    over_keys : (ks : List Pair) → IsStrictlySortedBy pair_cmp ks → (bag : List WholeSegment) → gathered op unit (λ k. h k (winding_at bag k)) ks ≡ gathered op unit (λ s. cond (holds ks s.pair) (h s.pair s.count) unit) bag
    over_keys ks sorted [] = gathered-same laws _ _ (λ k. ap (h k) (winding_at-nil k) ∙ nothing k) ks ∙ gathered-unit laws ks
    over_keys ks sorted (s ∷ bag) =
        gathered-same laws _ (λ k. op (cond (pair_eq s.pair k) (h s.pair s.count) unit) (h k (winding_at bag k))) (λ k. ap (h k) (winding_at-cons s bag k) ∙ sums k _ _ ∙ ap (λ m. op m (h k (winding_at bag k))) (at_pair s k _ refl)) ks
        ∙ gathered-op laws _ _ ks ∙ ap₂ op (one_of s.pair (h s.pair s.count) ks sorted) (over_keys ks sorted bag)

    pub gathered-summed : (bag : List WholeSegment) → gathered op unit (λ s. h s.pair s.count) (summed bag) ≡ gathered op unit (λ s. h s.pair s.count) bag
    unfolding summed
    gathered-summed bag =
        gathered-map op unit (λ (s : WholeSegment). h s.pair s.count) (λ pair. record { pair = pair; count = winding_at bag pair }) (distinct_in_order pair_cmp (pairs bag))
        ∙ over_keys (distinct_in_order pair_cmp (pairs bag)) (IsStrictlySortedBy-distinct pair_cmp_total (pairs bag)) bag
        ∙ covered (λ s. h s.pair s.count) _ bag (λ q e. holds-distinct (pairs bag) q ∙ e)

    left_out : (s : WholeSegment) (b : Bool) → is_not_empty s.count ≡ b → cond b (h s.pair s.count) unit ≡ h s.pair s.count
    left_out s true e = refl
    left_out s false e = sym (ap (h s.pair) (is_not_empty-false s.count e) ∙ nothing s.pair)

    pub gathered-join : (bag : List WholeSegment) → gathered op unit (λ s. h s.pair s.count) (join bag) ≡ gathered op unit (λ s. h s.pair s.count) bag
    unfolding join
    gathered-join bag =
        gathered-filter laws (λ (s : WholeSegment). h s.pair s.count) (λ s. is_not_empty s.count) (summed bag)
        ∙ gathered-same laws _ _ (λ s. left_out s _ refl) (summed bag) ∙ gathered-summed bag

-- the join has the bag's count at each pair
pub winding_at-join : (bag : List WholeSegment) (pair : Pair) → winding_at (join bag) pair ≡ winding_at bag pair
winding_at-join bag pair = winding_at-gathered (join bag) pair ∙ gathered-join windings_add (λ p c. cond (pair_eq p pair) c empty) (λ p. cond-empty (pair_eq p pair)) (λ p c d. cond-add (pair_eq p pair) c d) bag ∙ sym (winding_at-gathered bag pair)
