-- Whether two places of a list hold one key: the order of the list does not count, and in order of the keys it shows between neighbors.
use Rattle.std.proofs.Common.{◌≡◌, Bool, true, false, ◌||◌, List, [], ◌∷◌, map, IsPermutation, Ordering, is_eq, refl, sym, ap, ◌∙◌, subst}
use Rattle.std.specs.Cmp.{IsTotalOrder}
use Rattle.std.specs.List.{list_any}
use Rattle.std.proofs.lemmas.Map.Keys.{IsDistinct-IsPermutation}
use Rattle.std.proofs.lemmas.List.Sorted.{IsPermutation-sym}
use Rattle.overlay_geometry.specs.Sorting.{has_repeat}
use Rattle.overlay_geometry.proofs.laws.lists.Lists.{same_from_false}
use Rattle.overlay_geometry.proofs.laws.lists.Keys.{has_key-below, Less-from_tests, IsInOrder, AllByRecursion-less_in_order, IsDistinct-from_test, has_repeat-distinct, is_eq-reverse}

pub list_any-map : {X Y : Type 0} (f : X → Y) (test : Y → Bool) (xs : List X) → list_any test (map f xs) ≡ list_any (λ x. test (f x)) xs
list_any-map f test [] = refl
list_any-map f test (x ∷ xs) = ap (λ b. test (f x) || b) (list_any-map f test xs)

-- ---- one key less

-- the first key has an equal one
pub has_repeat-found : {K : Type 0} (eq : K → K → Bool) (all : List K) (k : K) (ks rest : List K) → has_repeat eq rest ≡ has_repeat eq all → rest ≡ k ∷ ks → list_any (λ y. eq k y) ks ≡ true → true ≡ has_repeat eq all
unfolding has_repeat
has_repeat-found eq all k ks rest same is found = sym (ap (λ b. b || has_repeat eq ks) found) ∙ sym (ap (has_repeat eq) is) ∙ same

-- the first key has none
pub has_repeat-rest : {K : Type 0} (eq : K → K → Bool) (all : List K) (k : K) (ks rest : List K) → has_repeat eq rest ≡ has_repeat eq all → rest ≡ k ∷ ks → list_any (λ y. eq k y) ks ≡ false → has_repeat eq ks ≡ has_repeat eq all
unfolding has_repeat
has_repeat-rest eq all k ks rest same is none = sym (ap (λ b. b || has_repeat eq ks) none) ∙ sym (ap (has_repeat eq) is) ∙ same

-- no key is left
pub has_repeat-none : {K : Type 0} (eq : K → K → Bool) (all rest : List K) → has_repeat eq rest ≡ has_repeat eq all → rest ≡ [] → false ≡ has_repeat eq all
unfolding has_repeat
has_repeat-none eq all rest same is = sym (ap (has_repeat eq) is) ∙ same

-- ---- in any order, and in order of the keys

module _ {K : Type 0} {cmp : K → K → Ordering} (o : IsTotalOrder cmp) where
  eq-comm : (x y : K) → is_eq (cmp x y) ≡ is_eq (cmp y x)
  eq-comm x y = ap is_eq (o.antisymm x y) ∙ is_eq-reverse (cmp y x)

  pub has_repeat-IsPermutation : (xs ys : List K) → IsPermutation xs ys → has_repeat (λ x y. is_eq (cmp x y)) ys ≡ has_repeat (λ x y. is_eq (cmp x y)) xs
  has_repeat-IsPermutation xs ys p = same_from_false _ _ (across ys xs (IsPermutation-sym xs ys p)) (across xs ys p)
    where
      across : (xs ys : List K) → IsPermutation xs ys → has_repeat (λ x y. is_eq (cmp x y)) xs ≡ false → has_repeat (λ x y. is_eq (cmp x y)) ys ≡ false
      across xs ys p h = has_repeat-distinct _ ys (IsDistinct-IsPermutation _ eq-comm xs ys p (IsDistinct-from_test _ xs h))

  -- a key that is equal to its neighbor
  pub one_after_neighbor : (k j : K) (js ks : List K) → ks ≡ j ∷ js → is_eq (cmp k j) ≡ true → list_any (λ y. is_eq (cmp k y)) ks ≡ true
  one_after_neighbor k j js ks is e = rw (is, e) refl

  -- a key whose neighbor is another has no equal one behind it
  pub none_after_neighbor : (k j : K) (js ks : List K) → IsInOrder cmp (k ∷ ks) → ks ≡ j ∷ js → is_eq (cmp k j) ≡ false → list_any (λ y. is_eq (cmp k y)) ks ≡ false
  none_after_neighbor k j js ks h is e =
      let order : IsInOrder cmp (k ∷ j ∷ js) = subst (λ xs. IsInOrder cmp (k ∷ xs)) is h in
      let less = Less-from_tests (cmp k j) order.0.0 e in
      ap (list_any (λ y. is_eq (cmp k y))) is ∙ has_key-below cmp k (j ∷ js) (less, AllByRecursion-less_in_order o k j js less order.1.0)

  -- nor has one without a neighbor
  pub none_without_neighbor : (k : K) (ks : List K) → ks ≡ [] → list_any (λ y. is_eq (cmp k y)) ks ≡ false
  none_without_neighbor k ks is = ap (list_any (λ y. is_eq (cmp k y))) is
