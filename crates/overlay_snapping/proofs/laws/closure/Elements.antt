-- Elements of lists of points, by place and by what holds of all.
use Rattle.std.proofs.Common.{◌≡◌, sym, ap, subst, ◌∙◌, ⊎_elim, ◌↔◌, ℕ, Bool, true, List, [], ◌++◌, Some, map}
use Rattle.std.specs.Prelude.{Contains, IsPermutation, slice_get}
use Rattle.std.specs.List.{list_all}
use Rattle.std.proofs.lemmas.List.Sorted.{Contains-permutation, IsPermutation-sym}
use Rattle.std.proofs.lemmas.Option.{slice_get-get_or, slice_get_within, get_or_from_slice_get}
use Rattle.overlay_geometry.specs.Points.{Point}
use Rattle.overlay_geometry.proofs.laws.lists.Lists.{Has, Has-map, Has-map_out, list_all-at, list_all-from_Has}
use Rattle.overlay_geometry.proofs.laws.lists.Elements.{Contains-from_Has, Has-from_Contains, Has-append_out}

-- ---- elements by place

pub found_at : {X : Type 0} (xs : List X) (x : X) → Contains xs x → (i : ℕ) × (slice_get xs i ≡ Some x)
found_at xs x i = (i.0, slice_get-get_or xs i.0 x i.1 ∙ ap (λ y. Some y) i.2)

pub contained : {X : Type 0} (xs : List X) (i : ℕ) (x : X) → slice_get xs i ≡ Some x → Contains xs x
contained xs i x at = (i, slice_get_within xs i x at, get_or_from_slice_get xs i x x at)

pub one_element : {X : Type 0} (xs : List X) (i : ℕ) (x y : X) → slice_get xs i ≡ Some x → slice_get xs i ≡ Some y → x ≡ y
one_element xs i x y e f = cc

pub no_element : {X : Type 0} (x : X) → Contains [] x → ⊥
no_element x i = absurd (Has-from_Contains [] x i)

-- ---- lists of code

module _ {X : Type 0} (f : X → Point) where
  -- elements that two lists share
  pub mapped : (xs ys : List X) → ((x : X) → Contains xs x → Contains ys x) → (c : Point) → Contains (map f xs) c → Contains (map f ys) c
  mapped xs ys h c i =
      let r = Has-map_out f xs c (Has-from_Contains (map f xs) c i) in
      Contains-from_Has (map f ys) c (subst (λ (q : Point). Has (map f ys) q) r.2 (Has-map f ys r.0 (Has-from_Contains ys r.0 (h r.0 (Contains-from_Has xs r.0 r.1)))))

  pub same_mapped : (xs ys : List X) → ((x : X) → Contains xs x ↔ Contains ys x) → (c : Point) → Contains (map f xs) c ↔ Contains (map f ys) c
  same_mapped xs ys h c = (mapped xs ys (λ x. (h x).0) c, mapped ys xs (λ x. (h x).1) c)

  pub permuted : (xs ys : List X) → IsPermutation xs ys → (c : Point) → Contains (map f ys) c ↔ Contains (map f xs) c
  permuted xs ys p = same_mapped ys xs (λ x. (Contains-permutation ys xs x (IsPermutation-sym xs ys p), Contains-permutation xs ys x p))

-- a test that each element of one list passes, and so each of another
pub passed_on : (test : Point → Bool) (xs ys : List Point) → ((c : Point) → Contains ys c → Contains xs c) → list_all test xs ≡ true → list_all test ys ≡ true
passed_on test xs ys h all = list_all-from_Has test ys (λ c i. list_all-at test xs c all (Has-from_Contains xs c (h c (Contains-from_Has ys c i))))

pub both_pass : (test : Point → Bool) (xs ys all : List Point) → all ≡ xs ++ ys → list_all test xs ≡ true → list_all test ys ≡ true → list_all test all ≡ true
both_pass test xs ys all e p q =
    subst (λ (l : List Point). list_all test l ≡ true) (sym e)
    (list_all-from_Has test (xs ++ ys) (λ c i. ⊎_elim (λ k. list_all-at test xs c p k) (λ k. list_all-at test ys c q k) (Has-append_out xs ys c i)))
