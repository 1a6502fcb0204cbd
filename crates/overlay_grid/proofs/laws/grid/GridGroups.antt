-- Groups of fragments, by column.
use Rattle.std.proofs.Common.{◌≡◌, refl, sym, ap, subst, ℕ, zero, suc, ◌+◌, ◌-◌, ◌<◌, ◌≤◌, ◌≢◌, ◌==◌, ◌∙◌, inl, inr, arith, Bool, true, false, if◌then◌else◌, List, [], ◌∷◌, ◌++◌, map, length, get_or, append-nil}
use Rattle.std.specs.Prelude.{ℤ, Vec, slice_set, ◌≤ℤ◌, IsPermutation, IsSortedByKey}
use Rattle.std.specs.List.{AllByRecursion}
use Rattle.std.specs.Ordering.{int_cmp, is_gt}
use Rattle.std.proofs.lemmas.Int.{ints}
use Rattle.std.proofs.lemmas.Cmp.{int_cmp_total}
use Rattle.std.proofs.lemmas.List.Sorted.{IsPermutation-map, IsPermutation-trans, IsPermutation-refl}
use Rattle.overlay_geometry.proofs.laws.lists.Keys.{IsInOrder, IsInOrder-from_sort}
use Rattle.std.specs.declared.alloc.Global.{Global}
use Rattle.std.proofs.lemmas.List.{get_or-map, get_or-set_same, get_or-set_other, map-set, map-append, length-map}
use Rattle.std.proofs.lemmas.Bool.{eqb-true, eq-eqb, false≢true}
use Rattle.std.proofs.Math.Nat.{eq-zero-or-pos}
use Rattle.overlay_grid.specs.FragmentOf.{KeptFragment, fragment_of, fragments_of, on_axis, least_along, IsSortedAlong}
use Rattle.overlay_grid.specs.declared.split.axis.Axis.{Axis}
use Rattle.overlay_grid.specs.GroupsOf.{group_in}
use Rattle.overlay_grid.specs.declared.split.fragment.Fragment.{Fragment as CodeFragment}

-- ---- lists of lists

module _ {X : Type 0} where
  at_same : (groups : List (List X)) (i j : ℕ) (xs : List X) → j ≡ i → i < length groups → get_or (slice_set groups i xs) j [] ≡ xs
  at_same groups i j xs e h = subst (λ (k : ℕ). get_or (slice_set groups i xs) k [] ≡ xs) (sym e) (get_or-set_same groups i xs [] h)

  -- one group is replaced by a longer one
  pub added : (groups : List (List X)) (i j : ℕ) (more : List X) → i < length groups →
      get_or (slice_set groups i (get_or groups i [] ++ more)) j [] ≡ get_or groups j [] ++ (if i == j then more else [])
  added groups i j more h = by (i == j) refl
    where
      by : (b : Bool) → (i == j) ≡ b → get_or (slice_set groups i (get_or groups i [] ++ more)) j [] ≡ get_or groups j [] ++ (if b then more else [])
      by true e = let same : j ≡ i = sym (eqb-true i j e) in at_same groups i j _ same h ∙ ap (λ (k : ℕ). get_or groups k [] ++ more) (sym same)
      by false e = get_or-set_other groups i j (get_or groups i [] ++ more) [] (λ same. false≢true (sym e ∙ eq-eqb i j (sym same))) ∙ sym (append-nil (get_or groups j []))

  pub none_beyond : (groups : List (List X)) (i : ℕ) → length groups ≤ i → get_or groups i [] ≡ []
  none_beyond [] i h = refl
  none_beyond (x ∷ groups) zero h = absurd (omega arith)
  none_beyond (x ∷ groups) (suc i) h = none_beyond groups i (omega arith)

  pub replaced_other : (groups : List (List X)) (i j : ℕ) (xs : List X) → j ≢ i → get_or (slice_set groups i xs) j [] ≡ get_or groups j []
  replaced_other groups i j xs h = get_or-set_other groups i j xs [] h

  pub replaced_same : (groups : List (List X)) (i : ℕ) (xs : List X) → i < length groups → get_or (slice_set groups i xs) i [] ≡ xs
  replaced_same groups i xs h = get_or-set_same groups i xs [] h

-- ---- groups of code

module _ {I : Type 0} (whole : I → ℤ) where
  -- the group of a column as code reads it
  pub group_in-at : (groups : List (Vec (CodeFragment I) Global)) (column : ℕ) (v : Vec (CodeFragment I) Global) → column < length groups → v ≡ get_or groups column v → fragments_of whole v.items ≡ group_in whole groups column
  group_in-at groups column v h e = ap (λ (u : Vec (CodeFragment I) Global). fragments_of whole u.items) e ∙ sym (get_or-map (λ (u : Vec (CodeFragment I) Global). fragments_of whole u.items) groups column v [] h)

  same_length : (groups : List (Vec (CodeFragment I) Global)) (column : ℕ) → column < length groups → column < length (map (λ v. fragments_of whole v.items) groups)
  same_length groups column h = subst (λ (n : ℕ). column < n) (sym (length-map groups (λ v. fragments_of whole v.items))) h

  -- the group of one column is replaced
  pub group_in-set : (groups : List (Vec (CodeFragment I) Global)) (column : ℕ) (v : Vec (CodeFragment I) Global) (other : ℕ) →
      group_in whole (slice_set groups column v) other ≡ get_or (slice_set (map (λ u. fragments_of whole u.items) groups) column (fragments_of whole v.items)) other []
  group_in-set groups column v other = ap (λ (list : List (List KeptFragment)). get_or list other []) (map-set (λ u. fragments_of whole u.items) groups column v)

  pub group_in-pushed : (groups : List (Vec (CodeFragment I) Global)) (column : ℕ) (v v' : Vec (CodeFragment I) Global) (f : CodeFragment I) (other : ℕ) → column < length groups → v ≡ get_or groups column v → v'.items ≡ v.items ++ f ∷ [] →
      group_in whole (slice_set groups column v') other ≡ group_in whole groups other ++ (if column == other then fragment_of whole f ∷ [] else [])
  group_in-pushed groups column v v' f other h e p =
      let items = ap (fragments_of whole) p ∙ map-append (fragment_of whole) v.items (f ∷ []) ∙ ap (λ (list : List KeptFragment). list ++ fragment_of whole f ∷ []) (group_in-at groups column v h e) in
      group_in-set groups column v' other
      ∙ ap (λ (list : List KeptFragment). get_or (slice_set (map (λ u. fragments_of whole u.items) groups) column list) other []) items
      ∙ added (map (λ u. fragments_of whole u.items) groups) column other (fragment_of whole f ∷ []) (same_length groups column h)

  -- one more group is empty
  pub emptied_more : (groups : List (Vec (CodeFragment I) Global)) (column : ℕ) (v : Vec (CodeFragment I) Global) → column < length groups → v.items ≡ [] → ((other : ℕ) → other < column → group_in whole groups other ≡ []) →
      (other : ℕ) → other < column + 1 → group_in whole (slice_set groups column v) other ≡ []
  emptied_more groups column v h p before other lt = elim (eq-zero-or-pos (column - other)) [
    | inl e ↦ (let same : other ≡ column = omega arith in
        group_in-set groups column v other
        ∙ ap (λ (k : ℕ). get_or (slice_set (map (λ u. fragments_of whole u.items) groups) column (fragments_of whole v.items)) k []) same
        ∙ replaced_same (map (λ u. fragments_of whole u.items) groups) column (fragments_of whole v.items) (same_length groups column h)
        ∙ ap (fragments_of whole) p)
    | inr less ↦ group_in-set groups column v other ∙ replaced_other (map (λ u. fragments_of whole u.items) groups) column other (fragments_of whole v.items) (λ same. absurd (omega arith)) ∙ before other (omega arith)
  ]

  pub all_emptied : (groups : List (Vec (CodeFragment I) Global)) (column : ℕ) → length groups ≤ column → ((other : ℕ) → other < column → group_in whole groups other ≡ []) → (other : ℕ) → group_in whole groups other ≡ []
  all_emptied groups column h before other = elim (eq-zero-or-pos (column - other)) [
    | inl e ↦ none_beyond (map (λ u. fragments_of whole u.items) groups) other (subst (λ (n : ℕ). n ≤ other) (sym (length-map groups (λ v. fragments_of whole v.items))) (omega arith))
    | inr less ↦ before other (omega arith)
  ]

  -- one more group, an empty one
  pub group_in-new : (groups : List (Vec (CodeFragment I) Global)) (v : Vec (CodeFragment I) Global) (other : ℕ) → v.items ≡ [] → group_in whole groups other ≡ [] → group_in whole (groups ++ v ∷ []) other ≡ []
  group_in-new [] v zero p e = ap (fragments_of whole) p
  group_in-new [] v (suc other) p e = none_beyond [] other (omega arith)
  group_in-new (u ∷ groups) v zero p e = e
  group_in-new (u ∷ groups) v (suc other) p e = group_in-new groups v other p e

  -- ---- groups that are sorted one after another

  pub group_in-same : (groups : List (Vec (CodeFragment I) Global)) (column : ℕ) (v : Vec (CodeFragment I) Global) → column < length groups → group_in whole (slice_set groups column v) column ≡ fragments_of whole v.items
  group_in-same groups column v h = group_in-set groups column v column ∙ replaced_same (map (λ u. fragments_of whole u.items) groups) column (fragments_of whole v.items) (same_length groups column h)

  pub group_in-other : (groups : List (Vec (CodeFragment I) Global)) (column : ℕ) (v : Vec (CodeFragment I) Global) (other : ℕ) → other ≢ column → group_in whole (slice_set groups column v) other ≡ group_in whole groups other
  group_in-other groups column v other h = group_in-set groups column v other ∙ replaced_other (map (λ u. fragments_of whole u.items) groups) column other (fragments_of whole v.items) h

-- where the walk is: the groups before a column are sorted, the others as they were
pub record AreSorted (axis : Axis) (old now : ℕ → List KeptFragment) (column : ℕ) : Type 0 where
  pub permutation : (other : ℕ) → IsPermutation (old other) (now other)
  pub sorted : (other : ℕ) → other < column → IsSortedAlong axis (now other)

module _ {I : Type 0} (whole : I → ℤ) (axis : Axis) where
  abbrev pub begins : CodeFragment I → ℤ
  begins f = on_axis axis (whole f.rect.min_x) (whole f.rect.min_y)

  not_past : (a b : ℤ) → is_gt (int_cmp a b) ≡ false → a ≤ℤ b
  not_past a b k = grind (arith, ints)

  in_order : (fs : List (CodeFragment I)) → IsInOrder int_cmp (map begins fs) → IsSortedAlong axis (fragments_of whole fs)
  in_order [] h = tt
  in_order (f ∷ fs) h = (later f fs h.0, in_order fs h.1)
    where
      later : (f : CodeFragment I) (us : List (CodeFragment I)) → AllByRecursion (λ z. is_gt (int_cmp (begins f) z) ≡ false) (map begins us) → AllByRecursion (λ g. begins f ≤ℤ least_along axis g) (fragments_of whole us)
      later f [] k = tt
      later f (u ∷ us) k = (not_past _ _ k.0, later f us k.1)

  pub IsSortedAlong-from_sort : (fs : List (CodeFragment I)) → IsSortedByKey begins int_cmp fs → IsSortedAlong axis (fragments_of whole fs)
  IsSortedAlong-from_sort fs h = in_order fs (IsInOrder-from_sort int_cmp_total begins fs h)

  -- one more group is in another order
  pub permuted-more : (old : ℕ → List KeptFragment) (groups : List (Vec (CodeFragment I) Global)) (column : ℕ) (v v' : Vec (CodeFragment I) Global) → ((other : ℕ) → IsPermutation (old other) (group_in whole groups other)) → column < length groups → v ≡ get_or groups column v →
      IsPermutation v.items v'.items → (other : ℕ) → IsPermutation (old other) (group_in whole (slice_set groups column v') other)
  permuted-more old groups column v v' w h e p other = by (column == other) other refl
    where
      here : IsPermutation (old column) (group_in whole (slice_set groups column v') column)
      here = subst (IsPermutation (old column)) (sym (group_in-same whole groups column v' h))
          (IsPermutation-trans (old column) (fragments_of whole v.items) (fragments_of whole v'.items) (subst (IsPermutation (old column)) (sym (group_in-at whole groups column v h e)) (w column)) (IsPermutation-map (fragment_of whole) v.items v'.items p))

      by : (b : Bool) → (other : ℕ) → (column == other) ≡ b → IsPermutation (old other) (group_in whole (slice_set groups column v') other)
      by true other t = subst (λ (k : ℕ). IsPermutation (old k) (group_in whole (slice_set groups column v') k)) (eqb-true column other t) here
      by false other t = subst (IsPermutation (old other)) (sym (group_in-other whole groups column v' other (λ same. false≢true (sym t ∙ eq-eqb column other (sym same))))) (w other)

  pub AreSorted-more : (old : ℕ → List KeptFragment) (groups : List (Vec (CodeFragment I) Global)) (column : ℕ) (v v' : Vec (CodeFragment I) Global) → AreSorted axis old (group_in whole groups) column → column < length groups → v ≡ get_or groups column v →
      IsPermutation v.items v'.items → IsSortedAlong axis (fragments_of whole v'.items) → AreSorted axis old (group_in whole (slice_set groups column v')) (column + 1)
  AreSorted-more old groups column v v' w h e p s = record {
    permutation = permuted-more old groups column v v' w.permutation h e p;
    sorted = λ other lt. elim (eq-zero-or-pos (column - other)) [
      | inl z ↦ (let same : column ≡ other = omega arith in subst (λ (k : ℕ). IsSortedAlong axis (group_in whole (slice_set groups column v') k)) same (subst (IsSortedAlong axis) (sym (group_in-same whole groups column v' h)) s))
      | inr less ↦ subst (IsSortedAlong axis) (sym (group_in-other whole groups column v' other (λ same. absurd (omega arith)))) (w.sorted other (omega arith))
    ];
  }

  pub all_sorted : (old : ℕ → List KeptFragment) (groups : List (Vec (CodeFragment I) Global)) (column : ℕ) → AreSorted axis old (group_in whole groups) column → length groups ≤ column → (other : ℕ) → IsSortedAlong axis (group_in whole groups other)
  all_sorted old groups column w h other = elim (eq-zero-or-pos (column - other)) [
    | inl e ↦ subst (IsSortedAlong axis) (sym (none_beyond (map (λ u. fragments_of whole u.items) groups) other (subst (λ (n : ℕ). n ≤ other) (sym (length-map groups (λ v. fragments_of whole v.items))) (omega arith)))) tt
    | inr less ↦ w.sorted other (omega arith)
  ]

pub AreSorted-start : (axis : Axis) (old : ℕ → List KeptFragment) → AreSorted axis old old 0
AreSorted-start axis old = record { permutation = λ other. IsPermutation-refl (old other); sorted = λ other lt. absurd (omega arith) }
