-- A part of a list takes no more comparisons than the list.
use Rattle.std.proofs.Common.{◌≡◌, refl, sym, subst, ◌⊎◌, inl, inr, arith, ◌+◌, ◌≤◌, Bool, cond, List, [], ◌∷◌, ◌++◌, length, filter, flat_map}
use Rattle.std.specs.Prelude.{⊤, count_by, Option, Some, None}
use Rattle.std.proofs.lemmas.Bool.{cases_Bool}
use Rattle.std.proofs.lemmas.List.Sums.{sum_by-cons, sum_by-le-sum_by}
use Rattle.overlay_geometry.specs.Points.{Pair}
use Rattle.overlay_geometry.proofs.laws.lists.Lists.{sum_by-filter_le}
use Rattle.overlay_grid.specs.Grid.{Layout, fragments}
use Rattle.overlay_grid.specs.GridLooks.{all_fragments, fragments_meet, border_contacts, fragment_looks, grid_looks}
use Rattle.overlay_intersections.specs.Looked.{count_twos, boxes_meet, x_ranges_meet, list_looks, tree_looks}
use Rattle.overlay_cuts.specs.PassLooks.{wide_looks}

-- ---- some elements of a list, in order

abbrev IsPart : {X : Type 0} → List X → List X → Type 0
IsPart [] ys = ⊤
IsPart (x ∷ xs) [] = ⊥
IsPart (x ∷ xs) (y ∷ ys) = ((x ≡ y) × IsPart xs ys) ⊎ IsPart (x ∷ xs) ys

skipped : {X : Type 0} (xs : List X) (y : X) (ys : List X) → IsPart xs ys → IsPart xs (y ∷ ys)
skipped [] y ys h = tt
skipped (x ∷ xs) y ys h = inr h

all_skipped : {X : Type 0} (xs zs ys : List X) → IsPart xs ys → IsPart xs (zs ++ ys)
all_skipped xs [] ys h = h
all_skipped xs (z ∷ zs) ys h = skipped xs z (zs ++ ys) (all_skipped xs zs ys h)

after_same : {X : Type 0} (zs xs ys : List X) → IsPart xs ys → IsPart (zs ++ xs) (zs ++ ys)
after_same [] xs ys h = h
after_same (z ∷ zs) xs ys h = inl (refl, after_same zs xs ys h)

-- what the kept elements of a list give is a part of what all give
kept_part : {X Y : Type 0} (f : X → List Y) (keep : X → Bool) (xs : List X) → IsPart (flat_map f (filter keep xs)) (flat_map f xs)
kept_part f keep [] = tt
kept_part f keep (x ∷ xs) = elim (cases_Bool (keep x)) [
  | inl k ↦ rw k (after_same (f x) (flat_map f (filter keep xs)) (flat_map f xs) (kept_part f keep xs))
  | inr k ↦ rw k (all_skipped (flat_map f (filter keep xs)) (f x) (flat_map f xs) (kept_part f keep xs))
]

-- ---- counts

part_length : {X : Type 0} (xs ys : List X) → IsPart xs ys → length xs ≤ length ys
part_length [] ys h = omega arith
part_length (x ∷ xs) [] h = absurd h
part_length (x ∷ xs) (y ∷ ys) (inl (e, h)) = let rest = part_length xs ys h in omega (arith, rest)
part_length (x ∷ xs) (y ∷ ys) (inr h) = let rest = part_length (x ∷ xs) ys h in omega (arith, rest)

count_by-first : {X : Type 0} (p : X → Bool) (x : X) (xs : List X) → count_by p (x ∷ xs) ≡ cond (p x) 1 0 + count_by p xs
count_by-first p x xs = sum_by-cons (λ y. cond (p y) 1 0) x xs

part_count : {X : Type 0} (p : X → Bool) (xs ys : List X) → IsPart xs ys → count_by p xs ≤ count_by p ys
part_count p [] ys h = omega arith
part_count p (x ∷ xs) [] h = absurd h
part_count p (x ∷ xs) (y ∷ ys) (inl (e, h)) =
    let rest = part_count p xs ys h in
    let first : count_by p (x ∷ xs) ≡ cond (p y) 1 0 + count_by p xs = subst (λ z. count_by p (x ∷ xs) ≡ cond (p z) 1 0 + count_by p xs) e (count_by-first p x xs) in
    let all = count_by-first p y ys in
    omega (arith, rest, first, all)
part_count p (x ∷ xs) (y ∷ ys) (inr h) = let rest = part_count p (x ∷ xs) ys h in let all = count_by-first p y ys in omega (arith, rest, all)

part_twos : {X : Type 0} (test : X → X → Bool) (xs ys : List X) → IsPart xs ys → count_twos test xs ≤ count_twos test ys
unfolding count_twos
part_twos test [] ys h = omega arith
part_twos test (x ∷ xs) [] h = absurd h
part_twos test (x ∷ xs) (y ∷ ys) (inl (e, h)) =
    let rest = part_twos test xs ys h in
    let here : count_by (λ z. test x z) xs ≤ count_by (λ z. test y z) ys = subst (λ u. count_by (λ z. test u z) xs ≤ count_by (λ z. test y z) ys) (sym e) (part_count (λ z. test y z) xs ys h) in
    omega (arith, rest, here)
part_twos test (x ∷ xs) (y ∷ ys) (inr h) = let rest = part_twos test (x ∷ xs) ys h in omega (arith, rest)

itself_part : {X : Type 0} (keep : X → Bool) (xs : List X) → IsPart (filter keep xs) xs
itself_part keep [] = tt
itself_part keep (x ∷ xs) = elim (cases_Bool (keep x)) [
  | inl k ↦ rw k (inl (refl, itself_part keep xs))
  | inr k ↦ rw k (skipped (filter keep xs) x xs (itself_part keep xs))
]

-- ---- comparisons

module _ (keep : Pair → Bool) (ps : List Pair) where
  pub list_looks-part : list_looks (filter keep ps) ≤ list_looks ps
  unfolding list_looks
  list_looks-part = part_twos x_ranges_meet (filter keep ps) ps (itself_part keep ps)

  tree_looks-part : tree_looks (filter keep ps) ≤ tree_looks ps
  unfolding tree_looks
  tree_looks-part =
      let few = part_length (filter keep ps) ps (itself_part keep ps) in
      let twos = part_twos boxes_meet (filter keep ps) ps (itself_part keep ps) in
      omega (arith, few, twos)

  fragments-part : (l : Layout) → IsPart (all_fragments l (filter keep ps)) (all_fragments l ps)
  unfolding all_fragments
  fragments-part l = kept_part (λ s. fragments l s) keep ps

  contacts-part : (l : Layout) (s : Pair) → border_contacts l (filter keep ps) s ≤ border_contacts l ps s
  unfolding border_contacts
  contacts-part l s = part_count _ (all_fragments l (filter keep ps)) (all_fragments l ps) (fragments-part l)

  grid_looks-part : (l : Layout) → grid_looks l (filter keep ps) ≤ grid_looks l ps
  unfolding grid_looks fragment_looks
  grid_looks-part l =
      let few = part_length (all_fragments l (filter keep ps)) (all_fragments l ps) (fragments-part l) in
      let twos = part_twos fragments_meet (all_fragments l (filter keep ps)) (all_fragments l ps) (fragments-part l) in
      let fewer = sum_by-filter_le (λ s. border_contacts l (filter keep ps) s) keep ps in
      let less = sum_by-le-sum_by (λ s. border_contacts l (filter keep ps) s) (λ s. border_contacts l ps s) ps (contacts-part l) in
      omega (arith, few, twos, fewer, less)

  pub wide_looks-part : (grid : Option Layout) → wide_looks grid (filter keep ps) ≤ wide_looks grid ps
  unfolding wide_looks
  wide_looks-part None = tree_looks-part
  wide_looks-part (Some l) = grid_looks-part l
