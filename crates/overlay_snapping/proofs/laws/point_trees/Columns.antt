-- Points as code sorts them, column by column, and drops repeats.
use Rattle.std.proofs.Common.{◌≡◌, refl, sym, ap, ap₂, subst, ◌∙◌, ℕ, Bool, true, false, ◌&&◌, List, [], ◌∷◌, map, Ordering, is_eq}
use Rattle.std.specs.Prelude.{ℤ, ◌%◌, ◌||◌, IsPermutation, IsSorted, Contains, ◌↔◌}
use Rattle.std.specs.Int.{int_shr}
use Rattle.std.specs.Cmp.{IsTotalOrder, IsEquivalence}
use Rattle.std.specs.List.{dedup, list_any, list_all, All}
use Rattle.std.specs.List.Retain.{IsFiltered, DiffersFromLast}
use Rattle.std.specs.List.Sorted.{IsStrictlySortedBy}
use Rattle.std.specs.Ordering.{int_cmp, eq_by_cmp, ordering_then}
use Rattle.std.proofs.lemmas.Cmp.{on_total, then_total, int_cmp_total, tied_itself, eq_by_cmp_equiv}
use Rattle.std.proofs.lemmas.Int.{ints}
use Rattle.std.proofs.Common.{arith}
use Rattle.std.proofs.lemmas.List.Filters.{dedup_is}
use Rattle.std.proofs.lemmas.List.Folds.{list_all-map}
use Rattle.std.proofs.lemmas.List.Elements.{All-weaker, All-contains, All-contains_itself, All-from_recursion, recursion_from_All}
use Rattle.std.proofs.lemmas.List.Kept.{IsStrictlySortedBy-dedup, Contains-dedup, Contains-from_dedup}
use Rattle.std.proofs.lemmas.List.Sorted.{IsPermutation-sym, Contains-permutation}
use Rattle.std.proofs.lemmas.Map.Keys.{IsDistinct-from_sorted}
use Rattle.overlay_geometry.specs.Points.{Point, point_eq}
use Rattle.overlay_geometry.specs.PointOf.{point_of}
use Rattle.overlay_geometry.specs.Sorting.{has_repeat, is_strictly_sorted}
use Rattle.overlay_geometry.specs.declared.geom.point.IntPoint.{IntPoint}
use Rattle.overlay_geometry.proofs.laws.geometry.Points.{same_by_eq, is_eq-then, point_eq-parts}
use Rattle.overlay_geometry.proofs.laws.lists.Lists.{AllByRecursion-from_list_all, list_all-from_AllByRecursion}
use Rattle.overlay_geometry.proofs.laws.lists.Elements.{IsStrictlySortedBy-map}
use Rattle.overlay_geometry.proofs.laws.lists.Keys.{has_repeat-distinct, is_strictly_sorted-from}
use Rattle.overlay_intersections.proofs.laws.marks.Comparisons.{same_points}
use Rattle.overlay_snapping.specs.steps.PointTrees.{tile_cmp, AreByColumns}

-- ---- the order of the columns

pub tile_cmp_total : (shift : ℕ) → IsTotalOrder (tile_cmp shift)
tile_cmp_total shift = then_total (then_total (on_total (λ (p : Point). int_shr p.x (shift % 64)) int_cmp_total) (on_total (λ (p : Point). p.y) int_cmp_total)) (on_total (λ (p : Point). p.x) int_cmp_total)

same_number : (u v : ℤ) → is_eq (int_cmp u v) ≡ true → u ≡ v
same_number u v h = grind (arith, ints)

same_column : (f : ℤ → ℤ) (u v : ℤ) → is_eq (int_cmp u v) ≡ true → is_eq (int_cmp (f u) (f v)) ≡ true
same_column f u v h = ap (λ z. is_eq (int_cmp (f u) z)) (sym (ap f (same_number u v h))) ∙ ap is_eq (tied_itself int_cmp_total (f u))

-- it separates points by their coordinates
tile_cmp-ties : (shift : ℕ) (p q : Point) → point_eq p q ≡ is_eq (tile_cmp shift p q)
tile_cmp-ties shift p q =
    let columns = int_cmp (int_shr p.x (shift % 64)) (int_shr q.x (shift % 64)) in
    let heights = int_cmp p.y q.y in
    let along = int_cmp p.x q.x in
    point_eq-parts p q
    ∙ both (is_eq along) (is_eq heights) (is_eq columns) (same_column (λ x. int_shr x (shift % 64)) p.x q.x)
    ∙ sym (is_eq-then (ordering_then columns heights) along ∙ ap (λ b. b && is_eq along) (is_eq-then columns heights))
  where
    both : (a b c : Bool) → (a ≡ true → c ≡ true) → (a && b) ≡ ((c && b) && a)
    both true true c f = let e = f refl in rw e refl
    both true false true f = refl
    both true false false f = refl
    both false true true f = refl
    both false true false f = refl
    both false false true f = refl
    both false false false f = refl

pub none_by_columns : {I : Type 0} (whole : I → ℤ) (shift : ℕ) (points : List (IntPoint I)) → points ≡ [] → AreByColumns whole shift points
unfolding is_strictly_sorted
none_by_columns whole shift points e = ap (λ l. is_strictly_sorted (tile_cmp shift) (map (point_of whole) l)) e

-- ---- repeats by two tests with equal results

some_alike : {X : Type 0} (p q : X → Bool) → ((x : X) → p x ≡ q x) → (xs : List X) → list_any p xs ≡ list_any q xs
some_alike p q f [] = refl
some_alike p q f (x ∷ xs) = ap₂ (λ a b. a || b) (f x) (some_alike p q f xs)

repeats_alike : {X : Type 0} (p q : X → X → Bool) → ((x y : X) → p x y ≡ q x y) → (xs : List X) → has_repeat p xs ≡ has_repeat q xs
unfolding has_repeat
repeats_alike p q f [] = refl
repeats_alike p q f (x ∷ xs) = ap₂ (λ a b. a || b) (some_alike (p x) (q x) (f x) xs) (repeats_alike p q f xs)

-- ---- lists of code

-- a test of all elements of a list holds of one with the same elements
pub all_of_same : {X Y : Type 0} (p : Y → Bool) (f : X → Y) (xs ys : List X) → ((x : X) → Contains ys x ↔ Contains xs x) → list_all p (map f xs) ≡ true → list_all p (map f ys) ≡ true
all_of_same p f xs ys same h =
    let all : All (λ x. p (f x) ≡ true) xs = All-from_recursion (λ x. p (f x) ≡ true) xs (AllByRecursion-from_list_all (λ x. p (f x)) xs (sym (list_all-map p f xs) ∙ h)) in
    let kept : All (λ x. p (f x) ≡ true) ys = All-weaker (Contains ys) (λ x. p (f x) ≡ true) (λ x c. All-contains (λ y. p (f y) ≡ true) xs x all ((same x).0 c)) ys (All-contains_itself ys) in
    list_all-map p f ys ∙ list_all-from_AllByRecursion (λ x. p (f x)) ys (recursion_from_All (λ x. p (f x) ≡ true) ys kept)

module _ {I : Type 0} (eq : I → I → Bool) (cmp : I → I → Ordering) (whole : I → ℤ) (e : (a b : I) → eq a b ≡ eq_by_cmp cmp a b) (o : (a b : I) → cmp a b ≡ int_cmp (whole a) (whole b)) (injective : (a b : I) → whole a ≡ whole b → a ≡ b) where
  -- points are equal by their coordinates
  abbrev coordinate_eq : IntPoint I → IntPoint I → Bool
  coordinate_eq p q = eq p.x q.x && eq p.y q.y

  abbrev by_tile : ℕ → IntPoint I → IntPoint I → Ordering
  by_tile shift p q = tile_cmp shift (point_of whole p) (point_of whole q)

  ties : (shift : ℕ) (p q : IntPoint I) → coordinate_eq p q ≡ eq_by_cmp (by_tile shift) p q
  ties shift p q = same_points eq cmp whole e o p q ∙ tile_cmp-ties shift (point_of whole p) (point_of whole q)

  by_tile_total : (shift : ℕ) → IsTotalOrder (by_tile shift)
  by_tile_total shift = on_total (point_of whole) (tile_cmp_total shift)

  equivalence : IsEquivalence coordinate_eq
  equivalence =
      let by_order = eq_by_cmp_equiv (by_tile_total 0) in
      record {
        refl = λ x. ties 0 x x ∙ by_order.refl x;
        symm = λ x y. ties 0 x y ∙ by_order.symm x y ∙ sym (ties 0 y x);
        congr = λ x y z h. ties 0 x z ∙ by_order.congr x y z (sym (ties 0 x y) ∙ h) ∙ sym (ties 0 y z);
      }

  exact : (p q : IntPoint I) → coordinate_eq p q ≡ true → p ≡ q
  exact p q h =
      let same = same_by_eq (point_of whole p) (point_of whole q) (sym (same_points eq cmp whole e o p q) ∙ h) in
      ap₂ (λ (x y : I). let made : IntPoint I = record { x = x; y = y } in made) (injective p.x q.x (ap (λ (c : Point). c.x) same)) (injective p.y q.y (ap (λ (c : Point). c.y) same))

  pub listed_same : (given taken sorted kept : List (IntPoint I)) → taken ≡ given → IsPermutation taken sorted → IsFiltered (DiffersFromLast coordinate_eq) [] sorted kept →
      (p : IntPoint I) → Contains kept p ↔ Contains given p
  listed_same given taken sorted kept t s d p =
      let is : kept ≡ dedup coordinate_eq sorted = dedup_is coordinate_eq sorted kept d in (
        λ h. subst (λ l. Contains l p) t (Contains-permutation sorted taken p (IsPermutation-sym taken sorted s) (Contains-from_dedup coordinate_eq sorted p (subst (λ l. Contains l p) is h))),
        λ h. subst (λ l. Contains l p) (sym is) (Contains-dedup equivalence exact sorted p (Contains-permutation taken sorted p s (subst (λ l. Contains l p) (sym t) h))),
      )

  listed_strictly : (shift : ℕ) (sorted kept : List (IntPoint I)) → IsSorted (by_tile shift) sorted → IsFiltered (DiffersFromLast coordinate_eq) [] sorted kept → IsStrictlySortedBy (by_tile shift) kept
  listed_strictly shift sorted kept s d =
      let is : kept ≡ dedup coordinate_eq sorted = dedup_is coordinate_eq sorted kept d in
      subst (λ l. IsStrictlySortedBy (by_tile shift) l) (sym is) (IsStrictlySortedBy-dedup (by_tile_total shift) (ties shift) sorted s)

  pub listed_by_columns : (shift : ℕ) (sorted kept : List (IntPoint I)) → IsSorted (by_tile shift) sorted → IsFiltered (DiffersFromLast coordinate_eq) [] sorted kept → AreByColumns whole shift kept
  listed_by_columns shift sorted kept s d =
      is_strictly_sorted-from (tile_cmp_total shift) (map (point_of whole) kept) (IsStrictlySortedBy-map (point_of whole) (tile_cmp shift) kept (listed_strictly shift sorted kept s d))

  pub listed_once : (shift : ℕ) (sorted kept : List (IntPoint I)) → IsSorted (by_tile shift) sorted → IsFiltered (DiffersFromLast coordinate_eq) [] sorted kept → has_repeat point_eq (map (point_of whole) kept) ≡ false
  listed_once shift sorted kept s d =
      let strict = listed_strictly shift sorted kept s d in
      let points = map (point_of whole) kept in
      repeats_alike point_eq (eq_by_cmp (tile_cmp shift)) (tile_cmp-ties shift) points
      ∙ has_repeat-distinct (eq_by_cmp (tile_cmp shift)) points (IsDistinct-from_sorted (tile_cmp shift) points (IsStrictlySortedBy-map (point_of whole) (tile_cmp shift) kept strict))
