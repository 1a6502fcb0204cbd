-- A chain given in any order: each member is above all members below it. Along it what a number gains from each member to the next adds up
-- to what it gains between the two ends.
use Rattle.std.proofs.Common.{◌≡◌, ap, refl, sym, ◌∙◌, arith, inl, inr}
use Rattle.std.specs.Prelude.{ℤ, pos, ◌+ℤ◌, ◌-ℤ◌, Bool, true, false, cond, ◌&&◌, List, [], ◌∷◌}
use Rattle.std.specs.List.{list_all}
use Rattle.std.proofs.lemmas.Int.{ints}
use Rattle.std.proofs.lemmas.Bool.{and_parts, and_from, cases_Bool, false_from_ne_true, both_ways}
use Rattle.overlay_geometry.proofs.laws.lists.Lists.{list_all-implied, list_all-and}
use Rattle.overlay_base.specs.Rules.{differ}
use Rattle.overlay_sweep.proofs.laws.columns.WeightSums.{when, sum_of}

pub sum_of-same_on : {X : Type 0} (f g : X → ℤ) (member : X → Bool) (xs : List X) → list_all member xs ≡ true → ((x : X) → member x ≡ true → f x ≡ g x) → sum_of f xs ≡ sum_of g xs
sum_of-same_on f g member [] a h = refl
sum_of-same_on f g member (x ∷ xs) a h =
    let ms = and_parts (member x) (list_all member xs) a in
    omega (arith, ints, h x ms.0, sum_of-same_on f g member xs ms.1 h)

pub sum_of-nothing : {X : Type 0} (f : X → ℤ) (member : X → Bool) (xs : List X) → list_all member xs ≡ true → ((x : X) → member x ≡ true → f x ≡ pos 0) → sum_of f xs ≡ pos 0
sum_of-nothing f member [] a h = refl
sum_of-nothing f member (x ∷ xs) a h =
    let ms = and_parts (member x) (list_all member xs) a in
    omega (arith, ints, h x ms.0, sum_of-nothing f member xs ms.1 h)

and_exchange : (a b c : Bool) → (a && (b && c)) ≡ (b && (a && c))
and_exchange true b c = refl
and_exchange false true c = refl
and_exchange false false c = refl

module _ {X : Type 0} (below : X → X → Bool) where
  -- exactly one of two comes first
  abbrev pub are_compared : X → X → Bool
  are_compared x y = differ (below x y) (below y x)

  abbrev pub is_pairwise : List X → Bool
  is_pairwise [] = true
  is_pairwise (x ∷ xs) = list_all (λ y. are_compared x y) xs && is_pairwise xs

  abbrev is_sorted : List X → Bool
  is_sorted [] = true
  is_sorted (x ∷ xs) = list_all (λ y. below x y) xs && is_sorted xs

  abbrev inserted : X → List X → List X
  inserted x [] = x ∷ []
  inserted x (y ∷ ys) = cond (below x y) (x ∷ y ∷ ys) (y ∷ inserted x ys)

  abbrev sorted : List X → List X
  sorted [] = []
  sorted (x ∷ xs) = inserted x (sorted xs)

  -- ---- the order of a list changes no sum

  sum_of-inserted : (g : X → ℤ) (x : X) (ys : List X) → sum_of g (inserted x ys) ≡ g x +ℤ sum_of g ys
  sum_of-inserted g x [] = refl
  sum_of-inserted g x (y ∷ ys) = elim (below x y) as (λ b. sum_of g (cond b (x ∷ y ∷ ys) (y ∷ inserted x ys)) ≡ g x +ℤ (g y +ℤ sum_of g ys)) [ true ↦ refl | false ↦ omega (arith, ints, sum_of-inserted g x ys) ]

  sum_of-sorted : (g : X → ℤ) (xs : List X) → sum_of g (sorted xs) ≡ sum_of g xs
  sum_of-sorted g [] = refl
  sum_of-sorted g (x ∷ xs) = sum_of-inserted g x (sorted xs) ∙ ap (λ (z : ℤ). g x +ℤ z) (sum_of-sorted g xs)

  list_all-inserted : (t : X → Bool) (x : X) (ys : List X) → list_all t (inserted x ys) ≡ (t x && list_all t ys)
  list_all-inserted t x [] = refl
  list_all-inserted t x (y ∷ ys) = elim (below x y) as (λ b. list_all t (cond b (x ∷ y ∷ ys) (y ∷ inserted x ys)) ≡ (t x && (t y && list_all t ys))) [ true ↦ refl | false ↦ ap (λ (c : Bool). t y && c) (list_all-inserted t x ys) ∙ and_exchange (t y) (t x) (list_all t ys) ]

  list_all-sorted : (t : X → Bool) (xs : List X) → list_all t (sorted xs) ≡ list_all t xs
  list_all-sorted t [] = refl
  list_all-sorted t (x ∷ xs) = list_all-inserted t x (sorted xs) ∙ ap (λ (c : Bool). t x && c) (list_all-sorted t xs)

  -- ---- sorting sorts, where members are pairwise compared and their order is transitive

  other_first : (x y : X) → are_compared x y ≡ true → below x y ≡ false → below y x ≡ true
  other_first x y c e = rw e at c

  module _ (member : X → Bool) (trans : (x y z : X) → member x ≡ true → member y ≡ true → member z ≡ true → below x y ≡ true → below y z ≡ true → below x z ≡ true) where
    is_sorted-inserted : (x : X) (ys : List X) → member x ≡ true → list_all member ys ≡ true → list_all (λ y. are_compared x y) ys ≡ true → is_sorted ys ≡ true → is_sorted (inserted x ys) ≡ true
    is_sorted-inserted x [] mx my c o = refl
    is_sorted-inserted x (y ∷ ys) mx my c o =
        let ms = and_parts (member y) (list_all member ys) my in
        let cs = and_parts (are_compared x y) (list_all (λ z. are_compared x z) ys) c in
        let os = and_parts (list_all (λ z. below y z) ys) (is_sorted ys) o in
        elim (cases_Bool (below x y)) [
          | inl e ↦ rw e (and_from _ _ (and_from _ _ e (list_all-implied (λ z. below y z) (λ z. below x z) member ys ms.1 os.0 (λ z mz h. trans x y z mx ms.0 mz e h))) o)
          | inr e ↦ rw e (and_from _ _ (list_all-inserted (λ z. below y z) x ys ∙ and_from _ _ (other_first x y cs.0 e) os.0) (is_sorted-inserted x ys mx ms.1 cs.1 os.1))
        ]

    is_sorted-sorted : (xs : List X) → list_all member xs ≡ true → is_pairwise xs ≡ true → is_sorted (sorted xs) ≡ true
    is_sorted-sorted [] m c = refl
    is_sorted-sorted (x ∷ xs) m c =
        let ms = and_parts (member x) (list_all member xs) m in
        let cs = and_parts (list_all (λ y. are_compared x y) xs) (is_pairwise xs) c in
        is_sorted-inserted x (sorted xs) ms.0 (list_all-sorted member xs ∙ ms.1) (list_all-sorted (λ y. are_compared x y) xs ∙ cs.0) (is_sorted-sorted xs ms.1 cs.1)

    -- ---- the law of gains

    module _ (irreflexive : (x : X) → member x ≡ true → below x x ≡ false) where
      asymmetric : (x y : X) → member x ≡ true → member y ≡ true → below x y ≡ true → below y x ≡ false
      asymmetric x y mx my h = false_from_ne_true (below y x) (λ back. both_ways (below x x) (irreflexive x mx) (trans x y x mx my mx h back))

      -- what the members below one add up to
      abbrev pub sum_below : (X → ℤ) → X → List X → ℤ
      sum_below g x xs = sum_of (λ t. when (below t x) (g t)) xs

      sum_below-least : (g : X → ℤ) (y : X) (ys : List X) → member y ≡ true → list_all member ys ≡ true → list_all (λ z. below y z) ys ≡ true → sum_below g y (y ∷ ys) ≡ pos 0
      sum_below-least g y ys my ms o =
          let rest : sum_of (λ t. when (below t y) (g t)) ys ≡ pos 0 = sum_of-nothing (λ t. when (below t y) (g t)) (λ z. member z && below y z) ys (list_all-and member (λ z. below y z) ys ms o) (λ z h. let hs = and_parts (member z) (below y z) h in rw (asymmetric y z my hs.0 hs.1) refl) in
          rw (irreflexive y my, rest) refl

      module _ (G : ℤ → ℤ → ℤ) (u v : X → ℤ) where
        -- how much more G is above x than below it, where the members of the chain are above b and c
        abbrev pub gain_at : ℤ → ℤ → List X → X → ℤ
        gain_at b c xs x = G ((b +ℤ sum_below u x xs) +ℤ u x) ((c +ℤ sum_below v x xs) +ℤ v x) -ℤ G (b +ℤ sum_below u x xs) (c +ℤ sum_below v x xs)

        same_gain : (b c b' c' d e d' e' : ℤ) → b ≡ b' → c ≡ c' → d ≡ d' → e ≡ e' → G d e -ℤ G b c ≡ G d' e' -ℤ G b' c'
        same_gain b c b' c' d e d' e' p q r s = rw (p, q, r, s) refl

        gain_at-least : (b c : ℤ) (y : X) (ys : List X) → sum_below u y (y ∷ ys) ≡ pos 0 → sum_below v y (y ∷ ys) ≡ pos 0 → gain_at b c (y ∷ ys) y ≡ G (b +ℤ u y) (c +ℤ v y) -ℤ G b c
        gain_at-least b c y ys hu hv = same_gain _ _ _ _ _ _ _ _ (omega (arith, ints, hu)) (omega (arith, ints, hv)) (omega (arith, ints, hu)) (omega (arith, ints, hv))

        gain_at-above : (b c : ℤ) (y x : X) (ys : List X) → below y x ≡ true → gain_at b c (y ∷ ys) x ≡ gain_at (b +ℤ u y) (c +ℤ v y) ys x
        gain_at-above b c y x ys h =
            let hu : sum_below u x (y ∷ ys) ≡ u y +ℤ sum_below u x ys = rw h refl in
            let hv : sum_below v x (y ∷ ys) ≡ v y +ℤ sum_below v x ys = rw h refl in
            same_gain _ _ _ _ _ _ _ _ (omega (arith, ints, hu)) (omega (arith, ints, hv)) (omega (arith, ints, hu)) (omega (arith, ints, hv))

        no_gain : (z : ℤ) → pos 0 ≡ z -ℤ z
        no_gain z = omega (arith, ints)

        two_gains : (x y z : ℤ) → (y -ℤ x) +ℤ (z -ℤ y) ≡ z -ℤ x
        two_gains x y z = omega (arith, ints)

        gains_in_order : (b c : ℤ) (ys : List X) → list_all member ys ≡ true → is_sorted ys ≡ true → sum_of (gain_at b c ys) ys ≡ G (b +ℤ sum_of u ys) (c +ℤ sum_of v ys) -ℤ G b c
        gains_in_order b c [] m o = no_gain (G b c) ∙ same_gain _ _ _ _ _ _ _ _ refl refl (omega (arith, ints)) (omega (arith, ints))
        gains_in_order b c (y ∷ ys) m o =
            let ms = and_parts (member y) (list_all member ys) m in
            let os = and_parts (list_all (λ z. below y z) ys) (is_sorted ys) o in
            let first = gain_at-least b c y ys (sum_below-least u y ys ms.0 ms.1 os.0) (sum_below-least v y ys ms.0 ms.1 os.0) in
            let rest = sum_of-same_on (gain_at b c (y ∷ ys)) (gain_at (b +ℤ u y) (c +ℤ v y) ys) (λ z. below y z) ys os.0 (λ x h. gain_at-above b c y x ys h) in
            let more = gains_in_order (b +ℤ u y) (c +ℤ v y) ys ms.1 os.1 in
            rw (first, rest, more) (two_gains (G b c) (G (b +ℤ u y) (c +ℤ v y)) _ ∙ same_gain _ _ _ _ _ _ _ _ refl refl (omega (arith, ints)) (omega (arith, ints)))

        -- The gains of the members of a chain add up to the gain from the chain's one end to its other.
        pub gain_along_chain : (b c : ℤ) (xs : List X) → list_all member xs ≡ true → is_pairwise xs ≡ true → sum_of (gain_at b c xs) xs ≡ G (b +ℤ sum_of u xs) (c +ℤ sum_of v xs) -ℤ G b c
        gain_along_chain b c xs m o =
            let ms = list_all-sorted member xs ∙ m in
            let same = sum_of-same_on (gain_at b c xs) (gain_at b c (sorted xs)) member (sorted xs) ms (λ x _. rw (sum_of-sorted (λ t. when (below t x) (u t)) xs, sum_of-sorted (λ t. when (below t x) (v t)) xs) refl) in
            sym (sum_of-sorted (gain_at b c xs) xs) ∙ same ∙ gains_in_order b c (sorted xs) ms (is_sorted-sorted xs m o) ∙ rw (sum_of-sorted u xs, sum_of-sorted v xs) refl
