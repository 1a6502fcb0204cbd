-- A list that has each index once counts as the list of what is at the indexes.
use Rattle.std.proofs.Common.{◌≡◌, refl, sym, ap, ap₂, ◌∙◌, ℕ, zero, suc, ◌+◌, ◌*◌, ◌<◌, ◌==◌, get_or, length, Bool, true, false, cond, List, [], ◌∷◌, map, sum_by, arith}
use Rattle.std.specs.Prelude.{count_by}
use Rattle.std.specs.List.{AllByRecursion}
use Rattle.std.proofs.lemmas.Bool.{eqb-true, eq-eqb, ne_eqb}
use Rattle.std.proofs.lemmas.List.Sums.{sum_by-cons}
use Rattle.overlay_geometry.proofs.laws.lists.Lists.{sum_by-map}

-- f of each index below n, added up
abbrev total : (ℕ → ℕ) → ℕ → ℕ
total f zero = 0
total f (suc n) = f 0 + total (λ i. f (suc i)) n

total-none : (n : ℕ) → total (λ _. 0) n ≡ 0
total-none zero = refl
total-none (suc n) = let r = total-none n in omega (arith, r)

total-add : (f g : ℕ → ℕ) (n : ℕ) → total (λ i. f i + g i) n ≡ total f n + total g n
total-add f g zero = refl
total-add f g (suc n) = let r = total-add (λ i. f (suc i)) (λ i. g (suc i)) n in omega (arith, r)

total-same : (f g : ℕ → ℕ) (n : ℕ) → ((i : ℕ) → i < n → f i ≡ g i) → total f n ≡ total g n
total-same f g zero h = refl
total-same f g (suc n) h = ap₂ (λ (a b : ℕ). a + b) (h 0 (omega arith)) (total-same (λ i. f (suc i)) (λ i. g (suc i)) n (λ i l. h (suc i) (omega arith)))

eqb-suc : (x i : ℕ) → (suc x == suc i) ≡ (x == i)
eqb-suc x i = by (x == i) refl
  where
    by : (b : Bool) → (x == i) ≡ b → (suc x == suc i) ≡ b
    by true e = let same : x ≡ i = eqb-true x i e in eq-eqb (suc x) (suc i) (omega (arith, same))
    by false e = ne_eqb (suc x) (suc i) (λ s. let same : x ≡ i = omega (arith, s) in let t : (x == i) ≡ true = eq-eqb x i same in absurd (cc))

-- of what counts at one index alone
total-one : (c x n : ℕ) → x < n → total (λ i. cond (x == i) c 0) n ≡ c
total-one c x zero h = absurd (omega arith)
total-one c zero (suc n) h = ap (λ (m : ℕ). c + m) (total-same (λ i. cond (0 == suc i) c 0) (λ _. 0) n (λ i _. ap (λ (b : Bool). cond b c 0) (ne_eqb 0 (suc i) (λ e. omega arith))) ∙ total-none n) ∙ (let e : c + 0 ≡ c = omega arith in e)
total-one c (suc x) (suc n) h =
    ap₂ (λ (a b : ℕ). a + b) (ap (λ (b : Bool). cond b c 0) (ne_eqb (suc x) 0 (λ e. omega arith)))
    (total-same (λ i. cond (suc x == suc i) c 0) (λ i. cond (x == i) c 0) n (λ i _. ap (λ (b : Bool). cond b c 0) (eqb-suc x i)) ∙ total-one c x n (omega arith))
    ∙ (let e : 0 + c ≡ c = omega arith in e)

-- what is at the indexes of a list
total-list : {X : Type 0} (f : X → ℕ) (xs : List X) (d : X) → total (λ i. f (get_or xs i d)) (length xs) ≡ sum_by f xs
total-list f [] d = refl
total-list f (x ∷ xs) d = ap (λ (n : ℕ). f x + n) (total-list f xs d) ∙ sym (sum_by-cons f x xs)

-- f of the elements that are i
abbrev part : (ℕ → ℕ) → List ℕ → ℕ → ℕ
part f xs i = sum_by (λ x. cond (x == i) (f x) 0) xs

total-part : (f : ℕ → ℕ) (n : ℕ) (xs : List ℕ) → AllByRecursion (λ x. x < n) xs → total (part f xs) n ≡ sum_by f xs
total-part f n [] h = total-none n
total-part f n (x ∷ xs) h =
    total-same (part f (x ∷ xs)) (λ i. cond (x == i) (f x) 0 + part f xs i) n (λ i _. sum_by-cons (λ y. cond (y == i) (f y) 0) x xs)
    ∙ total-add (λ i. cond (x == i) (f x) 0) (part f xs) n
    ∙ ap₂ (λ (a b : ℕ). a + b) (total-one (f x) x n h.0) (total-part f n xs h.1)
    ∙ sym (sum_by-cons f x xs)

part-times : (f : ℕ → ℕ) (xs : List ℕ) (i : ℕ) → part f xs i ≡ count_by (λ x. x == i) xs * f i
part-times f [] i = omega arith
part-times f (x ∷ xs) i =
    sum_by-cons (λ y. cond (y == i) (f y) 0) x xs ∙ by (part f xs i) (count_by (λ y. y == i) xs) (part-times f xs i) (x == i) refl ∙ sym (ap (λ (n : ℕ). n * f i) (sum_by-cons (λ y. cond (y == i) 1 0) x xs))
  where
    by : (p c : ℕ) → p ≡ c * f i → (b : Bool) → (x == i) ≡ b → cond b (f x) 0 + p ≡ (cond b 1 0 + c) * f i
    by p c r true e = let same : f x ≡ f i = ap f (eqb-true x i e) in omega (arith, same, r)
    by p c r false e = omega (arith, r)

once-each : (f : ℕ → ℕ) (n : ℕ) (xs : List ℕ) → AllByRecursion (λ x. x < n) xs → ((i : ℕ) → i < n → count_by (λ x. x == i) xs ≡ 1) → sum_by f xs ≡ total f n
once-each f n xs h once = sym (total-part f n xs h) ∙ total-same (part f xs) f n (λ i l. part-times f xs i ∙ ap (λ (m : ℕ). m * f i) (once i l) ∙ by (f i))
  where
    by : (m : ℕ) → 1 * m ≡ m
    by m = omega arith

-- so what passes a test is as much in the one as in the other
pub count_by-once_each : {X : Type 0} (test : X → Bool) (xs : List X) (d : X) (indexes : List ℕ) → AllByRecursion (λ i. i < length xs) indexes → ((i : ℕ) → i < length xs → count_by (λ j. j == i) indexes ≡ 1)
    → count_by test (map (λ i. get_or xs i d) indexes) ≡ count_by test xs
count_by-once_each test xs d indexes low once =
    sum_by-map (λ x. cond (test x) 1 0) (λ i. get_or xs i d) indexes
    ∙ once-each (λ i. cond (test (get_or xs i d)) 1 0) (length xs) indexes low once
    ∙ total-list (λ x. cond (test x) 1 0) xs d
