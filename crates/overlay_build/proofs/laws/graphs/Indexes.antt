-- The indexes of the elements that pass a test: by rising index, and just those.
use Rattle.std.proofs.Common.{◌≡◌, ℕ, ◌+◌, ◌<◌, ◌≤◌, ◌==◌, zero, suc, Bool, true, false, ◌&&◌, List, [], ◌∷◌, map, filter, length, get_or, refl, ap, arith}
use Rattle.std.specs.Prelude.{nat_lt}
use Rattle.std.specs.List.{enumerate_from, list_any}
use Rattle.std.proofs.lemmas.Bool.{ne_eqb, eq-eqb}
use Rattle.std.proofs.lemmas.Bool.Decides.{nat_tests}
use Rattle.overlay_build.specs.Graph.{indexes_where}

-- the same, numbered from n
abbrev pub indexes_from : {X : Type 0} → ℕ → (X → Bool) → List X → List ℕ
indexes_from n test xs = map (λ e. e.0) (filter (λ e. test e.1) (enumerate_from n xs))

-- whether a number is in a list of numbers
abbrev pub has_number : ℕ → List ℕ → Bool
has_number i ks = list_any (λ k. k == i) ks

-- each number is at least n and above those before it
abbrev pub RisesFrom : ℕ → List ℕ → Type 0
RisesFrom n [] = Unit {0}
RisesFrom n (k ∷ ks) = (n ≤ k) × RisesFrom (k + 1) ks

RisesFrom-less : (m n : ℕ) (ks : List ℕ) → m ≤ n → RisesFrom n ks → RisesFrom m ks
RisesFrom-less m n [] h r = tt
RisesFrom-less m n (k ∷ ks) h r = (omega (arith, r.0), r.1)

below_rising : (i n : ℕ) (ks : List ℕ) → i < n → RisesFrom n ks → has_number i ks ≡ false
below_rising i n [] h r = refl
below_rising i n (k ∷ ks) h r =
    let low : n ≤ k = r.0 in
    let e : (k == i) ≡ false = ne_eqb k i (λ q. omega arith) in
    rw e (below_rising i (k + 1) ks (omega arith) r.1)

module _ {X : Type 0} (test : X → Bool) where
  indexes_from-rises : (n : ℕ) (xs : List X) → RisesFrom n (indexes_from n test xs)
  indexes_from-rises n [] = tt
  indexes_from-rises n (x ∷ xs) = by (test x) refl (indexes_from-rises (n + 1) xs)
    where
      by : (b : Bool) → test x ≡ b → RisesFrom (n + 1) (indexes_from (n + 1) test xs) → RisesFrom n (indexes_from n test (x ∷ xs))
      by true e ih = rw e (omega arith, ih)
      by false e ih = rw e (RisesFrom-less n (n + 1) (indexes_from (n + 1) test xs) (omega arith) ih)

  indexes_from-exactly : (n j m : ℕ) (d : X) (xs : List X) → m ≡ n + j → has_number m (indexes_from n test xs) ≡ (nat_lt j (length xs) && test (get_or xs j d))
  indexes_from-exactly n j m d [] q = grind (arith, nat_tests)
  indexes_from-exactly n zero m d (x ∷ xs) q = by (test x) refl
    where
      by : (b : Bool) → test x ≡ b → has_number m (indexes_from n test (x ∷ xs)) ≡ (nat_lt 0 (length (x ∷ xs)) && test x)
      by true e = let k : (n == m) ≡ true = eq-eqb n m (omega arith) in let z : nat_lt 0 (length (x ∷ xs)) ≡ true = grind (arith, nat_tests) in rw (e, k, z) refl
      by false e = let k = below_rising m (n + 1) (indexes_from (n + 1) test xs) (omega arith) (indexes_from-rises (n + 1) xs) in let z : nat_lt 0 (length (x ∷ xs)) ≡ true = grind (arith, nat_tests) in rw (e, z) k
  indexes_from-exactly n (suc j) m d (x ∷ xs) q = by (test x) refl (indexes_from-exactly (n + 1) j m d xs (omega arith))
    where
      z : nat_lt (suc j) (length (x ∷ xs)) ≡ nat_lt j (length xs)
      z = grind (arith, nat_tests)

      by : (b : Bool) → test x ≡ b → has_number m (indexes_from (n + 1) test xs) ≡ (nat_lt j (length xs) && test (get_or xs j d)) → has_number m (indexes_from n test (x ∷ xs)) ≡ (nat_lt (suc j) (length (x ∷ xs)) && test (get_or xs j d))
      by true e ih = let k : (n == m) ≡ false = ne_eqb n m (λ u. omega arith) in rw (e, k, z) ih
      by false e ih = rw (e, z) ih

  -- just the indexes of elements that pass
  pub indexes_where-exactly : (i : ℕ) (d : X) (xs : List X) → has_number i (indexes_where test xs) ≡ (nat_lt i (length xs) && test (get_or xs i d))
  unfolding indexes_where
  indexes_where-exactly i d xs = indexes_from-exactly 0 i i d xs (omega arith)

  length-indexes_from : (n : ℕ) (xs : List X) → length (indexes_from n test xs) ≡ length (filter test xs)
  length-indexes_from n [] = refl
  length-indexes_from n (x ∷ xs) = by (test x) refl (length-indexes_from (n + 1) xs)
    where
      by : (b : Bool) → test x ≡ b → length (indexes_from (n + 1) test xs) ≡ length (filter test xs) → length (indexes_from n test (x ∷ xs)) ≡ length (filter test (x ∷ xs))
      by true e ih = rw e (ap suc ih)
      by false e ih = rw e ih

  -- as many as elements pass
  pub length-indexes_where : (xs : List X) → length (indexes_where test xs) ≡ length (filter test xs)
  unfolding indexes_where
  length-indexes_where xs = length-indexes_from 0 xs
