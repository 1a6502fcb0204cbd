-- Blocks in order: elements that pass a test side by side, and points that are tied in an order.
use Rattle.std.proofs.Common.{◌≡◌, ℕ, ◌+◌, ◌<◌, ◌≤◌, zero, suc, Bool, true, false, not, ◌&&◌, List, [], ◌∷◌, filter, take, drop, length, get_or, Ordering, Less, Equal, Greater, is_lt, refl, ap, ◌∙◌, arith}
use Rattle.std.specs.Ordering.{ordering_reverse}
use Rattle.overlay_geometry.specs.Points.{Point, point_cmp, point_eq}
use Rattle.overlay_geometry.proofs.laws.geometry.Points.{point_cmp_total}

-- ---- a block of elements that pass

-- the elements from i on, n of them, pass, and no others do
pub record IsBlockOf {X : Type 0} (test : X → Bool) (xs : List X) (i n : ℕ) : Type 0 where
  pub within : i + n ≤ length xs
  pub before : (k : ℕ) (d : X) → k < i → test (get_or xs k d) ≡ false
  pub inside : (k : ℕ) (d : X) → k < n → test (get_or xs (i + k) d) ≡ true
  pub behind : (k : ℕ) (d : X) → i + n ≤ k → k < length xs → test (get_or xs k d) ≡ false

module _ {X : Type 0} (test : X → Bool) where
  block_after : (x : X) (xs : List X) (i n : ℕ) → IsBlockOf test (x ∷ xs) (suc i) n → IsBlockOf test xs i n
  block_after x xs i n r = record {
    within = let h : suc i + n ≤ suc (length xs) = r.within in omega (arith, h);
    before = λ k d l. r.before (suc k) d (omega arith);
    inside = λ k d l. let e : suc i + k ≡ suc (i + k) = omega arith in rw e at (r.inside k d l);
    behind = λ k d h l. r.behind (suc k) d (omega arith) (omega arith);
  }

  block_inside : (x : X) (xs : List X) (n : ℕ) → IsBlockOf test (x ∷ xs) 0 (suc n) → IsBlockOf test xs 0 n
  block_inside x xs n r = record {
    within = let h : 0 + suc n ≤ suc (length xs) = r.within in omega (arith, h);
    before = λ k d l. absurd (omega arith);
    inside = λ k d l. let e : 0 + suc k ≡ suc (0 + k) = omega arith in rw e at (r.inside (suc k) d (omega arith));
    behind = λ k d h l. r.behind (suc k) d (omega arith) (omega arith);
  }

  block_none : (x : X) (xs : List X) → IsBlockOf test (x ∷ xs) 0 0 → IsBlockOf test xs 0 0
  block_none x xs r = record {
    within = omega arith;
    before = λ k d l. absurd (omega arith);
    inside = λ k d l. absurd (omega arith);
    behind = λ k d h l. r.behind (suc k) d (omega arith) (omega arith);
  }

  first_in : (x : X) (xs : List X) (n : ℕ) → IsBlockOf test (x ∷ xs) 0 (suc n) → test x ≡ true
  first_in x xs n r = r.inside 0 x (omega arith)

  -- they are the filtered list
  pub filter-block : (xs : List X) (i n : ℕ) → IsBlockOf test xs i n → filter test xs ≡ take n (drop i xs)
  filter-block [] zero zero r = refl
  filter-block [] zero (suc n) r = refl
  filter-block [] (suc i) zero r = refl
  filter-block [] (suc i) (suc n) r = refl
  filter-block (x ∷ xs) zero zero r = rw (r.behind 0 x (omega arith) (omega arith)) (filter-block xs 0 0 (block_none x xs r))
  filter-block (x ∷ xs) zero (suc n) r = rw (first_in x xs n r) (ap (λ l. x ∷ l) (filter-block xs 0 n (block_inside x xs n r)))
  filter-block (x ∷ xs) (suc i) n r = rw (r.before 0 x (omega arith)) (filter-block xs i n (block_after x xs i n r))

-- ---- points at one place of an order

pub tied_where_equal : (q p : Point) → point_eq q p ≡ (not (is_lt (point_cmp p q)) && not (is_lt (point_cmp q p)))
tied_where_equal q p = by (point_cmp q p) refl
  where
    by : (o : Ordering) → point_cmp q p ≡ o → point_eq q p ≡ (not (is_lt (point_cmp p q)) && not (is_lt (point_cmp q p)))
    by Less e = let b : point_cmp p q ≡ Greater = point_cmp_total.antisymm p q ∙ ap ordering_reverse e in rw (e, b) refl
    by Equal e = let b : point_cmp p q ≡ Equal = point_cmp_total.antisymm p q ∙ ap ordering_reverse e in rw (e, b) refl
    by Greater e = let b : point_cmp p q ≡ Less = point_cmp_total.antisymm p q ∙ ap ordering_reverse e in rw (e, b) refl
