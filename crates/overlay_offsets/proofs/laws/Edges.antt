-- The edges of a list of corners, one after the other.
use Rattle.std.proofs.Common.{◌≡◌, refl, sym, ap, ap₂, ◌∙◌, Bool, true, false, ◌&&◌, List, [], ◌∷◌, ◌++◌, arith, ℕ, zero, suc, ◌+◌, ◌<◌, ◌≤◌, length, get_or, take, drop, map}
use Rattle.std.specs.List.{list_all}
use Rattle.std.proofs.lemmas.Bool.{and_parts, and_from}
use Rattle.overlay_geometry.specs.Points.{Point, Pair}
use Rattle.overlay_contours.specs.Contours.{steps_from, steps_of}

module _ {X : Type 0} (f : X → Point) where
  abbrev side : X → X → Pair
  side x y = record { a = f x; b = f y }

  inner : (p : X) (xs : List X) (q : Point) (i : ℕ) (x y : X) → i < length xs → x ≡ get_or (p ∷ xs) i x → y ≡ get_or xs i y →
      drop i (steps_from (f p) (map f xs ++ q ∷ [])) ≡ side x y ∷ drop (suc i) (steps_from (f p) (map f xs ++ q ∷ []))
  inner p [] q i x y low h e = absurd (omega (arith, low))
  inner p (z ∷ zs) q zero x y low h e = ap₂ (λ (u v : X). side u v ∷ steps_from (f z) (map f zs ++ q ∷ [])) (sym h) (sym e)
  inner p (z ∷ zs) q (suc i) x y low h e = inner z zs q i x y (omega (arith, low)) h e

  last : (p : X) (xs : List X) (q : Point) (x : X) → x ≡ get_or (p ∷ xs) (length xs) x →
      drop (length xs) (steps_from (f p) (map f xs ++ q ∷ [])) ≡ record { a = f x; b = q } ∷ drop (suc (length xs)) (steps_from (f p) (map f xs ++ q ∷ []))
  last p [] q x h = ap (λ (u : X). record { a = f u; b = q } ∷ []) (sym h)
  last p (z ∷ zs) q x h = last z zs q x h

  pub inner_edge : (xs : List X) (i : ℕ) (x y : X) → i + 1 < length xs → x ≡ get_or xs i x → y ≡ get_or xs (i + 1) y → drop i (steps_of (map f xs)) ≡ side x y ∷ drop (i + 1) (steps_of (map f xs))
  inner_edge [] i x y low h e = absurd (omega (arith, low))
  inner_edge (p ∷ xs) i x y low h e =
      let next : i + 1 ≡ suc i = omega arith in
      rw next (inner p xs (f p) i x y (omega (arith, low)) h (e ∙ ap (λ (j : ℕ). get_or (p ∷ xs) j y) next))

  pub last_edge : (xs : List X) (i : ℕ) (x y : X) → i < length xs → length xs ≤ i + 1 → x ≡ get_or xs i x → y ≡ get_or xs 0 y → drop i (steps_of (map f xs)) ≡ side x y ∷ drop (i + 1) (steps_of (map f xs))
  last_edge [] i x y low high h e = absurd (omega (arith, low))
  last_edge (p ∷ xs) i x y low high h e =
      let next : i + 1 ≡ suc i = omega arith in
      let at : i ≡ length xs = omega (arith, low, high) in
      rw (next, at) (last p xs (f p) x (h ∙ ap (λ (j : ℕ). get_or (p ∷ xs) j x) at) ∙ ap (λ (u : X). record { a = f x; b = f u } ∷ drop (suc (length xs)) (steps_of (map f (p ∷ xs)))) (sym e))

  count : (p : X) (xs : List X) (q : Point) → length (steps_from (f p) (map f xs ++ q ∷ [])) ≡ suc (length xs)
  count p [] q = refl
  count p (z ∷ zs) q = ap suc (count z zs q)

  pub count_of_edges : (xs : List X) → length (steps_of (map f xs)) ≡ length xs
  count_of_edges [] = refl
  count_of_edges (p ∷ xs) = count p xs (f p)

-- ---- an element at an index

pub take_one_more : {X : Type 0} (l : List X) (i : ℕ) (x : X) (later : List X) → drop i l ≡ x ∷ later → take (suc i) l ≡ take i l ++ x ∷ []
take_one_more [] zero x later e = absurd (cc)
take_one_more [] (suc i) x later e = absurd (cc)
take_one_more (y ∷ l) zero x later e = cc
take_one_more (y ∷ l) (suc i) x later e = ap (λ (k : List _). y ∷ k) (take_one_more l i x later e)

pub parts_by_drop : {X : Type 0} (l : List X) (i : ℕ) (x : X) (later : List X) → drop i l ≡ x ∷ later → l ≡ take i l ++ x ∷ later
parts_by_drop [] zero x later e = absurd (cc)
parts_by_drop (y ∷ l) zero x later e = e
parts_by_drop [] (suc i) x later e = absurd (cc)
parts_by_drop (y ∷ l) (suc i) x later e = ap (λ (k : List _). y ∷ k) (parts_by_drop l i x later e)

pub index_by_drop : {X : Type 0} (l : List X) (i : ℕ) (x : X) (later : List X) → drop i l ≡ x ∷ later → i ≡ length (take i l)
index_by_drop [] zero x later e = absurd (cc)
index_by_drop (y ∷ l) zero x later e = refl
index_by_drop [] (suc i) x later e = absurd (cc)
index_by_drop (y ∷ l) (suc i) x later e = ap suc (index_by_drop l i x later e)

pub all_at : {X : Type 0} (test : X → Bool) (l : List X) (i : ℕ) (x : X) (later : List X) → drop i l ≡ x ∷ later → list_all test (drop i l) ≡ (test x && list_all test later)
all_at test l i x later e = ap (list_all test) e

pub all_before : {X : Type 0} (test : X → Bool) (l : List X) (x : X) → list_all test l ≡ true → test x ≡ true → list_all test (l ++ x ∷ []) ≡ true
all_before test [] x h e = and_from _ _ e refl
all_before test (y ∷ l) x h e = let parts = and_parts (test y) (list_all test l) h in and_from _ _ parts.0 (all_before test l x parts.1 e)

pub all_taken : {X : Type 0} (l : List X) (i : ℕ) → length l ≤ i → take i l ≡ l
all_taken [] zero h = refl
all_taken [] (suc i) h = refl
all_taken (y ∷ l) zero h = absurd (omega (arith, h))
all_taken (y ∷ l) (suc i) h = ap (λ (k : List _). y ∷ k) (all_taken l i (omega (arith, h)))

-- ---- what all elements pass

pub passes_at : {X Y : Type 0} (f : X → Y) (test : Y → Bool) (xs : List X) (i : ℕ) (x : X) → i < length xs → x ≡ get_or xs i x → list_all test (map f xs) ≡ true → test (f x) ≡ true
passes_at f test [] i x h e p = absurd (omega (arith, h))
passes_at f test (y ∷ ys) zero x h e p = ap (λ z. test (f z)) e ∙ (and_parts _ _ p).0
passes_at f test (y ∷ ys) (suc i) x h e p = passes_at f test ys i x (omega (arith, h)) e (and_parts _ _ p).1

pub low_first : (i n : ℕ) → i < n → 0 < n
low_first i n h = omega (arith, h)

-- ---- tests of all edges, one by one

pub fails_at : {X : Type 0} (test : X → Bool) (l : List X) (i : ℕ) (x : X) (later : List X) → drop i l ≡ x ∷ later → list_all test (drop i l) ≡ list_all test l → test x ≡ false → list_all test l ≡ false
fails_at test l i x later e all fails = sym all ∙ all_at test l i x later e ∙ ap (λ (b : Bool). b && list_all test later) fails

pub passes_on : {X : Type 0} (test : X → Bool) (l : List X) (i : ℕ) (x : X) → drop i l ≡ x ∷ drop (i + 1) l → list_all test (drop i l) ≡ list_all test l → test x ≡ true → list_all test (drop (i + 1) l) ≡ list_all test l
passes_on test l i x e all passes = sym (all_at test l i x (drop (i + 1) l) e ∙ ap (λ (b : Bool). b && list_all test (drop (i + 1) l)) passes) ∙ all

none_left : {X : Type 0} (l : List X) (i : ℕ) → length l ≤ i → drop i l ≡ []
none_left [] zero h = refl
none_left [] (suc i) h = refl
none_left (y ∷ l) zero h = absurd (omega (arith, h))
none_left (y ∷ l) (suc i) h = none_left l i (omega (arith, h))

pub passed_all : {X : Type 0} (test : X → Bool) (l : List X) (i : ℕ) → length l ≤ i → list_all test (drop i l) ≡ list_all test l → list_all test l ≡ true
passed_all test l i h all = sym all ∙ ap (list_all test) (none_left l i h)

pub one_more_passes : {X : Type 0} (test : X → Bool) (l : List X) (i : ℕ) (x : X) (later : List X) → drop i l ≡ x ∷ later → list_all test (take i l) ≡ true → test x ≡ true → list_all test (take (i + 1) l) ≡ true
one_more_passes test l i x later e all passes =
    let next : i + 1 ≡ suc i = omega arith in
    rw next (ap (list_all test) (take_one_more l i x later e) ∙ all_before test (take i l) x all passes)
