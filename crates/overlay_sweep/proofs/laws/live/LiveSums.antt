-- Lists of live sums that hold the same from some x on.
use Rattle.std.proofs.Common.{◌≡◌, ap, refl, sym, subst, arith, inl, inr}
use Rattle.std.specs.Prelude.{suc, true, ℤ, ◌≤ℤ◌, ◌<ℤ◌, int_le, int_lt, ◌&&◌, false, not, List, [], ◌∷◌, ◌++◌, All}
use Rattle.std.specs.List.{Contains}
use Rattle.std.proofs.lemmas.Int.{ints}
use Rattle.std.proofs.lemmas.Bool.{and_parts}
use Rattle.std.proofs.lemmas.List.Elements.{Contains-push, Contains-push_cases, Contains-append_left, All-contains}
use Rattle.overlay_geometry.specs.Points.{Pair, is_vertical}
use Rattle.overlay_base.specs.Segments.{WholeSegment}
use Rattle.overlay_sweep.specs.Live.{HoldSameFrom, AreFreeAt}
use Rattle.overlay_sweep.proofs.laws.columns.Members.{All-from_Has}
use Rattle.overlay_geometry.proofs.laws.lists.Lists.{Has, Has-append_left, Has-append_right}
use Rattle.overlay_geometry.proofs.laws.integers.Tests.{le-tested, lt-tested, le_through}
use Rattle.overlay_geometry.proofs.laws.lists.Elements.{Contains-from_Has, Has-from_Contains, Has-append_out}

-- ---- members by index and by recursion

pub Contains-first : {X : Type 0} (x : X) (xs : List X) → Contains (x ∷ xs) x
Contains-first x xs = (0, omega arith, refl)

pub Contains-later : {X : Type 0} (y : X) (xs : List X) (x : X) → Contains xs x → Contains (y ∷ xs) x
Contains-later y xs x c = (suc c.0, omega (arith, c.1), c.2)

pub Contains-cases : {X P : Type 0} (y : X) (xs : List X) (x : X) → Contains (y ∷ xs) x → (x ≡ y → P) → (Contains xs x → P) → P
Contains-cases y xs x c f g = elim (Has-from_Contains (y ∷ xs) x c) [ inl e ↦ f (sym e) | inr m ↦ g (Contains-from_Has xs x m) ]

-- ---- the same sums

pub HoldSameFrom-same : (x : ℤ) (xs : List WholeSegment) → HoldSameFrom x xs xs
HoldSameFrom-same x xs s y h l = (λ m. m, λ m. m)

pub HoldSameFrom-trans : (x : ℤ) (xs ys zs : List WholeSegment) → HoldSameFrom x xs ys → HoldSameFrom x ys zs → HoldSameFrom x xs zs
HoldSameFrom-trans x xs ys zs f g s y h l = (λ m. (g s y h l).0 ((f s y h l).0 m), λ m. (f s y h l).1 ((g s y h l).1 m))

pub HoldSameFrom-later : (x z : ℤ) (xs ys : List WholeSegment) → x ≤ℤ z → HoldSameFrom x xs ys → HoldSameFrom z xs ys
HoldSameFrom-later x z xs ys k f s y h l = f s y (le_through x z y k h) l

pub HoldSameFrom-cons : (x : ℤ) (e : WholeSegment) (xs ys : List WholeSegment) → HoldSameFrom x xs ys → HoldSameFrom x (e ∷ xs) (e ∷ ys)
HoldSameFrom-cons x e xs ys f s y h l = (
  λ m. Contains-cases e xs s m (λ same. subst (λ v. Contains (e ∷ ys) v) (sym same) (Contains-first e ys)) (λ n. Contains-later e ys s ((f s y h l).0 n)),
  λ m. Contains-cases e ys s m (λ same. subst (λ v. Contains (e ∷ xs) v) (sym same) (Contains-first e xs)) (λ n. Contains-later e xs s ((f s y h l).1 n)),
)

-- what holds the same is as free
pub AreFreeAt-same : (x : ℤ) (xs ys : List WholeSegment) → HoldSameFrom x xs ys → AreFreeAt x ys → AreFreeAt x xs
AreFreeAt-same x xs ys h f = record {
  apart = λ t u m n l k. f.apart t u ((h t x (omega (arith, ints)) l).0 m) ((h u x (omega (arith, ints)) k).0 n) l k;
  one_sum = λ t u m n l k. f.one_sum t u ((h t x (omega (arith, ints)) l).0 m) ((h u x (omega (arith, ints)) k).0 n) l k;
}

-- one more sum at the end is one more in front
pub HoldSameFrom-push : (x : ℤ) (e : WholeSegment) (xs : List WholeSegment) → HoldSameFrom x (xs ++ e ∷ []) (e ∷ xs)
HoldSameFrom-push x e xs s y h l = (
  λ m. elim (Contains-push_cases xs e s m) [
    | inl n ↦ Contains-later e xs s n
    | inr same ↦ subst (λ v. Contains (e ∷ xs) v) same (Contains-first e xs)
  ],
  λ m. Contains-cases e xs s m (λ same. subst (λ v. Contains (xs ++ e ∷ []) v) (sym same) (Contains-push xs e)) (λ n. Contains-append_left xs (e ∷ []) s n),
)

live_is_wide : (y a b : ℤ) → int_le a y && int_lt y b ≡ true → a <ℤ b
live_is_wide y a b h = let parts = and_parts (int_le a y) (int_lt y b) h in let p = le-tested a y parts.0 in let q = lt-tested y b parts.1 in omega (arith, ints)

-- a vertical one is never live
pub HoldSameFrom-vertical : (x : ℤ) (e : WholeSegment) (xs : List WholeSegment) → e.pair.a.x ≡ e.pair.b.x → HoldSameFrom x xs (e ∷ xs)
HoldSameFrom-vertical x e xs same s y h l = (
  λ m. Contains-later e xs s m,
  λ m. Contains-cases e xs s m
      (λ it. let wide = live_is_wide y s.pair.a.x s.pair.b.x l in let a : s.pair.a.x ≡ e.pair.a.x = ap (λ (v : WholeSegment). v.pair.a.x) it in let b : s.pair.b.x ≡ e.pair.b.x = ap (λ (v : WholeSegment). v.pair.b.x) it in absurd (omega (arith, ints)))
      (λ n. n),
)

-- ---- a list that grows by one

Has-between : {X : Type 0} (xs ys : List X) (e s : X) → Has (xs ++ e ∷ ys) s → Has (e ∷ (xs ++ ys)) s
Has-between xs ys e s m = elim (Has-append_out xs (e ∷ ys) s m) [
  | inl n ↦ inr (Has-append_left xs ys s n)
  | inr n ↦ elim n [ inl same ↦ inl same | inr o ↦ inr (Has-append_right xs ys s o) ]
]

Has-between_in : {X : Type 0} (xs ys : List X) (e s : X) → Has (e ∷ (xs ++ ys)) s → Has (xs ++ e ∷ ys) s
Has-between_in xs ys e s (inl same) = Has-append_right xs (e ∷ ys) s (inl same)
Has-between_in xs ys e s (inr m) = elim (Has-append_out xs ys s m) [
  | inl n ↦ Has-append_left xs (e ∷ ys) s n
  | inr n ↦ Has-append_right xs (e ∷ ys) s (inr n)
]

-- one more sum between others is one more in front
pub HoldSameFrom-between : (x : ℤ) (e : WholeSegment) (xs ys : List WholeSegment) → HoldSameFrom x (xs ++ e ∷ ys) (e ∷ (xs ++ ys))
HoldSameFrom-between x e xs ys s y h l = (
  λ m. Contains-from_Has (e ∷ (xs ++ ys)) s (Has-between xs ys e s (Has-from_Contains (xs ++ e ∷ ys) s m)),
  λ m. Contains-from_Has (xs ++ e ∷ ys) s (Has-between_in xs ys e s (Has-from_Contains (e ∷ (xs ++ ys)) s m)),
)

pub All-between : {X : Type 0} (P : X → Type 0) (e : X) (xs ys : List X) → P e → All P (xs ++ ys) → All P (xs ++ e ∷ ys)
All-between P e xs ys h a = All-from_Has P (xs ++ e ∷ ys) (λ s m. elim (Has-between xs ys e s m) [
  | inl same ↦ subst P same h
  | inr n ↦ All-contains P (xs ++ ys) s a (Contains-from_Has (xs ++ ys) s n)
])

begin_at : (x y : ℤ) (xs : List WholeSegment) → x ≤ℤ y → All (λ s. s.pair.a.x ≤ℤ x) xs → (s : WholeSegment) → Has xs s → s.pair.a.x ≤ℤ y
begin_at x y xs h a s m = le_through s.pair.a.x x y (All-contains (λ s. s.pair.a.x ≤ℤ x) xs s a (Contains-from_Has xs s m)) h

-- what begins by x begins by each later y
pub begins_later : (x y : ℤ) (xs : List WholeSegment) → x ≤ℤ y → All (λ s. s.pair.a.x ≤ℤ x) xs → All (λ s. s.pair.a.x ≤ℤ y) xs
begins_later x y xs h a = All-from_Has (λ s. s.pair.a.x ≤ℤ y) xs (begin_at x y xs h a)

-- the same with another name for each part
pub HoldSameFrom-renamed : (x z : ℤ) (xs ys old : List WholeSegment) (e f : WholeSegment) → z ≡ x → xs ≡ ys → f ≡ e → HoldSameFrom z ys (f ∷ old) → HoldSameFrom x xs (e ∷ old)
HoldSameFrom-renamed x z xs ys old e f p q r h = subst (λ u. HoldSameFrom u xs (e ∷ old)) p (subst (λ v. HoldSameFrom z v (e ∷ old)) (sym q) (subst (λ w. HoldSameFrom z ys (w ∷ old)) r h))

pub vertical_same : (s : Pair) → not (is_vertical s) ≡ false → s.a.x ≡ s.b.x
vertical_same s h = grind (arith, ints)
