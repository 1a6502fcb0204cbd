-- Marks by rising index: those of one segment are together.
use Rattle.std.proofs.Common.{inl, inr, ◌≡◌, refl, sym, ap, ◌∙◌, ℕ, zero, suc, ◌<◌, ◌≤◌, ◌==◌, arith, true, false, cond, List, [], ◌∷◌, map, filter, take, drop, length, IsSortedByKey, Greater, is_gt, slice_index_or}
use Rattle.std.specs.Prelude.{⊤, ◌≢◌}
use Rattle.std.specs.Ordering.{nat_cmp}
use Rattle.std.specs.List.{AllByRecursion, AllWithin}
use Rattle.std.proofs.lemmas.Cmp.{nat_cmp_total}
use Rattle.std.specs.Cmp.{nat_cmp_is}
use Rattle.std.proofs.lemmas.Bool.{eq-eqb, ne_eqb, cases_lt}
use Rattle.overlay_geometry.proofs.laws.lists.Lists.{AllByRecursion-weaker}
use Rattle.overlay_geometry.proofs.laws.lists.Keys.{IsInOrder, IsInOrder-from_sort}
use Rattle.overlay_intersections.specs.MarkOf.{Mark, points_at}

-- no mark is followed by one of a lesser index
abbrev pub AreRising : List Mark → Type 0
AreRising [] = ⊤
AreRising (m ∷ ms) = AllByRecursion (λ n. m.index ≤ n.index) ms × AreRising ms

not_greater : (i j : ℕ) → is_gt (nat_cmp i j) ≡ false → i ≤ j
not_greater i j h = elim (cases_lt j i) [
  | inl lt ↦ let e : true ≡ false = ap is_gt (nat_cmp_is i j Greater lt) ∙ h in cc
  | inr le ↦ le
]

pub AreRising-from : (ms : List Mark) → IsSortedByKey (λ m. m.index) nat_cmp ms → AreRising ms
AreRising-from ms s = go ms (IsInOrder-from_sort nat_cmp_total (λ m. m.index) ms s)
  where
    later : (i : ℕ) (ns : List Mark) → AllByRecursion (λ j. is_gt (nat_cmp i j) ≡ false) (map (λ n. n.index) ns) → AllByRecursion (λ n. i ≤ n.index) ns
    later i [] h = tt
    later i (n ∷ ns) h = (not_greater i n.index h.0, later i ns h.1)

    go : (ns : List Mark) → IsInOrder nat_cmp (map (λ n. n.index) ns) → AreRising ns
    go [] h = tt
    go (n ∷ ns) h = (later n.index ns h.0, go ns h.1)

-- marks of one index, first to last
pub points_at-own : (i : ℕ) (m : Mark) (ms : List Mark) → m.index ≡ i → points_at i (m ∷ ms) ≡ m.point ∷ points_at i ms
points_at-own i m ms e = ap (λ b. map (λ n. n.point) (cond b (m ∷ filter (λ n. n.index == i) ms) (filter (λ n. n.index == i) ms))) (eq-eqb m.index i e)

pub points_at-other : (i : ℕ) (m : Mark) (ms : List Mark) → (m.index == i) ≡ false → points_at i (m ∷ ms) ≡ points_at i ms
points_at-other i m ms e = ap (λ b. map (λ n. n.point) (cond b (m ∷ filter (λ n. n.index == i) ms) (filter (λ n. n.index == i) ms))) e

not_equal : (i j : ℕ) → i < j → (j == i) ≡ false
not_equal i j lt = ne_eqb j i (λ e. omega (arith, e, lt))

pub points_at-below : (i : ℕ) (ms : List Mark) → AllByRecursion (λ m. i < m.index) ms → points_at i ms ≡ []
points_at-below i [] h = refl
points_at-below i (m ∷ ms) h = points_at-other i m ms (not_equal i m.index h.0) ∙ points_at-below i ms h.1

pub strictly : (i j : ℕ) → i ≤ j → j ≢ i → i < j
strictly i j le ne = elim (cases_lt i j) [
  | inl lt ↦ lt
  | inr back ↦ absurd (ne (omega (arith, le, back)))
]

-- the marks in front that have an index, and those after them
pub record IsFront {X : Type 0} (f : X → Mark) (xs : List X) (index n : ℕ) : Type 0 where
  pub own : points_at index (map f xs) ≡ map (λ x. (f x).point) (take n xs)
  pub past : AllByRecursion (λ m. index < m.index) (map f (drop n xs))
  pub rising : AreRising (map f (drop n xs))
  pub others : (j : ℕ) → index < j → points_at j (map f (drop n xs)) ≡ points_at j (map f xs)

module _ {X : Type 0} (f : X → Mark) where
  pub IsFront-from : (xs : List X) (index n : ℕ) → AreRising (map f xs) → AllByRecursion (λ m. index ≤ m.index) (map f xs) → n ≤ length xs → AllWithin (λ x. (f x).index ≡ index) xs 0 n
      → ((d : X) → n < length xs → (f (slice_index_or xs n d)).index ≢ index) → IsFront f xs index n
  IsFront-from [] index zero r least le own stop = record { own = refl; past = tt; rising = tt; others = λ j lt. refl }
  IsFront-from [] index (suc n) r least le own stop = absurd (omega arith)
  IsFront-from (x ∷ xs) index zero r least le own stop =
      let differs = stop x (omega arith) in
      let above : index < (f x).index = strictly index (f x).index least.0 differs in
      let past : AllByRecursion (λ m. index < m.index) (map f (x ∷ xs)) = (above, AllByRecursion-weaker (λ m. (f x).index ≤ m.index) (λ m. index < m.index) (λ m h. omega (arith, h, above)) (map f xs) r.0) in
      record { own = points_at-below index (map f (x ∷ xs)) past; past = past; rising = r; others = λ j lt. refl }
  IsFront-from (x ∷ xs) index (suc n) r least le own stop =
      let same : (f x).index ≡ index = own 0 x (omega arith) (omega arith) in
      let rest = IsFront-from xs index n r.1 least.1 (omega arith) (λ k d p q. own (suc k) d (omega arith) (omega arith)) (λ d lt. stop d (omega arith)) in
      record {
        own = points_at-own index (f x) (map f xs) same ∙ ap (λ l. (f x).point ∷ l) rest.own;
        past = rest.past;
        rising = rest.rising;
        others = λ j lt. rest.others j lt ∙ sym (points_at-other j (f x) (map f xs) (ne_eqb (f x).index j (λ e. omega (arith, e, same, lt))));
      }
