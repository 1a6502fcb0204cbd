-- A layout holds the segments that it was made for, and what lies in their box.
use Rattle.std.proofs.Common.{◌≡◌, refl, ℕ, inl, inr, arith, Bool, true, false, ◌&&◌, IsTrue, List, [], ◌∷◌}
use Rattle.std.specs.Prelude.{ℤ, ◌≤ℤ◌, int_le}
use Rattle.std.specs.Int.{int_max}
use Rattle.std.specs.Ordering.{is_lt, is_gt}
use Rattle.std.specs.List.{list_all, list_any, AllByRecursion}
use Rattle.std.proofs.lemmas.Int.{ints, clamps}
use Rattle.std.proofs.lemmas.Bool.{false≢true}
use Rattle.overlay_geometry.specs.Points.{Point, Pair, pair_cmp, is_ordered, is_within_box_of}
use Rattle.overlay_geometry.specs.Sorting.{is_strictly_sorted}
use Rattle.overlay_base.specs.Segments.{ends}
use Rattle.overlay_grid.specs.Grid.{Layout, IsLayout, IsInside, greatest_x}
use Rattle.overlay_intersections.proofs.laws.marks.MarkBoxes.{both, from_or, join_tests}
use Rattle.overlay_geometry.proofs.laws.integers.Tests.{le-test, le-tested, le_through}
use Rattle.overlay_geometry.proofs.laws.geometry.Points.{ordered_x, starts_in_order}
use Rattle.overlay_geometry.proofs.laws.lists.Keys.{IsInOrder}

-- whether a point lies between two x
abbrev pub is_between_x : ℤ → ℤ → Point → Bool
is_between_x low high p = int_le low p.x && int_le p.x high

-- whether a point lies between the ends of the grid
abbrev pub is_over_grid : Layout → Point → Bool
is_over_grid l p = is_between_x l.min_x l.max_x p

-- ---- the given segments

bounded : (high x : ℤ) (ts : List Pair) → greatest_x x ts ≤ℤ high → (x ≤ℤ high) × IsTrue (list_all (λ t. int_le t.b.x high) ts)
unfolding greatest_x
bounded high x [] h = (h, refl)
bounded high x (t ∷ ts) h =
    let (first, rest) = bounded high (int_max x t.b.x) ts h in
    (max_left _ _ _ first, join_tests _ _ (le-test _ _ (max_right _ _ _ first)) rest)
  where
    max_left : (u v w : ℤ) → int_max u v ≤ℤ w → u ≤ℤ w
    max_left u v w k = omega (arith, ints, clamps)

    max_right : (u v w : ℤ) → int_max u v ≤ℤ w → v ≤ℤ w
    max_right u v w k = omega (arith, ints, clamps)

sorted_x : (s t : Pair) → IsTrue (is_lt (pair_cmp s t)) → s.a.x ≤ℤ t.a.x
sorted_x s t h = grind (arith, ints)

ends_of_one : (low high : ℤ) (t : Pair) → low ≤ℤ t.a.x → IsTrue (is_ordered t) → t.b.x ≤ℤ high → IsTrue (is_between_x low high t.a) × IsTrue (is_between_x low high t.b)
ends_of_one low high t h o k =
    let x = ordered_x t o in
    (join_tests _ _ (le-test _ _ h) (le-test _ _ (le_through _ _ _ x k)), join_tests _ _ (le-test _ _ (le_through _ _ _ h x)) (le-test _ _ k))

ends_between : (low high : ℤ) (t : Pair) (ts : List Pair) → low ≤ℤ t.a.x → IsTrue (list_all (λ u. is_ordered u) (t ∷ ts)) → IsTrue (is_strictly_sorted pair_cmp (t ∷ ts)) → IsTrue (list_all (λ u. int_le u.b.x high) (t ∷ ts)) →
    IsTrue (list_all (λ p. is_between_x low high p) (ends (t ∷ ts)))
unfolding is_strictly_sorted
ends_between low high t [] h o s k =
    let (o', o'') = both (is_ordered t) true o in
    let (k', k'') = both (int_le t.b.x high) true k in
    let (p, q) = ends_of_one low high t h o' (le-tested _ _ k') in
    join_tests (is_between_x low high t.a) (is_between_x low high t.b && true) p (join_tests (is_between_x low high t.b) true q refl)
ends_between low high t (u ∷ us) h o s k =
    let (o', o'') = both (is_ordered t) (list_all (λ v. is_ordered v) (u ∷ us)) o in
    let (k', k'') = both (int_le t.b.x high) (list_all (λ v. int_le v.b.x high) (u ∷ us)) k in
    let (s', s'') = both (is_lt (pair_cmp t u)) (is_strictly_sorted pair_cmp (u ∷ us)) s in
    let (p, q) = ends_of_one low high t h o' (le-tested _ _ k') in
    join_tests (is_between_x low high t.a) (is_between_x low high t.b && list_all (λ p. is_between_x low high p) (ends (u ∷ us))) p
    (join_tests (is_between_x low high t.b) (list_all (λ p. is_between_x low high p) (ends (u ∷ us))) q (ends_between low high u us (le_through _ _ _ h (sorted_x t u s')) o'' s'' k''))

-- The layout for segments in order holds all of their ends.
pub ends_over_grid : (s : Pair) (ts : List Pair) (max_power : ℕ) (l : Layout) → IsTrue (list_all (λ u. is_ordered u) (s ∷ ts)) → IsTrue (is_strictly_sorted pair_cmp (s ∷ ts)) → IsLayout s.a.x (greatest_x s.b.x ts) max_power l →
    IsTrue (list_all (λ p. is_over_grid l p) (ends (s ∷ ts)))
ends_over_grid s ts max_power l o h i =
    let (first, rest) = bounded l.max_x s.b.x ts (let e = i.right in omega (arith, ints)) in
    ends_between l.min_x l.max_x s ts (let e = i.left in omega (arith, ints)) o h (join_tests _ _ (le-test _ _ first) rest)

within_starts : (l : Layout) (s : Pair) (ts : List Pair) → l.min_x ≡ s.a.x → AllByRecursion (λ t. is_gt (pair_cmp s t) ≡ false) ts → IsTrue (list_all (λ t. int_le t.b.x l.max_x) ts) → AllByRecursion (λ t. IsInside l t) ts
within_starts l s [] e o h = tt
within_starts l s (t ∷ ts) e o h =
    let (k, k') = both (int_le t.b.x l.max_x) (list_all (λ u. int_le u.b.x l.max_x) ts) h in
    let right = starts_in_order s t o.0 in
    (record { from = omega (arith, ints); to = le-tested _ _ k }, within_starts l s ts e o.1 k')

-- It holds them also where some are equal.
pub inside_their_grid : (s : Pair) (ts : List Pair) (max_power : ℕ) (l : Layout) → IsInOrder pair_cmp (s ∷ ts) → IsLayout s.a.x (greatest_x s.b.x ts) max_power l → AllByRecursion (λ t. IsInside l t) (s ∷ ts)
inside_their_grid s ts max_power l o i =
    let (first, rest) = bounded l.max_x s.b.x ts (let e = i.right in omega (arith, ints)) in
    (record { from = (let e = i.left in omega (arith, ints)); to = first }, within_starts l s ts i.left o.0 rest)

-- ---- what lies in their box

some_of_all : {X : Type 0} {R : Type 0} (p q : X → Bool) (xs : List X) → IsTrue (list_all p xs) → IsTrue (list_any q xs) → ((x : X) → IsTrue (p x) → IsTrue (q x) → R) → R
some_of_all p q [] h k f = absurd (false≢true k)
some_of_all p q (x ∷ xs) h k f =
    let (first, rest) = both (p x) (list_all p xs) h in
    elim (from_or (q x) (list_any q xs) k) [ inl here ↦ f x first here | inr later ↦ some_of_all p q xs rest later f ]

low_through : (low high q p : ℤ) → IsTrue (int_le low q && int_le q high) → IsTrue (int_le q p) → IsTrue (int_le low p)
low_through low high q p h k = le-test low p (le_through low q p (le-tested low q (both (int_le low q) (int_le q high) h).0) (le-tested q p k))

high_through : (low high q p : ℤ) → IsTrue (int_le low q && int_le q high) → IsTrue (int_le p q) → IsTrue (int_le p high)
high_through low high q p h k = le-test p high (le_through p q high (le-tested p q k) (le-tested q high (both (int_le low q) (int_le q high) h).1))

pub is_between_x-from_box : (low high : ℤ) (points : List Point) (p : Point) → IsTrue (list_all (λ q. is_between_x low high q) points) → IsTrue (is_within_box_of points p) → IsTrue (is_between_x low high p)
unfolding is_within_box_of
is_between_x-from_box low high points p h k =
    let (k', above) = both _ _ k in
    let (k'', below) = both _ _ k' in
    let (left, right) = both _ _ k'' in
    join_tests (int_le low p.x) (int_le p.x high)
    (some_of_all (λ q. is_between_x low high q) (λ q. int_le q.x p.x) points h left (λ q a b. low_through low high q.x p.x a b))
    (some_of_all (λ q. is_between_x low high q) (λ q. int_le p.x q.x) points h right (λ q a b. high_through low high q.x p.x a b))
