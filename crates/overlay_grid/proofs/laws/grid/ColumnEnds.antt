-- Where the segments of a column end in a list in order.
use Rattle.std.proofs.Common.{◌≡◌, sym, subst, ℕ, zero, suc, ◌+◌, ◌<◌, ◌≤◌, arith, true, false, List, [], ◌∷◌, take, drop, get_or, length, map, All, IsSortedByKey, is_lt}
use Rattle.std.specs.Prelude.{ℤ, ◌≤ℤ◌, ◌<ℤ◌, int_lt}
use Rattle.std.specs.List.{AllByRecursion}
use Rattle.std.specs.List.Sorted.{IsPartitionedBy, IsPartitionPoint}
use Rattle.std.specs.Ordering.{int_cmp}
use Rattle.std.proofs.lemmas.Int.{ints}
use Rattle.overlay_geometry.specs.Points.{Pair, pair_cmp}
use Rattle.overlay_geometry.proofs.laws.geometry.Points.{ordered_x}
use Rattle.overlay_geometry.proofs.laws.integers.Tests.{le_through}
use Rattle.overlay_base.specs.SegmentOf.{ends_of, pairs_in}
use Rattle.overlay_base.specs.declared.segm.segment.Segment.{Segment}
use Rattle.overlay_base.proofs.laws.geometry.Apart.{pairs-map}
use Rattle.overlay_grid.specs.Grid.{Layout, column_index, pos_of, IsInside}
use Rattle.overlay_grid.specs.steps.Sweeps.{AreParted}
use Rattle.overlay_grid.proofs.laws.grid.BorderMarks.{parted_below}
use Rattle.overlay_grid.proofs.laws.grid.GridColumns.{column_index-before, column_index-from, column_index-monotone}

-- ---- lists

-- what holds of each element before a place, and of each from it on
split_at : {X : Type 0} (f : X → Pair) (P Q : Pair → Type 0) (xs : List X) (n : ℕ) → n ≤ length xs → IsPartitionPoint (λ x. P (f x)) (λ x. Q (f x)) xs n → AllByRecursion P (take n (map f xs)) × AllByRecursion Q (drop n (map f xs))
split_at f P Q [] zero h point = (tt, tt)
split_at f P Q [] (suc n) h point = absurd (omega arith)
split_at f P Q (x ∷ xs) zero h point =
    let rest = split_at f P Q xs zero (omega arith) ((λ k d low high. absurd (omega arith)), (λ k d low high. point.1 (suc k) d (omega arith) (omega arith))) in
    (tt, (point.1 zero x (omega arith) (omega arith), rest.1))
split_at f P Q (x ∷ xs) (suc n) h point =
    let rest = split_at f P Q xs n (omega arith) ((λ k d low high. point.0 (suc k) d (omega arith) (omega arith)), (λ k d low high. point.1 (suc k) d (omega arith) (omega arith))) in
    ((point.0 zero x (omega arith) (omega arith), rest.0), rest.1)

-- one of the front of a list
front_at : (P : Pair → Type 0) (n j : ℕ) (ss : List Pair) (s : Pair) (rest : List Pair) → AllByRecursion P (take n ss) → j < n → drop j ss ≡ s ∷ rest → P s
front_at P zero j ss s rest h lt d = absurd (omega arith)
front_at P (suc n) zero [] s rest h lt d = absurd cc
front_at P (suc n) zero (x ∷ ss) s rest h lt d = subst P (let e : x ≡ s = cc in e) h.0
front_at P (suc n) (suc j) [] s rest h lt d = absurd cc
front_at P (suc n) (suc j) (x ∷ ss) s rest h lt d = front_at P n j ss s rest h.1 (omega arith) d

-- ---- the end of a column

pub begun_at : (l : Layout) (ss : List Pair) (n j c : ℕ) (s : Pair) (rest : List Pair) → AreParted l ss n (c + 1) → j < n → drop j ss ≡ s ∷ rest → column_index l s.a.x ≤ c
begun_at l ss n j c s rest p lt d = let b = front_at (λ s. column_index l s.a.x < c + 1) n j ss s rest p.before lt d in omega arith

starts_no_less : (s t : Pair) → is_lt (pair_cmp s t) ≡ false → is_lt (int_cmp s.a.x t.a.x) ≡ false
starts_no_less s t h = grind (arith, ints)

is_left : (x y : ℤ) → int_lt x y ≡ true → x <ℤ y
is_left x y h = grind (arith, ints)

is_not_left : (x y : ℤ) → int_lt x y ≡ false → y ≤ℤ x
is_not_left x y h = grind (arith, ints)

module _ {C I D : Type 0} {m : _} {w : _} {o : _} {e : _} {p : _} (xs : List (Segment C I D m w o e p)) where
  -- those that begin left of a border come before the others
  pub parted_left_of : (border : ℤ) → IsSortedByKey ends_of pair_cmp xs → IsPartitionedBy (λ s. int_lt (ends_of s).a.x border) xs
  parted_left_of border sorted = parted_below (λ s. (ends_of s).a.x) xs (λ k d low high. starts_no_less (ends_of (get_or xs (k + 1) d)) (ends_of (get_or xs k d)) (sorted k d low high)) border

  parted_by : (l : Layout) (n c : ℕ) → n ≤ length xs → IsPartitionPoint (λ s. column_index l (ends_of s).a.x < c) (λ s. c ≤ column_index l (ends_of s).a.x) xs n → AreParted l (pairs_in xs) n c
  parted_by l n c h point =
      let parts = split_at ends_of (λ s. column_index l s.a.x < c) (λ s. c ≤ column_index l s.a.x) xs n h point in
      record {
        before = subst (λ (ps : List Pair). AllByRecursion (λ s. column_index l s.a.x < c) (take n ps)) (sym (pairs-map xs)) parts.0;
        after = subst (λ (ps : List Pair). AllByRecursion (λ s. c ≤ column_index l s.a.x) (drop n ps)) (sym (pairs-map xs)) parts.1;
      }

  -- at the border of a column
  pub parted_at_border : (l : Layout) (n c : ℕ) (border : ℤ) → All (λ s. IsInside l (ends_of s)) xs → border ≡ pos_of l c → n ≤ length xs → IsPartitionPoint (λ s. int_lt (ends_of s).a.x border ≡ true) (λ s. int_lt (ends_of s).a.x border ≡ false) xs n →
      AreParted l (pairs_in xs) n c
  parted_at_border l n c border inside is h point = parted_by l n c h (
    (λ k d low high. before (get_or xs k d) (inside k d (omega arith)) (point.0 k d low high)),
    (λ k d low high. from (get_or xs k d) (point.1 k d low high)),
  )
    where
      before : (s : Segment C I D m w o e p) → IsInside l (ends_of s) → int_lt (ends_of s).a.x border ≡ true → column_index l (ends_of s).a.x < c
      before s i left = column_index-before l c (ends_of s).a.x i.from (subst (λ (z : ℤ). (ends_of s).a.x <ℤ z) is (is_left (ends_of s).a.x border left))

      from : (s : Segment C I D m w o e p) → int_lt (ends_of s).a.x border ≡ false → c ≤ column_index l (ends_of s).a.x
      from s right = column_index-from l c (ends_of s).a.x (subst (λ (z : ℤ). z ≤ℤ (ends_of s).a.x) is (is_not_left (ends_of s).a.x border right))

  -- each begins up to the last column
  pub parted_past_last : (l : Layout) (c : ℕ) → All (λ s. IsInside l (ends_of s)) xs → column_index l l.max_x < c → AreParted l (pairs_in xs) (length xs) c
  parted_past_last l c inside last = parted_by l (length xs) c (omega arith) (
    (λ k d low high. before (get_or xs k d) (inside k d high)),
    (λ k d low high. absurd (omega arith)),
  )
    where
      before : (s : Segment C I D m w o e p) → IsInside l (ends_of s) → column_index l (ends_of s).a.x < c
      before s i =
          let up = column_index-monotone l (ends_of s).a.x l.max_x i.from (le_through (ends_of s).a.x (ends_of s).b.x l.max_x (ordered_x (ends_of s) s.ordered) i.to) in
          omega arith
