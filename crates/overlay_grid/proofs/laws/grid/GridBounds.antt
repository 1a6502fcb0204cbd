-- Where fragments lie: in their columns, in the grid, and in the box of their segment.
use Rattle.std.proofs.Common.{◌≡◌, refl, sym, ap, subst, ℕ, ◌+◌, ◌*◌, ◌<◌, ◌≤◌, inl, inr, arith, Bool, true, false, ◌&&◌, IsTrue}
use Rattle.std.specs.Prelude.{ℤ, pos, ◌-ℤ◌, ◌≤ℤ◌, ◌<ℤ◌, nat_lt, unsigned_abs}
use Rattle.std.specs.Int.{int_min, int_max}
use Rattle.std.specs.List.{list_all}
use Rattle.std.proofs.lemmas.Int.{ints, by_lt_z, clamps}
use Rattle.std.proofs.lemmas.Grind.{div_ceil_times}
use Rattle.std.proofs.Math.Nat.{lt_of_mul-lt-mul_right}
use Rattle.overlay_geometry.specs.Points.{Pair, is_ordered}
use Rattle.overlay_geometry.specs.Below.{width}
use Rattle.overlay_grid.specs.Grid.{Layout, column_index, pos_of, group_count, Fragment, toward, least_rise, greatest_rise, fragment_in, fragments}
use Rattle.overlay_grid.proofs.laws.grid.GridColumns.{column_index-monotone, column_index-from}
use Rattle.overlay_grid.proofs.laws.grid.GridFragments.{RunsRight, rise, least_rise-times, greatest_rise-times, rise-monotone, Enters, toward_up, toward_down, abs_neg, fragment_in-column, RunsUp, runs, upright_fragment, fragments_upright, fragments_flat, RunsRight-not_vertical, all_in_range, column_count, entered_column}
use Rattle.overlay_geometry.proofs.laws.integers.Tests.{nat_lt-test, le_itself, le_weak, le_through}
use Rattle.overlay_geometry.proofs.laws.integers.Products.{abs_nonneg}

-- ---- rises are the floor and the ceiling

pub greatest_rise-before : (s : Pair) (x : ℤ) → 0 < unsigned_abs (width s) → greatest_rise s x * unsigned_abs (width s) < rise s x + unsigned_abs (width s)
unfolding greatest_rise rise
greatest_rise-before s x h = (div_ceil_times (unsigned_abs (s.b.y -ℤ s.a.y) * unsigned_abs (x -ℤ s.a.x)) (unsigned_abs (s.b.x -ℤ s.a.x)) h).1

times_zero : (m n : ℕ) → n ≡ 0 → m * n ≡ 0
times_zero m n e = rw e (omega arith)

abs_zero : (z : ℤ) → z ≡ pos 0 → unsigned_abs z ≡ 0
abs_zero z e = ap unsigned_abs e

-- the rises at the ends
pub rise-at_a : (s : Pair) → rise s s.a.x ≡ 0
unfolding rise
rise-at_a s = times_zero (unsigned_abs (s.b.y -ℤ s.a.y)) _ (abs_zero (s.a.x -ℤ s.a.x) (omega (arith, ints)))

pub rise-at_b : (s : Pair) → rise s s.b.x ≡ unsigned_abs (s.b.y -ℤ s.a.y) * unsigned_abs (width s)
unfolding rise
rise-at_b s = refl

-- and what lies between them
below_next : (m n w : ℕ) → m * w < n * w + w → m * w < (n + 1) * w
below_next m n w h = omega arith

no_more : (m n w : ℕ) → 0 < w → m * w < n * w + w → m ≤ n
no_more m n w h k = let l : m < n + 1 = lt_of_mul-lt-mul_right w (below_next m n w k) in omega arith

pub greatest_rise-le : (s : Pair) (x : ℤ) → RunsRight s → s.a.x ≤ℤ x → x ≤ℤ s.b.x → greatest_rise s x ≤ unsigned_abs (s.b.y -ℤ s.a.y)
greatest_rise-le s x r h k =
    let f = r.forward in
    let e = abs_nonneg (width s) (omega (arith, ints)) in
    let some : 0 < unsigned_abs (width s) = omega (arith, ints) in
    let g = greatest_rise-before s x some in
    let m = rise-monotone s x s.b.x h k in
    let b = rise-at_b s in
    no_more _ _ (unsigned_abs (width s)) some (omega arith)

pub least_rise-le : (s : Pair) (x : ℤ) → RunsRight s → s.a.x ≤ℤ x → x ≤ℤ s.b.x → least_rise s x ≤ unsigned_abs (s.b.y -ℤ s.a.y)
least_rise-le s x r h k =
    let f = r.forward in
    let e = abs_nonneg (width s) (omega (arith, ints)) in
    let some : 0 < unsigned_abs (width s) = omega (arith, ints) in
    let g = least_rise-times s x in
    let m = rise-monotone s x s.b.x h k in
    let b = rise-at_b s in
    no_more _ _ (unsigned_abs (width s)) some (omega arith)

-- at the ends the rises are exact
pub least_rise-at_a : (s : Pair) → RunsRight s → least_rise s s.a.x ≡ 0
least_rise-at_a s r =
    let f = r.forward in
    let e = abs_nonneg (width s) (omega (arith, ints)) in
    let some : 0 < unsigned_abs (width s) = omega (arith, ints) in
    let g = least_rise-times s s.a.x in
    let z = rise-at_a s in
    let n : least_rise s s.a.x ≤ 0 = no_more _ _ (unsigned_abs (width s)) some (omega arith) in
    omega arith

pub greatest_rise-at_b : (s : Pair) → RunsRight s → greatest_rise s s.b.x ≡ unsigned_abs (s.b.y -ℤ s.a.y)
greatest_rise-at_b s r =
    let f = r.forward in
    let e = abs_nonneg (width s) (omega (arith, ints)) in
    let some : 0 < unsigned_abs (width s) = omega (arith, ints) in
    let g = greatest_rise-times s s.b.x some in
    let b = rise-at_b s in
    let low : unsigned_abs (s.b.y -ℤ s.a.y) ≤ greatest_rise s s.b.x = no_more _ _ (unsigned_abs (width s)) some (omega arith) in
    let high = greatest_rise-le s s.b.x r (le_weak _ _ f) (le_itself s.b.x) in
    omega arith

-- ---- rectangles lie in their columns and in the box of the segment

pub toward_in_box : (s : Pair) (n : ℕ) → n ≤ unsigned_abs (s.b.y -ℤ s.a.y) → (int_min s.a.y s.b.y ≤ℤ toward s n) × (toward s n ≤ℤ int_max s.a.y s.b.y)
toward_in_box s n h = by_lt_z s.b.y s.a.y
    (λ (falls : s.b.y <ℤ s.a.y). let e = toward_down s n falls in let f = abs_neg (s.b.y -ℤ s.a.y) (omega (arith, ints)) in (omega (arith, ints, clamps), omega (arith, ints, clamps)))
    (λ (climbs : s.a.y ≤ℤ s.b.y). let e = toward_up s n climbs in let f = abs_nonneg (s.b.y -ℤ s.a.y) (omega (arith, ints)) in (omega (arith, ints, clamps), omega (arith, ints, clamps)))

and_true : (c : Bool) → IsTrue c → IsTrue (c && true)
and_true true h = h
and_true false h = h

-- what holds of the fragment in each column that s enters, or of the one of a vertical pair, holds of all fragments
pub list_all-fragments : (l : Layout) (s : Pair) (test : Fragment → Bool) → IsTrue (is_ordered s) → l.min_x ≤ℤ s.a.x →
    ((i : ℕ) → RunsRight s → Enters l s.a.x s.b.x i → IsTrue (test (fragment_in l s i))) → (RunsUp s → IsTrue (test (upright_fragment l s))) → IsTrue (list_all test (fragments l s))
list_all-fragments l s test o h f g = elim (runs s o) [
  | inl u ↦ rw (fragments_upright l s u) (and_true _ (g u))
  | inr r ↦ rw (fragments_flat l s (RunsRight-not_vertical s r)) (all_in_range test (λ i. fragment_in l s i) (column_index l s.a.x) (column_count l s) (λ i k m. f i r (entered_column l s i r h k m)))
]

-- a segment that ends in the grid has no fragment outside of it
before_end : (l : Layout) (i : ℕ) (x : ℤ) → pos_of l i <ℤ x → x ≤ℤ l.max_x → i < group_count l
before_end l i x h k = let c : i ≤ column_index l l.max_x = column_index-from l i l.max_x (le_through _ _ _ (le_weak _ _ h) k) in omega arith

upright_within : (l : Layout) (s : Pair) → RunsUp s → l.min_x ≤ℤ s.a.x → s.b.x ≤ℤ l.max_x → IsTrue (nat_lt (upright_fragment l s).column (group_count l))
unfolding upright_fragment
upright_within l s u h k =
    let c : column_index l s.a.x ≤ column_index l l.max_x = column_index-monotone l s.a.x l.max_x h (let e = u.upright in omega (arith, ints)) in
    nat_lt-test _ _ (omega arith)

pub fragments_within_grid : (l : Layout) (s : Pair) → IsTrue (is_ordered s) → l.min_x ≤ℤ s.a.x → s.b.x ≤ℤ l.max_x → IsTrue (list_all (λ f. nat_lt f.column (group_count l)) (fragments l s))
fragments_within_grid l s o h k = list_all-fragments l s (λ f. nat_lt f.column (group_count l)) o h
    (λ i r e. nat_lt-test _ _ (subst (λ (j : ℕ). j < group_count l) (sym (fragment_in-column l s i)) (before_end l i s.b.x e.begins k)))
    (λ u. upright_within l s u h k)
