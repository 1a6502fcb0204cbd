-- How many segments of a list begin up to a place, and that few of a list are known to be in reach of one another.
use Rattle.std.proofs.Common.{◌≡◌, sym, ap, subst, ◌∙◌, ℕ, zero, suc, ◌+◌, ◌-◌, ◌<◌, ◌≤◌, arith, Bool, true, false, IsTrue, List, [], ◌∷◌, drop, take, length, get_or, map, IsSortedByKey}
use Rattle.std.specs.Prelude.{ℤ, ◌≤ℤ◌, int_le, count_by}
use Rattle.std.specs.Int.{int_min, int_max}
use Rattle.std.proofs.lemmas.Int.{ints, clamps}
use Rattle.std.proofs.lemmas.List.{drop-map, drop_all, get_or_default, take_rest}
use Rattle.overlay_geometry.specs.Points.{Pair, pair_cmp, is_ordered}
use Rattle.overlay_geometry.proofs.laws.geometry.Points.{ordered_x}
use Rattle.overlay_geometry.proofs.laws.integers.Tests.{le-test, le-tested}
use Rattle.overlay_geometry.proofs.laws.lists.Elements.{AllByRecursion-drop}
use Rattle.overlay_geometry.proofs.laws.lists.Lists.{AllByRecursion-weaker, sum_by-map}
use Rattle.overlay_base.specs.SegmentOf.{ends_of, pairs_in}
use Rattle.overlay_base.specs.declared.segm.segment.Segment.{Segment}
use Rattle.overlay_base.proofs.laws.geometry.Apart.{pairs-map, are_ordered}
use Rattle.overlay_intersections.specs.Looked.{count_twos, ranges_meet, x_ranges_meet}
use Rattle.overlay_tree.specs.steps.Swept.{pair_at}
use Rattle.overlay_tree.proofs.laws.list.ListScans.{starts_by, pair_next, ordered_at}
use Rattle.overlay_tree.proofs.laws.tree.LookCounts.{one_if, one_or_none, count_by-cons, count_by-implied}
use Rattle.overlay_tree.proofs.laws.tree.Sweeps.{pair_at-is, length-pairs, pairs_in_order}

-- ---- those that begin up to a place

-- where none from an index on passes a test, no more than the index do
few_from : {X : Type 0} (p : X → Bool) (xs : List X) (n : ℕ) → ((k : ℕ) (d : X) → n ≤ k → k < length xs → p (get_or xs k d) ≡ false) → count_by p xs ≤ n
few_from p [] n none = omega arith
few_from p (x ∷ xs) zero none =
    let first = none zero x (omega arith) (omega arith) in
    let rest = few_from p xs zero (λ k d low high. none (suc k) d (omega arith) (omega arith)) in
    let all = count_by-cons p x xs ∙ ap (λ (b : Bool). one_if b + count_by p xs) first in
    omega arith
few_from p (x ∷ xs) (suc n) none =
    let rest = few_from p xs n (λ k d low high. none (suc k) d (omega arith) (omega arith)) in
    let all = count_by-cons p x xs in
    let one = one_or_none (p x) in
    omega arith

module _ {C I D : Type 0} {m : _} {w : _} {o : _} {e : _} {p : _} (xs : List (Segment C I D m w o e p)) (sorted : IsSortedByKey ends_of pair_cmp xs) where
  -- a later one begins no further left
  begins_later : (i j : ℕ) (d : Segment C I D m w o e p) → i ≤ j → j < length xs → (ends_of (get_or xs i d)).a.x ≤ℤ (ends_of (get_or xs j d)).a.x
  begins_later i j d le lt =
      let here : i < length xs = omega arith in
      let first = pair_at-is xs i (get_or xs i d) here (get_or_default xs i d (get_or xs i d) here) in
      let second = pair_at-is xs j (get_or xs j d) lt (get_or_default xs j d (get_or xs j d) lt) in
      let starts = starts_by (pairs_in xs) i j (pairs_in_order xs sorted) le (let count = length-pairs xs in omega arith) in
      subst (λ (s : Pair). s.a.x ≤ℤ (ends_of (get_or xs j d)).a.x) first (subst (λ (t : Pair). (pair_at (pairs_in xs) i).a.x ≤ℤ t.a.x) second starts)

  -- so those that begin up to a place are no more than are before one that begins past it
  pub few_before : (end : ℤ) (n : ℕ) (x : Segment C I D m w o e p) → n < length xs → x ≡ get_or xs n x → int_le (ends_of x).a.x end ≡ false → count_by (λ s. int_le (ends_of s).a.x end) xs ≤ n
  few_before end n x lt is past = few_from (λ s. int_le (ends_of s).a.x end) xs n
      (λ k d low high. too_far _ _ (begins_later n k d low high) (ap (λ s. int_le (ends_of s).a.x end) (get_or_default xs n d x lt ∙ sym is) ∙ past))
    where
      too_far : (u v : ℤ) → u ≤ℤ v → int_le u end ≡ false → int_le v end ≡ false
      too_far u v h e = grind (arith, ints)

-- ---- those in reach

reached_begins : (s u : Pair) → IsTrue (is_ordered s) → IsTrue (is_ordered u) → x_ranges_meet s u ≡ true → int_le u.a.x s.b.x ≡ true
unfolding x_ranges_meet ranges_meet
reached_begins s u hs hu h =
    let os = ordered_x s hs in
    let ou = ordered_x u hu in
    let meet = le-tested (int_max (int_min s.a.x s.b.x) (int_min u.a.x u.b.x)) (int_min (int_max s.a.x s.b.x) (int_max u.a.x u.b.x)) h in
    le-test u.a.x s.b.x (omega (arith, ints, clamps))

-- of those after an index no more are in reach of the one there than begin up to its end
pub few_reached : {C I D : Type 0} {m : _} {w : _} {o : _} {e : _} {p : _} (xs : List (Segment C I D m w o e p)) (i : ℕ) (end : ℤ) (own : ℕ) → i < length xs → end ≡ (pair_at (pairs_in xs) i).b.x →
    count_by (λ s. int_le (ends_of s).a.x end) (take (length xs - (i + 1)) (drop (i + 1) xs)) ≤ own → count_by (x_ranges_meet (pair_at (pairs_in xs) i)) (drop (i + 1) (pairs_in xs)) ≤ own
few_reached xs i end own lt is few =
    let ps = pairs_in xs in
    let s = pair_at ps i in
    let rest = drop (i + 1) xs in
    let first = ordered_at ps i (are_ordered xs) (let count = length-pairs xs in omega arith) in
    let fewer = count_by-implied (x_ranges_meet s) (λ u. int_le u.a.x s.b.x) (drop (i + 1) ps)
    (AllByRecursion-weaker (λ u. IsTrue (is_ordered u)) (λ u. x_ranges_meet s u ≡ true → int_le u.a.x s.b.x ≡ true) (λ u hu h. reached_begins s u first hu h) (drop (i + 1) ps) (AllByRecursion-drop (λ u. IsTrue (is_ordered u)) (i + 1) ps (are_ordered xs))) in
    let same : drop (i + 1) ps ≡ map (λ u. ends_of u) rest = ap (drop (i + 1)) (pairs-map xs) ∙ drop-map (λ u. ends_of u) (i + 1) xs in
    let counted = ap (count_by (λ (u : Pair). int_le u.a.x s.b.x)) same ∙ sum_by-map (λ (u : Pair). one_if (int_le u.a.x s.b.x)) (λ u. ends_of u) rest in
    let here = rw (take_rest xs (i + 1), is) at few in
    omega arith

-- what is left of a number, where the pairs with each before an index have been taken off
pub record AreWithin (ps : List Pair) (most left j : ℕ) : Type 0 where
  pub total : count_twos x_ranges_meet ps + left ≤ most + count_twos x_ranges_meet (drop j ps)

pub AreWithin-more : (ps : List Pair) (most left own j : ℕ) → AreWithin ps most left j → j < length ps → count_by (x_ranges_meet (pair_at ps j)) (drop (j + 1) ps) ≤ own → own ≤ left → AreWithin ps most (left - own) (j + 1)
unfolding count_twos
AreWithin-more ps most left own j within lt few fits =
    let count : count_twos x_ranges_meet (drop j ps) ≡ count_by (x_ranges_meet (pair_at ps j)) (drop (j + 1) ps) + count_twos x_ranges_meet (drop (j + 1) ps) = ap (count_twos x_ranges_meet) (pair_next ps j lt) in
    record { total = one_less (count_twos x_ranges_meet ps) most left own _ _ _ within.total count few fits }
  where
    one_less : (all most left own here count rest : ℕ) → all + left ≤ most + here → here ≡ count + rest → count ≤ own → own ≤ left → all + (left - own) ≤ most + rest
    one_less all most left own here count rest h e k f = omega arith

pub AreWithin-end : (ps : List Pair) (most left j : ℕ) → AreWithin ps most left j → length ps ≤ j → count_twos x_ranges_meet ps ≤ most
unfolding count_twos
AreWithin-end ps most left j within all =
    let none : count_twos x_ranges_meet (drop j ps) ≡ 0 = ap (count_twos x_ranges_meet) (drop_all j ps all) in
    let total = within.total in
    omega arith
