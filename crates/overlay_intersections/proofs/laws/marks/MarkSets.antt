-- Marks in order, each once: the marks of one segment are points in order.
use Rattle.std.proofs.Common.{◌≡◌, refl, ap, ◌∙◌, ℕ, ◌==◌, zero, suc, arith, false, List, [], ◌∷◌, map, filter, IsSortedByKey, Ordering, Less, Equal, Greater, is_lt}
use native.Mathlib.Numerals.{unary_clauses}
use Rattle.std.specs.Cmp.{IsTotalOrder}
use Rattle.std.specs.Ordering.{nat_cmp, ordering_then, ordering_reverse}
use Rattle.std.specs.List.{AllByRecursion}
use Rattle.std.specs.List.Sorted.{IsStrictlySortedBy}
use Rattle.std.proofs.lemmas.Bool.{eqb-true, eq-eqb}
use Rattle.std.proofs.lemmas.Cmp.{on_total, then_total, nat_cmp_total, tied_itself}
use Rattle.std.proofs.lemmas.List.Kept.{IsStrictlySortedBy-filter}
use Rattle.overlay_geometry.specs.Points.{Point, point_cmp}
use Rattle.overlay_geometry.proofs.laws.geometry.Points.{point_cmp_total}
use Rattle.overlay_geometry.proofs.laws.lists.Lists.{Has, AllByRecursion-from_Has, Has-map, Has-map_out, Has-filter, Has-filter_out}
use Rattle.overlay_intersections.specs.MarkOf.{Mark, mark_cmp, points_at}

pub mark_cmp_total : IsTotalOrder mark_cmp
mark_cmp_total = then_total (on_total (λ (m : Mark). m.index) nat_cmp_total) (on_total (λ (m : Mark). m.point) point_cmp_total)

-- the marks of one index are points in order
less_at : (k : ℕ) (m n : Mark) → m.index ≡ k → n.index ≡ k → mark_cmp m n ≡ Less → point_cmp m.point n.point ≡ Less
less_at k m n e f h = cond_then (nat_cmp m.index n.index) (ap (nat_cmp m.index) f ∙ ap (λ (i : ℕ). nat_cmp i k) e ∙ tied_itself nat_cmp_total k) h
  where
    cond_then : (r : Ordering) → r ≡ Equal → ordering_then r (point_cmp m.point n.point) ≡ Less → point_cmp m.point n.point ≡ Less
    cond_then Less e h = cc
    cond_then Equal e h = h
    cond_then Greater e h = cc

points_in_order : (k : ℕ) (ms : List Mark) → AllByRecursion (λ m. m.index ≡ k) ms → IsStrictlySortedBy mark_cmp ms → IsStrictlySortedBy point_cmp (map (λ m. m.point) ms)
unfolding IsStrictlySortedBy
points_in_order k [] a s = tt
points_in_order k (m ∷ ms) a s = (front ms a.1 s.0, points_in_order k ms a.1 s.1)
  where
    front : (ns : List Mark) → AllByRecursion (λ n. n.index ≡ k) ns → AllByRecursion (λ n. mark_cmp m n ≡ Less) ns → AllByRecursion (λ q. point_cmp m.point q ≡ Less) (map (λ n. n.point) ns)
    front [] b l = tt
    front (n ∷ ns) b l = (less_at k m n a.0 b.0 l.0, front ns b.1 l.1)

pub points_at_in_order : (k : ℕ) (ms : List Mark) → IsStrictlySortedBy mark_cmp ms → IsStrictlySortedBy point_cmp (points_at k ms)
points_at_in_order k ms s =
    points_in_order k (filter (λ m. m.index == k) ms)
    (AllByRecursion-from_Has (λ m. m.index ≡ k) (filter (λ m. m.index == k) ms) (λ m h. eqb-true m.index k (Has-filter_out (λ n. n.index == k) ms m h).1))
    (IsStrictlySortedBy-filter mark_cmp (λ m. m.index == k) ms s)

pub Has-points_at : (k : ℕ) (ms : List Mark) (p : Point) → Has ms (record { index = k; point = p }) → Has (points_at k ms) p
Has-points_at k ms p h = Has-map (λ m. m.point) (filter (λ m. m.index == k) ms) (record { index = k; point = p }) (Has-filter (λ m. m.index == k) ms (record { index = k; point = p }) h (eq-eqb k k refl))

pub Has-points_at_out : (k : ℕ) (ms : List Mark) (p : Point) → Has (points_at k ms) p → (m : Mark) × Has ms m × (m.index ≡ k) × (m.point ≡ p)
Has-points_at_out k ms p h =
    let r = Has-map_out (λ m. m.point) (filter (λ m. m.index == k) ms) p h in
    let i = Has-filter_out (λ m. m.index == k) ms r.0 r.1 in
    (r.0, i.0, eqb-true r.0.index k i.1, r.2)

-- indexes rise
pub indexes_rise : (ms : List Mark) → IsStrictlySortedBy mark_cmp ms → IsSortedByKey (λ m. m.index) nat_cmp ms
unfolding IsStrictlySortedBy
indexes_rise [] s k d p q = absurd (omega arith)
indexes_rise (m ∷ []) s k d p q = absurd (omega arith)
indexes_rise (m ∷ n ∷ ms) s zero d p q = by (nat_cmp m.index n.index) (nat_cmp n.index m.index) (nat_cmp_total.antisymm n.index m.index) s.0.0
  where
    by : (r t : Ordering) → t ≡ ordering_reverse r → ordering_then r (point_cmp m.point n.point) ≡ Less → is_lt t ≡ false
    by Less t e h = ap is_lt e
    by Equal t e h = ap is_lt e
    by Greater t e h = cc
indexes_rise (m ∷ n ∷ ms) s (suc k) d p q = simp unary_clauses (simp unary_clauses at (indexes_rise (n ∷ ms) s.1 k d (omega arith) (omega arith)))
