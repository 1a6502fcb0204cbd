-- Every arrangement of a run lies inside the grid that is laid over the first.
use Rattle.std.proofs.Common.{◌≡◌, refl, ⊎_elim, arith, ℕ, zero, suc, ◌*◌, ◌^◌, ◌/◌, ◌<◌, ◌≤◌, List, [], ◌∷◌, length, ◌&&◌, IsTrue}
use Rattle.std.specs.Prelude.{Option, Some, None, int_le, All, IsSortedByKey}
use Rattle.std.specs.List.{list_all, AllByRecursion}
use Rattle.std.proofs.lemmas.Bool.{cases_lt}
use Rattle.overlay_geometry.specs.Points.{Point, Pair, pair_cmp, is_ordered, is_within_box_of}
use Rattle.overlay_geometry.specs.Sorting.{is_strictly_sorted}
use Rattle.overlay_base.specs.Windings.{is_not_empty}
use Rattle.overlay_base.specs.Segments.{WholeSegment, pairs, ends, is_map, are_ordered}
use Rattle.overlay_base.specs.SegmentOf.{ends_of, segments_of}
use Rattle.overlay_base.specs.declared.segm.segment.Segment.{Segment}
use Rattle.overlay_base.specs.Join.{join}
use Rattle.overlay_base.specs.declared.overlay_core.solver.Strategy.{Strategy}
use Rattle.overlay_base.proofs.laws.joins.Maps.{is_map-join}
use Rattle.overlay_grid.specs.Grid.{Layout, IsLog2, IsLayoutOf, IsInside, LieInside}
use Rattle.overlay_cuts.specs.Run.{Settings, after_passes}
use Rattle.overlay_grid.specs.GridFor.{IsGridFor}
use Rattle.overlay_cuts.proofs.laws.paths.Boxes.{stays_in_box}
use Rattle.overlay_intersections.proofs.laws.marks.MarkBoxes.{both, join_tests}
use Rattle.overlay_grid.proofs.laws.grid.GridLayout.{is_over_grid, ends_over_grid, inside_their_grid, is_between_x-from_box}
use Rattle.overlay_grid.proofs.laws.grid.GridInside.{each_lies_inside}
use Rattle.overlay_tree.proofs.laws.tree.Sweeps.{pairs_in_order}
use Rattle.overlay_geometry.proofs.laws.integers.Tests.{le-tested}

-- ---- logarithms

same_log : (n p : ℕ) → p ≤ n → suc n < 2 * p → (p ≤ suc n) × (suc n < 2 * p)
same_log n p h k = (omega (arith, h), k)

next_log : (n p q : ℕ) → q ≡ 2 * p → p ≤ n → n < 2 * p → 2 * p ≤ suc n → (q ≤ suc n) × (suc n < 2 * q)
next_log n p q e h k l = (omega (arith, e, l), omega (arith, e, h, k))

pub has_log : (n : ℕ) → 0 < n → (k : ℕ) × IsLog2 n k
has_log zero h = absurd (omega arith)
has_log (suc zero) h = (0, record { reached = omega arith; not_passed = omega arith })
has_log (suc (suc n)) h =
    let before = has_log (suc n) (omega arith) in
    ⊎_elim (λ (l : suc (suc n) < 2 * 2 ^ before.0). (let r = same_log (suc n) (2 ^ before.0) before.1.reached l in (before.0, record { reached = r.0; not_passed = r.1 })))
    (λ (l : 2 * 2 ^ before.0 ≤ suc (suc n)). (let r = next_log (suc n) (2 ^ before.0) (2 ^ suc before.0) (doubled before.0) before.1.reached before.1.not_passed l in (suc before.0, record { reached = r.0; not_passed = r.1 })))
    (cases_lt (suc (suc n)) (2 * 2 ^ before.0))
  where
    doubled : (k : ℕ) → 2 ^ suc k ≡ 2 * 2 ^ k
    doubled k = omega arith

-- ---- the first arrangement

ordered_pairs : (segments : List WholeSegment) → IsTrue (list_all (λ s. is_ordered s.pair && is_not_empty s.count) segments) → IsTrue (list_all (λ s. is_ordered s) (pairs segments))
ordered_pairs [] h = refl
ordered_pairs (s ∷ segments) h =
    let (here, rest) = both (is_ordered s.pair && is_not_empty s.count) (list_all (λ t. is_ordered t.pair && is_not_empty t.count) segments) h in
    join_tests (is_ordered s.pair) (list_all (λ t. is_ordered t) (pairs segments)) (both (is_ordered s.pair) (is_not_empty s.count) here).0 (ordered_pairs segments rest)

first_over_grid : (l : Layout) (segments : List WholeSegment) → IsTrue (is_map segments) → IsLayoutOf (pairs segments) (length segments) l → IsTrue (list_all (λ p. is_over_grid l p) (ends (pairs segments)))
unfolding is_map
first_over_grid l [] map h = absurd h
first_over_grid l (s ∷ segments) map h =
    let (sorted, ordered) = both (is_strictly_sorted pair_cmp (pairs (s ∷ segments))) (list_all (λ t. is_ordered t.pair && is_not_empty t.count) (s ∷ segments)) map in
    let log = has_log (length (s ∷ segments)) (omega arith) in
    ends_over_grid s.pair (pairs segments) (log.0 / 2) l (ordered_pairs (s ∷ segments) ordered) sorted (h log.0 log.1)

-- a grid that is laid over a sorted list holds it, for whatever number of segments
pub lies_inside_its_grid : {C I D : Type 0} {m : _} {w : _} {o : _} {e : _} {p : _} (xs : List (Segment C I D m w o e p)) (count : ℕ) (l : Layout) → IsSortedByKey ends_of pair_cmp xs → 0 < length xs → 0 < count → IsLayoutOf (pairs (segments_of xs)) count l → All (λ (x : Segment C I D m w o e p). IsInside l (ends_of x)) xs
lies_inside_its_grid [] count l sorted some more h = absurd (omega arith)
lies_inside_its_grid (x ∷ xs) count l sorted some more h =
    let log = has_log count more in
    each_lies_inside (x ∷ xs) l (inside_their_grid (ends_of x) (pairs (segments_of xs)) (log.0 / 2) l (pairs_in_order (x ∷ xs) sorted) (h log.0 log.1))

-- ---- later ones

inside_box : (l : Layout) (points : List Point) (ps : List Pair) → IsTrue (list_all (λ p. is_over_grid l p) points) → IsTrue (list_all (λ p. is_within_box_of points p) (ends ps)) → AllByRecursion (λ s. IsInside l s) ps
inside_box l points [] over h = tt
inside_box l points (s ∷ ps) over h =
    let (a, h') = both (is_within_box_of points s.a) (is_within_box_of points s.b && list_all (λ p. is_within_box_of points p) (ends ps)) h in
    let (b, h'') = both (is_within_box_of points s.b) (list_all (λ p. is_within_box_of points p) (ends ps)) h' in
    let start = is_between_x-from_box l.min_x l.max_x points s.a over a in
    let end = is_between_x-from_box l.min_x l.max_x points s.b over b in
    (record { from = le-tested _ _ (both (int_le l.min_x s.a.x) (int_le s.a.x l.max_x) start).0; to = le-tested _ _ (both (int_le l.min_x s.b.x) (int_le s.b.x l.max_x) end).1 }, inside_box l points ps over h'')

pub run_lies_inside : (strategy : Strategy) (settings : Settings) (given now : List WholeSegment) (grid : Option Layout) (k : ℕ) → IsTrue (are_ordered given) → IsGridFor strategy (join given) grid → now ≡ after_passes settings given k →
    LieInside grid (pairs now)
run_lies_inside strategy settings given now None k o h e = tt
run_lies_inside strategy settings given now (Some l) k o h e =
    let over = first_over_grid l (join given) (is_map-join given o) h.1 in
    rw e (inside_box l (ends (pairs (join given))) (pairs (after_passes settings given k)) over (stays_in_box settings given k))
