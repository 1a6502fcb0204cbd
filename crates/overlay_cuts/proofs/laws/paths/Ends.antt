-- The ends of a path differ, and points in strict order are sorted.
use Rattle.std.proofs.Common.{◌≡◌, refl, sym, ap, subst, ◌∙◌, ℕ, ◌+◌, ◌<◌, ◌≤◌, List, [], ◌∷◌, ◌++◌}
use Rattle.std.specs.Prelude.{◌≤ℤ◌, ◌<ℤ◌, IsTrue, flat_map}
use Rattle.std.specs.List.{AllByRecursion}
use Rattle.std.specs.BTreeSet.{insert_key}
use Rattle.std.specs.declared.cmp.Ordering.{Ordering}
use Rattle.std.specs.declared.cmp.Ordering.TheVariants.{Less}
use Rattle.std.specs.List.Sorted.{IsStrictlySortedBy}
use Rattle.overlay_geometry.specs.Points.{Point, Pair, point_cmp, is_ordered}
use Rattle.overlay_geometry.specs.Sorting.{distinct_in_order}
use Rattle.overlay_base.specs.Segments.{WholeSegment, pairs}
use Rattle.overlay_intersections.specs.Marks.{Placing, marks_by}
use Rattle.overlay_cuts.specs.Path.{columns_of, path_from}
use Rattle.overlay_intersections.specs.PassMarks.{marks_on}
use Rattle.overlay_geometry.proofs.laws.geometry.Points.{Before, before, Before-irreflexive, point_cmp_total}
use Rattle.overlay_geometry.proofs.laws.lists.Lists.{Pairwise, Steps, AllByRecursion-weaker, AllByRecursion-append, Pairwise-append, Pairwise-weaker, Pairwise-both, Pairwise-from_AllByRecursion}
use Rattle.overlay_geometry.proofs.laws.lists.Keys.{AllByRecursion-distinct_in_order, IsStrictlySortedBy-distinct}
use Rattle.overlay_cuts.proofs.laws.paths.Paths.{all_of, AreColumns-columns_of, all_of-columns_of, Pairwise-distinct_in_order}
use Rattle.overlay_intersections.proofs.laws.marks.Marks.{Differ, IsRoundedPoint}
use Rattle.overlay_cuts.proofs.laws.paths.Monotone.{Rises, Falls, Descends, rises_from_start, rises_to_end, falls_from_start, falls_to_end, rises_in_order, falls_in_order, path_rises, path_falls}

-- ---- the path of a pair through rounded points runs in one direction

pub runs_up : (s : Pair) (marks : List Point) → s.a.x ≤ℤ s.b.x → s.a.y ≤ℤ s.b.y → AllByRecursion (IsRoundedPoint s) marks → Steps Rises s.a (path_from s.a (columns_of marks) s.b)
runs_up s marks h k rounded =
    let points = distinct_in_order point_cmp marks in
    let e : all_of (columns_of marks) ≡ points = all_of-columns_of marks in
    let each = AllByRecursion-distinct_in_order point_cmp (IsRoundedPoint s) marks rounded in
    path_rises (columns_of marks) s.a s.b
    (subst (λ (ps : List Point). AllByRecursion (Rises s.a) (ps ++ s.b ∷ [])) (sym e)
    (AllByRecursion-append (Rises s.a) points (s.b ∷ []) (AllByRecursion-weaker (IsRoundedPoint s) (Rises s.a) (λ m i. rises_from_start s m h k i) points each) ((h, k), tt)))
    (subst (λ (ps : List Point). Pairwise Rises (ps ++ s.b ∷ [])) (sym e)
    (Pairwise-append Rises points (s.b ∷ [])
    (Pairwise-weaker (λ p q. Before p q × (Before p q → Rises p q)) Rises (λ p q d. d.1 d.0) points
    (Pairwise-both Before (λ p q. Before p q → Rises p q) points (Pairwise-distinct_in_order marks) (Pairwise-from_AllByRecursion (IsRoundedPoint s) (λ p q. Before p q → Rises p q) (λ p q i j b. rises_in_order s p q h k i j b) points each)))
    (tt, tt) (AllByRecursion-weaker (IsRoundedPoint s) (λ m. AllByRecursion (Rises m) (s.b ∷ [])) (λ m i. (rises_to_end s m h k i, tt)) points each)))

pub runs_down : (s : Pair) (marks : List Point) → s.a.x ≤ℤ s.b.x → s.b.y ≤ℤ s.a.y → AllByRecursion (IsRoundedPoint s) marks → Steps Falls s.a (path_from s.a (columns_of marks) s.b)
runs_down s marks h k rounded =
    let points = distinct_in_order point_cmp marks in
    let e : all_of (columns_of marks) ≡ points = all_of-columns_of marks in
    let each = AllByRecursion-distinct_in_order point_cmp (IsRoundedPoint s) marks rounded in
    path_falls (columns_of marks) s.a s.b (AreColumns-columns_of marks)
    (subst (λ (ps : List Point). AllByRecursion (Falls s.a) (ps ++ s.b ∷ [])) (sym e)
    (AllByRecursion-append (Falls s.a) points (s.b ∷ []) (AllByRecursion-weaker (IsRoundedPoint s) (Falls s.a) (λ m i. falls_from_start s m h k i) points each) ((h, k), tt)))
    (subst (Pairwise Descends) (sym e)
    (Pairwise-both Before (λ p q. p.x <ℤ q.x → q.y ≤ℤ p.y) points (Pairwise-distinct_in_order marks) (Pairwise-from_AllByRecursion (IsRoundedPoint s) (λ p q. p.x <ℤ q.x → q.y ≤ℤ p.y) (λ p q i j l. falls_in_order s p q h k i j l) points each)))
    (subst (AllByRecursion (λ z. Falls z s.b)) (sym e) (AllByRecursion-weaker (IsRoundedPoint s) (λ z. Falls z s.b) (λ m i. falls_to_end s m h k i) points each))

pub ends_differ : (s : Pair) → IsTrue (is_ordered s) → Differ s.a s.b
ends_differ s o e = Before-irreflexive s.b (subst (λ (z : Point). Before z s.b) e (before s.a s.b o))

-- ---- points in order are left as they are

insert_key_first : {K : Type 0} (cmp : K → K → Ordering) (k : K) (ks : List K) → AllByRecursion (λ j. cmp k j ≡ Less) ks → insert_key cmp ks k ≡ k ∷ ks
insert_key_first cmp k [] h = refl
insert_key_first cmp k (j ∷ ks) h = rw h.0 refl

pub distinct_in_order-sorted : {K : Type 0} (cmp : K → K → Ordering) (ks : List K) → IsStrictlySortedBy cmp ks → distinct_in_order cmp ks ≡ ks
unfolding distinct_in_order IsStrictlySortedBy
distinct_in_order-sorted cmp [] h = refl
distinct_in_order-sorted cmp (k ∷ ks) h = ap (λ (js : List _). insert_key cmp js k) (distinct_in_order-sorted cmp ks h.1) ∙ insert_key_first cmp k ks h.0

pub marks_on_rise : (placing : Placing) (segments : List WholeSegment) (s : Pair) → IsStrictlySortedBy point_cmp (marks_on placing segments s)
unfolding marks_on
marks_on_rise placing segments s = IsStrictlySortedBy-distinct point_cmp_total (flat_map (λ t. marks_by placing s t) (pairs segments))
