-- The columns of a path, and that no piece of a path has equal ends.
use Rattle.std.proofs.Common.{◌≡◌, refl, sym, ap, subst, ◌∙◌, inl, inr, arith, List, [], ◌∷◌, ◌++◌, append_assoc}
use Rattle.std.specs.Prelude.{◌<ℤ◌, reverse, IsTrue, IsFalse, int_lt}
use Rattle.std.specs.declared.cmp.Ordering.TheVariants.{Less}
use Rattle.std.specs.Ordering.{int_eq, is_lt}
use Rattle.std.specs.List.Sorted.{IsStrictlySortedBy}
use Rattle.std.proofs.lemmas.Int.{ints}
use Rattle.std.proofs.lemmas.Bool.{cond_both, and_from}
use Rattle.std.proofs.lemmas.Bool.Decides.{Decides-int_eq}
use Rattle.std.specs.List.{AllByRecursion}
use Rattle.overlay_geometry.specs.Points.{Point, Pair, point_cmp, point_lt, is_ordered}
use Rattle.overlay_geometry.specs.Sorting.{distinct_in_order}
use Rattle.overlay_base.specs.Windings.{Winding}
use Rattle.overlay_base.specs.Segments.{WholeSegment, are_ordered}
use Rattle.overlay_intersections.proofs.laws.marks.Marks.{Differ}
use Rattle.overlay_cuts.specs.Path.{onto_columns, columns_in_order, columns_of, next_point, last_point, column_path, path_from, path, piece, pieces_along, pieces}
use Rattle.overlay_geometry.proofs.laws.geometry.Points.{Before, before, from_before, not_before, by_UpTo, point_cmp_total, Before-irreflexive}
use Rattle.overlay_geometry.proofs.laws.lists.Lists.{Pairwise, Steps, AllByRecursion-weaker, AllByRecursion-append, AllByRecursion_left, AllByRecursion_right, AllByRecursion-reverse, AllByRecursion_cross, Pairwise_left, Pairwise_right, Pairwise-append, Pairwise-weaker, Pairwise-reverse, Steps-from_Pairwise}
use Rattle.overlay_geometry.proofs.laws.lists.Keys.{IsStrictlySortedBy-distinct, AllByRecursion-distinct_in_order}

-- ---- the distinct keys in order

Pairwise-from_sorted : (points : List Point) → IsStrictlySortedBy point_cmp points → Pairwise Before points
unfolding IsStrictlySortedBy
Pairwise-from_sorted [] h = tt
Pairwise-from_sorted (p ∷ points) h = (AllByRecursion-weaker (λ q. point_cmp p q ≡ Less) (Before p) (λ q e. before p q (ap is_lt e)) points h.0, Pairwise-from_sorted points h.1)

-- the distinct points of a list are in order
pub Pairwise-distinct_in_order : (points : List Point) → Pairwise Before (distinct_in_order point_cmp points)
Pairwise-distinct_in_order points = Pairwise-from_sorted _ (IsStrictlySortedBy-distinct point_cmp_total points)

-- ---- columns

-- the points of all columns
abbrev pub all_of : List (List Point) → List Point
all_of [] = []
all_of (column ∷ columns) = column ++ all_of columns

-- points of one x to a column, columns by rising x
abbrev pub AreColumns : List (List Point) → Type 0
AreColumns [] = Unit {0}
AreColumns ([] ∷ columns) = ⊥
AreColumns ((p ∷ column) ∷ columns) = AllByRecursion (λ q. p.x ≡ q.x) column × AllByRecursion (λ q. p.x <ℤ q.x) (all_of columns) × AreColumns columns

all_of-onto_columns : (p : Point) (columns : List (List Point)) → all_of (onto_columns p columns) ≡ p ∷ all_of columns
unfolding onto_columns
all_of-onto_columns p [] = refl
all_of-onto_columns p ([] ∷ columns) = refl
all_of-onto_columns p ((q ∷ column) ∷ columns) =
    cond_both (int_eq p.x q.x) _ _ (λ (cs : List (List Point)). all_of cs ≡ p ∷ all_of ((q ∷ column) ∷ columns)) (λ e. refl) (λ e. refl)

pub all_of-columns_in_order : (points : List Point) → all_of (columns_in_order points) ≡ points
unfolding columns_in_order
all_of-columns_in_order [] = refl
all_of-columns_in_order (p ∷ points) = all_of-onto_columns p (columns_in_order points) ∙ ap (λ (ps : List Point). p ∷ ps) (all_of-columns_in_order points)

same_x : (p q : Point) → IsTrue (int_eq p.x q.x) → p.x ≡ q.x
same_x p q e = (Decides-int_eq p.x q.x).0 e

less_x : (p q : Point) → IsFalse (int_eq p.x q.x) → Before p q → p.x <ℤ q.x
less_x p q e (inl h) = h
less_x p q e (inr h) = absurd (let t = (Decides-int_eq p.x q.x).1 h.0 in cc)

AreColumns-onto_columns : (p : Point) (columns : List (List Point)) → AllByRecursion (Before p) (all_of columns) → AreColumns columns → AreColumns (onto_columns p columns)
unfolding onto_columns
AreColumns-onto_columns p [] h k = (tt, tt, tt)
AreColumns-onto_columns p ([] ∷ columns) h k = absurd k
AreColumns-onto_columns p ((q ∷ column) ∷ columns) h k =
    cond_both (int_eq p.x q.x) _ _ AreColumns
    (λ e. let s = same_x p q e in (
      (s, AllByRecursion-weaker (λ z. q.x ≡ z.x) (λ z. p.x ≡ z.x) (λ z f. s ∙ f) column k.0),
      AllByRecursion-weaker (λ z. q.x <ℤ z.x) (λ z. p.x <ℤ z.x) (λ z f. omega (arith, ints)) (all_of columns) k.1,
      k.2,
    ))
    (λ e. let s = less_x p q e h.0 in (
      tt,
      (
        s,
        AllByRecursion-append (λ z. p.x <ℤ z.x) column (all_of columns)
            (AllByRecursion-weaker (λ z. q.x ≡ z.x) (λ z. p.x <ℤ z.x) (λ z f. omega (arith, ints)) column k.0)
            (AllByRecursion-weaker (λ z. q.x <ℤ z.x) (λ z. p.x <ℤ z.x) (λ z f. omega (arith, ints)) (all_of columns) k.1),
      ),
      k,
    ))

pub AreColumns-columns_in_order : (points : List Point) → Pairwise Before points → AreColumns (columns_in_order points)
unfolding columns_in_order
AreColumns-columns_in_order [] h = tt
AreColumns-columns_in_order (p ∷ points) h =
    AreColumns-onto_columns p (columns_in_order points)
    (subst (AllByRecursion (Before p)) (sym (all_of-columns_in_order points)) h.0)
    (AreColumns-columns_in_order points h.1)

pub AreColumns-columns_of : (marks : List Point) → AreColumns (columns_of marks)
unfolding columns_of
AreColumns-columns_of marks = AreColumns-columns_in_order (distinct_in_order point_cmp marks) (Pairwise-distinct_in_order marks)

pub all_of-columns_of : (marks : List Point) → all_of (columns_of marks) ≡ distinct_in_order point_cmp marks
unfolding columns_of
all_of-columns_of marks = all_of-columns_in_order (distinct_in_order point_cmp marks)

-- ---- steps of a path

pub Steps-append : (R : Point → Point → Type 0) (p : Point) (xs ys : List Point) → Steps R p xs → Steps R (last_point p xs) ys → Steps R p (xs ++ ys)
unfolding last_point
Steps-append R p [] ys h k = k
Steps-append R p (x ∷ xs) ys h k = (h.0, Steps-append R x xs ys h.1 k)

pub last_point_has : (P : Point → Type 0) (p : Point) (points : List Point) → P p → AllByRecursion P points → P (last_point p points)
unfolding last_point
last_point_has P p [] h k = h
last_point_has P p (q ∷ points) h k = last_point_has P q points k.0 k.1

pub column_path_has : (P : List Point → Type 0) (before : Point) (column : List Point) (next : Point) → P column → P (reverse column) → P (column_path before column next)
unfolding column_path
column_path_has P before column next h k = cond_both (int_lt next.y before.y) (reverse column) column P (λ e. k) (λ e. h)

-- where points before and in a path all differ, so do the ends of each step
steps_differ : (columns : List (List Point)) (p b : Point) → AllByRecursion (Differ p) (all_of columns ++ b ∷ []) → Pairwise Differ (all_of columns ++ b ∷ []) → Steps Differ p (path_from p columns b)
unfolding path_from
steps_differ [] p b h k = (h.0, tt)
steps_differ (column ∷ columns) p b h k =
    let rest = all_of columns ++ b ∷ [] in
    let same : (column ++ all_of columns) ++ b ∷ [] ≡ column ++ rest = append_assoc column (all_of columns) (b ∷ []) in
    let h' = subst (AllByRecursion (Differ p)) same h in
    let k' = subst (Pairwise Differ) same k in
    let each = AllByRecursion_left (Differ p) column rest h' in
    let two = Pairwise_left Differ column rest k' in
    let across = AllByRecursion_cross Differ column rest k' in
    let next = next_point columns b in
    Steps-append Differ p (column_path p column next) (path_from (last_point p (column_path p column next)) columns b)
    (column_path_has (Steps Differ p) p column next
    (Steps-from_Pairwise Differ p column each two)
    (Steps-from_Pairwise Differ p (reverse column) (AllByRecursion-reverse (Differ p) column each) (Pairwise-reverse Differ Differ (λ x y f e. f (sym e)) column two)))
    (steps_differ columns (last_point p (column_path p column next)) b
    (last_point_has (λ z. AllByRecursion (Differ z) rest) p (column_path p column next) (AllByRecursion_right (Differ p) column rest h')
    (column_path_has (AllByRecursion (λ z. AllByRecursion (Differ z) rest)) p column next across (AllByRecursion-reverse (λ z. AllByRecursion (Differ z) rest) column across)))
    (Pairwise_right Differ column rest k'))

Differ-from_Before : (p q : Point) → Before p q → Differ p q
Differ-from_Before p q h e = Before-irreflexive q (subst (λ (z : Point). Before z q) e h)

-- no step of the path of a pair has equal ends, where no mark is an end
pub steps_of_path : (pair : Pair) (marks : List Point) → Differ pair.a pair.b → AllByRecursion (λ m. Differ m pair.a × Differ m pair.b) marks → Steps Differ pair.a (path_from pair.a (columns_of marks) pair.b)
steps_of_path pair marks ends free =
    let points = distinct_in_order point_cmp marks in
    let e : all_of (columns_of marks) ≡ points = all_of-columns_of marks in
    let each = AllByRecursion-distinct_in_order point_cmp (λ m. Differ m pair.a × Differ m pair.b) marks free in
    steps_differ (columns_of marks) pair.a pair.b
    (subst (λ (ps : List Point). AllByRecursion (Differ pair.a) (ps ++ pair.b ∷ [])) (sym e)
    (AllByRecursion-append (Differ pair.a) points (pair.b ∷ []) (AllByRecursion-weaker (λ m. Differ m pair.a × Differ m pair.b) (Differ pair.a) (λ m h f. h.0 (sym f)) points each) (ends, tt)))
    (subst (λ (ps : List Point). Pairwise Differ (ps ++ pair.b ∷ [])) (sym e)
    (Pairwise-append Differ points (pair.b ∷ []) (Pairwise-weaker Before Differ Differ-from_Before points (Pairwise-distinct_in_order marks)) (tt, tt)
    (AllByRecursion-weaker (λ m. Differ m pair.a × Differ m pair.b) (λ m. AllByRecursion (Differ m) (pair.b ∷ [])) (λ m h. (h.1, tt)) points each)))

-- ---- pieces are ordered

piece_ordered : (count : Winding) (p q : Point) → Differ p q → IsTrue (is_ordered (piece count p q).pair)
unfolding piece
piece_ordered count p q d =
    cond_both (point_lt p q) _ _ (λ (s : WholeSegment). IsTrue (is_ordered s.pair)) (λ e. e)
    (λ e. from_before q p (by_UpTo q p (not_before p q e) (λ b. b) (λ f. absurd (d (sym f)))))

pieces_along_ordered : (count : Winding) (p : Point) (points : List Point) → Steps Differ p points → IsTrue (are_ordered (pieces_along count (p ∷ points)))
unfolding pieces_along
pieces_along_ordered count p [] h = refl
pieces_along_ordered count p (q ∷ points) h = and_from _ _ (piece_ordered count p q h.0) (pieces_along_ordered count q points h.1)

-- the pieces of a segment are ordered, where its ends differ and no mark is an end
pub are_ordered-pieces : (segment : WholeSegment) (marks : List Point) → Differ segment.pair.a segment.pair.b → AllByRecursion (λ m. Differ m segment.pair.a × Differ m segment.pair.b) marks → IsTrue (are_ordered (pieces segment marks))
unfolding pieces path
are_ordered-pieces segment marks ends free = pieces_along_ordered segment.count segment.pair.a (path_from segment.pair.a (columns_of marks) segment.pair.b) (steps_of_path segment.pair marks ends free)
