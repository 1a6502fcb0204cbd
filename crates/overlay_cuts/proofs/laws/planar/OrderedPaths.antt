-- The path of a pair whose marks lie on it runs through them in order, so each piece goes from an end or mark to the next one.
use Rattle.std.proofs.Common.{◌≡◌, refl, sym, ap, ◌∙◌, ◌⊎◌, inl, inr, subst, arith, false, IsTrue, List, [], ◌∷◌, ◌++◌, append_assoc}
use Rattle.std.specs.Prelude.{ℤ, pos, ◌+ℤ◌, ◌-ℤ◌, ◌*ℤ◌, ◌<ℤ◌, int_lt, reverse}
use Rattle.std.proofs.lemmas.Int.{ints}
use Rattle.std.proofs.lemmas.Bool.{cond_both, cond-false, cond-true}
use Rattle.std.specs.List.{AllByRecursion}
use Rattle.overlay_geometry.specs.Points.{Point, Pair, point_cmp, point_lt, turn, is_end, is_strictly_inside}
use Rattle.overlay_geometry.specs.Sorting.{distinct_in_order}
use Rattle.overlay_base.specs.Windings.{Winding, inverse}
use Rattle.overlay_base.specs.Segments.{WholeSegment}
use Rattle.overlay_cuts.specs.Path.{columns_of, next_point, last_point, column_path, path_from, path, piece, pieces_along, pieces}
use Rattle.overlay_geometry.proofs.laws.lists.Lists.{Pairwise, AllByRecursion-append, AllByRecursion-weaker, AllByRecursion_left, AllByRecursion_right, AllByRecursion_cross, Pairwise_left, Pairwise_right, Pairwise-append, Has, AllByRecursion-at, AllByRecursion-from_Has, Has-append_left}
use Rattle.overlay_geometry.proofs.laws.lists.Keys.{AllByRecursion-distinct_in_order, Has-distinct_in_order}
use Rattle.overlay_geometry.proofs.laws.geometry.Points.{point_cmp_total, point_same, Before, UpTo, Before-trans, Before-irreflexive, UpTo-Before, UpTo-same, UpTo-trans, UpTo-not_Before, from_before, on_vertical, inside_order, turn_same_outer, turn_same_last}
use Rattle.overlay_geometry.proofs.laws.geometry.Polynomials.{as_D, diffs, D-eq, cancel-zero}
use Rattle.overlay_cuts.proofs.laws.paths.Paths.{all_of, AreColumns, AreColumns-columns_of, all_of-columns_of, last_point_has, Pairwise-distinct_in_order}
use Rattle.overlay_cuts.proofs.laws.planar.Meetings.{MarksAt-inside}
use Rattle.overlay_cuts.proofs.laws.planar.Parts.{IsMarked, IsUndivided}
use Rattle.overlay_cuts.proofs.laws.planar.ExactMarks.{end_a, end_b}

-- ---- points on the line of an ordered pair

abbrev pub IsOnLine : Pair → Point → Type 0
IsOnLine s p = turn s.a s.b p ≡ pos 0

turn_moved_along : (a b p q : Point) → turn a b q ≡ turn a b p +ℤ (b.x -ℤ a.x) *ℤ (q.y -ℤ p.y) -ℤ (b.y -ℤ a.y) *ℤ (q.x -ℤ p.x)
unfolding turn
turn_moved_along a b p q = rw (as_D a.x, as_D a.y, as_D b.x, as_D b.y, as_D p.x, as_D p.y, as_D q.x, as_D q.y) (simp diffs (D-eq _ _ _ _ (omega arith)))

no_rise : (c d m n t u : ℤ) → u ≡ t +ℤ c *ℤ m -ℤ d *ℤ n → t ≡ pos 0 → u ≡ pos 0 → n ≡ pos 0 → pos 0 <ℤ c → m ≡ pos 0
no_rise c d m n t u e ht hu hn hc = cancel-zero c m hc (let f = rw (ht, hn) at e in omega (arith, ints))

-- two points of the line over one another: it is vertical
vertical : (s : Pair) (p q : Point) → Before s.a s.b → IsOnLine s p → IsOnLine s q → p.x ≡ q.x → Before p q → (s.a.x ≡ s.b.x) × (s.a.y <ℤ s.b.y)
vertical s p q (inr h) hp hq e less = h
vertical s p q (inl h) hp hq e less =
    let rise = no_rise (s.b.x -ℤ s.a.x) (s.b.y -ℤ s.a.y) (q.y -ℤ p.y) (q.x -ℤ p.x) (turn s.a s.b p) (turn s.a s.b q) (turn_moved_along s.a s.b p q) hp hq (omega (arith, ints)) (omega (arith, ints)) in
    absurd (omega (arith, ints))

-- on a vertical line what comes before is lower
not_lower : (p q : Point) → p.x ≡ q.x → Before p q → int_lt q.y p.y ≡ false
not_lower p q e h = grind (arith, ints)

-- ---- the path

next_point_has : (P : Point → Type 0) (columns : List (List Point)) (b : Point) → AreColumns columns → AllByRecursion P (all_of columns ++ b ∷ []) → P (next_point columns b)
unfolding next_point
next_point_has P [] b h k = k.0
next_point_has P ([] ∷ columns) b h k = absurd h
next_point_has P ((p ∷ column) ∷ columns) b h k = k.0

column_path_in_order : (s : Pair) (before p next : Point) (column : List Point) → Before s.a s.b → IsOnLine s before → IsOnLine s next → Before before next → AllByRecursion (λ q. p.x ≡ q.x) column → AllByRecursion (Before p) column → AllByRecursion (IsOnLine s) (p ∷ column) → column_path before (p ∷ column) next ≡ p ∷ column
unfolding column_path
column_path_in_order s before p next [] o hb hn less same later on = cond_both (int_lt next.y before.y) (reverse (p ∷ [])) (p ∷ []) (λ (l : List Point). l ≡ p ∷ []) (λ _. refl) (λ _. refl)
column_path_in_order s before p next (q ∷ column) o hb hn less same later on =
    let v = vertical s p q o on.0 on.1.0 same.0 later.0 in
    let xb = on_vertical s.a s.b before v.0 v.1 hb in
    let xn = on_vertical s.a s.b next v.0 v.1 hn in
    cond-false (int_lt next.y before.y) (reverse (p ∷ q ∷ column)) (p ∷ q ∷ column) (not_lower before next (xb ∙ sym xn) less)

path_from_in_order : (s : Pair) (columns : List (List Point)) (before b : Point) → Before s.a s.b → AreColumns columns → Pairwise Before (all_of columns ++ b ∷ []) → AllByRecursion (Before before) (all_of columns ++ b ∷ []) → IsOnLine s before → AllByRecursion (IsOnLine s) (all_of columns ++ b ∷ []) →
    path_from before columns b ≡ all_of columns ++ b ∷ []
unfolding path_from
path_from_in_order s [] before b o h k l m n = refl
path_from_in_order s ([] ∷ columns) before b o h k l m n = absurd h
path_from_in_order s ((p ∷ column) ∷ columns) before b o h k l m n =
    let points = p ∷ column in
    let rest = all_of columns ++ b ∷ [] in
    let same : (points ++ all_of columns) ++ b ∷ [] ≡ points ++ rest = append_assoc points (all_of columns) (b ∷ []) in
    let k' = subst (Pairwise Before) same k in
    let l' = subst (AllByRecursion (Before before)) same l in
    let n' = subst (AllByRecursion (IsOnLine s)) same n in
    let two = Pairwise_left Before points rest k' in
    let across = AllByRecursion_cross Before points rest k' in
    let on = AllByRecursion_left (IsOnLine s) points rest n' in
    let on_rest = AllByRecursion_right (IsOnLine s) points rest n' in
    let later = AllByRecursion_right (Before before) points rest l' in
    let next = next_point columns b in
    let run = column_path_in_order s before p next column o m (next_point_has (IsOnLine s) columns b h.2 on_rest) (next_point_has (Before before) columns b h.2 later) h.0 two.0 on in
    let ih = path_from_in_order s columns (last_point before points) b o h.2 (Pairwise_right Before points rest k') (last_point_has (λ z. AllByRecursion (Before z) rest) before points later across) (last_point_has (IsOnLine s) before points m on) on_rest in
    ap (λ (l : List Point). l ++ path_from (last_point before l) columns b) run ∙ ap (λ (l : List Point). points ++ l) ih ∙ sym same

-- ---- stops: the ends and marks of a pair

pub record IsStop (In : Pair → Type 0) (s : Pair) (e : Point) : Type 0 where
  pub on_line : IsOnLine s e
  pub from_a : UpTo s.a e
  pub up_to_b : UpTo e s.b
  pub kind : IsTrue (is_end s e) ⊎ IsMarked In s e

pub mark_stop : (In : Pair → Type 0) (s : Pair) (e : Point) → Before s.a s.b → IsMarked In s e → IsStop In s e
mark_stop In s e o m =
    let i = inside_order s e o (MarksAt-inside s m.0 e m.2) in
    record { on_line = i.0; from_a = UpTo-Before s.a e i.1; up_to_b = UpTo-Before e s.b i.2; kind = inr m }

pub stop_a : (In : Pair → Type 0) (s : Pair) → Before s.a s.b → IsStop In s s.a
stop_a In s o = record { on_line = turn_same_outer s.a s.b; from_a = UpTo-same s.a; up_to_b = UpTo-Before s.a s.b o; kind = inl (end_a s) }

pub stop_b : (In : Pair → Type 0) (s : Pair) → Before s.a s.b → IsStop In s s.b
stop_b In s o = record { on_line = turn_same_last s.a s.b; from_a = UpTo-Before s.a s.b o; up_to_b = UpTo-same s.b; kind = inl (end_b s) }

pub piece_forward : (count : Winding) (p q : Point) → Before p q → piece count p q ≡ record { pair = record { a = p; b = q }; count = count }
unfolding piece
piece_forward count p q h = cond-true (point_lt p q) (record { pair = record { a = p; b = q }; count = count }) (record { pair = record { a = q; b = p }; count = inverse count }) (from_before p q h)

step_undivided : (In : Pair → Type 0) (s : Pair) (p q : Point) (xs : List Point) → Before s.a s.b → Before p q → AllByRecursion (Before q) xs → IsStop In s p → IsStop In s q → ((e : Point) → IsMarked In s e → UpTo e p ⊎ Has (q ∷ xs) e) → IsUndivided In s (record { a = p; b = q })
step_undivided In s p q xs o less later hp hq cover = record {
  part = record { whole = o; ordered = less; a_on_line = hp.on_line; b_on_line = hq.on_line; from_a = hp.from_a; up_to_b = hq.up_to_b };
  at_a = hp.kind;
  at_b = hq.kind;
  clear = λ e mark inside.
      let i = inside_order (record { a = p; b = q }) e less inside in
      not_between e i.1 i.2 (cover e mark);
}
  where
    not_between : (e : Point) → Before p e → Before e q → UpTo e p ⊎ Has (q ∷ xs) e → ⊥
    not_between e h k (inl u) = UpTo-not_Before e p u h
    not_between e h k (inr (inl same)) = Before-irreflexive e (subst (λ z. Before e z) same k)
    not_between e h k (inr (inr i)) = Before-irreflexive e (Before-trans e q e k (AllByRecursion-at (Before q) xs e later i))

-- the pieces along stops in order, among them all marks
pub pieces_along_undivided : (In : Pair → Type 0) (s : Pair) (count : Winding) (p : Point) (xs : List Point) → Before s.a s.b → Pairwise Before (p ∷ xs) → AllByRecursion (IsStop In s) (p ∷ xs) → ((e : Point) → IsMarked In s e → UpTo e p ⊎ Has xs e) → AllByRecursion (λ piece. IsUndivided In s piece.pair) (pieces_along count (p ∷ xs))
unfolding pieces_along
pieces_along_undivided In s count p [] o h k cover = tt
pieces_along_undivided In s count p (q ∷ xs) o h k cover = (
  subst (IsUndivided In s) (sym (ap (λ (u : WholeSegment). u.pair) (piece_forward count p q h.0.0))) (step_undivided In s p q xs o h.0.0 h.1.0 k.0 k.1.0 cover),
  pieces_along_undivided In s count q xs o h.1 k.1 (λ e mark. on (cover e mark)),
)
  where
    on : {e : Point} → UpTo e p ⊎ Has (q ∷ xs) e → UpTo e q ⊎ Has xs e
    on (inl u) = inl (UpTo-trans _ p q u (UpTo-Before p q h.0.0))
    on (inr (inl same)) = inl (subst (λ z. UpTo z q) same (UpTo-same q))
    on (inr (inr i)) = inr i

-- ---- a pair with marks strictly inside it

pub ends_ordered : (s : Pair) (points : List Point) → Before s.a s.b → Pairwise Before points → AllByRecursion (λ e. IsTrue (is_strictly_inside s e)) points → Pairwise Before (points ++ s.b ∷ []) × AllByRecursion (Before s.a) (points ++ s.b ∷ []) × AllByRecursion (IsOnLine s) (points ++ s.b ∷ [])
ends_ordered s points o two inside =
    let before_b = AllByRecursion-weaker (λ e. IsTrue (is_strictly_inside s e)) (λ e. AllByRecursion (Before e) (s.b ∷ [])) (λ e i. ((inside_order s e o i).2, tt)) points inside in
    let after_a = AllByRecursion-weaker (λ e. IsTrue (is_strictly_inside s e)) (Before s.a) (λ e i. (inside_order s e o i).1) points inside in
    let on = AllByRecursion-weaker (λ e. IsTrue (is_strictly_inside s e)) (IsOnLine s) (λ e i. (inside_order s e o i).0) points inside in
    (Pairwise-append Before points (s.b ∷ []) two (tt, tt) before_b, AllByRecursion-append (Before s.a) points (s.b ∷ []) after_a (o, tt), AllByRecursion-append (IsOnLine s) points (s.b ∷ []) on (turn_same_last s.a s.b, tt))

-- its path runs through the marks in order
pub path_in_order : (s : Pair) (marks : List Point) → Before s.a s.b → AllByRecursion (λ e. IsTrue (is_strictly_inside s e)) marks → path s marks ≡ s.a ∷ distinct_in_order point_cmp marks ++ s.b ∷ []
unfolding path
path_in_order s marks o inside =
    let points = distinct_in_order point_cmp marks in
    let same : all_of (columns_of marks) ≡ points = all_of-columns_of marks in
    let parts = ends_ordered s points o (Pairwise-distinct_in_order marks) (AllByRecursion-distinct_in_order point_cmp (λ e. IsTrue (is_strictly_inside s e)) marks inside) in
    let run = path_from_in_order s (columns_of marks) s.a s.b o (AreColumns-columns_of marks)
    (subst (λ (l : List Point). Pairwise Before (l ++ s.b ∷ [])) (sym same) parts.0)
    (subst (λ (l : List Point). AllByRecursion (Before s.a) (l ++ s.b ∷ [])) (sym same) parts.1)
    (turn_same_outer s.a s.b)
    (subst (λ (l : List Point). AllByRecursion (IsOnLine s) (l ++ s.b ∷ [])) (sym same) parts.2) in
    ap (λ (l : List Point). s.a ∷ l) (run ∙ ap (λ (l : List Point). l ++ s.b ∷ []) same)

-- where the marks of a list are the marks on s, its pieces go from one to the next
pub pieces_undivided : (In : Pair → Type 0) (segment : WholeSegment) (marks : List Point) → Before segment.pair.a segment.pair.b → ((e : Point) → Has marks e → IsMarked In segment.pair e) → ((e : Point) → IsMarked In segment.pair e → Has marks e) →
    AllByRecursion (λ piece. IsUndivided In segment.pair piece.pair) (pieces segment marks)
unfolding pieces
pieces_undivided In segment marks o only all =
    let s = segment.pair in
    let points = distinct_in_order point_cmp marks in
    let marked = AllByRecursion-from_Has (IsMarked In s) marks only in
    let inside = AllByRecursion-weaker (IsMarked In s) (λ e. IsTrue (is_strictly_inside s e)) (λ e m. MarksAt-inside s m.0 e m.2) marks marked in
    let parts = ends_ordered s points o (Pairwise-distinct_in_order marks) (AllByRecursion-distinct_in_order point_cmp (λ e. IsTrue (is_strictly_inside s e)) marks inside) in
    let stops = AllByRecursion-weaker (IsMarked In s) (IsStop In s) (λ e m. mark_stop In s e o m) points (AllByRecursion-distinct_in_order point_cmp (IsMarked In s) marks marked) in
    subst (λ (l : List Point). AllByRecursion (λ piece. IsUndivided In s piece.pair) (pieces_along segment.count l)) (sym (path_in_order s marks o inside))
    (pieces_along_undivided In s segment.count s.a (points ++ s.b ∷ []) o (parts.1, parts.0)
    (stop_a In s o, AllByRecursion-append (IsStop In s) points (s.b ∷ []) stops (stop_b In s o, tt))
    (λ e m. inr (Has-append_left points (s.b ∷ []) e (Has-distinct_in_order point_cmp_total point_same marks e (all e m)))))
