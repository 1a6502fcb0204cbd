-- The path of a segment through the points at which it is cut is its chain, and there is no other chain.
use Rattle.std.proofs.Common.{◌≡◌, ◌∙◌, refl, sym, ap, ap₂, subst, arith, ◌⊎◌, ⊎_elim, inl, inr, true, false, IsTrue, IsFalse, List, [], ◌∷◌}
use Rattle.std.specs.Prelude.{ℤ, ℕ, pos, ◌+ℤ◌, ◌-ℤ◌, ◌*ℤ◌, ◌≤ℤ◌, ◌<ℤ◌, neg_ℤ, Contains, reverse, int_lt}
use Rattle.std.specs.List.{AllByRecursion}
use Rattle.std.proofs.lemmas.Int.{ints, by_lt_z}
use Rattle.std.proofs.lemmas.List.{reverse-reverse}
use Rattle.std.proofs.lemmas.Bool.{cases_Bool, and_parts, and_from}
use Rattle.overlay_geometry.specs.Points.{Point, Pair, step, turn, is_in_box, point_cmp, is_ordered, is_end, lies_on}
use Rattle.overlay_geometry.specs.Sorting.{distinct_in_order, is_strictly_sorted}
use Rattle.overlay_geometry.proofs.laws.geometry.Points.{Before, before, not_end, lies_on_parts, ordered_x, point_cmp_total, point_same, Before-irreflexive, lies_on_from_order, turn_same_outer, turn_same_last, UpTo-same, UpTo-Before, from_before}
use Rattle.overlay_geometry.proofs.laws.integers.Tests.{lt-test, lt-test_false, le_weak}
use Rattle.overlay_geometry.proofs.laws.integers.Products.{times_comm}
use Rattle.overlay_geometry.proofs.laws.lists.Lists.{Has, Steps, AllByRecursion-at, AllByRecursion-from_Has, AllByRecursion-reverse, Has-append_left, Has-append_right, Has-flat_map}
use Rattle.overlay_geometry.proofs.laws.lists.Elements.{Contains-from_Has, Has-from_Contains, Has-append_out}
use Rattle.overlay_geometry.proofs.laws.lists.Keys.{AllByRecursion-distinct_in_order, Has-distinct_in_order}
use Rattle.overlay_base.specs.Segments.{pairs, ends}
use Rattle.overlay_base.specs.Join.{join}
use Rattle.overlay_intersections.proofs.laws.crossings.AnswerMarks.{end_cases}
use Rattle.overlay_intersections.proofs.laws.marks.Marks.{Differ, IsRoundedPoint, rounded_on_pair}
use Rattle.overlay_cuts.specs.Path.{columns_of, next_point, last_point, column_path, path_from, path}
use Rattle.overlay_cuts.proofs.laws.paths.Paths.{all_of, all_of-columns_of, column_path_has, steps_of_path}
use Rattle.overlay_cuts.proofs.laws.paths.Monotone.{Rises, Falls}
use Rattle.overlay_cuts.proofs.laws.paths.Ends.{runs_up, runs_down}
use Rattle.overlay_snapping.specs.Pixels.{MeetsPixel, is_narrow, meets_pixel}
use Rattle.overlay_snapping.specs.Chains.{whole_crossings, given_points, Moves, IsChainPoint, IsCutAt, moving, staying, along_cmp, comes_before, IsChain, AreChains, chain_pieces}
use Rattle.overlay_snapping.specs.Laws.{PathIsChain, SnappedIsOne}
use Rattle.overlay_snapping.proofs.laws.pixels.Inequality.{inequality_is_meant, meets_pixel-to}
use Rattle.overlay_snapping.proofs.laws.chains.MarkPixels.{met}
use Rattle.overlay_snapping.proofs.laws.chains.Orders.{same_chain}

-- ---- points of a segment, rounded

rounded_low : (t z : ℤ) (w : ℕ) → neg_ℤ (pos w) ≤ℤ (pos 2 *ℤ (t -ℤ z *ℤ pos w)) → (pos 2 *ℤ (pos w *ℤ z)) ≤ℤ (pos 2 *ℤ t +ℤ pos w)
rounded_low t z w h = plain t (z *ℤ pos w) (pos w *ℤ z) w (times_comm z (pos w)) h
  where
    plain : (t x y : ℤ) (w : ℕ) → x ≡ y → neg_ℤ (pos w) ≤ℤ (pos 2 *ℤ (t -ℤ x)) → (pos 2 *ℤ y) ≤ℤ (pos 2 *ℤ t +ℤ pos w)
    plain t x y w e h = omega (arith, ints, e, h)

rounded_high : (t z : ℤ) (w : ℕ) → (pos 2 *ℤ (t -ℤ z *ℤ pos w)) <ℤ pos w → (pos 2 *ℤ t) <ℤ (pos 2 *ℤ (pos w *ℤ z) +ℤ pos w)
rounded_high t z w h = plain t (z *ℤ pos w) (pos w *ℤ z) w (times_comm z (pos w)) h
  where
    plain : (t x y : ℤ) (w : ℕ) → x ≡ y → (pos 2 *ℤ (t -ℤ x)) <ℤ pos w → (pos 2 *ℤ t) <ℤ (pos 2 *ℤ y +ℤ pos w)
    plain t x y w e h = omega (arith, ints, e, h)

rounded_where_met : (s : Pair) (c : Point) → IsTrue (is_ordered s) → IsTrue (meets_pixel s c) → IsRoundedPoint s c
rounded_where_met s c o h =
    let m = meets_pixel-to s c o h in
    record {
      part = pos m.0.part;
      whole = m.0.whole;
      is_part = record { some = m.0.positive; low = omega (arith, ints); high = let l = m.0.at_most_one in omega (arith, ints, l) };
      at_x = record { low = rounded_low _ c.x m.0.whole m.1.from_left; high = rounded_high _ c.x m.0.whole m.1.to_right };
      at_y = record { low = rounded_low _ c.y m.0.whole m.1.from_below; high = rounded_high _ c.y m.0.whole m.1.to_top };
    }

rounded_cut : (segments : List Pair) (s : Pair) (c : Point) → IsTrue (is_ordered s) → IsCutAt segments s c → IsRoundedPoint s c
rounded_cut segments s c o (moving m p h) = rounded_where_met s c o h
rounded_cut segments s c o (staying n p h) = rounded_on_pair s c o h

-- ---- the order of the path

-- steps along s, none of which stays, are in its order
steps_rise : (s : Pair) (p : Point) (points : List Point) → int_lt s.b.y s.a.y ≡ false → Steps Rises p points → Steps Differ p points → IsTrue (is_strictly_sorted (along_cmp s) (p ∷ points))
unfolding is_strictly_sorted
steps_rise s p [] up h d = refl
steps_rise s p (q ∷ points) up h d = and_from (comes_before s p q) _ (one p q h.0 d.0) (steps_rise s q points up h.1 d.1)
  where
    strict : (p q : Point) → Rises p q → Differ p q → Before p q
    strict p q r n =
        by_lt_z p.x q.x (λ (l : p.x <ℤ q.x). inl l) (λ (k : q.x ≤ℤ p.x).
        by_lt_z p.y q.y (λ (l : p.y <ℤ q.y). inr (same p.x q.x r.0 k, l)) (λ (l : q.y ≤ℤ p.y). absurd (n (λ i. record { x = same p.x q.x r.0 k i; y = same p.y q.y r.1 l i }))))
      where
        same : (u v : ℤ) → u ≤ℤ v → v ≤ℤ u → u ≡ v
        same u v h k = omega (arith, ints, h, k)

    one : (p q : Point) → Rises p q → Differ p q → comes_before s p q ≡ true
    one p q r n = rw up (from_before p q (strict p q r n))

steps_fall : (s : Pair) (p : Point) (points : List Point) → int_lt s.b.y s.a.y ≡ true → Steps Falls p points → Steps Differ p points → IsTrue (is_strictly_sorted (along_cmp s) (p ∷ points))
unfolding is_strictly_sorted
steps_fall s p [] down h d = refl
steps_fall s p (q ∷ points) down h d = and_from (comes_before s p q) _ (one p q h.0 d.0) (steps_fall s q points down h.1 d.1)
  where
    strict : (p q : Point) → Falls p q → Differ p q → Before (record { x = p.x; y = q.y }) (record { x = q.x; y = p.y })
    strict p q r n =
        by_lt_z p.x q.x (λ (l : p.x <ℤ q.x). inl l) (λ (k : q.x ≤ℤ p.x).
        by_lt_z q.y p.y (λ (l : q.y <ℤ p.y). inr (same p.x q.x r.0 k, l)) (λ (l : p.y ≤ℤ q.y). absurd (n (λ i. record { x = same p.x q.x r.0 k i; y = same p.y q.y l r.1 i }))))
      where
        same : (u v : ℤ) → u ≤ℤ v → v ≤ℤ u → u ≡ v
        same u v h k = omega (arith, ints, h, k)

    one : (p q : Point) → Falls p q → Differ p q → comes_before s p q ≡ true
    one p q r n = rw down (from_before (record { x = p.x; y = q.y }) (record { x = q.x; y = p.y }) (strict p q r n))

-- ---- the points of the path

Has-reverse : (points : List Point) (e : Point) → Has points e → Has (reverse points) e
Has-reverse points e i = AllByRecursion-at (Has (reverse points)) points e (subst (AllByRecursion (Has (reverse points))) (reverse-reverse points) (AllByRecursion-reverse (Has (reverse points)) (reverse points) (AllByRecursion-from_Has (Has (reverse points)) (reverse points) (λ x j. j)))) i

Has-column_path : (before : Point) (column : List Point) (next e : Point) → Has column e → Has (column_path before column next) e
Has-column_path before column next e i = column_path_has (λ l. Has l e) before column next i (Has-reverse column e i)

Has-column_path_out : (before : Point) (column : List Point) (next e : Point) → Has (column_path before column next) e → Has column e
Has-column_path_out before column next e = column_path_has (λ l. Has l e → Has column e) before column next (λ i. i) (λ i. subst (λ l. Has l e) (reverse-reverse column) (Has-reverse (reverse column) e i))

Has-path_from : (columns : List (List Point)) (p b e : Point) → Has (all_of columns) e ⊎ (b ≡ e) → Has (path_from p columns b) e
unfolding path_from
Has-path_from [] p b e (inl i) = absurd i
Has-path_from [] p b e (inr h) = inl h
Has-path_from (column ∷ columns) p b e h =
    let points = column_path p column (next_point columns b) in
    ⊎_elim
    (λ i. ⊎_elim
    (λ j. Has-append_left points (path_from (last_point p points) columns b) e (Has-column_path p column (next_point columns b) e j))
    (λ j. Has-append_right points (path_from (last_point p points) columns b) e (Has-path_from columns (last_point p points) b e (inl j)))
    (Has-append_out column (all_of columns) e i))
    (λ k. Has-append_right points (path_from (last_point p points) columns b) e (Has-path_from columns (last_point p points) b e (inr k)))
    h

Has-path_from_out : (columns : List (List Point)) (p b e : Point) → Has (path_from p columns b) e → Has (all_of columns) e ⊎ (b ≡ e)
unfolding path_from
Has-path_from_out [] p b e (inl h) = inr h
Has-path_from_out [] p b e (inr i) = absurd i
Has-path_from_out (column ∷ columns) p b e h =
    let points = column_path p column (next_point columns b) in
    ⊎_elim
    (λ i. inl (Has-append_left column (all_of columns) e (Has-column_path_out p column (next_point columns b) e i)))
    (λ i. ⊎_elim (λ j. inl (Has-append_right column (all_of columns) e j)) inr (Has-path_from_out columns (last_point p points) b e i))
    (Has-append_out points (path_from (last_point p points) columns b) e h)

Has-columns : (marks : List Point) (e : Point) → Has marks e → Has (all_of (columns_of marks)) e
Has-columns marks e i = subst (λ l. Has l e) (sym (all_of-columns_of marks)) (Has-distinct_in_order point_cmp_total point_same marks e i)

Has-columns_out : (marks : List Point) (e : Point) → Has (all_of (columns_of marks)) e → Has marks e
Has-columns_out marks e i =
    AllByRecursion-at (Has marks) (distinct_in_order point_cmp marks) e (AllByRecursion-distinct_in_order point_cmp (Has marks) marks (AllByRecursion-from_Has (Has marks) marks (λ x j. j))) (subst (λ l. Has l e) (all_of-columns_of marks) i)

-- ---- the ends are cut

ends_differ : (s : Pair) → IsTrue (is_ordered s) → Differ s.a s.b
ends_differ s o e = Before-irreflexive s.b (subst (λ (z : Point). Before z s.b) e (before s.a s.b o))

pub on_meets : (s : Pair) (e : Point) → IsTrue (is_ordered s) → IsTrue (lies_on s e) → IsTrue (meets_pixel s e)
on_meets s e o on = let r = rounded_on_pair s e o on in (inequality_is_meant s e o).1 (met s e r.part r.whole r.is_part r.at_x r.at_y)

pub meets_at_cut : (segments : List Pair) (s : Pair) (c : Point) → IsTrue (is_ordered s) → IsCutAt segments s c → MeetsPixel s c
meets_at_cut segments s c o (moving m p h) = (inequality_is_meant s c o).0 h
meets_at_cut segments s c o (staying n p h) = (inequality_is_meant s c o).0 (on_meets s c o h)

-- a cut lies in the box of its segment
pub cut_in_box : (segments : List Pair) (s : Pair) (c : Point) → IsCutAt segments s c → IsTrue (is_in_box s c)
unfolding meets_pixel
cut_in_box segments s c (moving m p h) = (and_parts (is_in_box s c) (is_narrow (step s.a s.b) (turn s.a s.b c)) h).0
cut_in_box segments s c (staying n p h) = (lies_on_parts s c h).1

end_on : (s : Pair) (e : Point) → IsTrue (is_ordered s) → (e ≡ s.a) ⊎ (e ≡ s.b) → IsTrue (lies_on s e)
end_on s e o h = on (before s.a s.b o) h
  where
    on : Before s.a s.b → (e ≡ s.a) ⊎ (e ≡ s.b) → IsTrue (lies_on s e)
    on b (inl k) = rw k (lies_on_from_order s s.a b (turn_same_outer s.a s.b) (UpTo-same s.a) (UpTo-Before s.a s.b b))
    on b (inr k) = rw k (lies_on_from_order s s.b b (turn_same_last s.a s.b) (UpTo-Before s.a s.b b) (UpTo-same s.b))

end_is_cut : (segments : List Pair) (s : Pair) (e : Point) → IsTrue (is_ordered s) → Contains segments s → (Moves segments s ⊎ (Moves segments s → ⊥)) → (e ≡ s.a) ⊎ (e ≡ s.b) → IsCutAt segments s e
end_is_cut segments s e o i decided is = by decided
  where
    of_end : (e ≡ s.a) ⊎ (e ≡ s.b) → Has (s.a ∷ s.b ∷ []) e
    of_end (inl k) = inl (sym k)
    of_end (inr k) = inr (inl (sym k))

    point : IsChainPoint segments e
    point = inr (Contains-from_Has (given_points segments) e (Has-append_left (ends segments) (whole_crossings segments) e (Has-flat_map (λ (u : Pair). u.a ∷ u.b ∷ []) segments s e (Has-from_Contains segments s i) (of_end is))))

    by : (Moves segments s ⊎ (Moves segments s → ⊥)) → IsCutAt segments s e
    by (inl m) = moving m point (on_meets s e o (end_on s e o is))
    by (inr n) = staying n point (end_on s e o is)

-- ---- the path is the chain

pub path_is_chain : PathIsChain
unfolding path
path_is_chain segments s marks o i decided cut = record { in_order = order; complete = λ c. (λ h. from c (Has-from_Contains (path s marks) c h), λ h. Contains-from_Has (path s marks) c (to c h)) }
  where
    is_cut : (c : Point) → Has marks c → IsCutAt segments s c × IsFalse (is_end s c)
    is_cut c h = (cut.complete c).0 (Contains-from_Has marks c h)

    rounded_marks : AllByRecursion (IsRoundedPoint s) marks
    rounded_marks = AllByRecursion-from_Has (IsRoundedPoint s) marks (λ c h. rounded_cut segments s c o (is_cut c h).0)

    steps : Steps Differ s.a (path_from s.a (columns_of marks) s.b)
    steps = steps_of_path s marks (ends_differ s o) (AllByRecursion-from_Has (λ m. Differ m s.a × Differ m s.b) marks (λ c h. not_end s c (is_cut c h).1))

    order : IsTrue (is_strictly_sorted (along_cmp s) (s.a ∷ path_from s.a (columns_of marks) s.b))
    order =
        by_lt_z s.b.y s.a.y
        (λ (down : s.b.y <ℤ s.a.y). steps_fall s s.a (path_from s.a (columns_of marks) s.b) (lt-test s.b.y s.a.y down) (runs_down s marks (ordered_x s o) (le_weak s.b.y s.a.y down) rounded_marks) steps)
        (λ (up : s.a.y ≤ℤ s.b.y). steps_rise s s.a (path_from s.a (columns_of marks) s.b) (lt-test_false s.b.y s.a.y up) (runs_up s marks (ordered_x s o) up rounded_marks) steps)

    from : (c : Point) → Has (s.a ∷ path_from s.a (columns_of marks) s.b) c → IsCutAt segments s c
    from c (inl h) = end_is_cut segments s c o i decided (inl (sym h))
    from c (inr h) = ⊎_elim (λ j. (is_cut c (Has-columns_out marks c j)).0) (λ e. end_is_cut segments s c o i decided (inr (sym e))) (Has-path_from_out (columns_of marks) s.a s.b c h)

    inner : (c : Point) → IsCutAt segments s c → is_end s c ≡ false → Has (s.a ∷ path_from s.a (columns_of marks) s.b) c
    inner c h n = inr (Has-path_from (columns_of marks) s.a s.b c (inl (Has-columns marks c (Has-from_Contains marks c ((cut.complete c).1 (h, n))))))

    outer : (c : Point) → (c ≡ s.a) ⊎ (c ≡ s.b) → Has (s.a ∷ path_from s.a (columns_of marks) s.b) c
    outer c (inl h) = inl (sym h)
    outer c (inr h) = inr (Has-path_from (columns_of marks) s.a s.b c (inr (sym h)))

    to : (c : Point) → IsCutAt segments s c → Has (s.a ∷ path_from s.a (columns_of marks) s.b) c
    to c h = ⊎_elim (λ e. outer c (end_cases s c e)) (λ n. inner c h n) (cases_Bool (is_end s c))

-- ---- there is one chain

one_chain : (segments : List Pair) (s : Pair) (first second : List Point) → IsChain segments s first → IsChain segments s second → first ≡ second
one_chain segments s first second h k =
    same_chain s first second h.in_order k.in_order
    (λ c i. Has-from_Contains second c ((k.complete c).1 ((h.complete c).0 (Contains-from_Has first c i))))
    (λ c i. Has-from_Contains first c ((h.complete c).1 ((k.complete c).0 (Contains-from_Has second c i))))

same_chains : (all rest : List Pair) (first second : List (List Point)) → AreChains all rest first → AreChains all rest second → first ≡ second
same_chains all [] [] [] h k = refl
same_chains all [] [] (c ∷ second) h k = absurd k
same_chains all [] (c ∷ first) second h k = absurd h
same_chains all (s ∷ rest) [] second h k = absurd h
same_chains all (s ∷ rest) (c ∷ first) [] h k = absurd k
same_chains all (s ∷ rest) (c ∷ first) (d ∷ second) h k = ap₂ (λ (x : List Point) (l : List (List Point)). x ∷ l) (one_chain all s c d h.0 k.0) (same_chains all rest first second h.1 k.1)

pub snapped_is_one : SnappedIsOne
snapped_is_one = (
  one_chain,
  λ segments first second h k. h.2 ∙ ap (λ (chains : List (List Point)). join (chain_pieces segments chains)) (same_chains (pairs segments) (pairs segments) h.0 k.0 h.1 k.1) ∙ sym k.2,
)
