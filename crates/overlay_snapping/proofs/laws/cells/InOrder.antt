-- Points in order: as code sorts them and drops repeats, and that a segment meets none of those left or right of it.
use Rattle.std.proofs.Common.{◌≡◌, sym, ap, ap₂, subst, ◌∙◌, inl, inr, ◌⊎◌, ⊎_elim, ℕ, zero, suc, ◌+◌, ◌<◌, Bool, true, false, ◌&&◌, List, [], ◌∷◌, append-nil, map, length, take, get_or, arith, Ordering, Less, is_le, Result, Ok, Err, is_err, OnOk}
use Rattle.std.specs.Prelude.{ℤ, int_le, ◌<ℤ◌, ◌≤ℤ◌, Some, Contains, IsSorted, slice_get}
use Rattle.std.specs.List.{dedup}
use Rattle.std.specs.List.Retain.{IsFiltered, DiffersFromLast}
use Rattle.std.specs.List.Sorted.{IsStrictlySortedBy}
use Rattle.std.specs.Ordering.{int_cmp, eq_by_cmp, ordering_then}
use Rattle.std.proofs.lemmas.Bool.{both_ways, cases_order}
use Rattle.std.proofs.lemmas.Cmp.{on_total}
use Rattle.std.proofs.lemmas.Int.{ints}
use Rattle.std.proofs.lemmas.List.{length-map, get_or-map}
use Rattle.std.proofs.lemmas.List.Filters.{dedup_is}
use Rattle.std.proofs.lemmas.List.Kept.{IsStrictlySortedBy-dedup}
use Rattle.std.proofs.lemmas.Map.Keys.{Less-from_sorted}
use Rattle.std.proofs.lemmas.Option.{slice_get_within, get_or_from_slice_get}
use Rattle.overlay_geometry.specs.Points.{Point, Pair, is_ordered, is_in_box, is_between, point_cmp}
use Rattle.overlay_geometry.specs.PointOf.{point_of}
use Rattle.overlay_geometry.specs.Sorting.{is_strictly_sorted}
use Rattle.overlay_geometry.specs.declared.geom.point.IntPoint.{IntPoint}
use Rattle.overlay_geometry.proofs.laws.geometry.Points.{point_cmp_total}
use Rattle.overlay_geometry.proofs.laws.lists.Elements.{IsStrictlySortedBy-map, Contains-from_Has, Has-from_Contains}
use Rattle.overlay_geometry.proofs.laws.lists.Keys.{IsStrictlySortedBy-from_test, is_strictly_sorted-from}
use Rattle.overlay_geometry.proofs.laws.lists.Lists.{Has-map, Has-map_out}
use Rattle.overlay_intersections.proofs.laws.marks.Comparisons.{same_points}
use Rattle.overlay_snapping.specs.steps.InOrder.{AreInOrder, AreLeft}
use Rattle.overlay_snapping.specs.steps.Met.{is_met, AddsMet}
use Rattle.overlay_snapping.proofs.laws.cells.NotMet.{outside_not_met}
use Rattle.overlay_snapping.proofs.laws.closure.Elements.{found_at, contained, no_element}
use Rattle.overlay_snapping.proofs.laws.point_trees.MissedBoxes.{ordered_in_x}

-- ---- elements of the front of a list

slice_get-taken : {X : Type 0} (n : ℕ) (xs : List X) (j : ℕ) (x : X) → j < n → slice_get xs j ≡ Some x → slice_get (take n xs) j ≡ Some x
slice_get-taken zero xs j x l e = absurd (omega (arith, l))
slice_get-taken (suc n) [] j x l e = e
slice_get-taken (suc n) (y ∷ ys) zero x l e = e
slice_get-taken (suc n) (y ∷ ys) (suc j) x l e = slice_get-taken n ys j x (omega (arith, l)) e

slice_get-from_taken : {X : Type 0} (n : ℕ) (xs : List X) (j : ℕ) (x : X) → slice_get (take n xs) j ≡ Some x → (j < n) × (slice_get xs j ≡ Some x)
slice_get-from_taken zero xs j x e = absurd (cc e)
slice_get-from_taken (suc n) [] j x e = absurd (cc e)
slice_get-from_taken (suc n) (y ∷ ys) zero x e = (omega arith, e)
slice_get-from_taken (suc n) (y ∷ ys) (suc j) x e = let r = slice_get-from_taken n ys j x e in let l = r.0 in (omega (arith, l), r.1)

-- a result that is no error
pub ok_then : {A E : Type 0} (r : Result A E) (P : Type 0) → is_err r ≡ false → OnOk r P → P
ok_then (Ok x) P e h = h
ok_then (Err x) P e h = absurd (cc e)

-- ---- order

pub none_in_order : {I : Type 0} (whole : I → ℤ) (points : List (IntPoint I)) → points ≡ [] → AreInOrder whole points
unfolding is_strictly_sorted
none_in_order whole points e = ap (λ l. is_strictly_sorted point_cmp (map (point_of whole) l)) e

-- what a sort and a drop of repeats leave
pub sorted_in_order : {I : Type 0} (eq : I → I → Bool) (cmp : I → I → Ordering) (whole : I → ℤ) → ((a b : I) → eq a b ≡ eq_by_cmp cmp a b) → ((a b : I) → cmp a b ≡ int_cmp (whole a) (whole b)) →
    (sorted kept : List (IntPoint I)) → IsSorted (λ p q. point_cmp (point_of whole p) (point_of whole q)) sorted → IsFiltered (DiffersFromLast (λ (p q : IntPoint I). eq p.x q.x && eq p.y q.y)) [] sorted kept → AreInOrder whole kept
sorted_in_order {I = I} eq cmp whole e o sorted kept s d =
    let same = λ (p q : IntPoint I). eq p.x q.x && eq p.y q.y in
    let by = λ (p q : IntPoint I). point_cmp (point_of whole p) (point_of whole q) in
    let is : kept ≡ dedup same sorted = dedup_is same sorted kept d in
    let strict = subst (λ l. IsStrictlySortedBy by l) (sym is) (IsStrictlySortedBy-dedup (on_total (point_of whole) point_cmp_total) (λ p q. same_points eq cmp whole e o p q) sorted s) in
    is_strictly_sorted-from point_cmp_total (map (point_of whole) kept) (IsStrictlySortedBy-map (point_of whole) point_cmp kept strict)

pub int_le-by_cmp : (a b : ℤ) → is_le (int_cmp a b) ≡ int_le a b
int_le-by_cmp a b = grind (arith, ints)

not_right : (a b c d : ℤ) → ordering_then (int_cmp a b) (int_cmp c d) ≡ Less → a ≤ℤ b
not_right a b c d h = grind (arith, ints)

right_in_box : (u v z : ℤ) → u ≤ℤ v → v <ℤ z → is_between u v z ≡ false
right_in_box u v z h k = grind (arith, ints)

left_in_box : (u v z : ℤ) → u ≤ℤ v → z <ℤ u → is_between u v z ≡ false
left_in_box u v z h k = grind (arith, ints)

off_in_x : (s : Pair) (p : Point) → is_between s.a.x s.b.x p.x ≡ false → is_in_box s p ≡ false
unfolding is_in_box
off_in_x s p e = ap (λ b. b && is_between s.a.y s.b.y p.y) e

module _ {I : Type 0} (whole : I → ℤ) (xs : List (IntPoint I)) (s : AreInOrder whole xs) where
  later_in_x : (i j : ℕ) (p q : IntPoint I) → i < j → slice_get xs i ≡ Some p → slice_get xs j ≡ Some q → whole p.x ≤ℤ whole q.x
  later_in_x i j p q h f g =
      let points = map (point_of whole) xs in
      let within = slice_get_within xs j q g in
      let long : length points ≡ length xs = length-map xs (point_of whole) in
      let less = Less-from_sorted point_cmp points i j (point_of whole p) (IsStrictlySortedBy-from_test point_cmp_total points s) h (omega (arith, within, long)) in
      let at_i : get_or points i (point_of whole p) ≡ point_of whole p = get_or-map (point_of whole) xs i p (point_of whole p) (omega (arith, within, h)) ∙ ap (point_of whole) (get_or_from_slice_get xs i p p f) in
      let at_j : get_or points j (point_of whole p) ≡ point_of whole q = get_or-map (point_of whole) xs j p (point_of whole p) within ∙ ap (point_of whole) (get_or_from_slice_get xs j q p g) in
      not_right (whole p.x) (whole q.x) (whole p.y) (whole q.y) (sym (ap₂ point_cmp at_i at_j) ∙ less)

  -- all that come before a point left of x lie left of x
  pub left_before : (place : ℕ) (q : IntPoint I) (x : ℤ) → slice_get xs place ≡ Some q → whole q.x <ℤ x → AreLeft whole xs (place + 1) x
  left_before place q x g less i p h f =
      ⊎_elim (λ (e : i ≡ place). let same : p ≡ q = one_of i place p q e f g in subst (λ (r : IntPoint I). whole r.x <ℤ x) (sym same) less)
      (λ (k : i < place). let rise = later_in_x i place p q k f g in omega (arith, ints, rise, less)) (split i place h)
    where
      split : (i place : ℕ) → i < place + 1 → (i ≡ place) ⊎ (i < place)
      split i place h = ⊎_elim (λ e. inl e) (λ o. ⊎_elim (λ l. inr l) (λ l. absurd (omega (arith, h, l))) o) (cases_order i place)

      one_of : (i place : ℕ) (p q : IntPoint I) → i ≡ place → slice_get xs i ≡ Some p → slice_get xs place ≡ Some q → p ≡ q
      one_of i place p q e f g = cc

  -- what is met comes before a point right of the segment
  pub met_before : (t : Pair) → is_ordered t ≡ true → (place : ℕ) (q : IntPoint I) → slice_get xs place ≡ Some q → t.b.x <ℤ whole q.x →
      (c : Point) → Contains (map (point_of whole) xs) c → is_met t c ≡ true → Contains (map (point_of whole) (take place xs)) c
  met_before t o place q g right c i m =
      let r = Has-map_out (point_of whole) xs c (Has-from_Contains (map (point_of whole) xs) c i) in
      let p : IntPoint I = r.0 in
      let at = found_at xs p (Contains-from_Has xs p r.1) in
      let j : ℕ = at.0 in
      ⊎_elim (λ (e : j ≡ place). absurd (off p r.2 (on j place p q e at.1 g))) (λ k. ⊎_elim (λ (l : j < place). inside j p l at.1 r.2) (λ (l : place < j). absurd (off p r.2 (later_in_x place j q p l g at.1))) k) (cases_order j place)
    where
      on : (j place : ℕ) (p q : IntPoint I) → j ≡ place → slice_get xs j ≡ Some p → slice_get xs place ≡ Some q → whole q.x ≤ℤ whole p.x
      on j place p q e f g = let same : p ≡ q = cc in subst (λ (z : IntPoint I). whole z.x ≤ℤ whole p.x) same (itself (whole p.x))
        where
          itself : (z : ℤ) → z ≤ℤ z
          itself z = omega (arith, ints)

      off : (p : IntPoint I) → point_of whole p ≡ c → whole q.x ≤ℤ whole p.x → ⊥
      off p e rise =
          let none = outside_not_met t (point_of whole p) (off_in_x t (point_of whole p) (right_in_box t.a.x t.b.x (whole p.x) (ordered_in_x t o) (omega (arith, ints, rise, right)))) in
          both_ways (is_met t c) (subst (λ (z : Point). is_met t z ≡ false) e none) m

      inside : (j : ℕ) (p : IntPoint I) → j < place → slice_get xs j ≡ Some p → point_of whole p ≡ c → Contains (map (point_of whole) (take place xs)) c
      inside j p l f e =
          subst (λ (z : Point). Contains (map (point_of whole) (take place xs)) z) e
          (Contains-from_Has (map (point_of whole) (take place xs)) (point_of whole p) (Has-map (point_of whole) (take place xs) p (Has-from_Contains (take place xs) p (contained (take place xs) j p (slice_get-taken place xs j p l f)))))

-- none of the points left of the segment is met
pub left_not_met : {I : Type 0} (whole : I → ℤ) (xs : List (IntPoint I)) (t : Pair) → is_ordered t ≡ true → (place : ℕ) → AreLeft whole xs place t.a.x → (c : Point) → Contains (map (point_of whole) (take place xs)) c → is_met t c ≡ false
left_not_met {I = I} whole xs t o place left c i =
    let r = Has-map_out (point_of whole) (take place xs) c (Has-from_Contains (map (point_of whole) (take place xs)) c i) in
    let p : IntPoint I = r.0 in
    let at = found_at (take place xs) p (Contains-from_Has (take place xs) p r.1) in
    let from = slice_get-from_taken place xs at.0 p at.1 in
    subst (λ (z : Point). is_met t z ≡ false) r.2 (outside_not_met t (point_of whole p) (off_in_x t (point_of whole p) (left_in_box t.a.x t.b.x (whole p.x) (ordered_in_x t o) (left at.0 p from.0 from.1))))

-- nothing is added where none of the points sought is met
pub adds_none_met : (s : Pair) (points : List Point) (P : Point → Type 0) (old : List Point) → ((c : Point) → P c → is_met s c ≡ false) → AddsMet s points P old old
adds_none_met s points P old none = record { added = []; is = sym (append-nil old); only = λ c i. absurd (no_element c i); all = λ c i p m. absurd (both_ways (is_met s c) (none c p) m) }
