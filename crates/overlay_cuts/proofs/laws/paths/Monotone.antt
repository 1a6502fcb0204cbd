-- The path through rounded points of a pair runs one way in x and one way in y.
use Rattle.std.proofs.Common.{◌≡◌, ◌⊎◌, inl, inr, refl, sym, subst, ◌∙◌, arith, ℕ, zero, suc, ◌+◌, ◌<◌, List, [], ◌∷◌, ◌++◌, append_assoc}
use Rattle.std.specs.Prelude.{ℤ, pos, ◌+ℤ◌, ◌-ℤ◌, ◌*ℤ◌, ◌≤ℤ◌, ◌<ℤ◌, neg_ℤ, int_lt, IsTrue, IsFalse, reverse}
use Rattle.std.proofs.lemmas.Int.{ints, by_lt_z}
use Rattle.std.proofs.lemmas.Bool.{cond_both}
use Rattle.std.specs.List.{AllByRecursion}
use Rattle.overlay_geometry.specs.Points.{Point, Pair}
use Rattle.overlay_cuts.specs.Path.{next_point, last_point, column_path, path_from}
use Rattle.overlay_geometry.proofs.laws.geometry.Polynomials.{as_D, diffs, D-eq, mul-nonneg}
use Rattle.overlay_geometry.proofs.laws.geometry.Points.{Before}
use Rattle.overlay_geometry.proofs.laws.lists.Lists.{Pairwise, Steps, AllByRecursion-weaker, AllByRecursion-both, AllByRecursion-append, AllByRecursion_left, AllByRecursion_right, AllByRecursion-reverse, AllByRecursion_cross, Pairwise_left, Pairwise_right, Pairwise-weaker, Pairwise-both, Pairwise-from_AllByRecursion, Pairwise-reverse, Steps-from_Pairwise}
use Rattle.overlay_cuts.proofs.laws.paths.Paths.{all_of, AreColumns, Steps-append, last_point_has, column_path_has}
use Rattle.overlay_intersections.proofs.laws.crossings.Rounding.{IsRoundedUp-monotone}
use Rattle.overlay_intersections.proofs.laws.marks.Marks.{IsRoundedPoint, rounded_start, rounded_end}

-- ---- directions

abbrev pub Rises : Point → Point → Type 0
Rises p q = (p.x ≤ℤ q.x) × (p.y ≤ℤ q.y)

abbrev pub Falls : Point → Point → Type 0
Falls p q = (p.x ≤ℤ q.x) × (q.y ≤ℤ p.y)

-- ---- rounded points are in the order of their places

difference_along : (a d n m w v : ℤ) → (a *ℤ v +ℤ d *ℤ m) *ℤ w ≡ (a *ℤ w +ℤ d *ℤ n) *ℤ v +ℤ d *ℤ (m *ℤ w -ℤ n *ℤ v)
difference_along a d n m w v = rw (as_D a, as_D d, as_D n, as_D m, as_D w, as_D v) (simp diffs (D-eq _ _ _ _ (omega arith)))

more_by : (x y z : ℤ) → y ≡ x +ℤ z → pos 0 ≤ℤ z → x ≤ℤ y
more_by x y z e h = omega (arith, ints)

along : (a d n m w v : ℤ) → pos 0 ≤ℤ d → (n *ℤ v) ≤ℤ (m *ℤ w) → ((a *ℤ w +ℤ d *ℤ n) *ℤ v) ≤ℤ ((a *ℤ v +ℤ d *ℤ m) *ℤ w)
along a d n m w v p h = more_by _ _ (d *ℤ (m *ℤ w -ℤ n *ℤ v)) (difference_along a d n m w v) (mul-nonneg d (m *ℤ w -ℤ n *ℤ v) p (omega (arith, ints)))

against : (a d n m w v : ℤ) → d ≤ℤ pos 0 → (n *ℤ v) ≤ℤ (m *ℤ w) → ((a *ℤ v +ℤ d *ℤ m) *ℤ w) ≤ℤ ((a *ℤ w +ℤ d *ℤ n) *ℤ v)
against a d n m w v p h =
    let k = mul-nonneg (neg_ℤ d) (m *ℤ w -ℤ n *ℤ v) (omega (arith, ints)) (omega (arith, ints)) in
    more_by _ _ (neg_ℤ d *ℤ (m *ℤ w -ℤ n *ℤ v)) (back a d n m w v) k
  where
    back : (a d n m w v : ℤ) → (a *ℤ w +ℤ d *ℤ n) *ℤ v ≡ (a *ℤ v +ℤ d *ℤ m) *ℤ w +ℤ neg_ℤ d *ℤ (m *ℤ w -ℤ n *ℤ v)
    back a d n m w v = rw (as_D a, as_D d, as_D n, as_D m, as_D w, as_D v) (simp diffs (D-eq _ _ _ _ (omega arith)))

-- the place of p on s is not after that of q
abbrev pub IsNotAfter : (s : Pair) (p q : Point) → IsRoundedPoint s p → IsRoundedPoint s q → Type 0
IsNotAfter s p q i j = (i.part *ℤ pos j.whole) ≤ℤ (j.part *ℤ pos i.whole)

x_along : (s : Pair) (p q : Point) (i : IsRoundedPoint s p) (j : IsRoundedPoint s q) → s.a.x ≤ℤ s.b.x → IsNotAfter s p q i j → p.x ≤ℤ q.x
x_along s p q i j h k =
    IsRoundedUp-monotone _ _ i.whole j.whole p.x q.x i.is_part.some j.is_part.some
    (along s.a.x (s.b.x -ℤ s.a.x) i.part j.part (pos i.whole) (pos j.whole) (omega (arith, ints, h)) k) i.at_x j.at_x

y_along : (s : Pair) (p q : Point) (i : IsRoundedPoint s p) (j : IsRoundedPoint s q) → s.a.y ≤ℤ s.b.y → IsNotAfter s p q i j → p.y ≤ℤ q.y
y_along s p q i j h k =
    IsRoundedUp-monotone _ _ i.whole j.whole p.y q.y i.is_part.some j.is_part.some
    (along s.a.y (s.b.y -ℤ s.a.y) i.part j.part (pos i.whole) (pos j.whole) (omega (arith, ints, h)) k) i.at_y j.at_y

y_against : (s : Pair) (p q : Point) (i : IsRoundedPoint s p) (j : IsRoundedPoint s q) → s.b.y ≤ℤ s.a.y → IsNotAfter s p q i j → q.y ≤ℤ p.y
y_against s p q i j h k =
    IsRoundedUp-monotone _ _ j.whole i.whole q.y p.y j.is_part.some i.is_part.some
    (against s.a.y (s.b.y -ℤ s.a.y) i.part j.part (pos i.whole) (pos j.whole) (omega (arith, ints, h)) k) j.at_y i.at_y

one_of : (s : Pair) (p q : Point) (i : IsRoundedPoint s p) (j : IsRoundedPoint s q) → IsNotAfter s p q i j ⊎ IsNotAfter s q p j i
one_of s p q i j = by_lt_z (i.part *ℤ pos j.whole) (j.part *ℤ pos i.whole) (λ (less : (i.part *ℤ pos j.whole) <ℤ (j.part *ℤ pos i.whole)). inl (omega (arith, ints, less))) (λ more. inr more)

start_first : (s : Pair) (p : Point) (i : IsRoundedPoint s p) → IsNotAfter s s.a p (rounded_start s) i
unfolding rounded_start
start_first s p i = let l = i.is_part.low in omega (arith, ints, l)

end_last : (s : Pair) (p : Point) (i : IsRoundedPoint s p) → IsNotAfter s p s.b i (rounded_end s)
unfolding rounded_end
end_last s p i = let l = i.is_part.high in omega (arith, ints, l)

pub rises_from_start : (s : Pair) (p : Point) → s.a.x ≤ℤ s.b.x → s.a.y ≤ℤ s.b.y → IsRoundedPoint s p → Rises s.a p
rises_from_start s p h k i = let o = start_first s p i in (x_along s s.a p (rounded_start s) i h o, y_along s s.a p (rounded_start s) i k o)

pub rises_to_end : (s : Pair) (p : Point) → s.a.x ≤ℤ s.b.x → s.a.y ≤ℤ s.b.y → IsRoundedPoint s p → Rises p s.b
rises_to_end s p h k i = let o = end_last s p i in (x_along s p s.b i (rounded_end s) h o, y_along s p s.b i (rounded_end s) k o)

pub falls_from_start : (s : Pair) (p : Point) → s.a.x ≤ℤ s.b.x → s.b.y ≤ℤ s.a.y → IsRoundedPoint s p → Falls s.a p
falls_from_start s p h k i = let o = start_first s p i in (x_along s s.a p (rounded_start s) i h o, y_against s s.a p (rounded_start s) i k o)

pub falls_to_end : (s : Pair) (p : Point) → s.a.x ≤ℤ s.b.x → s.b.y ≤ℤ s.a.y → IsRoundedPoint s p → Falls p s.b
falls_to_end s p h k i = let o = end_last s p i in (x_along s p s.b i (rounded_end s) h o, y_against s p s.b i (rounded_end s) k o)

-- of a pair that rises, rounded points in order rise
pub rises_in_order : (s : Pair) (p q : Point) → s.a.x ≤ℤ s.b.x → s.a.y ≤ℤ s.b.y → IsRoundedPoint s p → IsRoundedPoint s q → Before p q → Rises p q
rises_in_order s p q h k i j b = by_place (one_of s p q i j) b
  where
    by_place : IsNotAfter s p q i j ⊎ IsNotAfter s q p j i → Before p q → Rises p q
    by_place (inl o) b = (x_along s p q i j h o, y_along s p q i j k o)
    by_place (inr o) (inl l) = absurd (let m = x_along s q p j i h o in omega (arith, ints))
    by_place (inr o) (inr l) = absurd (let m = y_along s q p j i k o in omega (arith, ints))

-- of one that falls, they are lower where further on
pub falls_in_order : (s : Pair) (p q : Point) → s.a.x ≤ℤ s.b.x → s.b.y ≤ℤ s.a.y → IsRoundedPoint s p → IsRoundedPoint s q → p.x <ℤ q.x → q.y ≤ℤ p.y
falls_in_order s p q h k i j l = by_place (one_of s p q i j)
  where
    by_place : IsNotAfter s p q i j ⊎ IsNotAfter s q p j i → q.y ≤ℤ p.y
    by_place (inl o) = y_against s p q i j k o
    by_place (inr o) = absurd (let m = x_along s q p j i h o in omega (arith, ints))

-- ---- the path of a pair that rises

next_point_has : (P : Point → Type 0) (columns : List (List Point)) (b : Point) → AllByRecursion P (all_of columns ++ b ∷ []) → P (next_point columns b)
unfolding next_point
next_point_has P [] b h = h.0
next_point_has P ([] ∷ columns) b h = (AllByRecursion_right P (all_of columns) (b ∷ []) h).0
next_point_has P ((p ∷ column) ∷ columns) b h = h.0

not_lower : (u v : ℤ) → IsTrue (int_lt u v) → v ≤ℤ u → ⊥
not_lower u v h k = grind (arith, ints)

not_less : (u v : ℤ) → IsFalse (int_lt u v) → v ≤ℤ u
not_less u v h = grind (arith, ints)

-- a column that is run upward where the next point is not lower
column_path_up : (P : List Point → Type 0) (p : Point) (column : List Point) (next : Point) → p.y ≤ℤ next.y → P column → P (column_path p column next)
unfolding column_path
column_path_up P p column next h k = cond_both (int_lt next.y p.y) (reverse column) column P (λ e. absurd (not_lower next.y p.y e h)) (λ e. k)

pub path_rises : (columns : List (List Point)) (p b : Point) → AllByRecursion (Rises p) (all_of columns ++ b ∷ []) → Pairwise Rises (all_of columns ++ b ∷ []) → Steps Rises p (path_from p columns b)
unfolding path_from
path_rises [] p b h k = (h.0, tt)
path_rises (column ∷ columns) p b h k =
    let rest = all_of columns ++ b ∷ [] in
    let same : (column ++ all_of columns) ++ b ∷ [] ≡ column ++ rest = append_assoc column (all_of columns) (b ∷ []) in
    let h' = subst (AllByRecursion (Rises p)) same h in
    let k' = subst (Pairwise Rises) same k in
    let each = AllByRecursion_left (Rises p) column rest h' in
    let later = AllByRecursion_right (Rises p) column rest h' in
    let across = AllByRecursion_cross Rises column rest k' in
    let next = next_point columns b in
    let up : p.y ≤ℤ next.y = next_point_has (λ z. p.y ≤ℤ z.y) columns b (AllByRecursion-weaker (Rises p) (λ z. p.y ≤ℤ z.y) (λ z r. r.1) rest later) in
    Steps-append Rises p (column_path p column next) (path_from (last_point p (column_path p column next)) columns b)
    (column_path_up (Steps Rises p) p column next up (Steps-from_Pairwise Rises p column each (Pairwise_left Rises column rest k')))
    (path_rises columns (last_point p (column_path p column next)) b
    (last_point_has (λ z. AllByRecursion (Rises z) rest) p (column_path p column next) later (column_path_up (AllByRecursion (λ z. AllByRecursion (Rises z) rest)) p column next up across))
    (Pairwise_right Rises column rest k'))

-- ---- the path of a pair that falls

-- in order, and lower where further on in x
abbrev pub Descends : Point → Point → Type 0
Descends p q = Before p q × (p.x <ℤ q.x → q.y ≤ℤ p.y)

down_column : (p q : Point) → Before p q × (p.x ≡ q.x) → Falls q p
down_column p q (inl l, e) = absurd (omega (arith, ints))
down_column p q (inr l, e) = (omega (arith, ints), omega (arith, ints, l.1))

pub path_falls : (columns : List (List Point)) (p b : Point) → AreColumns columns → AllByRecursion (Falls p) (all_of columns ++ b ∷ []) → Pairwise Descends (all_of columns) → AllByRecursion (λ z. Falls z b) (all_of columns) → Steps Falls p (path_from p columns b)
unfolding path_from column_path
path_falls [] p b c h k l = (h.0, tt)
path_falls ([] ∷ columns) p b c h k l = absurd c
path_falls ((q ∷ column) ∷ columns) p b c h k l =
    let whole = q ∷ column in
    let others = all_of columns in
    let rest = others ++ b ∷ [] in
    let next = next_point columns b in
    let points = column_path p whole next in
    let h' = subst (AllByRecursion (Falls p)) (append_assoc whole others (b ∷ [])) h in
    let each = AllByRecursion_left (Falls p) whole rest h' in
    let later = AllByRecursion_right (Falls p) whole rest h' in
    let same_x : AllByRecursion (λ z. q.x ≡ z.x) whole = (refl, c.0) in
    let across : AllByRecursion (λ z. AllByRecursion (Falls z) rest) whole = column_falls q whole others b same_x c.1 (AllByRecursion_cross Descends whole others k) (AllByRecursion_left (λ z. Falls z b) whole others l) in
    let turned : Pairwise Falls (reverse whole) = Pairwise-reverse _ Falls down_column whole
    (Pairwise-both Before (λ x y. x.x ≡ y.x) whole (Pairwise-weaker Descends Before (λ x y d. d.0) whole (Pairwise_left Descends whole others k)) (Pairwise-from_AllByRecursion (λ z. q.x ≡ z.x) (λ x y. x.x ≡ y.x) (λ x y e f. sym e ∙ f) whole same_x)) in
    Steps-append Falls p points (path_from (last_point p points) columns b)
    (cond_both (int_lt next.y p.y) (reverse whole) whole (Steps Falls p)
    (λ e. Steps-from_Pairwise Falls p (reverse whole) (AllByRecursion-reverse (Falls p) whole each) turned)
    (λ e. Steps-from_Pairwise Falls p whole each (flat p next q whole (not_less next.y p.y e) each same_x (AllByRecursion-weaker (λ z. AllByRecursion (Falls z) rest) (λ z. Falls z next) (λ z f. next_point_has (Falls z) columns b f) whole across))))
    (path_falls columns (last_point p points) b c.2
    (last_point_has (λ z. AllByRecursion (Falls z) rest) p points later (column_path_has (AllByRecursion (λ z. AllByRecursion (Falls z) rest)) p whole next across (AllByRecursion-reverse (λ z. AllByRecursion (Falls z) rest) whole across)))
    (Pairwise_right Descends whole others k) (AllByRecursion_right (λ z. Falls z b) whole others l))
  where
    further : (z q r : Point) → q.x ≡ z.x → Descends z r × (q.x <ℤ r.x) → Falls z r
    further z q r e d = let lower = d.0.1 (omega (arith, ints, d.1)) in (omega (arith, ints, d.1), lower)

    column_falls : (q : Point) (whole others : List Point) (b : Point) → AllByRecursion (λ z. q.x ≡ z.x) whole → AllByRecursion (λ r. q.x <ℤ r.x) others → AllByRecursion (λ z. AllByRecursion (Descends z) others) whole → AllByRecursion (λ z. Falls z b) whole → AllByRecursion (λ z. AllByRecursion (Falls z) (others ++ b ∷ [])) whole
    column_falls q [] others b e f g h = tt
    column_falls q (z ∷ whole) others b e f g h =
        (AllByRecursion-append (Falls z) others (b ∷ []) (AllByRecursion-weaker _ (Falls z) (λ r d. further z q r e.0 d) others (AllByRecursion-both (Descends z) (λ r. q.x <ℤ r.x) others g.0 f)) (h.0, tt), column_falls q whole others b e.1 f g.1 h.1)

    flat : (p next q : Point) (whole : List Point) → p.y ≤ℤ next.y → AllByRecursion (Falls p) whole → AllByRecursion (λ z. q.x ≡ z.x) whole → AllByRecursion (λ z. Falls z next) whole → Pairwise Falls whole
    flat p next q whole up f e g =
        Pairwise-from_AllByRecursion (λ z. (q.x ≡ z.x) × (z.y ≡ p.y)) Falls (λ x y a b. (omega (arith, ints, a.0, b.0), omega (arith, ints, a.1, b.1))) whole
        (AllByRecursion-weaker (λ z. (Falls p z × Falls z next) × (q.x ≡ z.x)) (λ z. (q.x ≡ z.x) × (z.y ≡ p.y)) (λ z a. (a.1, omega (arith, ints, a.0.0.1, a.0.1.1))) whole
        (AllByRecursion-both (λ z. Falls p z × Falls z next) (λ z. q.x ≡ z.x) whole (AllByRecursion-both (Falls p) (λ z. Falls z next) whole f g) e))
