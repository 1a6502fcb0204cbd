-- Each mark of a crossing lies near the exact crossing, no farther than its placing moves it, and so near both pairs.
use Rattle.std.proofs.Common.{◌≡◌, inl, inr, refl, sym, subst, ◌∙◌, arith, ℕ, zero, suc, ◌+◌, ◌*◌, ◌-◌, ◌<◌, ◌≤◌, List, [], ◌∷◌, true, lit<, ◌^◌, ◌/◌}
use Rattle.std.specs.Prelude.{ℤ, pos, negsuc, ◌+ℤ◌, ◌-ℤ◌, ◌*ℤ◌, ◌≤ℤ◌, ◌<ℤ◌, neg_ℤ, unsigned_abs, nat_le, IsTrue, IsFalse, not, ◌||◌}
use Rattle.std.specs.List.{AllByRecursion}
use Rattle.std.proofs.Math.Nat.{pow-le-pow_right, add-zero}
use Rattle.std.proofs.lemmas.Nat.{pow-add}
use Rattle.std.proofs.lemmas.Int.{ints}
use Rattle.std.proofs.lemmas.Bool.{and_parts, cond_both, leb-true, leb-false, cases_lt}
use Rattle.overlay_geometry.specs.Points.{Point, Pair, point_cmp, pair_lt, is_end, is_vertical, is_horizontal, is_ordered, is_strictly_inside, lies_on, squared, sqr_distance}
use Rattle.overlay_geometry.specs.Meeting.{do_cross}
use Rattle.overlay_base.specs.Segments.{WholeSegment, pairs, are_ordered}
use Rattle.overlay_geometry.proofs.laws.geometry.Polynomials.{as_D, diffs, D-eq}
use Rattle.overlay_geometry.proofs.laws.lists.Lists.{AllByRecursion-filter, AllByRecursion-flat_map, AllByRecursion-from_Has, Has-map_out, list_all-at}
use Rattle.overlay_geometry.proofs.laws.lists.Keys.{AllByRecursion-distinct_in_order}
use Rattle.overlay_intersections.specs.Crossing.{Quotient, placed_by, truncated, nearest, is_exact, snapping_point, settling_point}
use Rattle.overlay_intersections.specs.Marks.{Placing, snapping, settling, nearest_end, snapped_to, crossing_mark, ordered_mark, marks_by}
use Rattle.overlay_intersections.specs.PassMarks.{marks_on, is_rounded}
use Rattle.overlay_cuts.specs.Laws.{CrossingLiesOnBoth, MarkIsNear, RootIsMeant, RootOfPower}
use Rattle.overlay_intersections.specs.Laws.{distance_from}
use Rattle.overlay_base.specs.Places.{RationalPoint}
use Rattle.overlay_cuts.specs.Nearness.{whole_point, exact_crossing, IsWithin, IsNear, root, reach, reach_of_pass}
use Rattle.overlay_intersections.proofs.laws.crossings.Rounding.{over, IsRoundedUp}
use Rattle.overlay_intersections.proofs.laws.crossings.RoundingMeanings.{nearest_is_meant, truncated_is_meant}
use Rattle.overlay_intersections.proofs.laws.crossings.Crossings.{IsPart, IsPart-share, share, scale, scale-swap, exact_x, exact_y, offset_x-is, offset_y-is, do_cross-swap}
use Rattle.overlay_intersections.proofs.laws.crossings.ExactCrossings.{IsCrossingPoint, snapping_is_placed}
use Rattle.overlay_intersections.proofs.laws.marks.Marks.{IsPointAlong, lies_along, settled_x, settled_y}
use Rattle.overlay_cuts.proofs.laws.planar.WholeCrossings.{exact_ordered_mark}
use Rattle.overlay_cuts.proofs.laws.planar.ExactMarks.{In, In-mark}
use Rattle.overlay_cuts.proofs.laws.nearness.Distances.{IsWithin-weaker, IsWithin-triangle, IsNear-weaker, IsNear-from_point, LiesNear-itself}
use Rattle.overlay_geometry.proofs.laws.integers.Products.{times_comm}

-- ---- the exact crossing

-- in the words of proofs
abbrev crossing_at : Pair → Pair → RationalPoint
crossing_at s t = record {
  x = s.a.x *ℤ pos (scale s t) +ℤ (s.b.x -ℤ s.a.x) *ℤ share s t;
  y = s.a.y *ℤ pos (scale s t) +ℤ (s.b.y -ℤ s.a.y) *ℤ share s t;
  bottom = scale s t;
}

crossing_at-is : (s t : Pair) → exact_crossing s t ≡ crossing_at s t
crossing_at-is s t = rw (offset_x-is s t, offset_y-is s t) refl

-- it is the same from both
crossing_at-swap : (s t : Pair) → crossing_at s t ≡ crossing_at t s
crossing_at-swap s t = rw (exact_x s t, exact_y s t, scale-swap s t) refl

exact_crossing-swap : (s t : Pair) → exact_crossing s t ≡ exact_crossing t s
exact_crossing-swap s t = crossing_at-is s t ∙ crossing_at-swap s t ∙ sym (crossing_at-is t s)

-- and lies on both
on_part : (s : Pair) (n : ℤ) (w : ℕ) → IsPart n w → IsNear 0 (record { x = s.a.x *ℤ pos w +ℤ (s.b.x -ℤ s.a.x) *ℤ n; y = s.a.y *ℤ pos w +ℤ (s.b.y -ℤ s.a.y) *ℤ n; bottom = w }) s
on_part s (negsuc n) w is = absurd (let l = is.low in omega (arith, ints, l))
on_part s (pos n) w is = LiesNear-itself s (record { part = n; whole = w; positive = is.some; at_most_one = let l = is.high in omega (arith, ints, l) })

crossing_on_first : (s t : Pair) → IsTrue (do_cross s t) → IsNear 0 (exact_crossing s t) s
crossing_on_first s t h = subst (λ (c : RationalPoint). IsNear 0 c s) (sym (crossing_at-is s t)) (on_part s (share s t) (scale s t) (IsPart-share s t h))

pub crossing_lies_on_both : CrossingLiesOnBoth
crossing_lies_on_both s t h = (crossing_on_first s t h, subst (λ (c : RationalPoint). IsNear 0 c t) (sym (exact_crossing-swap s t)) (crossing_on_first t s (do_cross-swap s t h)))

-- ---- points near it, by their coordinates

-- z is at most h halves from t / w
abbrev IsAbout : ℕ → ℤ → ℕ → ℤ → Type 0
IsAbout h t w z = 2 * unsigned_abs (z *ℤ pos w -ℤ t) ≤ h * w

within_about : (h : ℕ) (p : Point) (c : RationalPoint) → IsAbout h c.x c.bottom p.x → IsAbout h c.y c.bottom p.y → IsWithin h (whole_point p) c
within_about h p c about_x about_y = record { in_x = plain (p.x *ℤ pos c.bottom) c.x h c.bottom about_x; in_y = plain (p.y *ℤ pos c.bottom) c.y h c.bottom about_y }
  where
    plain : (z t : ℤ) (h w : ℕ) → 2 * unsigned_abs (z -ℤ t) ≤ h * w → 2 * unsigned_abs (z -ℤ t *ℤ pos 1) ≤ h * (1 * w)
    plain z t h w a = omega (arith, ints, a)

within_crossing : (h : ℕ) (s t : Pair) (p : Point) → IsAbout h (crossing_at s t).x (scale s t) p.x → IsAbout h (crossing_at s t).y (scale s t) p.y → IsWithin h (whole_point p) (exact_crossing s t)
within_crossing h s t p about_x about_y = subst (λ (c : RationalPoint). IsWithin h (whole_point p) c) (sym (crossing_at-is s t)) (within_about h p (crossing_at s t) about_x about_y)

exact_about : (t z : ℤ) (w : ℕ) → t ≡ z *ℤ pos w → IsAbout 0 t w z
exact_about t z w e = omega (arith, ints, e)

-- a point of a pair
near_along : (s : Pair) (p : Point) → IsPointAlong s p → IsNear 0 (whole_point p) s
near_along s p is =
    let c : RationalPoint = record { x = s.a.x *ℤ pos is.whole +ℤ (s.b.x -ℤ s.a.x) *ℤ is.part; y = s.a.y *ℤ pos is.whole +ℤ (s.b.y -ℤ s.a.y) *ℤ is.part; bottom = is.whole } in
    IsNear-from_point 0 0 (whole_point p) c s is.is_part.some (within_about 0 p c (exact_about c.x p.x is.whole is.at_x) (exact_about c.y p.y is.whole is.at_y)) (on_part s is.part is.whole is.is_part)

-- an exact crossing
pub exact_within : (s t : Pair) (p : Point) → IsCrossingPoint s t p → IsWithin 0 (whole_point p) (exact_crossing s t)
exact_within s t p at = within_crossing 0 s t p (exact_about _ p.x (scale s t) (from_start s.a.x p.x _ (pos (scale s t)) at.at_x)) (exact_about _ p.y (scale s t) (from_start s.a.y p.y _ (pos (scale s t)) at.at_y))
  where
    from_start : (a z v w : ℤ) → (z -ℤ a) *ℤ w ≡ v → a *ℤ w +ℤ v ≡ z *ℤ w
    from_start a z v w e = let f : (z -ℤ a) *ℤ w ≡ z *ℤ w -ℤ a *ℤ w = rw (as_D z, as_D a, as_D w) (simp diffs (D-eq _ _ _ _ (omega arith))) in let g = sym f ∙ e in omega (arith, ints, g)

-- ---- settling

rounded_about : (t z : ℤ) (w : ℕ) → IsRoundedUp t w z → IsAbout 1 t w z
rounded_about t z w is = plain t (z *ℤ pos w) (pos w *ℤ z) w (times_comm z (pos w)) is.low is.high
  where
    plain : (t x y : ℤ) (w : ℕ) → x ≡ y → (pos 2 *ℤ y) ≤ℤ (pos 2 *ℤ t +ℤ pos w) → (pos 2 *ℤ t) <ℤ (pos 2 *ℤ y +ℤ pos w) → 2 * unsigned_abs (x -ℤ t) ≤ 1 * w
    plain t x y w e l k = omega (arith, ints, e, l, k)

settled_within : (s t : Pair) → IsTrue (do_cross s t) → IsWithin 1 (whole_point (settling_point s t)) (exact_crossing s t)
settled_within s t h = within_crossing 1 s t (settling_point s t) (rounded_about _ (settling_point s t).x (scale s t) (settled_x s t h)) (rounded_about _ (settling_point s t).y (scale s t) (settled_y s t h))

-- ---- snapping points

-- a rounding that changes a quotient by so many halves at most
abbrev IsMild : ℕ → (Quotient → ℤ) → Type 0
IsMild h round = (q : Quotient) → 0 < q.bottom → 2 * distance_from q (round q) ≤ h * q.bottom

nearest_is_mild : IsMild 1 nearest
nearest_is_mild q p = let near = (nearest_is_meant q p).is_so.near in omega (arith, near)

truncated_is_mild : IsMild 2 truncated
truncated_is_mild q p = let near = (truncated_is_meant q p).is_so.near in omega (arith, near)

moved_about : (h : ℕ) (a v r : ℤ) (w : ℕ) → 2 * unsigned_abs (v -ℤ pos w *ℤ r) ≤ h * w → IsAbout h (a *ℤ pos w +ℤ v) w (a +ℤ r)
moved_about h a v r w k = plain _ _ h w (moved a v r (pos w)) k
  where
    moved : (a v r w : ℤ) → (a +ℤ r) *ℤ w -ℤ (a *ℤ w +ℤ v) ≡ neg_ℤ (v -ℤ w *ℤ r)
    moved a v r w = rw (as_D a, as_D v, as_D r, as_D w) (simp diffs (D-eq _ _ _ _ (omega arith)))

    plain : (x y : ℤ) (h w : ℕ) → x ≡ neg_ℤ y → 2 * unsigned_abs y ≤ h * w → 2 * unsigned_abs x ≤ h * w
    plain x y h w e k = omega (arith, ints, e, k)

placed_within : (h : ℕ) (round : Quotient → ℤ) → IsMild h round → (s t : Pair) → IsTrue (do_cross s t) → IsWithin h (whole_point (placed_by round s t)) (exact_crossing s t)
unfolding placed_by
placed_within h round mild s t c =
    within_crossing h s t (placed_by round s t)
    (rw (offset_x-is s t) (moved_about h s.a.x _ _ (scale s t) (mild (over ((s.b.x -ℤ s.a.x) *ℤ share s t) (scale s t)) (IsPart-share s t c).some)))
    (rw (offset_y-is s t) (moved_about h s.a.y _ _ (scale s t) (mild (over ((s.b.y -ℤ s.a.y) *ℤ share s t) (scale s t)) (IsPart-share s t c).some)))

snapped_within : (s t : Pair) → IsTrue (do_cross s t) → IsWithin 2 (whole_point (snapping_point s t)) (exact_crossing s t)
snapped_within s t h =
    snapping_is_placed (λ p. IsWithin 2 (whole_point p) (exact_crossing s t)) s t (placed_within 2 truncated truncated_is_mild s t h)
    (IsWithin-weaker 1 2 (whole_point (placed_by nearest s t)) (exact_crossing s t) (omega arith) (placed_within 1 nearest nearest_is_mild s t h))

-- of a target that slopes
sloped_within : (s t : Pair) → IsTrue (do_cross s t) → IsFalse (is_vertical s || is_horizontal s) → IsWithin 1 (whole_point (snapping_point s t)) (exact_crossing s t)
unfolding snapping_point
sloped_within s t h slope = rw slope (placed_within 1 nearest nearest_is_mild s t h)

-- ---- ends within a radius

-- the next square is greater
root-next : (n : ℕ) → n < (root n + 1) * (root n + 1)
unfolding root
root-next zero = omega arith
root-next (suc n) =
    let r = root n in
    cond_both (nat_le ((r + 1) * (r + 1)) (suc n)) (r + 1) r (λ (w : ℕ). suc n < (w + 1) * (w + 1))
    (λ e. let before = root-next n in grown r n before)
    (λ e. leb-false ((r + 1) * (r + 1)) (suc n) e)
  where
    grown : (r n : ℕ) → n < (r + 1) * (r + 1) → suc n < (r + 1 + 1) * (r + 1 + 1)
    grown r n h = omega (arith, h)

-- and its own is not
root-square : (n : ℕ) → root n * root n ≤ n
unfolding root
root-square zero = omega arith
root-square (suc n) =
    let r = root n in
    cond_both (nat_le ((r + 1) * (r + 1)) (suc n)) (r + 1) r (λ (w : ℕ). w * w ≤ suc n) (λ e. leb-true ((r + 1) * (r + 1)) (suc n) e) (λ _. let before = root-square n in omega (arith, before))

pub root_is_meant : RootIsMeant
root_is_meant n = (root-square n, root-next n)

-- so a number whose square is at most n is at most the root
pub root-bounds : (d n : ℕ) → d * d ≤ n → d ≤ root n
root-bounds d n h = elim (cases_lt (root n) d) [ inl less ↦ absurd (squares d (root n) (d - (root n + 1)) (omega (arith, less)) (omega (arith, h, root-next n))) | inr more ↦ more ]
  where
    squares : (d r j : ℕ) → d ≡ r + 1 + j → d * d < (r + 1) * (r + 1) → ⊥
    squares d r j e h = let k : (r + 1 + j) * (r + 1 + j) < (r + 1) * (r + 1) = subst (λ (i : ℕ). i * i < (r + 1) * (r + 1)) e h in omega (arith, k)

-- and one whose next square is greater is at least the root
pub root-below : (w n : ℕ) → n < (w + 1) * (w + 1) → root n ≤ w
root-below w n h = elim (cases_lt w (root n)) [ inl less ↦ absurd (squares w (root n) (root n - (w + 1)) n (omega (arith, less)) h (root-square n)) | inr more ↦ more ]
  where
    squares : (w r j n : ℕ) → r ≡ w + 1 + j → n < (w + 1) * (w + 1) → r * r ≤ n → ⊥
    squares w r j n e h k = let l : (w + 1 + j) * (w + 1 + j) ≤ n = subst (λ (i : ℕ). i * i ≤ n) e k in omega (arith, l, h)

-- a squared radius is a power of two
pub root_of_power : RootOfPower
root_of_power e =
    let half = (e + 1) / 2 in
    let grown : 2 ^ e ≤ 2 ^ (half + half) = pow-le-pow_right (lit< tt) (omega arith) in
    root-below (2 ^ half) (2 ^ e) (next (2 ^ e) (2 ^ half) (subst (λ (n : ℕ). 2 ^ e ≤ n) (pow-add 2 half half) grown))
  where
    next : (n w : ℕ) → n ≤ w * w → n < (w + 1) * (w + 1)
    next n w h = omega (arith, h)

end_within : (e p : Point) (r2 : ℕ) → sqr_distance e p ≤ r2 → IsWithin (2 * root r2) (whole_point e) (whole_point p)
unfolding sqr_distance
end_within e p r2 h = record {
  in_x = plain e.x p.x (root r2) (root-bounds (unsigned_abs (p.x -ℤ e.x)) r2 (left (squared (p.x -ℤ e.x)) (squared (p.y -ℤ e.y)) r2 h));
  in_y = plain e.y p.y (root r2) (root-bounds (unsigned_abs (p.y -ℤ e.y)) r2 (right (squared (p.x -ℤ e.x)) (squared (p.y -ℤ e.y)) r2 h));
}
  where
    left : (u v n : ℕ) → u + v ≤ n → u ≤ n
    left u v n h = omega (arith, h)

    right : (u v n : ℕ) → u + v ≤ n → v ≤ n
    right u v n h = omega (arith, h)

    plain : (u v : ℤ) (w : ℕ) → unsigned_abs (v -ℤ u) ≤ w → 2 * unsigned_abs (u *ℤ pos 1 -ℤ v *ℤ pos 1) ≤ (2 * w) * (1 * 1)
    plain u v w h = omega (arith, ints, h)

-- ---- where a crossing is marked

crossing_positive : (s t : Pair) → IsTrue (do_cross s t) → 0 < (exact_crossing s t).bottom
crossing_positive s t h = subst (λ (c : RationalPoint). 0 < c.bottom) (sym (crossing_at-is s t)) (IsPart-share s t h).some

moved_to_end : (e p : Point) (r2 : ℕ) (c : RationalPoint) → IsWithin 2 (whole_point p) c → IsWithin (2 + 2 * root r2) (whole_point (snapped_to e r2 p)) c
unfolding snapped_to
moved_to_end e p r2 c near =
    cond_both (nat_le (sqr_distance e p) r2) e p (λ (q : Point). IsWithin (2 + 2 * root r2) (whole_point q) c)
    (λ k.
    let there = IsWithin-triangle (2 * root r2) 2 (whole_point e) (whole_point p) c (omega arith) (end_within e p r2 (leb-true (sqr_distance e p) r2 k)) near in
    IsWithin-weaker (2 * root r2 + 2) (2 + 2 * root r2) (whole_point e) c (omega arith) there)
    (λ _. IsWithin-weaker 2 (2 + 2 * root r2) (whole_point p) c (omega arith) near)

crossing_mark_within : (placing : Placing) (s t : Pair) → IsTrue (do_cross s t) → IsWithin (reach placing) (whole_point (crossing_mark placing s t)) (exact_crossing s t)
unfolding crossing_mark
crossing_mark_within (snapping r2) s t h =
    let p = snapping_point s t in
    let c = exact_crossing s t in
    let near = snapped_within s t h in
    cond_both (is_exact s t) p (snapped_to (nearest_end p s t) r2 p) (λ (q : Point). IsWithin (2 + 2 * root r2) (whole_point q) c)
    (λ _. IsWithin-weaker 2 (2 + 2 * root r2) (whole_point p) c (omega arith) near)
    (λ _. moved_to_end (nearest_end p s t) p r2 c near)
crossing_mark_within settling s t h = settled_within s t h

ordered_mark_within : (placing : Placing) (s t : Pair) → IsTrue (do_cross s t) → IsWithin (reach placing) (whole_point (ordered_mark placing s t)) (exact_crossing s t)
unfolding ordered_mark
ordered_mark_within placing s t h =
    cond_both (pair_lt s t) (crossing_mark placing s t) (crossing_mark placing t s) (λ (p : Point). IsWithin (reach placing) (whole_point p) (exact_crossing s t))
    (λ _. crossing_mark_within placing s t h)
    (λ _. subst (λ (c : RationalPoint). IsWithin (reach placing) (whole_point (crossing_mark placing t s)) c) (exact_crossing-swap t s) (crossing_mark_within placing t s (do_cross-swap s t h)))

pub mark_is_near : MarkIsNear
mark_is_near placing s t h = record {
  within = ordered_mark_within placing s t h;
  exact = λ e. exact_within s t (ordered_mark placing s t) (exact_ordered_mark placing s t h e);
  snapping_point_within = snapped_within s t h;
  sloped = λ slope. sloped_within s t h slope;
  settling_point_within = settled_within s t h;
}

-- what is near the crossing is near both
near_crossing : (h : ℕ) (s t : Pair) (p : Point) → IsTrue (do_cross s t) → IsWithin h (whole_point p) (exact_crossing s t) → IsNear h (whole_point p) s
near_crossing h s t p c within = subst (λ (i : ℕ). IsNear i (whole_point p) s) (add-zero h) (IsNear-from_point h 0 (whole_point p) (exact_crossing s t) s (crossing_positive s t c) within (crossing_lies_on_both s t c).0)

ordered_mark_near : (placing : Placing) (s t : Pair) → IsTrue (do_cross s t) → IsNear (reach placing) (whole_point (ordered_mark placing s t)) s
ordered_mark_near placing s t h = near_crossing (reach placing) s t (ordered_mark placing s t) h (ordered_mark_within placing s t h)

exact_mark_near : (s t : Pair) (p : Point) → IsTrue (do_cross s t) → IsCrossingPoint s t p → IsNear 0 (whole_point p) s
exact_mark_near s t p h at = near_crossing 0 s t p h (exact_within s t p at)

-- ---- the marks on a pair

abbrev pub AreNear : ℕ → List Point → Pair → Type 0
AreNear h marks s = AllByRecursion (λ p. IsNear h (whole_point p) s) marks

marks_by_near : (h : ℕ) (placing : Placing) (s t : Pair) → IsTrue (is_ordered s) → (IsTrue (do_cross s t) → IsNear h (whole_point (ordered_mark placing s t)) s) → AreNear h (marks_by placing s t) s
unfolding marks_by is_strictly_inside
marks_by_near h placing s t o at_crossing =
    cond_both (do_cross s t) _ _ (λ (l : List Point). AreNear h l s)
    (λ c. AllByRecursion-filter (λ p. not (is_end s p)) (λ p. IsNear h (whole_point p) s) (ordered_mark placing s t ∷ []) ((λ _. at_crossing c), tt))
    (λ c. AllByRecursion-filter (λ p. is_strictly_inside s p) (λ p. IsNear h (whole_point p) s) (t.a ∷ t.b ∷ []) (inside t.a, (inside t.b, tt)))
  where
    inside : (p : Point) → is_strictly_inside s p ≡ true → IsNear h (whole_point p) s
    inside p k = IsNear-weaker 0 h (whole_point p) s (omega arith) (near_along s p (lies_along s p o ((and_parts (lies_on s p) (not (is_end s p)) k).0)))

marks_on_near : (h : ℕ) (placing : Placing) (segments : List WholeSegment) (s : Pair) → ((t : Pair) → In segments t → AreNear h (marks_by placing s t) s) → AreNear h (marks_on placing segments s) s
unfolding marks_on
marks_on_near h placing segments s each =
    AllByRecursion-distinct_in_order point_cmp (λ p. IsNear h (whole_point p) s) _
    (AllByRecursion-flat_map (λ t. marks_by placing s t) (λ p. IsNear h (whole_point p) s) (pairs segments) (AllByRecursion-from_Has (λ t. AreNear h (marks_by placing s t) s) (pairs segments) each))

marks_lie_near : (placing : Placing) (segments : List WholeSegment) (s : Pair) → IsTrue (is_ordered s) → AreNear (reach placing) (marks_on placing segments s) s
marks_lie_near placing segments s o = marks_on_near (reach placing) placing segments s (λ t _. marks_by_near (reach placing) placing s t o (λ c. ordered_mark_near placing s t c))

-- where every crossing is exact, on it
exact_marks_lie_on : (placing : Placing) (segments : List WholeSegment) → IsFalse (is_rounded segments) → (s : Pair) → In segments s → IsTrue (is_ordered s) → AreNear 0 (marks_on placing segments s) s
exact_marks_lie_on placing segments exact s i o =
    marks_on_near 0 placing segments s (λ t j. marks_by_near 0 placing s t o (λ c. exact_mark_near s t (ordered_mark placing s t) c (In-mark placing segments exact s t i j c)))

-- ---- the marks on each pair of a list

abbrev pub MarksAreNear : ℕ → (Pair → List Point) → List WholeSegment → Type 0
MarksAreNear h marks segments = (s : Pair) → In segments s → AreNear h (marks s) s

-- those of a pass lie as near as it reaches
pub marks_of_pass_are_near : (placing : Placing) (segments : List WholeSegment) → IsTrue (are_ordered segments) → MarksAreNear (reach_of_pass placing segments) (marks_on placing segments) segments
unfolding reach_of_pass
marks_of_pass_are_near placing segments ordered s i =
    let there = Has-map_out (λ (u : WholeSegment). u.pair) segments s i in
    let o = subst (λ (p : Pair). IsTrue (is_ordered p)) there.2 (list_all-at (λ (u : WholeSegment). is_ordered u.pair) segments there.0 ordered there.1) in
    cond_both (is_rounded segments) (reach placing) 0 (λ (h : ℕ). AreNear h (marks_on placing segments s) s)
    (λ _. marks_lie_near placing segments s o)
    (λ exact. exact_marks_lie_on placing segments exact s i o)
