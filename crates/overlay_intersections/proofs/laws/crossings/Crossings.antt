-- Where two pairs cross: the exact point lies strictly inside both, and a rounded one in both boxes.
use Rattle.std.proofs.Common.{◌≡◌, ◌⊎◌, inl, inr, refl, sym, ap, subst, ◌∙◌, arith, ℕ, zero, suc, ◌<◌}
use Rattle.std.specs.Prelude.{ℤ, pos, negsuc, ◌+ℤ◌, ◌-ℤ◌, ◌*ℤ◌, ◌≤ℤ◌, ◌<ℤ◌, neg_ℤ, unsigned_abs, min, IsTrue, ◌||◌}
use Rattle.std.specs.Int.{int_signum, int_min, int_max}
use Rattle.std.proofs.lemmas.Int.{ints, clamps}
use Rattle.std.proofs.lemmas.Bool.{and_parts, and_from, cond_both}
use Rattle.overlay_geometry.specs.Points.{Point, Pair, turn, is_in_box, is_between, is_vertical, is_horizontal}
use Rattle.overlay_geometry.specs.Meeting.{separates, do_cross}
use Rattle.overlay_base.proofs.laws.geometry.Apart.{opposite}
use Rattle.overlay_intersections.specs.Crossing.{Quotient, quotient, crossing_n, crossing_d, offset_x, offset_y, placed_by, truncated, nearest, nearest_upward, snapping_point, settling_point}
use Rattle.overlay_geometry.proofs.laws.geometry.Polynomials.{as_D, diffs, D-eq, mul-nonneg}
use Rattle.overlay_geometry.proofs.laws.geometry.Points.{turn_rotates}
use Rattle.overlay_intersections.proofs.laws.crossings.Rounding.{over, IsRounding, round-from, round-to, truncated-is_rounding, nearest-is_rounding, nearest_upward-is_rounding}
use Rattle.overlay_geometry.proofs.laws.integers.Tests.{le-test}
use Rattle.overlay_geometry.proofs.laws.integers.Products.{minus_turned, minus_from}

-- ---- signs

-- where n and n - d have opposite signs, n / d lies strictly between 0 and 1
abbrev pub IsInside : ℤ → ℤ → Type 0
IsInside n d = ((pos 0 <ℤ n) × (n <ℤ d)) ⊎ ((d <ℤ n) × (n <ℤ pos 0))

inside_plain : (n d e : ℤ) → e ≡ n -ℤ d → ((n <ℤ pos 0) × (pos 0 <ℤ e)) ⊎ ((pos 0 <ℤ n) × (e <ℤ pos 0)) → IsInside n d
inside_plain n d e f (inl h) = inr (omega (arith, ints), h.0)
inside_plain n d e f (inr h) = inl (h.0, omega (arith, ints))

-- ---- n and d

-- the ends of s as seen from t
turn_at_end : (s t : Pair) → turn t.a t.b s.b ≡ crossing_n s t -ℤ crossing_d s t
unfolding turn
turn_at_end s t = rw (as_D s.a.x, as_D s.a.y, as_D s.b.x, as_D s.b.y, as_D t.a.x, as_D t.a.y, as_D t.b.x, as_D t.b.y) (simp diffs (D-eq _ _ _ _ (omega arith)))

pub crossing_d-swap : (s t : Pair) → crossing_d t s ≡ neg_ℤ (crossing_d s t)
crossing_d-swap s t = rw (as_D s.a.x, as_D s.a.y, as_D s.b.x, as_D s.b.y, as_D t.a.x, as_D t.a.y, as_D t.b.x, as_D t.b.y) (simp diffs (D-eq _ _ _ _ (omega arith)))

IsInside-from_separates : (s t : Pair) → IsTrue (separates t s) → IsInside (crossing_n s t) (crossing_d s t)
unfolding separates
IsInside-from_separates s t h =
    inside_plain (crossing_n s t) (crossing_d s t) (turn t.a t.b s.b) (turn_at_end s t)
    (subst (λ (z : ℤ). ((z <ℤ pos 0) × (pos 0 <ℤ turn t.a t.b s.b)) ⊎ ((pos 0 <ℤ z) × (turn t.a t.b s.b <ℤ pos 0))) (sym (turn_rotates s.a t.a t.b)) (opposite (turn t.a t.b s.a) (turn t.a t.b s.b) h))

-- the same point, from s and from t; with w from s.a to t.a, u along s, v along t
same_point_plain : (ux uy vx vy wx wy : ℤ) → ux *ℤ (wx *ℤ (wy +ℤ vy) -ℤ wy *ℤ (wx +ℤ vx)) ≡ wx *ℤ (ux *ℤ vy -ℤ uy *ℤ vx) -ℤ vx *ℤ ((neg_ℤ wx) *ℤ (uy -ℤ wy) -ℤ (neg_ℤ wy) *ℤ (ux -ℤ wx))
same_point_plain ux uy vx vy wx wy = rw (as_D ux, as_D uy, as_D vx, as_D vy, as_D wx, as_D wy) (simp diffs (D-eq _ _ _ _ (omega arith)))

same_point_plain_y : (ux uy vx vy wx wy : ℤ) → uy *ℤ (wx *ℤ (wy +ℤ vy) -ℤ wy *ℤ (wx +ℤ vx)) ≡ wy *ℤ (ux *ℤ vy -ℤ uy *ℤ vx) -ℤ vy *ℤ ((neg_ℤ wx) *ℤ (uy -ℤ wy) -ℤ (neg_ℤ wy) *ℤ (ux -ℤ wx))
same_point_plain_y ux uy vx vy wx wy = rw (as_D ux, as_D uy, as_D vx, as_D vy, as_D wx, as_D wy) (simp diffs (D-eq _ _ _ _ (omega arith)))

by_way : (p q r : ℤ) → r -ℤ p ≡ (q -ℤ p) +ℤ (r -ℤ q)
by_way p q r = omega (arith, ints)

exact_along_x : (s t : Pair) → (s.b.x -ℤ s.a.x) *ℤ crossing_n s t ≡ (t.a.x -ℤ s.a.x) *ℤ crossing_d s t -ℤ (t.b.x -ℤ t.a.x) *ℤ crossing_n t s
unfolding turn
exact_along_x s t =
    rw (by_way s.a.x t.a.x t.b.x, by_way s.a.y t.a.y t.b.y, minus_turned s.a.x t.a.x, minus_turned s.a.y t.a.y, minus_from s.a.x t.a.x s.b.x, minus_from s.a.y t.a.y s.b.y)
    (same_point_plain (s.b.x -ℤ s.a.x) (s.b.y -ℤ s.a.y) (t.b.x -ℤ t.a.x) (t.b.y -ℤ t.a.y) (t.a.x -ℤ s.a.x) (t.a.y -ℤ s.a.y))

exact_along_y : (s t : Pair) → (s.b.y -ℤ s.a.y) *ℤ crossing_n s t ≡ (t.a.y -ℤ s.a.y) *ℤ crossing_d s t -ℤ (t.b.y -ℤ t.a.y) *ℤ crossing_n t s
unfolding turn
exact_along_y s t =
    rw (by_way s.a.x t.a.x t.b.x, by_way s.a.y t.a.y t.b.y, minus_turned s.a.x t.a.x, minus_turned s.a.y t.a.y, minus_from s.a.x t.a.x s.b.x, minus_from s.a.y t.a.y s.b.y)
    (same_point_plain_y (s.b.x -ℤ s.a.x) (s.b.y -ℤ s.a.y) (t.b.x -ℤ t.a.x) (t.b.y -ℤ t.a.y) (t.a.x -ℤ s.a.x) (t.a.y -ℤ s.a.y))

-- ---- the same with a positive denominator

-- the exact point lies share / scale of the way along the pair
unfoldable pub share : Pair → Pair → ℤ
share s t = int_signum (crossing_d s t) *ℤ crossing_n s t

unfoldable pub scale : Pair → Pair → ℕ
scale s t = unsigned_abs (crossing_d s t)

pub signum_times : (d : ℤ) → int_signum d *ℤ d ≡ pos (unsigned_abs d)
signum_times (pos zero) = refl
signum_times (pos (suc n)) = let e : min (suc n) 1 ≡ 1 = omega arith in rw e (omega (arith, ints))
signum_times (negsuc n) = omega (arith, ints)

signum_neg : (d : ℤ) → int_signum (neg_ℤ d) ≡ neg_ℤ (int_signum d)
signum_neg (pos zero) = refl
signum_neg (pos (suc n)) = let e : min (suc n) 1 ≡ 1 = omega arith in rw e refl
signum_neg (negsuc n) = let e : min (suc n) 1 ≡ 1 = omega arith in rw e refl

pub abs_neg : (d : ℤ) → unsigned_abs (neg_ℤ d) ≡ unsigned_abs d
abs_neg (pos zero) = refl
abs_neg (pos (suc n)) = refl
abs_neg (negsuc n) = refl

inside_positive : (n d : ℤ) → IsInside n d → (pos 0 <ℤ (int_signum d *ℤ n)) × ((int_signum d *ℤ n) <ℤ pos (unsigned_abs d)) × (0 < unsigned_abs d)
inside_positive n (pos zero) (inl h) = absurd (omega (arith, ints))
inside_positive n (pos zero) (inr h) = absurd (omega (arith, ints))
inside_positive n (pos (suc d)) (inl h) =
    let e : int_signum (pos (suc d)) ≡ pos 1 = ap pos (omega arith) in
    subst (λ (g : ℤ). (pos 0 <ℤ (g *ℤ n)) × ((g *ℤ n) <ℤ pos (suc d)) × (0 < suc d)) (sym e) (omega (arith, ints), omega (arith, ints), omega arith)
inside_positive n (pos (suc d)) (inr h) = absurd (omega (arith, ints))
inside_positive n (negsuc d) (inl h) = absurd (omega (arith, ints))
inside_positive n (negsuc d) (inr h) = (omega (arith, ints), omega (arith, ints), omega arith)

pub scale-swap : (s t : Pair) → scale t s ≡ scale s t
unfolding scale
scale-swap s t = ap unsigned_abs (crossing_d-swap s t) ∙ abs_neg (crossing_d s t)

with_sign : (g a c d u n v m : ℤ) → u *ℤ n ≡ (c -ℤ a) *ℤ d -ℤ v *ℤ m → a *ℤ (g *ℤ d) +ℤ u *ℤ (g *ℤ n) ≡ c *ℤ (g *ℤ d) +ℤ v *ℤ (neg_ℤ g *ℤ m)
with_sign g a c d u n v m e = out a d u n ∙ (ap (λ (z : ℤ). g *ℤ (a *ℤ d +ℤ z)) e ∙ in_again g a c d v m)
  where
    out : (a d u n : ℤ) → a *ℤ (g *ℤ d) +ℤ u *ℤ (g *ℤ n) ≡ g *ℤ (a *ℤ d +ℤ u *ℤ n)
    out a d u n = rw (as_D g, as_D a, as_D d, as_D u, as_D n) (simp diffs (D-eq _ _ _ _ (omega arith)))

    in_again : (g a c d v m : ℤ) → g *ℤ (a *ℤ d +ℤ ((c -ℤ a) *ℤ d -ℤ v *ℤ m)) ≡ c *ℤ (g *ℤ d) +ℤ v *ℤ (neg_ℤ g *ℤ m)
    in_again g a c d v m = rw (as_D g, as_D a, as_D c, as_D d, as_D v, as_D m) (simp diffs (D-eq _ _ _ _ (omega arith)))

share-swap : (s t : Pair) → share t s ≡ neg_ℤ (int_signum (crossing_d s t)) *ℤ crossing_n t s
unfolding share
share-swap s t = ap (λ (z : ℤ). z *ℤ crossing_n t s) (ap int_signum (crossing_d-swap s t) ∙ signum_neg (crossing_d s t))

-- scale times the exact point, from s and from t
pub exact_x : (s t : Pair) → s.a.x *ℤ pos (scale s t) +ℤ (s.b.x -ℤ s.a.x) *ℤ share s t ≡ t.a.x *ℤ pos (scale s t) +ℤ (t.b.x -ℤ t.a.x) *ℤ share t s
unfolding share scale
exact_x s t =
    rw (← signum_times (crossing_d s t), share-swap s t)
    (with_sign (int_signum (crossing_d s t)) s.a.x t.a.x (crossing_d s t) (s.b.x -ℤ s.a.x) (crossing_n s t) (t.b.x -ℤ t.a.x) (crossing_n t s) (exact_along_x s t))

pub exact_y : (s t : Pair) → s.a.y *ℤ pos (scale s t) +ℤ (s.b.y -ℤ s.a.y) *ℤ share s t ≡ t.a.y *ℤ pos (scale s t) +ℤ (t.b.y -ℤ t.a.y) *ℤ share t s
unfolding share scale
exact_y s t =
    rw (← signum_times (crossing_d s t), share-swap s t)
    (with_sign (int_signum (crossing_d s t)) s.a.y t.a.y (crossing_d s t) (s.b.y -ℤ s.a.y) (crossing_n s t) (t.b.y -ℤ t.a.y) (crossing_n t s) (exact_along_y s t))

-- what a crossing of s and t says of the parts
pub record IsPart (part : ℤ) (whole : ℕ) : Type 0 where
  pub some : 0 < whole
  pub low : pos 0 ≤ℤ part
  pub high : part ≤ℤ pos whole

pub IsPart-share : (s t : Pair) → IsTrue (do_cross s t) → IsPart (share s t) (scale s t)
unfolding do_cross share scale
IsPart-share s t h =
    let i = inside_positive (crossing_n s t) (crossing_d s t) (IsInside-from_separates s t ((and_parts (separates s t) (separates t s) h).1)) in
    record { some = i.2; low = omega (arith, ints, i.0); high = omega (arith, ints, i.1) }

pub do_cross-swap : (s t : Pair) → IsTrue (do_cross s t) → IsTrue (do_cross t s)
unfolding do_cross
do_cross-swap s t h = let i = and_parts (separates s t) (separates t s) h in and_from (separates t s) (separates s t) i.1 i.0

offset_is : (v n d : ℤ) → quotient v n d ≡ over (v *ℤ (int_signum d *ℤ n)) (unsigned_abs d)
unfolding quotient
offset_is v n d = ap (λ (z : ℤ). over z (unsigned_abs d)) (moved_in (int_signum d) v n)
  where
    moved_in : (g v n : ℤ) → g *ℤ (v *ℤ n) ≡ v *ℤ (g *ℤ n)
    moved_in g v n = rw (as_D g, as_D v, as_D n) (simp diffs (D-eq _ _ _ _ (omega arith)))

pub offset_x-is : (s t : Pair) → offset_x s t ≡ over ((s.b.x -ℤ s.a.x) *ℤ share s t) (scale s t)
unfolding offset_x share scale
offset_x-is s t = offset_is (s.b.x -ℤ s.a.x) (crossing_n s t) (crossing_d s t)

pub offset_y-is : (s t : Pair) → offset_y s t ≡ over ((s.b.y -ℤ s.a.y) *ℤ share s t) (scale s t)
unfolding offset_y share scale
offset_y-is s t = offset_is (s.b.y -ℤ s.a.y) (crossing_n s t) (crossing_d s t)

-- ---- a rounded mean of two whole numbers lies between them

pub mean-from : (low a b n : ℤ) (whole : ℕ) → IsPart n whole → low ≤ℤ a → low ≤ℤ b → (low *ℤ pos whole) ≤ℤ (a *ℤ pos whole +ℤ (b -ℤ a) *ℤ n)
mean-from low a b n whole is h k =
    let m = mul-nonneg (a -ℤ low) (pos whole -ℤ n) (omega (arith, ints)) (let l = is.high in omega (arith, ints)) in
    let o = mul-nonneg (b -ℤ low) n (omega (arith, ints)) is.low in
    less_by (low *ℤ pos whole) _ ((a -ℤ low) *ℤ (pos whole -ℤ n)) ((b -ℤ low) *ℤ n) (parts low a b n (pos whole)) m o
  where
    less_by : (x y u v : ℤ) → y ≡ x +ℤ u +ℤ v → pos 0 ≤ℤ u → pos 0 ≤ℤ v → x ≤ℤ y
    less_by x y u v e p q = omega (arith, ints)

    parts : (low a b n w : ℤ) → a *ℤ w +ℤ (b -ℤ a) *ℤ n ≡ low *ℤ w +ℤ (a -ℤ low) *ℤ (w -ℤ n) +ℤ (b -ℤ low) *ℤ n
    parts low a b n w = rw (as_D low, as_D a, as_D b, as_D n, as_D w) (simp diffs (D-eq _ _ _ _ (omega arith)))

pub mean-to : (high a b n : ℤ) (whole : ℕ) → IsPart n whole → a ≤ℤ high → b ≤ℤ high → (a *ℤ pos whole +ℤ (b -ℤ a) *ℤ n) ≤ℤ (high *ℤ pos whole)
mean-to high a b n whole is h k =
    let m = mul-nonneg (high -ℤ a) (pos whole -ℤ n) (omega (arith, ints)) (let l = is.high in omega (arith, ints)) in
    let o = mul-nonneg (high -ℤ b) n (omega (arith, ints)) is.low in
    less_by _ (high *ℤ pos whole) ((high -ℤ a) *ℤ (pos whole -ℤ n)) ((high -ℤ b) *ℤ n) (parts high a b n (pos whole)) m o
  where
    less_by : (x y u v : ℤ) → y ≡ x +ℤ u +ℤ v → pos 0 ≤ℤ u → pos 0 ≤ℤ v → x ≤ℤ y
    less_by x y u v e p q = omega (arith, ints)

    parts : (high a b n w : ℤ) → high *ℤ w ≡ (a *ℤ w +ℤ (b -ℤ a) *ℤ n) +ℤ (high -ℤ a) *ℤ (w -ℤ n) +ℤ (high -ℤ b) *ℤ n
    parts high a b n w = rw (as_D high, as_D a, as_D b, as_D n, as_D w) (simp diffs (D-eq _ _ _ _ (omega arith)))

round_low : (round : Quotient → ℤ) → IsRounding round → (low a t : ℤ) (w : ℕ) → 0 < w → (low *ℤ pos w) ≤ℤ (a *ℤ pos w +ℤ t) → low ≤ℤ (a +ℤ round (over t w))
round_low round is low a t w p h = add_back low a _ (round-from round is t (low -ℤ a) w p (less_of low a t (pos w) h))
  where
    add_back : (low a r : ℤ) → (low -ℤ a) ≤ℤ r → low ≤ℤ (a +ℤ r)
    add_back low a r h = omega (arith, ints)

    less_of : (low a t w : ℤ) → (low *ℤ w) ≤ℤ (a *ℤ w +ℤ t) → ((low -ℤ a) *ℤ w) ≤ℤ t
    less_of low a t w h = let e : (low -ℤ a) *ℤ w ≡ low *ℤ w -ℤ a *ℤ w = rw (as_D low, as_D a, as_D w) (simp diffs (D-eq _ _ _ _ (omega arith))) in rw e (omega (arith, ints))

round_high : (round : Quotient → ℤ) → IsRounding round → (high a t : ℤ) (w : ℕ) → 0 < w → (a *ℤ pos w +ℤ t) ≤ℤ (high *ℤ pos w) → (a +ℤ round (over t w)) ≤ℤ high
round_high round is high a t w p h = add_back high a _ (round-to round is t (high -ℤ a) w p (less_of high a t (pos w) h))
  where
    add_back : (high a r : ℤ) → r ≤ℤ (high -ℤ a) → (a +ℤ r) ≤ℤ high
    add_back high a r h = omega (arith, ints)

    less_of : (high a t w : ℤ) → (a *ℤ w +ℤ t) ≤ℤ (high *ℤ w) → t ≤ℤ ((high -ℤ a) *ℤ w)
    less_of high a t w h = let e : (high -ℤ a) *ℤ w ≡ high *ℤ w -ℤ a *ℤ w = rw (as_D high, as_D a, as_D w) (simp diffs (D-eq _ _ _ _ (omega arith))) in rw e (omega (arith, ints))

-- ---- boxes

min_first : (u v : ℤ) → int_min u v ≤ℤ u
min_first u v = omega (arith, ints, clamps)

min_second : (u v : ℤ) → int_min u v ≤ℤ v
min_second u v = omega (arith, ints, clamps)

max_first : (u v : ℤ) → u ≤ℤ int_max u v
max_first u v = omega (arith, ints, clamps)

max_second : (u v : ℤ) → v ≤ℤ int_max u v
max_second u v = omega (arith, ints, clamps)

pub is_between-from : (u v z : ℤ) → int_min u v ≤ℤ z → z ≤ℤ int_max u v → IsTrue (is_between u v z)
is_between-from u v z h k = and_from _ _ (le-test _ _ h) (le-test _ _ k)

-- the rounded coordinate of a crossing, from a along a to b, where c and d are the ends of either pair
placed_between : (round : Quotient → ℤ) → IsRounding round → (a b c d m n : ℤ) (w : ℕ) → IsPart n w → IsPart m w → a *ℤ pos w +ℤ (b -ℤ a) *ℤ n ≡ c *ℤ pos w +ℤ (d -ℤ c) *ℤ m → IsTrue (is_between c d (a +ℤ round (over ((b -ℤ a) *ℤ n) w)))
placed_between round is a b c d m n w p q e =
    is_between-from c d _
    (round_low round is (int_min c d) a _ w p.some (subst (λ (z : ℤ). (int_min c d *ℤ pos w) ≤ℤ z) (sym e) (mean-from (int_min c d) c d m w q (min_first c d) (min_second c d))))
    (round_high round is (int_max c d) a _ w p.some (subst (λ (z : ℤ). z ≤ℤ (int_max c d *ℤ pos w)) (sym e) (mean-to (int_max c d) c d m w q (max_first c d) (max_second c d))))

IsPart-other : (s t : Pair) → IsTrue (do_cross s t) → IsPart (share t s) (scale s t)
IsPart-other s t h = subst (λ (w : ℕ). IsPart (share t s) w) (scale-swap s t) (IsPart-share t s (do_cross-swap s t h))

-- a point placed by a rounding lies in the box of the target
pub placed_in_target : (round : Quotient → ℤ) → IsRounding round → (s t : Pair) → IsTrue (do_cross s t) → IsTrue (is_in_box s (placed_by round s t))
unfolding placed_by is_in_box
placed_in_target round is s t h =
    let p = IsPart-share s t h in
    and_from _ _
    (let e : IsTrue (is_between s.a.x s.b.x (s.a.x +ℤ round (offset_x s t))) = rw (offset_x-is s t) (placed_between round is s.a.x s.b.x s.a.x s.b.x (share s t) (share s t) (scale s t) p p refl) in e)
    (let e : IsTrue (is_between s.a.y s.b.y (s.a.y +ℤ round (offset_y s t))) = rw (offset_y-is s t) (placed_between round is s.a.y s.b.y s.a.y s.b.y (share s t) (share s t) (scale s t) p p refl) in e)

-- and in that of the other
pub placed_in_other : (round : Quotient → ℤ) → IsRounding round → (s t : Pair) → IsTrue (do_cross s t) → IsTrue (is_in_box t (placed_by round s t))
unfolding placed_by is_in_box
placed_in_other round is s t h =
    let p = IsPart-share s t h in
    let q = IsPart-other s t h in
    and_from _ _
    (let e : IsTrue (is_between t.a.x t.b.x (s.a.x +ℤ round (offset_x s t))) = rw (offset_x-is s t) (placed_between round is s.a.x s.b.x t.a.x t.b.x (share t s) (share s t) (scale s t) p q (exact_x s t)) in e)
    (let e : IsTrue (is_between t.a.y t.b.y (s.a.y +ℤ round (offset_y s t))) = rw (offset_y-is s t) (placed_between round is s.a.y s.b.y t.a.y t.b.y (share t s) (share s t) (scale s t) p q (exact_y s t)) in e)

pub settling_in_target : (s t : Pair) → IsTrue (do_cross s t) → IsTrue (is_in_box s (settling_point s t))
unfolding settling_point
settling_in_target s t h = placed_in_target nearest_upward nearest_upward-is_rounding s t h

pub settling_in_other : (s t : Pair) → IsTrue (do_cross s t) → IsTrue (is_in_box t (settling_point s t))
unfolding settling_point
settling_in_other s t h = placed_in_other nearest_upward nearest_upward-is_rounding s t h

pub snapping_in_target : (s t : Pair) → IsTrue (do_cross s t) → IsTrue (is_in_box s (snapping_point s t))
unfolding snapping_point
snapping_in_target s t h = cond_both (is_vertical s || is_horizontal s) _ _ (λ (p : Point). IsTrue (is_in_box s p)) (λ e. placed_in_target truncated truncated-is_rounding s t h) (λ e. placed_in_target nearest nearest-is_rounding s t h)

pub snapping_in_other : (s t : Pair) → IsTrue (do_cross s t) → IsTrue (is_in_box t (snapping_point s t))
unfolding snapping_point
snapping_in_other s t h = cond_both (is_vertical s || is_horizontal s) _ _ (λ (p : Point). IsTrue (is_in_box t p)) (λ e. placed_in_other truncated truncated-is_rounding s t h) (λ e. placed_in_other nearest nearest-is_rounding s t h)
