-- The exact crossing point: where it is whole it lies on both lines, and no other whole point does.
use Rattle.std.proofs.Common.{◌≡◌, sym, ap, ℕ, ◌<◌, ◌∙◌, arith, true, ◌||◌, IsTrue, zero, suc}
use Rattle.std.specs.Prelude.{ℤ, pos, negsuc, ◌+ℤ◌, ◌-ℤ◌, ◌*ℤ◌, int_div, int_rem, unsigned_abs}
use Rattle.std.specs.Int.{int_signum}
use Rattle.std.specs.Ordering.{int_eq}
use Rattle.std.proofs.lemmas.Int.{ints, quot-rem, rem_below}
use Rattle.std.proofs.lemmas.Bool.{and_parts, and_from, cond_both}
use Rattle.std.proofs.lemmas.Bool.Decides.{Decides-int_eq}
use Rattle.std.specs.Cmp.{both_ways as same_tests}
use Rattle.std.proofs.Math.IntN.{*ℤ_comm}
use Rattle.overlay_geometry.specs.Points.{Point, Pair, turn, is_vertical, is_horizontal}
use Rattle.overlay_geometry.specs.Meeting.{do_cross}
use Rattle.overlay_intersections.specs.Crossing.{Quotient, is_whole, truncated, nearest, nearest_upward, crossing_n, crossing_d, offset_x, offset_y, placed_by, is_exact, is_on_lines, snapping_point, settling_point}
use Rattle.overlay_geometry.proofs.laws.geometry.Polynomials.{as_D, diffs, D-eq, cancel-eq, cancel-zero}
use Rattle.overlay_geometry.proofs.laws.geometry.Points.{same_point}
use Rattle.overlay_intersections.proofs.laws.crossings.Rounding.{over, IsRounding, IsRoundedUp, IsRoundedUp-unique, nearest_upward-is, truncated-is_rounding, nearest-is_rounding, nearest_upward-is_rounding}
use Rattle.overlay_intersections.proofs.laws.crossings.Crossings.{signum_times, share, scale, scale-swap, exact_x, exact_y, IsPart-share, do_cross-swap, offset_x-is, offset_y-is}
use Rattle.overlay_geometry.proofs.laws.integers.Products.{minus_times}

-- ---- whole quotients

small_multiple : (m r : ℤ) (b : ℕ) → m *ℤ pos b +ℤ r ≡ pos 0 → unsigned_abs r < b → r ≡ pos 0
small_multiple (pos zero) r b e h = omega (arith, ints)
small_multiple (pos (suc m)) (pos r) b e h = absurd (omega (arith, ints))
small_multiple (pos (suc m)) (negsuc r) b e h = absurd (omega (arith, ints))
small_multiple (negsuc m) (pos r) b e h = absurd (omega (arith, ints))
small_multiple (negsuc m) (negsuc r) b e h = absurd (omega (arith, ints))

difference_multiple : (q z r : ℤ) (b : ℕ) → q *ℤ pos b +ℤ r ≡ z *ℤ pos b → (q -ℤ z) *ℤ pos b +ℤ r ≡ pos 0
difference_multiple q z r b e = rw (minus_times q z (pos b)) (omega (arith, ints))

pub multiple_is_whole : (z t : ℤ) (b : ℕ) → 0 < b → t ≡ z *ℤ pos b → is_whole (over t b) ≡ true
unfolding is_whole
multiple_is_whole z t b p e =
    (Decides-int_eq (int_rem t (pos b)) (pos 0)).1
    (small_multiple (int_div t (pos b) -ℤ z) (int_rem t (pos b)) b
    (difference_multiple (int_div t (pos b)) z (int_rem t (pos b)) b (quot-rem t (pos b) ∙ e))
    (rem_below t (pos b) p))

pub whole_is_multiple : (t : ℤ) (b : ℕ) → is_whole (over t b) ≡ true → t ≡ int_div t (pos b) *ℤ pos b
unfolding is_whole
whole_is_multiple t b h =
    let z = (Decides-int_eq (int_rem t (pos b)) (pos 0)).0 h in
    let e = quot-rem t (pos b) in
    omega (arith, ints)

-- ---- the exact point

-- p is the exact crossing point, measured from s
pub record IsCrossingPoint (s t : Pair) (p : Point) : Type 0 where
  pub at_x : (p.x -ℤ s.a.x) *ℤ pos (scale s t) ≡ (s.b.x -ℤ s.a.x) *ℤ share s t
  pub at_y : (p.y -ℤ s.a.y) *ℤ pos (scale s t) ≡ (s.b.y -ℤ s.a.y) *ℤ share s t

measured_again : (p a c b u v : ℤ) → (p -ℤ a) *ℤ b ≡ u → a *ℤ b +ℤ u ≡ c *ℤ b +ℤ v → (p -ℤ c) *ℤ b ≡ v
measured_again p a c b u v h e = let k = rw (minus_times p a b) at h in rw (minus_times p c b) (omega (arith, ints, k))

-- measured from t it is the same
pub IsCrossingPoint-swap : (s t : Pair) (p : Point) → IsCrossingPoint s t p → IsCrossingPoint t s p
IsCrossingPoint-swap s t p h = record {
  at_x = rw (scale-swap s t) (measured_again p.x s.a.x t.a.x (pos (scale s t)) _ _ h.at_x (exact_x s t));
  at_y = rw (scale-swap s t) (measured_again p.y s.a.y t.a.y (pos (scale s t)) _ _ h.at_y (exact_y s t));
}

scaled_turn : (ux uy qx qy b : ℤ) → b *ℤ (ux *ℤ qy -ℤ uy *ℤ qx) ≡ ux *ℤ (qy *ℤ b) -ℤ uy *ℤ (qx *ℤ b)
scaled_turn ux uy qx qy b = rw (as_D ux, as_D uy, as_D qx, as_D qy, as_D b) (simp diffs (D-eq _ _ _ _ (omega arith)))

no_turn_along : (ux uy n : ℤ) → ux *ℤ (uy *ℤ n) -ℤ uy *ℤ (ux *ℤ n) ≡ pos 0
no_turn_along ux uy n = rw (as_D ux, as_D uy, as_D n) (simp diffs (D-eq _ _ _ _ (omega arith)))

on_line_plain : (ux uy qx qy b n : ℤ) → qx *ℤ b ≡ ux *ℤ n → qy *ℤ b ≡ uy *ℤ n → b *ℤ (ux *ℤ qy -ℤ uy *ℤ qx) ≡ pos 0
on_line_plain ux uy qx qy b n hx hy = rw (scaled_turn ux uy qx qy b, hx, hy) (no_turn_along ux uy n)

-- it lies on both lines
pub on_own_line : (s t : Pair) (p : Point) → 0 < scale s t → IsCrossingPoint s t p → turn s.a s.b p ≡ pos 0
unfolding turn
on_own_line s t p h k = cancel-zero (pos (scale s t)) _ (omega (arith, ints)) (on_line_plain (s.b.x -ℤ s.a.x) (s.b.y -ℤ s.a.y) (p.x -ℤ s.a.x) (p.y -ℤ s.a.y) (pos (scale s t)) (share s t) k.at_x k.at_y)

pub on_both_lines : (s t : Pair) (p : Point) → IsTrue (do_cross s t) → IsCrossingPoint s t p → (turn s.a s.b p ≡ pos 0) × (turn t.a t.b p ≡ pos 0)
on_both_lines s t p h k =
    (on_own_line s t p (IsPart-share s t h).some k, on_own_line t s p (IsPart-share t s (do_cross-swap s t h)).some (IsCrossingPoint-swap s t p k))

-- what lies on both lines is the crossing point
cramer_x : (ux uy vx vy qx qy n : ℤ) → qx *ℤ (ux *ℤ vy -ℤ uy *ℤ vx) ≡ ux *ℤ n -ℤ ux *ℤ (vx *ℤ qy -ℤ vy *ℤ qx +ℤ n) +ℤ vx *ℤ (ux *ℤ qy -ℤ uy *ℤ qx)
cramer_x ux uy vx vy qx qy n = rw (as_D ux, as_D uy, as_D vx, as_D vy, as_D qx, as_D qy, as_D n) (simp diffs (D-eq _ _ _ _ (omega arith)))

cramer_y : (ux uy vx vy qx qy n : ℤ) → qy *ℤ (ux *ℤ vy -ℤ uy *ℤ vx) ≡ uy *ℤ n -ℤ uy *ℤ (vx *ℤ qy -ℤ vy *ℤ qx +ℤ n) +ℤ vy *ℤ (ux *ℤ qy -ℤ uy *ℤ qx)
cramer_y ux uy vx vy qx qy n = rw (as_D ux, as_D uy, as_D vx, as_D vy, as_D qx, as_D qy, as_D n) (simp diffs (D-eq _ _ _ _ (omega arith)))

-- the turn of p from t, with p measured from s.a
turn_from_s : (s t : Pair) (p : Point) → turn t.a t.b p ≡ (t.b.x -ℤ t.a.x) *ℤ (p.y -ℤ s.a.y) -ℤ (t.b.y -ℤ t.a.y) *ℤ (p.x -ℤ s.a.x) +ℤ crossing_n s t
unfolding turn
turn_from_s s t p = rw (as_D s.a.x, as_D s.a.y, as_D p.x, as_D p.y, as_D t.a.x, as_D t.a.y, as_D t.b.x, as_D t.b.y) (simp diffs (D-eq _ _ _ _ (omega arith)))

two_gone : (x ux vx w z n : ℤ) → x ≡ ux *ℤ n -ℤ ux *ℤ w +ℤ vx *ℤ z → w ≡ pos 0 → z ≡ pos 0 → x ≡ ux *ℤ n
two_gone x ux vx w z n e hw hz = let k = rw (hw, hz) at e in omega (arith, ints, k)

signed : (q d u n g b : ℤ) → q *ℤ d ≡ u *ℤ n → g *ℤ d ≡ b → q *ℤ b ≡ u *ℤ (g *ℤ n)
signed q d u n g b e f = rw (← f, moved g q d, e) (moved_back g u n)
  where
    moved : (g q d : ℤ) → q *ℤ (g *ℤ d) ≡ g *ℤ (q *ℤ d)
    moved g q d = rw (as_D g, as_D q, as_D d) (simp diffs (D-eq _ _ _ _ (omega arith)))

    moved_back : (g u n : ℤ) → g *ℤ (u *ℤ n) ≡ u *ℤ (g *ℤ n)
    moved_back g u n = rw (as_D g, as_D u, as_D n) (simp diffs (D-eq _ _ _ _ (omega arith)))

pub from_both_lines : (s t : Pair) (p : Point) → turn s.a s.b p ≡ pos 0 → turn t.a t.b p ≡ pos 0 → IsCrossingPoint s t p
unfolding turn share scale
from_both_lines s t p hs ht =
    let w = sym (turn_from_s s t p) ∙ ht in
    let ux = s.b.x -ℤ s.a.x in
    let uy = s.b.y -ℤ s.a.y in
    let vx = t.b.x -ℤ t.a.x in
    let vy = t.b.y -ℤ t.a.y in
    let n = crossing_n s t in
    let d = crossing_d s t in
    let x = two_gone _ ux vx _ _ n (cramer_x ux uy vx vy (p.x -ℤ s.a.x) (p.y -ℤ s.a.y) n) w hs in
    let y = two_gone _ uy vy _ _ n (cramer_y ux uy vx vy (p.x -ℤ s.a.x) (p.y -ℤ s.a.y) n) w hs in
    record {
      at_x = signed (p.x -ℤ s.a.x) d ux n (int_signum d) _ x (signum_times d);
      at_y = signed (p.y -ℤ s.a.y) d uy n (int_signum d) _ y (signum_times d);
    }

-- ---- is_exact

pub exact_from : (s t : Pair) (p : Point) → IsTrue (do_cross s t) → IsCrossingPoint s t p → is_exact s t ≡ true
unfolding is_exact
exact_from s t p h k =
    let b = (IsPart-share s t h).some in
    let x : is_whole (offset_x s t) ≡ true = rw (offset_x-is s t) (multiple_is_whole (p.x -ℤ s.a.x) _ (scale s t) b (sym k.at_x)) in
    let y : is_whole (offset_y s t) ≡ true = rw (offset_y-is s t) (multiple_is_whole (p.y -ℤ s.a.y) _ (scale s t) b (sym k.at_y)) in
    and_from (is_whole (offset_x s t)) (is_whole (offset_y s t)) x y

rounded_whole : (round : Quotient → ℤ) → IsRounding round → (t : ℤ) (b : ℕ) → 0 < b → is_whole (over t b) ≡ true → round (over t b) *ℤ pos b ≡ t
rounded_whole round is t b p h =
    let e = whole_is_multiple t b h in
    let r : round (over t b) ≡ int_div t (pos b) = ap (λ (z : ℤ). round (over z b)) e ∙ is.keeps (int_div t (pos b)) b p in
    ap (λ (z : ℤ). z *ℤ pos b) r ∙ sym e

from_start : (a r : ℤ) → (a +ℤ r) -ℤ a ≡ r
from_start a r = omega (arith, ints)

-- each rounding puts an exact crossing where it is
pub exact_point : (round : Quotient → ℤ) → IsRounding round → (s t : Pair) → IsTrue (do_cross s t) → is_exact s t ≡ true → IsCrossingPoint s t (placed_by round s t)
unfolding is_exact placed_by
exact_point round is s t h k =
    let b = (IsPart-share s t h).some in
    let parts = and_parts (is_whole (offset_x s t)) (is_whole (offset_y s t)) k in
    record {
      at_x = rw (offset_x-is s t, from_start) (rounded_whole round is _ (scale s t) b (rw (offset_x-is s t) at parts.0));
      at_y = rw (offset_y-is s t, from_start) (rounded_whole round is _ (scale s t) b (rw (offset_y-is s t) at parts.1));
    }

-- there is one crossing point
pub IsCrossingPoint-unique : (s t : Pair) (p q : Point) → IsTrue (do_cross s t) → IsCrossingPoint s t p → IsCrossingPoint s t q → p ≡ q
IsCrossingPoint-unique s t p q h k l =
    let b = (IsPart-share s t h).some in
    same_point p q
    (same_steps p.x q.x s.a.x (scale s t) _ b k.at_x l.at_x)
    (same_steps p.y q.y s.a.y (scale s t) _ b k.at_y l.at_y)
  where
    same_steps : (p q a : ℤ) (b : ℕ) (t : ℤ) → 0 < b → (p -ℤ a) *ℤ pos b ≡ t → (q -ℤ a) *ℤ pos b ≡ t → p ≡ q
    same_steps p q a b t h k l =
        let e = cancel-eq (pos b) (p -ℤ a) (q -ℤ a) (omega (arith, ints)) (*ℤ_comm (pos b) (p -ℤ a) ∙ k ∙ sym l ∙ *ℤ_comm (q -ℤ a) (pos b)) in
        omega (arith, ints)

pub snapping_is_placed : (P : Point → Type 0) (s t : Pair) → P (placed_by truncated s t) → P (placed_by nearest s t) → P (snapping_point s t)
unfolding snapping_point
snapping_is_placed P s t h k = cond_both (is_vertical s || is_horizontal s) _ _ P (λ e. h) (λ e. k)

pub exact_snapping_point : (s t : Pair) → IsTrue (do_cross s t) → is_exact s t ≡ true → IsCrossingPoint s t (snapping_point s t)
exact_snapping_point s t h k =
    snapping_is_placed (IsCrossingPoint s t) s t (exact_point truncated truncated-is_rounding s t h k) (exact_point nearest nearest-is_rounding s t h k)

pub exact_settling_point : (s t : Pair) → IsTrue (do_cross s t) → is_exact s t ≡ true → IsCrossingPoint s t (settling_point s t)
unfolding settling_point
exact_settling_point s t h k = exact_point nearest_upward nearest_upward-is_rounding s t h k

-- an exact crossing is snapped and settled to one point
pub exact_points_agree : (s t : Pair) → IsTrue (do_cross s t) → is_exact s t ≡ true → snapping_point s t ≡ settling_point s t
exact_points_agree s t h k = IsCrossingPoint-unique s t _ _ h (exact_snapping_point s t h k) (exact_settling_point s t h k)

-- a whole point on both lines shows the crossing exact
pub exact_by_lines : (s t : Pair) (p : Point) → IsTrue (do_cross s t) → turn s.a s.b p ≡ pos 0 → turn t.a t.b p ≡ pos 0 → is_exact s t ≡ true
exact_by_lines s t p h hs ht = exact_from s t p h (from_both_lines s t p hs ht)

on_lines_parts : (s t : Pair) (p : Point) → is_on_lines s t p ≡ true → (turn s.a s.b p ≡ pos 0) × (turn t.a t.b p ≡ pos 0)
on_lines_parts s t p h =
    let parts = and_parts (int_eq (turn s.a s.b p) (pos 0)) (int_eq (turn t.a t.b p) (pos 0)) h in
    ((Decides-int_eq (turn s.a s.b p) (pos 0)).0 parts.0, (Decides-int_eq (turn t.a t.b p) (pos 0)).0 parts.1)

on_lines_from : (s t : Pair) (p : Point) → turn s.a s.b p ≡ pos 0 → turn t.a t.b p ≡ pos 0 → is_on_lines s t p ≡ true
on_lines_from s t p h k = and_from _ _ ((Decides-int_eq (turn s.a s.b p) (pos 0)).1 h) ((Decides-int_eq (turn t.a t.b p) (pos 0)).1 k)

-- the crossing is exact where the point lies on both lines, for the snapping and for the settling point
pub exact_is_on_lines : (s t : Pair) → IsTrue (do_cross s t) → is_exact s t ≡ is_on_lines s t (snapping_point s t)
exact_is_on_lines s t h =
    same_tests _ _
    (λ k. let l = on_both_lines s t (snapping_point s t) h (exact_snapping_point s t h k) in on_lines_from s t (snapping_point s t) l.0 l.1)
    (λ k. let l = on_lines_parts s t (snapping_point s t) k in exact_by_lines s t (snapping_point s t) h l.0 l.1)

pub exact_is_on_lines_settling : (s t : Pair) → IsTrue (do_cross s t) → is_exact s t ≡ is_on_lines s t (settling_point s t)
exact_is_on_lines_settling s t h =
    same_tests _ _
    (λ k. let l = on_both_lines s t (settling_point s t) h (exact_settling_point s t h k) in on_lines_from s t (settling_point s t) l.0 l.1)
    (λ k. let l = on_lines_parts s t (settling_point s t) k in exact_by_lines s t (settling_point s t) h l.0 l.1)

-- ---- which of the two is the target does not matter

pub is_exact_back : (s t : Pair) → IsTrue (do_cross s t) → is_exact s t ≡ true → is_exact t s ≡ true
is_exact_back s t h k = exact_from t s (snapping_point s t) (do_cross-swap s t h) (IsCrossingPoint-swap s t _ (exact_snapping_point s t h k))

pub is_exact_swap : (s t : Pair) → IsTrue (do_cross s t) → is_exact s t ≡ is_exact t s
is_exact_swap s t h = same_tests _ _ (is_exact_back s t h) (is_exact_back t s (do_cross-swap s t h))

moved_floor : (t u a c : ℤ) (b : ℕ) (r : ℤ) → a *ℤ pos b +ℤ t ≡ c *ℤ pos b +ℤ u → IsRoundedUp t b r → IsRoundedUp u b ((a -ℤ c) +ℤ r)
moved_floor t u a c b r e k =
    let f = spread_in (pos b) a c r in
    record { low = rw f (omega (arith, ints, e, k.low)); high = rw f (omega (arith, ints, e, k.high)) }
  where
    spread_in : (b a c r : ℤ) → b *ℤ ((a -ℤ c) +ℤ r) ≡ (a *ℤ b -ℤ c *ℤ b) +ℤ b *ℤ r
    spread_in b a c r = rw (as_D b, as_D a, as_D c, as_D r) (simp diffs (D-eq _ _ _ _ (omega arith)))

same_floor : (t u a c : ℤ) (b : ℕ) → 0 < b → a *ℤ pos b +ℤ t ≡ c *ℤ pos b +ℤ u → a +ℤ nearest_upward (over t b) ≡ c +ℤ nearest_upward (over u b)
same_floor t u a c b p e =
    let k = moved_floor t u a c b _ e (nearest_upward-is t b p) in
    let r = IsRoundedUp-unique u b _ _ p k (nearest_upward-is u b p) in
    omega (arith, ints, r)

pub settling_point_swap : (s t : Pair) → IsTrue (do_cross s t) → settling_point s t ≡ settling_point t s
unfolding settling_point placed_by
settling_point_swap s t h =
    let b = (IsPart-share s t h).some in
    same_point (settling_point s t) (settling_point t s)
    (rw (offset_x-is s t, offset_x-is t s, scale-swap s t) (same_floor _ _ s.a.x t.a.x (scale s t) b (exact_x s t)))
    (rw (offset_y-is s t, offset_y-is t s, scale-swap s t) (same_floor _ _ s.a.y t.a.y (scale s t) b (exact_y s t)))
