-- The direction in which the center of a pixel is beyond a piece of another chain: the same for the center and the piece, and for the
-- points of the segments from which they come.
use Rattle.std.proofs.Common.{◌≡◌, arith, inl, inr, ℕ, ◌+◌, ◌<◌, true, false}
use Rattle.std.specs.Prelude.{ℤ, pos, ◌+ℤ◌, ◌-ℤ◌, ◌*ℤ◌, ◌≤ℤ◌, ◌<ℤ◌, neg_ℤ, unsigned_abs}
use Rattle.std.proofs.lemmas.Int.{ints}
use Rattle.overlay_geometry.specs.Points.{Point, Pair, step, turn}
use Rattle.overlay_geometry.proofs.laws.geometry.Polynomials.{as_D, diffs, D-eq, mul-pos, mul-lt_left}
use Rattle.overlay_geometry.proofs.laws.integers.Tests.{by_sign}
use Rattle.overlay_geometry.proofs.laws.integers.Products.{scaled_le}
use Rattle.overlay_snapping.specs.Pixels.{extent, is_narrow}
use Rattle.overlay_snapping.proofs.laws.pixels.Inequality.{Leads}
use Rattle.overlay_snapping.proofs.laws.planarity.Steps.{lead, IsBeyond}
use Rattle.overlay_snapping.proofs.laws.planarity.Motions.{multiple}
use Rattle.overlay_snapping.proofs.laws.planarity.Sides.{turn_inside, inside_above, inside_below, narrow_below_wide, narrow_above_wide, wide_is_off}

-- v / m lies in the pixel of c
pub record IsInCell (m : ℕ) (v c : Point) : Type 0 where
  pub from_left : neg_ℤ (pos m) ≤ℤ (pos 2 *ℤ (v.x -ℤ c.x *ℤ pos m))
  pub to_right : (pos 2 *ℤ (v.x -ℤ c.x *ℤ pos m)) <ℤ pos m
  pub from_below : neg_ℤ (pos m) ≤ℤ (pos 2 *ℤ (v.y -ℤ c.y *ℤ pos m))
  pub to_top : (pos 2 *ℤ (v.y -ℤ c.y *ℤ pos m)) <ℤ pos m

-- v / m lies on the line of t
pub record IsOnLine (m : ℕ) (t : Pair) (v : Point) : Type 0 where
  pub part : ℤ
  pub at_x : v.x ≡ t.a.x *ℤ pos m +ℤ (t.b.x -ℤ t.a.x) *ℤ part
  pub at_y : v.y ≡ t.a.y *ℤ pos m +ℤ (t.b.y -ℤ t.a.y) *ℤ part

-- How the center c of a pixel lies beyond the piece from d to d' of a chain of t. The points v, w and w' are those of the segments, m times.
pub data IsClear (m : ℕ) (t : Pair) (c d d' v w w' : Point) : Type 0 where
  to_right : d.x <ℤ c.x → d'.x <ℤ c.x → IsClear m t c d d' v w w'
  to_left : c.x <ℤ d.x → c.x <ℤ d'.x → IsClear m t c d d' v w w'
  above : d.y <ℤ c.y → d'.y <ℤ c.y → IsClear m t c d d' v w w'
  below : c.y <ℤ d.y → c.y <ℤ d'.y → IsClear m t c d d' v w w'
  beside : is_narrow (step t.a t.b) (turn t.a t.b c) ≡ false → is_narrow (step t.a t.b) (turn t.a t.b d) ≡ true → is_narrow (step t.a t.b) (turn t.a t.b d') ≡ true → IsClear m t c d d' v w w'
  in_place : v ≡ multiple m c → w ≡ multiple m d → w' ≡ multiple m d' → ((turn t.a t.b c ≡ pos 0) → ⊥) → turn t.a t.b d ≡ pos 0 → turn t.a t.b d' ≡ pos 0 → IsClear m t c d d' v w w'

-- one direction for both
pub record HasDirection (m : ℕ) (c d d' v w w' : Point) : Type 0 where
  pub direction : Point
  pub of_points : IsBeyond direction v w w'
  pub of_centers : IsBeyond direction (multiple m c) (multiple m d) (multiple m d')

-- ---- along an axis

-- rounding keeps the order
pub in_order : (m : ℕ) (c d v w : ℤ) → 0 < m → d <ℤ c → neg_ℤ (pos m) ≤ℤ (pos 2 *ℤ (v -ℤ c *ℤ pos m)) → (pos 2 *ℤ (w -ℤ d *ℤ pos m)) <ℤ pos m → w <ℤ v
in_order m c d v w some less low high =
    let k = scaled_le (d +ℤ pos 1) c m (omega (arith, ints, less)) in
    plain (c *ℤ pos m) (d *ℤ pos m) ((d +ℤ pos 1) *ℤ pos m) v w m (one_more d m) k low high
  where
    one_more : (d : ℤ) (m : ℕ) → (d +ℤ pos 1) *ℤ pos m ≡ d *ℤ pos m +ℤ pos m
    one_more d m = rw (as_D d) (simp diffs (D-eq _ _ _ _ (omega arith)))

    plain : (cm dm em v w : ℤ) (m : ℕ) → em ≡ dm +ℤ pos m → em ≤ℤ cm → neg_ℤ (pos m) ≤ℤ (pos 2 *ℤ (v -ℤ cm)) → (pos 2 *ℤ (w -ℤ dm)) <ℤ pos m → w <ℤ v
    plain cm dm em v w m e k low high = omega (arith, ints, e, k, low, high)

times_in_order : (m : ℕ) (c d : ℤ) → 0 < m → d <ℤ c → (pos m *ℤ d) <ℤ (pos m *ℤ c)
times_in_order m c d some less = mul-lt_left (pos m) d c (omega (arith, ints, some)) less

right_lead : (v w v' w' : ℤ) → w <ℤ v → pos 0 <ℤ (pos 1 *ℤ (v -ℤ w) +ℤ pos 0 *ℤ (v' -ℤ w'))
right_lead v w v' w' h = omega (arith, ints, h)

left_lead : (v w v' w' : ℤ) → v <ℤ w → pos 0 <ℤ (neg_ℤ (pos 1) *ℤ (v -ℤ w) +ℤ pos 0 *ℤ (v' -ℤ w'))
left_lead v w v' w' h = omega (arith, ints, h)

up_lead : (v w v' w' : ℤ) → w' <ℤ v' → pos 0 <ℤ (pos 0 *ℤ (v -ℤ w) +ℤ pos 1 *ℤ (v' -ℤ w'))
up_lead v w v' w' h = omega (arith, ints, h)

down_lead : (v w v' w' : ℤ) → v' <ℤ w' → pos 0 <ℤ (pos 0 *ℤ (v -ℤ w) +ℤ neg_ℤ (pos 1) *ℤ (v' -ℤ w'))
down_lead v w v' w' h = omega (arith, ints, h)

-- ---- across a line

-- twice the lead of a point in a pixel before a point of the line, across the line
across_inside : (m : ℕ) (d e vx vy wx wy cx cy ax ay k : ℤ) → wx ≡ ax *ℤ pos m +ℤ d *ℤ k → wy ≡ ay *ℤ pos m +ℤ e *ℤ k →
    pos 2 *ℤ (neg_ℤ e *ℤ (vx -ℤ wx) +ℤ d *ℤ (vy -ℤ wy)) ≡ turn_inside m d e (d *ℤ (cy -ℤ ay) -ℤ e *ℤ (cx -ℤ ax)) (pos 2 *ℤ (vx -ℤ cx *ℤ pos m)) (pos 2 *ℤ (vy -ℤ cy *ℤ pos m))
across_inside m d e vx vy wx wy cx cy ax ay k is_x is_y =
    rw (is_x, is_y, as_D d, as_D e, as_D vx, as_D vy, as_D cx, as_D cy, as_D ax, as_D ay, as_D k) (simp diffs (D-eq _ _ _ _ (omega arith)))

half : (z : ℤ) → pos 0 <ℤ (pos 2 *ℤ z) → pos 0 <ℤ z
half z h = omega (arith, ints, h)

turned_lead : (d e x y : ℤ) → pos 2 *ℤ (e *ℤ x +ℤ neg_ℤ d *ℤ y) ≡ neg_ℤ (pos 2 *ℤ (neg_ℤ e *ℤ x +ℤ d *ℤ y))
turned_lead d e x y = rw (as_D d, as_D e, as_D x, as_D y) (simp diffs (D-eq _ _ _ _ (omega arith)))

-- the lead of one center before another, across the line
across_centers : (m : ℕ) (d e cx cy dx dy ax ay : ℤ) → neg_ℤ e *ℤ (pos m *ℤ cx -ℤ pos m *ℤ dx) +ℤ d *ℤ (pos m *ℤ cy -ℤ pos m *ℤ dy) ≡ pos m *ℤ ((d *ℤ (cy -ℤ ay) -ℤ e *ℤ (cx -ℤ ax)) -ℤ (d *ℤ (dy -ℤ ay) -ℤ e *ℤ (dx -ℤ ax)))
across_centers m d e cx cy dx dy ax ay = rw (as_D d, as_D e, as_D cx, as_D cy, as_D dx, as_D dy, as_D ax, as_D ay) (simp diffs (D-eq _ _ _ _ (omega arith)))

across_centers_turned : (m : ℕ) (d e cx cy dx dy ax ay : ℤ) → e *ℤ (pos m *ℤ cx -ℤ pos m *ℤ dx) +ℤ neg_ℤ d *ℤ (pos m *ℤ cy -ℤ pos m *ℤ dy) ≡ pos m *ℤ ((d *ℤ (dy -ℤ ay) -ℤ e *ℤ (dx -ℤ ax)) -ℤ (d *ℤ (cy -ℤ ay) -ℤ e *ℤ (cx -ℤ ax)))
across_centers_turned m d e cx cy dx dy ax ay = rw (as_D d, as_D e, as_D cx, as_D cy, as_D dx, as_D dy, as_D ax, as_D ay) (simp diffs (D-eq _ _ _ _ (omega arith)))

less_by : (u v : ℤ) → u <ℤ v → pos 0 <ℤ (v -ℤ u)
less_by u v h = omega (arith, ints, h)

-- across the line to the left
left_of : Pair → Point
left_of t = record { x = neg_ℤ (t.b.y -ℤ t.a.y); y = t.b.x -ℤ t.a.x }

right_of : Pair → Point
right_of t = record { x = t.b.y -ℤ t.a.y; y = neg_ℤ (t.b.x -ℤ t.a.x) }

center_left : (m : ℕ) (t : Pair) (c d : Point) → 0 < m → turn t.a t.b d <ℤ turn t.a t.b c → pos 0 <ℤ lead (left_of t) (multiple m c) (multiple m d)
unfolding turn left_of
center_left m t c d some h =
    rw (across_centers m (t.b.x -ℤ t.a.x) (t.b.y -ℤ t.a.y) c.x c.y d.x d.y t.a.x t.a.y) (mul-pos (pos m) _ (omega (arith, ints, some)) (less_by _ _ h))

center_right : (m : ℕ) (t : Pair) (c d : Point) → 0 < m → turn t.a t.b c <ℤ turn t.a t.b d → pos 0 <ℤ lead (right_of t) (multiple m c) (multiple m d)
unfolding turn right_of
center_right m t c d some h =
    rw (across_centers_turned m (t.b.x -ℤ t.a.x) (t.b.y -ℤ t.a.y) c.x c.y d.x d.y t.a.x t.a.y) (mul-pos (pos m) _ (omega (arith, ints, some)) (less_by _ _ h))

point_left : (m : ℕ) (t : Pair) (c v w : Point) → 0 < m → Leads (t.b.x -ℤ t.a.x) (t.b.y -ℤ t.a.y) → IsInCell m v c → IsOnLine m t w → is_narrow (step t.a t.b) (turn t.a t.b c) ≡ false → pos 0 <ℤ turn t.a t.b c → pos 0 <ℤ lead (left_of t) v w
unfolding turn left_of
point_left m t c v w some leads cell on wide up =
    half _ (rw (across_inside m (t.b.x -ℤ t.a.x) (t.b.y -ℤ t.a.y) v.x v.y w.x w.y c.x c.y t.a.x t.a.y on.part on.at_x on.at_y)
    (inside_above m (t.b.x -ℤ t.a.x) (t.b.y -ℤ t.a.y) (c.x -ℤ t.a.x) (c.y -ℤ t.a.y) (pos 2 *ℤ (v.x -ℤ c.x *ℤ pos m)) (pos 2 *ℤ (v.y -ℤ c.y *ℤ pos m)) some leads cell.from_left cell.to_right cell.from_below cell.to_top wide up))

point_right : (m : ℕ) (t : Pair) (c v w : Point) → 0 < m → Leads (t.b.x -ℤ t.a.x) (t.b.y -ℤ t.a.y) → IsInCell m v c → IsOnLine m t w → is_narrow (step t.a t.b) (turn t.a t.b c) ≡ false → turn t.a t.b c <ℤ pos 0 → pos 0 <ℤ lead (right_of t) v w
unfolding turn right_of
point_right m t c v w some leads cell on wide down =
    half _ (rw (turned_lead (t.b.x -ℤ t.a.x) (t.b.y -ℤ t.a.y) (v.x -ℤ w.x) (v.y -ℤ w.y), across_inside m (t.b.x -ℤ t.a.x) (t.b.y -ℤ t.a.y) v.x v.y w.x w.y c.x c.y t.a.x t.a.y on.part on.at_x on.at_y)
    (above_from _ (inside_below m (t.b.x -ℤ t.a.x) (t.b.y -ℤ t.a.y) (c.x -ℤ t.a.x) (c.y -ℤ t.a.y) (pos 2 *ℤ (v.x -ℤ c.x *ℤ pos m)) (pos 2 *ℤ (v.y -ℤ c.y *ℤ pos m)) some leads cell.from_left cell.to_right cell.from_below cell.to_top wide down)))
  where
    above_from : (z : ℤ) → z <ℤ pos 0 → pos 0 <ℤ neg_ℤ z
    above_from z h = omega (arith, ints, h)

-- ---- the direction

pub some_extent : (t : Pair) → Leads (t.b.x -ℤ t.a.x) (t.b.y -ℤ t.a.y) → 0 < extent (step t.a t.b)
some_extent t (inl h) = plain (t.b.x -ℤ t.a.x) (t.b.y -ℤ t.a.y) h
  where
    plain : (d e : ℤ) → pos 0 <ℤ d → 0 < unsigned_abs d + unsigned_abs e
    plain d e h = omega (arith, ints, h)
some_extent t (inr (h, l)) = plain (t.b.x -ℤ t.a.x) (t.b.y -ℤ t.a.y) l
  where
    plain : (d e : ℤ) → pos 0 <ℤ e → 0 < unsigned_abs d + unsigned_abs e
    plain d e h = omega (arith, ints, h)

pub direction_of : (m : ℕ) (t : Pair) (c d d' v w w' : Point) → 0 < m → Leads (t.b.x -ℤ t.a.x) (t.b.y -ℤ t.a.y) → IsInCell m v c → IsInCell m w d → IsInCell m w' d' → IsOnLine m t w → IsOnLine m t w' →
    IsClear m t c d d' v w w' → HasDirection m c d d' v w w'
direction_of m t c d d' v w w' some leads in_c in_d in_d' on on' (to_right h h') = record {
  direction = record { x = pos 1; y = pos 0 };
  of_points = record {
    first = right_lead v.x w.x v.y w.y (in_order m c.x d.x v.x w.x some h in_c.from_left in_d.to_right);
    second = right_lead v.x w'.x v.y w'.y (in_order m c.x d'.x v.x w'.x some h' in_c.from_left in_d'.to_right);
  };
  of_centers = record {
    first = right_lead _ _ (pos m *ℤ c.y) (pos m *ℤ d.y) (times_in_order m c.x d.x some h);
    second = right_lead _ _ (pos m *ℤ c.y) (pos m *ℤ d'.y) (times_in_order m c.x d'.x some h');
  };
}
direction_of m t c d d' v w w' some leads in_c in_d in_d' on on' (to_left h h') = record {
  direction = record { x = neg_ℤ (pos 1); y = pos 0 };
  of_points = record {
    first = left_lead v.x w.x v.y w.y (in_order m d.x c.x w.x v.x some h in_d.from_left in_c.to_right);
    second = left_lead v.x w'.x v.y w'.y (in_order m d'.x c.x w'.x v.x some h' in_d'.from_left in_c.to_right);
  };
  of_centers = record {
    first = left_lead _ _ (pos m *ℤ c.y) (pos m *ℤ d.y) (times_in_order m d.x c.x some h);
    second = left_lead _ _ (pos m *ℤ c.y) (pos m *ℤ d'.y) (times_in_order m d'.x c.x some h');
  };
}
direction_of m t c d d' v w w' some leads in_c in_d in_d' on on' (above h h') = record {
  direction = record { x = pos 0; y = pos 1 };
  of_points = record {
    first = up_lead v.x w.x v.y w.y (in_order m c.y d.y v.y w.y some h in_c.from_below in_d.to_top);
    second = up_lead v.x w'.x v.y w'.y (in_order m c.y d'.y v.y w'.y some h' in_c.from_below in_d'.to_top);
  };
  of_centers = record {
    first = up_lead (pos m *ℤ c.x) (pos m *ℤ d.x) _ _ (times_in_order m c.y d.y some h);
    second = up_lead (pos m *ℤ c.x) (pos m *ℤ d'.x) _ _ (times_in_order m c.y d'.y some h');
  };
}
direction_of m t c d d' v w w' some leads in_c in_d in_d' on on' (below h h') = record {
  direction = record { x = pos 0; y = neg_ℤ (pos 1) };
  of_points = record {
    first = down_lead v.x w.x v.y w.y (in_order m d.y c.y w.y v.y some h in_d.from_below in_c.to_top);
    second = down_lead v.x w'.x v.y w'.y (in_order m d'.y c.y w'.y v.y some h' in_d'.from_below in_c.to_top);
  };
  of_centers = record {
    first = down_lead (pos m *ℤ c.x) (pos m *ℤ d.x) _ _ (times_in_order m d.y c.y some h);
    second = down_lead (pos m *ℤ c.x) (pos m *ℤ d'.x) _ _ (times_in_order m d'.y c.y some h');
  };
}
direction_of m t c d d' v w w' some leads in_c in_d in_d' on on' (beside wide met met') =
    by_sign (turn t.a t.b c)
    (λ (down : turn t.a t.b c <ℤ pos 0). record {
      direction = right_of t;
      of_points = record { first = point_right m t c v w some leads in_c on wide down; second = point_right m t c v w' some leads in_c on' wide down };
      of_centers = record {
        first = center_right m t c d some (narrow_above_wide (step t.a t.b) (turn t.a t.b c) (turn t.a t.b d) down wide met);
        second = center_right m t c d' some (narrow_above_wide (step t.a t.b) (turn t.a t.b c) (turn t.a t.b d') down wide met');
      };
    })
    (λ (none : turn t.a t.b c ≡ pos 0). absurd (wide_is_off (step t.a t.b) (turn t.a t.b c) (some_extent t leads) wide none))
    (λ (up : pos 0 <ℤ turn t.a t.b c). record {
      direction = left_of t;
      of_points = record { first = point_left m t c v w some leads in_c on wide up; second = point_left m t c v w' some leads in_c on' wide up };
      of_centers = record {
        first = center_left m t c d some (narrow_below_wide (step t.a t.b) (turn t.a t.b c) (turn t.a t.b d) up wide met);
        second = center_left m t c d' some (narrow_below_wide (step t.a t.b) (turn t.a t.b c) (turn t.a t.b d') up wide met');
      };
    })
direction_of m t c d d' v w w' some leads in_c in_d in_d' on on' (in_place is_v is_w is_w' off none none') =
    by_sign (turn t.a t.b c)
    (λ (down : turn t.a t.b c <ℤ pos 0).
    let here : IsBeyond (right_of t) (multiple m c) (multiple m d) (multiple m d') = record { first = center_right m t c d some (rw none down); second = center_right m t c d' some (rw none' down) } in
    record { direction = right_of t; of_points = rw (is_v, is_w, is_w') here; of_centers = here })
    (λ (zero : turn t.a t.b c ≡ pos 0). absurd (off zero))
    (λ (up : pos 0 <ℤ turn t.a t.b c).
    let here : IsBeyond (left_of t) (multiple m c) (multiple m d) (multiple m d') = record { first = center_left m t c d some (rw none up); second = center_left m t c d' some (rw none' up) } in
    record { direction = left_of t; of_points = rw (is_v, is_w, is_w') here; of_centers = here })
