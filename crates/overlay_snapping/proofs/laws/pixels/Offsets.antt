-- How far a point along a pair lies from another point, in one coordinate, and the pixel in which it lies.
use Rattle.std.proofs.Common.{◌≡◌, ℕ, arith}
use Rattle.std.specs.Prelude.{ℤ, pos, ◌+ℤ◌, ◌-ℤ◌, ◌*ℤ◌, ◌≤ℤ◌, ◌<ℤ◌, neg_ℤ}
use Rattle.overlay_geometry.specs.Points.{Point, Pair}
use Rattle.overlay_cuts.specs.Nearness.{Fraction, point_along}
use Rattle.overlay_snapping.specs.Pixels.{IsInPixel}
use Rattle.overlay_geometry.proofs.laws.geometry.Polynomials.{as_D, diffs, D-eq}

-- Where n / m of the way d ends, from the way x, times m and doubled.
unfoldable pub offset : ℤ → ℤ → ℕ → ℕ → ℤ
offset d x n m = pos 2 *ℤ (d *ℤ pos n -ℤ x *ℤ pos m)

-- n / m of the way d is rounded to the way x
pub record IsRoundedTo (d x : ℤ) (n m : ℕ) : Type 0 where
  pub low : neg_ℤ (pos m) ≤ℤ offset d x n m
  pub high : offset d x n m <ℤ pos m

offset-along : (a b c : ℤ) (n m : ℕ) → pos 2 *ℤ ((a *ℤ pos m +ℤ (b -ℤ a) *ℤ pos n) -ℤ c *ℤ pos m) ≡ offset (b -ℤ a) (c -ℤ a) n m
unfolding offset
offset-along a b c n m = rw (as_D a, as_D b, as_D c) (simp diffs (D-eq _ _ _ _ (omega arith)))

pub record AreRoundedTo (s : Pair) (c : Point) (n m : ℕ) : Type 0 where
  pub in_x : IsRoundedTo (s.b.x -ℤ s.a.x) (c.x -ℤ s.a.x) n m
  pub in_y : IsRoundedTo (s.b.y -ℤ s.a.y) (c.y -ℤ s.a.y) n m

-- a point along a pair lies in a pixel where both coordinates are rounded to it
pub AreRoundedTo-from_pixel : (s : Pair) (c : Point) (f : Fraction) → IsInPixel (point_along s f) c → AreRoundedTo s c f.part f.whole
AreRoundedTo-from_pixel s c f i = record {
  in_x = record { low = rw (offset-along s.a.x s.b.x c.x f.part f.whole) at i.from_left; high = rw (offset-along s.a.x s.b.x c.x f.part f.whole) at i.to_right };
  in_y = record { low = rw (offset-along s.a.y s.b.y c.y f.part f.whole) at i.from_below; high = rw (offset-along s.a.y s.b.y c.y f.part f.whole) at i.to_top };
}

pub AreRoundedTo-to_pixel : (s : Pair) (c : Point) (f : Fraction) → AreRoundedTo s c f.part f.whole → IsInPixel (point_along s f) c
AreRoundedTo-to_pixel s c f r = record {
  from_left = rw (offset-along s.a.x s.b.x c.x f.part f.whole) r.in_x.low;
  to_right = rw (offset-along s.a.x s.b.x c.x f.part f.whole) r.in_x.high;
  from_below = rw (offset-along s.a.y s.b.y c.y f.part f.whole) r.in_y.low;
  to_top = rw (offset-along s.a.y s.b.y c.y f.part f.whole) r.in_y.high;
}
