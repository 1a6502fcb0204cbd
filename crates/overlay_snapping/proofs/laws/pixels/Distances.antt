-- Points in a pixel are within a half of its center, so a piece between two pixels that a pair meets lies near the pair.
use Rattle.std.proofs.Common.{ℕ, ◌*◌, ◌≤◌, arith}
use Rattle.std.specs.Prelude.{ℤ, pos, ◌-ℤ◌, ◌*ℤ◌, ◌≤ℤ◌, ◌<ℤ◌, neg_ℤ, unsigned_abs}
use Rattle.std.proofs.lemmas.Int.{ints}
use Rattle.overlay_geometry.specs.Points.{Point}
use Rattle.overlay_base.specs.Places.{RationalPoint}
use Rattle.overlay_cuts.specs.Nearness.{whole_point, IsWithin}
use Rattle.overlay_cuts.proofs.laws.nearness.Distances.{LiesNear-from_ends}
use Rattle.overlay_snapping.specs.Pixels.{IsInPixel}
use Rattle.overlay_snapping.specs.Laws.{PiecesLieNear}

within : (v c : ℤ) (m : ℕ) → neg_ℤ (pos m) ≤ℤ (pos 2 *ℤ (v -ℤ c *ℤ pos m)) → (pos 2 *ℤ (v -ℤ c *ℤ pos m)) <ℤ pos m → 2 * unsigned_abs (c *ℤ pos m -ℤ v *ℤ pos 1) ≤ 1 * (1 * m)
within v c m low high = omega (arith, ints, low, high)

pub IsWithin-from_pixel : (p : RationalPoint) (c : Point) → IsInPixel p c → IsWithin 1 (whole_point c) p
IsWithin-from_pixel p c i = record { in_x = within p.x c.x p.bottom i.from_left i.to_right; in_y = within p.y c.y p.bottom i.from_below i.to_top }

pub pieces_lie_near : PiecesLieNear
pieces_lie_near s c d (f, first) (g, second) = LiesNear-from_ends 1 (record { a = c; b = d }) s (f, IsWithin-from_pixel _ c first) (g, IsWithin-from_pixel _ d second)
