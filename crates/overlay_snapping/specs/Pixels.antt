-- Pixels of whole points, and the segments that meet them.
use Rattle.std.specs.Prelude.{ℕ, ◌+◌, ◌*◌, pos, ◌-ℤ◌, ◌*ℤ◌, neg_ℤ, ◌≤ℤ◌, ◌<ℤ◌, ℤ, unsigned_abs, int_lt, nat_lt, Bool, ◌&&◌, ◌||◌, List, map, filter}
use Rattle.std.specs.Ordering.{int_eq}
use Rattle.std.specs.List.{enumerate_from}
use Rattle.overlay_geometry.specs.Points.{Point, Pair, step, turn, is_in_box}
use Rattle.overlay_base.specs.Places.{RationalPoint}
use Rattle.overlay_cuts.specs.Nearness.{Fraction, point_along}

-- The pixel of c: the points with c.x - 1/2 <= x < c.x + 1/2, and so in y. They are the points that floor(v + 1/2), in each
-- coordinate, takes to c.
pub record IsInPixel (p : RationalPoint) (c : Point) : Type 0 where
  pub from_left : neg_ℤ (pos p.bottom) ≤ℤ (pos 2 *ℤ (p.x -ℤ c.x *ℤ pos p.bottom))
  pub to_right : (pos 2 *ℤ (p.x -ℤ c.x *ℤ pos p.bottom)) <ℤ pos p.bottom
  pub from_below : neg_ℤ (pos p.bottom) ≤ℤ (pos 2 *ℤ (p.y -ℤ c.y *ℤ pos p.bottom))
  pub to_top : (pos 2 *ℤ (p.y -ℤ c.y *ℤ pos p.bottom)) <ℤ pos p.bottom

-- some point of s lies in the pixel of c
abbrev pub MeetsPixel : Pair → Point → Type 0
MeetsPixel s c = (f : Fraction) × IsInPixel (point_along s f) c

-- |dx| + |dy| of a vector
abbrev pub extent : Point → ℕ
extent v = unsigned_abs v.x + unsigned_abs v.y

-- Whether a line along v meets the pixel of a point to which it turns by t: twice the turn is less than the extent of v. A line
-- that falls also meets it where it passes through the lower left corner alone, which belongs to the pixel.
abbrev pub is_narrow : Point → ℤ → Bool
is_narrow v t = nat_lt (2 * unsigned_abs t) (extent v) || (int_eq (pos 2 *ℤ t) (pos (extent v)) && int_lt v.y (pos 0))

-- whether the line through s meets the pixel of c
abbrev pub is_near_line : Pair → Point → Bool
is_near_line s c = is_narrow (step s.a s.b) (turn s.a s.b c)

-- The same by whole numbers, for a pair in order: c lies in the box of s, and the line through s meets the pixel.
unfoldable pub meets_pixel : Pair → Point → Bool
meets_pixel s c = is_in_box s c && is_near_line s c

-- the places in a list of the points whose pixels s meets, by rising place
unfoldable pub met_places : Pair → List Point → List ℕ
met_places s points = map (λ e. e.0) (filter (λ e. meets_pixel s e.1) (enumerate_from 0 points))
