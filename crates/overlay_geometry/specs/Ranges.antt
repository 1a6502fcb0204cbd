-- Ranges of numbers, and rectangles with sides along the axes.
use Rattle.std.specs.Prelude.{ℤ, int_lt, int_le, Bool, ◌&&◌, ◌||◌}
use Rattle.std.specs.Int.{int_min, int_max}
use Rattle.overlay_geometry.specs.Points.{Pair}

-- the numbers from the least to the greatest
pub record WholeRange : Type 0 where
  pub least : ℤ
  pub greatest : ℤ

-- the heights between which a pair lies
abbrev pub heights : Pair → WholeRange
heights s = record { least = int_min s.a.y s.b.y; greatest = int_max s.a.y s.b.y }

-- whether both ends lie below the range, or both above it
abbrev pub is_off_range : WholeRange → Pair → Bool
is_off_range range s =
    (int_lt s.a.y range.least && int_lt s.b.y range.least) || (int_lt range.greatest s.a.y && int_lt range.greatest s.b.y)

pub record Rect : Type 0 where
  pub min_x : ℤ
  pub max_x : ℤ
  pub min_y : ℤ
  pub max_y : ℤ

-- whether two rectangles share a point, be it one of their borders
abbrev pub do_rects_meet : Rect → Rect → Bool
do_rects_meet r s = int_le r.min_x s.max_x && int_le s.min_x r.max_x && int_le r.min_y s.max_y && int_le s.min_y r.max_y
