-- How far a point lies from another in a direction.
use Rattle.std.specs.Prelude.{ℤ}
use Rattle.overlay_geometry.specs.Points.{Point, step, dot_product}

-- how far q lies past p in the direction from u to w, times the length of that way
abbrev pub along : Point → Point → Point → Point → ℤ
along u w p q = dot_product (step p q) (step u w)
