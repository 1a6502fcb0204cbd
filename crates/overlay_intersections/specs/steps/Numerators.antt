-- How large the numerator of a crossing point is.
use Rattle.std.specs.Prelude.{ℕ, ◌*◌}
use Rattle.overlay_geometry.specs.Coordinates.{greatest_difference, greatest_product}

-- the size of a difference of coordinates times a turn
abbrev pub greatest_numerator : ℕ
greatest_numerator = greatest_difference * (2 * greatest_product)
