-- The range of coordinates, and the points and pairs in it.
use Rattle.std.specs.Prelude.{ℕ, ◌*◌, ℤ, pos, negsuc, ◌-ℤ◌, unsigned_abs, int_le, Bool, ◌&&◌}
use Rattle.overlay_geometry.specs.Points.{Point, Pair}

-- The widest engine's limits, -2^30 and 2^30 - 1. The sizes of all products follow from these two numbers.
abbrev pub least_coordinate : ℤ
least_coordinate = negsuc 1073741823

abbrev pub greatest_coordinate : ℤ
greatest_coordinate = pos 1073741823

-- whether z lies from the least to the greatest coordinate of an engine
abbrev pub is_coordinate : ℤ → ℤ → ℤ → Bool
is_coordinate least greatest z = int_le least z && int_le z greatest

-- both coordinates lie from the least to the greatest that an engine holds
abbrev pub is_point_in_range : ℤ → ℤ → Point → Bool
is_point_in_range least greatest p = int_le least p.x && int_le p.x greatest && int_le least p.y && int_le p.y greatest

abbrev pub is_pair_in_range : ℤ → ℤ → Pair → Bool
is_pair_in_range least greatest s = is_point_in_range least greatest s.a && is_point_in_range least greatest s.b

-- the size of a difference of two coordinates, and of a product of two differences
abbrev pub greatest_difference : ℕ
greatest_difference = unsigned_abs (greatest_coordinate -ℤ least_coordinate)

abbrev pub greatest_product : ℕ
greatest_product = greatest_difference * greatest_difference
