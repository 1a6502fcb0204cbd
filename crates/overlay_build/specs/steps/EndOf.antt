-- Ends with their indexes, as whole numbers.
use Rattle.std.specs.Prelude.{ℕ, ◌/◌, ◌%◌, pos, ◌-ℤ◌, List, map}
use Rattle.overlay_geometry.specs.Points.{Point}
use Rattle.overlay_build.specs.declared.build.link_ends.PackedEnd.{PackedEnd}

-- an end of a link, with its index
pub record WholeEnd : Type 0 where
  pub index : ℕ
  pub point : Point

-- The point that a number stands for: the number of the column, then that of the row, each counted up from -2^31.
unfoldable pub unpacked : ℕ → Point
unpacked key = record { x = pos (key / 4294967296) -ℤ pos 2147483648; y = pos (key % 4294967296) -ℤ pos 2147483648 }

abbrev pub end_of : PackedEnd → WholeEnd
end_of e = record { index = e.index; point = unpacked e.key }

abbrev pub ends_of : List PackedEnd → List WholeEnd
ends_of list = map end_of list
