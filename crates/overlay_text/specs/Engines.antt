-- The coordinates of an engine.
use Rattle.std.specs.Prelude.{ℕ, ℤ, pos, negsuc}
use Rattle.overlay_geometry.specs.Coordinates.{least_coordinate, greatest_coordinate}
use Rattle.overlay_text.specs.declared.settings.Engine.{Engine}
use Rattle.overlay_text.specs.declared.settings.Engine.TheVariants.{I16, I32}

-- the least and the greatest coordinate of an engine
abbrev pub least_of : Engine → ℤ
least_of I16 = negsuc 16383
least_of I32 = least_coordinate

abbrev pub greatest_of : Engine → ℤ
greatest_of I16 = pos 16383
greatest_of I32 = greatest_coordinate

-- the bits of an engine's coordinates
abbrev pub engine_bits : Engine → ℕ
engine_bits I16 = 16
engine_bits I32 = 32
