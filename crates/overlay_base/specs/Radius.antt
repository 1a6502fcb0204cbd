-- Squared snap radii: powers of two, whose exponent grows from pass to pass up to a cap.
use Rattle.std.specs.Prelude.{ℕ, ◌-◌, ◌*◌, ◌^◌, min}
use Rattle.overlay_base.specs.declared.overlay_core.snap_radius.SnapRadius.{SnapRadius}

abbrev pub exponent_of : SnapRadius → ℕ
exponent_of radius = radius.current

abbrev pub step_of : SnapRadius → ℕ
step_of radius = radius.step

-- the greatest exponent of an engine whose coordinates have that many bits
abbrev pub exponent_cap : ℕ → ℕ
exponent_cap bits = 2 * (bits - 4)

abbrev pub squared_radius : ℕ → ℕ → ℕ
squared_radius bits exponent = 2 ^ min exponent (exponent_cap bits)
