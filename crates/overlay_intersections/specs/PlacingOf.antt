-- How code places crossings, as it is defined.
use Rattle.std.specs.Prelude.{pos, ◌≤ℤ◌, unsigned_abs, ⊤}
use Rattle.overlay_intersections.specs.Marks.{Placing, snapping, settling}
use Rattle.overlay_intersections.specs.declared.split.placing.Placing.{Placing as PassPlacing}
use Rattle.overlay_intersections.specs.declared.split.placing.Placing.TheVariants.{Snapping, Settling}

abbrev pub placing_of : PassPlacing → Placing
placing_of (Snapping radius_squared) = snapping (unsigned_abs radius_squared)
placing_of Settling = settling

-- a squared radius is at least 1
abbrev pub HasRadius : PassPlacing → Type 0
HasRadius (Snapping radius_squared) = pos 1 ≤ℤ radius_squared
HasRadius Settling = ⊤
