-- The mask of the ends that lie strictly inside the other segment, as a number.
use Rattle.std.specs.Prelude.{ℕ, ◌+◌, ◌*◌}
use Rattle.std.specs.Int.{from_bool}
use Rattle.overlay_intersections.specs.declared.split.cross_solver.CollinearMask.{CollinearMask}

abbrev pub number_of : CollinearMask → ℕ
number_of mask = from_bool mask.is_target_a + 2 * from_bool mask.is_target_b + 4 * from_bool mask.is_other_a + 8 * from_bool mask.is_other_b
