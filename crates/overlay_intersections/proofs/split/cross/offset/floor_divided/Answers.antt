use Rattle.std.proofs.Common.{to_z-of_z, FitsSigned, w64}
use Rattle.overlay_intersections.proofs.laws.crossings.Offsets.{narrow_fits, widened_fits}
use Rattle.overlay_intersections.proofs.split.cross.offset.floor_divided.Goals as goal

pub overflow_cast-top : goal.overflow_cast-top
overflow_cast-top c =
    let fits = c.ranges.top in
    simp to_z-of_z (narrow_fits c.args.top _ (simp to_z-of_z at c.is_narrow.ensures) c.if-is_narrow.true)

pub overflow_cast-bottom : goal.overflow_cast-bottom
overflow_cast-bottom c =
    let fits = c.ranges.bottom in
    simp to_z-of_z (narrow_fits c.args.bottom _ (simp to_z-of_z at c.is_narrow-then-is_narrow.ensures) c.if-is_narrow-2.true)

pub overflow_cast-result : goal.overflow_cast-result
overflow_cast-result c =
    let fits : FitsSigned w64 c.div_euclid.result = record { sfits = c.div_euclid.type_inv } in
    simp to_z-of_z (widened_fits c.div_euclid.result fits)
