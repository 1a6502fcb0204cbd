use Rattle.std.proofs.Common.{◌≡◌, refl, to_z-of_z, FitsSigned}
use Rattle.std.specs.Prelude.{unsigned_abs}
use Rattle.std.specs.Int.{w128}
use Rattle.overlay_intersections.proofs.laws.crossings.Offsets.{offset_fits, signed_nearest}
use Rattle.overlay_intersections.specs.Crossing.{nearest}
use Rattle.overlay_intersections.proofs.laws.crossings.Rounding.{over}
use Rattle.overlay_intersections.proofs.split.cross.offset.Offset.nearest.Goals as goal

pub returns : goal.returns
returns c =
    let fits = offset_fits c.args.self.top c.args.self.bottom c.args.self.top_bound c.args.self.bottom_bound c.args.self.bottom_positive in
    let top_fits = fits.top_fits in
    let bottom_fits = fits.bottom_fits in
    let value = simp to_z-of_z at c.signed_as.ensures in
    let top_size = simp to_z-of_z at c.unsigned_abs.ensures.value in
    let bottom_size = c.size-size.ensures.value in
    let quotient = c.divided.ensures in
    let result_fits : FitsSigned w128 c.signed_as.result = record { sfits = c.signed_as.type_inv } in
    let law = signed_nearest c.args.self.top (unsigned_abs c.args.self.bottom) (rw (← c.size-size.ensures.value) c.size-size.ensures.positive) in
    let same : c.signed_as.result ≡ nearest (over c.args.self.top (unsigned_abs c.args.self.bottom)) = rw (law, value, quotient, top_size, bottom_size) refl in
    simp to_z-of_z same
