use Rattle.std.proofs.Common.{sym, ◌∙◌, to_z-of_z, FitsSigned}
use Rattle.std.specs.Int.{w128}
use Rattle.overlay_intersections.proofs.laws.crossings.Offsets.{offset_fits, nearest_upward_is}
use Rattle.overlay_intersections.proofs.split.cross.offset.Offset.nearest_upward.Goals as goal

pub floor_divided-requires : goal.floor_divided-requires
floor_divided-requires c =
    let fits = offset_fits c.args.self.top c.args.self.bottom c.args.self.top_bound c.args.self.bottom_bound c.args.self.bottom_positive in
    let top_fits = fits.top_fits in
    let bottom_fits = fits.bottom_fits in
    let divisor_fits = fits.divisor_fits in
    simp to_z-of_z fits.divisor_positive

pub returns : goal.returns
returns c =
    let fits = offset_fits c.args.self.top c.args.self.bottom c.args.self.top_bound c.args.self.bottom_bound c.args.self.bottom_positive in
    let top_fits = fits.top_fits in
    let bottom_fits = fits.bottom_fits in
    let twice_fits = fits.twice_fits in
    let sum_fits = fits.upward_fits in
    let divisor_fits = fits.divisor_fits in
    let value = simp to_z-of_z at c.floor_divided.ensures in
    let result_fits : FitsSigned w128 c.floor_divided.result = record { sfits = c.floor_divided.type_inv } in
    simp to_z-of_z (value ∙ sym (nearest_upward_is c.args.self.top c.args.self.bottom c.args.self.bottom_positive))
