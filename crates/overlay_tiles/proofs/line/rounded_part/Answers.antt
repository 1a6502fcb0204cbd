use Rattle.std.proofs.Common.{sym, ◌∙◌, to_z-of_z, FitsSigned, w64}
use Rattle.overlay_tiles.proofs.laws.Heights.{part_fits, rounded_part_is}
use Rattle.overlay_tiles.proofs.line.rounded_part.Goals as goal

pub overflow_mul-top-2 : goal.overflow_mul-top-2
overflow_mul-top-2 c =
    let fits = part_fits c.args.way c.args.part c.args.whole c.requires.way c.requires.part c.requires.whole in
    let way_fits = c.ranges.way in
    let part_fits = c.ranges.part in
    let whole_fits = c.ranges.whole in
    let product_fits = fits.product_fits in
    let sign_fits = fits.sign_fits in
    let sign = simp to_z-of_z at c.signum.ensures.value in
    rw sign (simp to_z-of_z fits.top_fits)

pub overflow_mul-top-3 : goal.overflow_mul-top-3
overflow_mul-top-3 c =
    let fits = part_fits c.args.way c.args.part c.args.whole c.requires.way c.requires.part c.requires.whole in
    let way_fits = c.ranges.way in
    let part_fits = c.ranges.part in
    let whole_fits = c.ranges.whole in
    let product_fits = fits.product_fits in
    let sign_fits = fits.sign_fits in
    let top_fits = fits.top_fits in
    let sign = simp to_z-of_z at c.signum.ensures.value in
    rw sign (simp to_z-of_z fits.twice_fits)

pub overflow_add-top : goal.overflow_add-top
overflow_add-top c =
    let fits = part_fits c.args.way c.args.part c.args.whole c.requires.way c.requires.part c.requires.whole in
    let way_fits = c.ranges.way in
    let part_fits = c.ranges.part in
    let whole_fits = c.ranges.whole in
    let product_fits = fits.product_fits in
    let sign_fits = fits.sign_fits in
    let top_fits = fits.top_fits in
    let twice_fits = fits.twice_fits in
    let bottom_fits = fits.bottom_fits in
    let sign = simp to_z-of_z at c.signum.ensures.value in
    let size = simp to_z-of_z at c.abs-bottom.ensures.value in
    rw (sign, size) (simp to_z-of_z fits.sum_fits)

pub returns : goal.returns
returns c =
    let fits = part_fits c.args.way c.args.part c.args.whole c.requires.way c.requires.part c.requires.whole in
    let way_fits = c.ranges.way in
    let part_fits = c.ranges.part in
    let whole_fits = c.ranges.whole in
    let product_fits = fits.product_fits in
    let sign_fits = fits.sign_fits in
    let top_fits = fits.top_fits in
    let twice_fits = fits.twice_fits in
    let bottom_fits = fits.bottom_fits in
    let sum_fits = fits.sum_fits in
    let divisor_fits = fits.divisor_fits in
    let result_fits : FitsSigned w64 c.div_euclid.result = record { sfits = c.div_euclid.type_inv } in
    let sign = simp to_z-of_z at c.signum.ensures.value in
    let size = simp to_z-of_z at c.abs-bottom.ensures.value in
    let value = simp to_z-of_z at (rw (sign, size) at c.div_euclid.ensures) in
    simp to_z-of_z (value ∙ sym (rounded_part_is c.args.way c.args.part c.args.whole c.requires.divides))
