use Rattle.std.proofs.Common.{to_z-of_z, lit<, ◌*◌}
use Rattle.overlay_geometry.specs.Coordinates.{greatest_difference, greatest_product}
use Rattle.overlay_intersections.proofs.laws.crossings.Offsets.{numerator_bound, numerator_fits, fits_below}
use Rattle.overlay_intersections.proofs.split.cross.offset.numerator.Goals as goal

pub returns-clause-value : goal.returns-clause-value
returns-clause-value c =
    let fit = numerator_fits c.args.length c.args.n c.requires.length c.requires.n in
    let length_fits = c.ranges.length in
    let n_fits = c.ranges.n in
    let wide_length = fits_below c.args.length greatest_difference c.requires.length (lit< tt) in
    let wide_n = fits_below c.args.n (2 * greatest_product) c.requires.n (lit< tt) in
    simp to_z-of_z

pub returns-clause-bound : goal.returns-clause-bound
returns-clause-bound c =
    let fit = numerator_fits c.args.length c.args.n c.requires.length c.requires.n in
    let length_fits = c.ranges.length in
    let n_fits = c.ranges.n in
    let wide_length = fits_below c.args.length greatest_difference c.requires.length (lit< tt) in
    let wide_n = fits_below c.args.n (2 * greatest_product) c.requires.n (lit< tt) in
    simp to_z-of_z (numerator_bound c.args.length c.args.n c.requires.length c.requires.n)
