use Rattle.std.proofs.Common.{to_z-of_z, lit<, FitsSigned, w64}
use Rattle.std.specs.Prelude.{◌*ℤ◌}
use Rattle.std.specs.Int.{w128, int_signum}
use Rattle.overlay_intersections.specs.steps.Numerators.{greatest_numerator}
use Rattle.overlay_intersections.proofs.laws.crossings.Offsets.{signum_times_bound, signum_fits, wide_signum_fits, fits_below, widened_fits}
use Rattle.overlay_intersections.proofs.split.cross.offset.with_sign_of.Goals as goal

pub returns-clause-value : goal.returns-clause-value
returns-clause-value c =
    let d_fits = c.ranges.d in
    let numerator_fits = c.ranges.numerator in
    let sign_fits = signum_fits c.args.d in
    let wide_sign_fits = wide_signum_fits c.args.d in
    let sign = simp to_z-of_z at c.signum.ensures.value in
    let bound = signum_times_bound c.args.d c.args.numerator greatest_numerator c.requires in
    let fit : FitsSigned w128 (int_signum c.args.d *ℤ c.args.numerator) = fits_below _ greatest_numerator bound (lit< tt) in
    rw sign (simp to_z-of_z)

pub returns-clause-bound : goal.returns-clause-bound
returns-clause-bound c =
    let d_fits = c.ranges.d in
    let numerator_fits = c.ranges.numerator in
    let sign_fits = signum_fits c.args.d in
    let wide_sign_fits = wide_signum_fits c.args.d in
    let sign = simp to_z-of_z at c.signum.ensures.value in
    let bound = signum_times_bound c.args.d c.args.numerator greatest_numerator c.requires in
    let fit : FitsSigned w128 (int_signum c.args.d *ℤ c.args.numerator) = fits_below _ greatest_numerator bound (lit< tt) in
    rw sign (simp to_z-of_z bound)

pub overflow_cast-result : goal.overflow_cast-result
overflow_cast-result c =
    let fits : FitsSigned w64 c.signum.result = record { sfits = c.signum.type_inv } in
    simp to_z-of_z (widened_fits c.signum.result fits)

pub overflow_mul-result : goal.overflow_mul-result
overflow_mul-result c =
    let d_fits = c.ranges.d in
    let numerator_fits = c.ranges.numerator in
    let sign_fits = signum_fits c.args.d in
    let wide_sign_fits = wide_signum_fits c.args.d in
    let sign = simp to_z-of_z at c.signum.ensures.value in
    let bound = signum_times_bound c.args.d c.args.numerator greatest_numerator c.requires in
    let fit : FitsSigned w128 (int_signum c.args.d *ℤ c.args.numerator) = fits_below _ greatest_numerator bound (lit< tt) in
    rw sign (simp to_z-of_z fit)
