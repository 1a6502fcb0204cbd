use Rattle.std.proofs.Common.{refl, sym, ap, ◌∙◌, subst, lit<, ◌*◌, to_z, of_z, to_z-of_z, FitsSigned, w64}
use Rattle.std.specs.Prelude.{ℤ, pos, ◌<ℤ◌, unsigned_abs}
use Rattle.std.specs.Int.{w128}
use Rattle.overlay_geometry.specs.Coordinates.{greatest_product}
use Rattle.overlay_intersections.specs.Crossing.{quotient}
use Rattle.overlay_intersections.proofs.laws.crossings.Offsets.{abs_positive, fits_below}
use Rattle.overlay_intersections.proofs.split.cross.offset.Offset.new.Goals as goal

pub invariant_of-result-clause-bottom_positive : goal.invariant_of-result-clause-bottom_positive
invariant_of-result-clause-bottom_positive c =
    let d_fits = c.ranges.d in
    let abs_fits : FitsSigned w64 c.abs.result = record { sfits = c.abs.type_inv } in
    let abs = simp to_z-of_z at c.abs.ensures.value in
    let wide_abs : FitsSigned w128 c.abs.result = subst (λ (z : ℤ). FitsSigned w128 z) (sym abs) (fits_below (pos (unsigned_abs c.args.d)) (2 * greatest_product) c.requires.d (lit< tt)) in
    let value = ap (λ (z : ℤ). to_z w128 (of_z w128 z)) (to_z-of_z abs_fits) ∙ to_z-of_z wide_abs in
    subst (λ (z : ℤ). pos 0 <ℤ z) (sym value) (rw abs (abs_positive c.args.d c.requires.divides))

pub returns : goal.returns
unfolding quotient
returns c =
    let length_fits = c.ranges.length in
    let n_fits = c.ranges.n in
    let d_fits = c.ranges.d in
    let numerator_fits : FitsSigned w128 c.numerator.result = record { sfits = c.numerator.type_inv } in
    let top_fits : FitsSigned w128 c.with_sign_of.result = record { sfits = c.with_sign_of.type_inv } in
    let abs_fits : FitsSigned w64 c.abs.result = record { sfits = c.abs.type_inv } in
    let numerator = simp to_z-of_z at c.numerator.ensures.value in
    let top = simp to_z-of_z at c.with_sign_of.ensures.value in
    let abs = simp to_z-of_z at c.abs.ensures.value in
    let wide_abs : FitsSigned w128 c.abs.result = subst (λ (z : ℤ). FitsSigned w128 z) (sym abs) (fits_below (pos (unsigned_abs c.args.d)) (2 * greatest_product) c.requires.d (lit< tt)) in
    simp to_z-of_z (rw (top, numerator, abs) refl)
