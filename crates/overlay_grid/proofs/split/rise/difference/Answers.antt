use Rattle.std.proofs.Common.{◌≡◌, ℕ, ◌≤◌, sym, ap, ap₂, ◌∙◌, subst, arith, to_z-of_z, FitsSigned, w64}
use Rattle.std.specs.Prelude.{ℤ, ◌-ℤ◌, unsigned_abs}
use Rattle.std.proofs.lemmas.Int.{fits_signed_from_abs}
use Rattle.overlay_geometry.specs.Coordinates.{greatest_difference}
use Rattle.overlay_geometry.proofs.laws.geometry.Coordinates.{difference_bound}
use Rattle.overlay_grid.proofs.split.rise.difference.Goals as goal

-- a difference of so much fits
small_fits : (z : ℤ) → unsigned_abs z ≤ greatest_difference → FitsSigned w64 z
small_fits z h = fits_signed_from_abs w64 z (omega (arith, h))

pub returns-clause-value : goal.returns-clause-value
returns-clause-value g c =
    let whole = g.I.OverlayInt.whole in
    let bound = difference_bound (whole g.I.OverlayInt.MIN_COORD) (whole g.I.OverlayInt.MAX_COORD) (whole c.args.u) (whole c.args.v) g.met.I.OverlayInt.lowest g.met.I.OverlayInt.highest c.requires.u c.requires.v in
    let same : c.to_wide.result -ℤ c.to_wide-2.result ≡ whole c.args.v -ℤ whole c.args.u = ap₂ (λ (a b : ℤ). a -ℤ b) c.to_wide.ensures c.to_wide-2.ensures in
    let v_fits : FitsSigned w64 c.to_wide.result = record { sfits = c.to_wide.type_inv } in
    let u_fits : FitsSigned w64 c.to_wide-2.result = record { sfits = c.to_wide-2.type_inv } in
    let fits : FitsSigned w64 (c.to_wide.result -ℤ c.to_wide-2.result) = subst (λ (z : ℤ). FitsSigned w64 z) (sym same) (small_fits _ bound) in
    let value = simp to_z-of_z at c.unsigned_abs.ensures.value in
    value ∙ ap (λ (z : ℤ). unsigned_abs z) same

pub returns-clause-bound : goal.returns-clause-bound
returns-clause-bound g c =
    let whole = g.I.OverlayInt.whole in
    let bound = difference_bound (whole g.I.OverlayInt.MIN_COORD) (whole g.I.OverlayInt.MAX_COORD) (whole c.args.u) (whole c.args.v) g.met.I.OverlayInt.lowest g.met.I.OverlayInt.highest c.requires.u c.requires.v in
    subst (λ (n : ℕ). n ≤ greatest_difference) (sym (returns-clause-value g c)) bound
