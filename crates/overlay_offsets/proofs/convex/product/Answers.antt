use Rattle.std.proofs.Common.{◌≡◌, ap₂, ◌≤◌, arith, to_z-of_z, FitsSigned, IsTrue, w64}
use Rattle.std.specs.Prelude.{ℤ, ◌*ℤ◌, ◌≤ℤ◌, unsigned_abs}
use Rattle.std.proofs.lemmas.Int.{ints}
use Rattle.overlay_geometry.specs.Coordinates.{least_coordinate, greatest_coordinate, is_coordinate, greatest_difference}
use Rattle.overlay_geometry.proofs.laws.geometry.Coordinates.{product_fits}
use Rattle.overlay_offsets.proofs.convex.product.Goals as goal

bound : (least greatest z : ℤ) → least_coordinate ≤ℤ least → greatest ≤ℤ greatest_coordinate → IsTrue (is_coordinate least greatest z) → unsigned_abs z ≤ greatest_difference
bound least greatest z low high h = let k = parts least greatest z h in omega (arith, ints, low, high, k.0, k.1)
  where
    parts : (least greatest z : ℤ) → IsTrue (is_coordinate least greatest z) → (least ≤ℤ z) × (z ≤ℤ greatest)
    parts least greatest z h = grind (arith, ints)

fits_as : (a b u v : ℤ) → a ≡ u → b ≡ v → unsigned_abs u ≤ greatest_difference → unsigned_abs v ≤ greatest_difference → FitsSigned w64 (a *ℤ b)
fits_as a b u v e f h l = rw (e, f) (product_fits u v h l)

pub returns : goal.returns
returns g c =
    let I = g.I.OverlayInt in
    let u = bound (I.whole I.MIN_COORD) (I.whole I.MAX_COORD) (I.whole c.args.u) g.met.I.OverlayInt.lowest g.met.I.OverlayInt.highest c.requires.u in
    let v = bound (I.whole I.MIN_COORD) (I.whole I.MAX_COORD) (I.whole c.args.v) g.met.I.OverlayInt.lowest g.met.I.OverlayInt.highest c.requires.v in
    let u_fits : FitsSigned w64 c.to_wide.result = record { sfits = c.to_wide.type_inv } in
    let v_fits : FitsSigned w64 c.to_wide-2.result = record { sfits = c.to_wide-2.type_inv } in
    let fits : FitsSigned w64 (c.to_wide.result *ℤ c.to_wide-2.result) = fits_as _ _ (I.whole c.args.u) (I.whole c.args.v) c.to_wide.ensures c.to_wide-2.ensures u v in
    simp to_z-of_z (ap₂ ◌*ℤ◌ c.to_wide.ensures c.to_wide-2.ensures)
