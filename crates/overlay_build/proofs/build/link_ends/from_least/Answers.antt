use Rattle.std.proofs.Common.{◌≡◌, ◌<◌, arith, IsTrue, FitsSigned, w64, to_z-of_z, refl}
use Rattle.std.specs.Prelude.{ℕ, ℤ, pos, ◌+ℤ◌, ◌≤ℤ◌, unsigned_abs}
use Rattle.std.proofs.lemmas.Int.{ints, fits_signed_from_abs}
use Rattle.overlay_geometry.specs.Coordinates.{least_coordinate, greatest_coordinate, is_coordinate}
use Rattle.overlay_geometry.proofs.laws.geometry.Coordinates.{coordinate_fits}
use Rattle.overlay_build.proofs.build.link_ends.from_least.Goals as goal

raised_fits : (least greatest z : ℤ) → least_coordinate ≤ℤ least → greatest ≤ℤ greatest_coordinate → IsTrue (is_coordinate least greatest z) → FitsSigned w64 (z +ℤ pos 2147483648)
raised_fits least greatest z low high h = fits_signed_from_abs w64 _ (grind (arith, ints))

raised_is : (least greatest z : ℤ) → least_coordinate ≤ℤ least → greatest ≤ℤ greatest_coordinate → IsTrue (is_coordinate least greatest z) → (n : ℕ) × (z +ℤ pos 2147483648 ≡ pos n) × (n < 4294967296)
raised_is least greatest z low high h = (unsigned_abs (z +ℤ pos 2147483648), grind (arith, ints), grind (arith, ints))

pub overflow_add-result : goal.overflow_add-result
overflow_add-result g c =
    let fits = coordinate_fits _ _ _ g.met.I.OverlayInt.lowest g.met.I.OverlayInt.highest c.requires in
    rw c.to_wide.ensures (simp to_z-of_z (raised_fits _ _ _ g.met.I.OverlayInt.lowest g.met.I.OverlayInt.highest c.requires))

pub overflow_cast-result : goal.overflow_cast-result
overflow_cast-result g c =
    let fits = coordinate_fits _ _ _ g.met.I.OverlayInt.lowest g.met.I.OverlayInt.highest c.requires in
    let raised = raised_fits _ _ _ g.met.I.OverlayInt.lowest g.met.I.OverlayInt.highest c.requires in
    let is = raised_is _ _ _ g.met.I.OverlayInt.lowest g.met.I.OverlayInt.highest c.requires in
    rw c.to_wide.ensures (simp to_z-of_z (rw is.1 (tt, record { fits = omega (arith, is.2) })))

pub returns-clause-value : goal.returns-clause-value
returns-clause-value g c =
    let fits = coordinate_fits _ _ _ g.met.I.OverlayInt.lowest g.met.I.OverlayInt.highest c.requires in
    let raised = raised_fits _ _ _ g.met.I.OverlayInt.lowest g.met.I.OverlayInt.highest c.requires in
    let is = raised_is _ _ _ g.met.I.OverlayInt.lowest g.met.I.OverlayInt.highest c.requires in
    rw c.to_wide.ensures (simp to_z-of_z (rw is.1 refl))

pub returns-clause-bound : goal.returns-clause-bound
returns-clause-bound g c =
    let fits = coordinate_fits _ _ _ g.met.I.OverlayInt.lowest g.met.I.OverlayInt.highest c.requires in
    let raised = raised_fits _ _ _ g.met.I.OverlayInt.lowest g.met.I.OverlayInt.highest c.requires in
    let is = raised_is _ _ _ g.met.I.OverlayInt.lowest g.met.I.OverlayInt.highest c.requires in
    rw c.to_wide.ensures (simp to_z-of_z (rw is.1 is.2))
