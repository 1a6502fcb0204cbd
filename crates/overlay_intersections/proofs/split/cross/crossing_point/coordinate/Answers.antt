use Rattle.std.proofs.Common.{◌∙◌, to_z-of_z, FitsSigned, w64}
use Rattle.overlay_geometry.proofs.laws.geometry.Coordinates.{coordinate_fits}
use Rattle.overlay_intersections.proofs.laws.crossings.Offsets.{widened_fits}
use Rattle.overlay_intersections.proofs.split.cross.crossing_point.coordinate.Goals as goal

pub overflow_add-to_wide : goal.overflow_add-to_wide
overflow_add-to_wide g c =
    let from_fits = coordinate_fits _ _ _ g.met.I.OverlayInt.lowest g.met.I.OverlayInt.highest c.requires.from in
    let wide_from = widened_fits _ from_fits in
    let by_fits = c.ranges.by in
    rw c.to_wide.ensures (simp to_z-of_z (widened_fits _ (coordinate_fits _ _ _ g.met.I.OverlayInt.lowest g.met.I.OverlayInt.highest c.requires.to)))

pub from_wide-requires : goal.from_wide-requires
from_wide-requires g c =
    let from_fits = coordinate_fits _ _ _ g.met.I.OverlayInt.lowest g.met.I.OverlayInt.highest c.requires.from in
    let to_fits = coordinate_fits _ _ _ g.met.I.OverlayInt.lowest g.met.I.OverlayInt.highest c.requires.to in
    let wide_from = widened_fits _ from_fits in
    let wide_to = widened_fits _ to_fits in
    let by_fits = c.ranges.by in
    rw c.to_wide.ensures (simp to_z-of_z c.requires.to)

pub returns : goal.returns
returns g c =
    let from_fits = coordinate_fits _ _ _ g.met.I.OverlayInt.lowest g.met.I.OverlayInt.highest c.requires.from in
    let to_fits = coordinate_fits _ _ _ g.met.I.OverlayInt.lowest g.met.I.OverlayInt.highest c.requires.to in
    let wide_from = widened_fits _ from_fits in
    let wide_to = widened_fits _ to_fits in
    let by_fits = c.ranges.by in
    c.from_wide.ensures ∙ rw c.to_wide.ensures (simp to_z-of_z)

pub to_wide-requires : goal.to_wide-requires
to_wide-requires g c κs = λ h. h

pub overflow_cast-to_wide : goal.overflow_cast-to_wide
overflow_cast-to_wide g c =
    let fits : FitsSigned w64 c.to_wide.result = record { sfits = c.to_wide.type_inv } in
    simp to_z-of_z (widened_fits _ fits)

pub overflow_cast-to_wide-2 : goal.overflow_cast-to_wide-2
overflow_cast-to_wide-2 g c =
    let from_fits = coordinate_fits _ _ _ g.met.I.OverlayInt.lowest g.met.I.OverlayInt.highest c.requires.from in
    let to_fits = coordinate_fits _ _ _ g.met.I.OverlayInt.lowest g.met.I.OverlayInt.highest c.requires.to in
    let wide_from = widened_fits _ from_fits in
    let wide_to = widened_fits _ to_fits in
    let by_fits = c.ranges.by in
    rw c.to_wide.ensures (simp to_z-of_z to_fits)
