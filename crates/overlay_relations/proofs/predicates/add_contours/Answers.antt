use Rattle.std.proofs.Common.{◌≡◌, suc, take, drop}
use Rattle.overlay_base.specs.declared.segm.fault.Fault.TheVariants.{Memory}
use Rattle.overlay_contours.specs.ContoursOf.{points_of, contours_of}
use Rattle.overlay_contours.specs.Kept.{contours_kept}
use Rattle.overlay_contours.specs.declared.fault.ContourFault.TheVariants.{Refused as RefusedContours}
use Rattle.overlay_contours.proofs.laws.Overlays.{refused_as}
use Rattle.overlay_contours.proofs.laws.Steps.{mapped_parts}
use Rattle.overlay_relations.proofs.laws.Refusals.{one_in_range, only_memory}
use Rattle.overlay_relations.proofs.predicates.add_contours.Goals as goal

pub returns-in_err-add_contour-clause-refused : goal.returns-in_err-add_contour-clause-refused
returns-in_err-add_contour-clause-refused g c =
    let whole = g.I.OverlayInt.whole in
    let least = whole g.I.OverlayInt.MIN_COORD in
    let greatest = whole g.I.OverlayInt.MAX_COORD in
    let contours = c.args.contours.now in
    let index = c.loop-contour.contour-index in
    let points = points_of whole c.contour-item.result.items in
    let cause = c.in_err-add_contour.field-0.0 in
    let in_range = one_in_range least greatest (contours_of whole contours) (contours_of whole (take index contours)) (contours_of whole (drop (suc index) contours)) points c.requires.in_range
    (mapped_parts (λ v. points_of whole v.items) contours index c.contour-item.result c.loop-contour-test.true c.contour-item.is) in
    refused_as c.from_residual.result (λ fault. fault ≡ RefusedContours Memory) cause c.from_residual.ensures.1
    (only_memory least greatest c.args.shape_type (contours_kept c.args.shape_type c.loop-contour.overlay) points cause in_range (rw c.deref.ensures.value at c.in_err-add_contour.ensures.refused))
