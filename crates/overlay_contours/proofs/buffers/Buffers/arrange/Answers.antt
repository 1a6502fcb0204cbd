use Rattle.std.proofs.Common.{◌∙◌, refl, List}
use Rattle.overlay_geometry.specs.Points.{Point}
use Rattle.overlay_base.specs.SegmentOf.{segments_of}
use Rattle.overlay_base.specs.declared.segm.fault.Fault.{Fault}
use Rattle.overlay_contours.specs.ContoursOf.{contours_of}
use Rattle.overlay_contours.specs.Refusals.{IsReason}
use Rattle.overlay_contours.specs.Splittings.{Splitting, splitting_for}
use Rattle.overlay_contours.proofs.laws.Overlays.{refused_as}
use Rattle.overlay_contours.proofs.laws.Splittings.{too_large_above}
use Rattle.overlay_contours.proofs.buffers.Buffers.arrange.Goals as goal

pub returns-in_err-build_boolean_fills-clause-refused : goal.returns-in_err-build_boolean_fills-clause-refused
returns-in_err-build_boolean_fills-clause-refused g c =
    let whole = g.I.OverlayInt.whole in
    let splitting : Splitting = splitting_for c.args.rounding g.I.OverlayInt.BITS c.args.solver.now in
    let subject : List (List Point) = contours_of whole c.args.subject.now in
    let clip : List (List Point) = contours_of whole c.args.clip.now in
    let fault : Fault = c.in_err-build_boolean_fills.field-0.0 in
    let left = c.split.new.self.arranged in
    let known : IsReason splitting subject clip fault =
    too_large_above splitting subject clip (segments_of left.sides.items) left.passes left.reach fault c.in_ok-split.ensures.arrangement.left (rw c.deref.ensures.value at c.in_err-build_boolean_fills.ensures.out_of_range) in
    refused_as c.from_residual-in_err-build_boolean_fills.result (IsReason splitting subject clip) fault c.from_residual-in_err-build_boolean_fills.ensures.1 known

pub returns-clause-arranged : goal.returns-clause-arranged
returns-clause-arranged g c = record {
  rule = refl;
  arrangement = c.in_ok-split.ensures.arrangement;
  in_range = c.in_ok-split.ensures.arranged;
  fills = rw c.deref.ensures.value at c.in_ok-build_boolean_fills.ensures.fills;
}
