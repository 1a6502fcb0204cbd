use Rattle.std.proofs.Common.{◌≡◌, ◌++◌, ◌∙◌, inl, inr, ap, Ok, string_bytes, flat_map}
use Rattle.overlay_contours.specs.ShapesOf.{shapes_of}
use Rattle.overlay_contours.specs.Kept.{subject_of, clip_of, rounding_of, passes_of, reach_of}
use Rattle.overlay_contours.specs.Splittings.{splitting_for}
use Rattle.overlay_text.proofs.Results.{if_err}
use Rattle.polygons.specs.ContourText.{AsksForContours, IsFaultyContour, shape_lines, report_text}
use Rattle.polygons.specs.Run.{splitting_by, IsShapesText}
use Rattle.polygons.proofs.Answering.{splitting_is, refused, read_stop, reported_shapes}
use Rattle.polygons.proofs.run.shapes_under.Goals as goal

pub returns-in_err-shapes-clause-stop : goal.returns-in_err-shapes-clause-stop
returns-in_err-shapes-clause-stop g c =
    let whole = g.I.OverlayInt.whole in
    let bits = g.I.OverlayInt.BITS in
    let read = c.in_ok-overlay.ensures.contours in
    let kept = c.set_rounding.new.self in
    let same = c.set_rounding.ensures in
    let splitting = splitting_for (rounding_of kept) bits c.solver.result in
    let is_run : splitting ≡ splitting_by bits c.args.choices = splitting_is bits c.args.choices c.solver.result (rounding_of kept) (same.rounding ∙ c.rounding.ensures) c.solver.ensures.precision in
    if_err _ _ _ c.from_residual-in_err-shapes.ensures.1 (
    refused (AsksForContours c.args.choices.contour_shape (whole g.I.OverlayInt.MIN_COORD) (whole g.I.OverlayInt.MAX_COORD)) (IsFaultyContour c.args.choices.contour_shape (whole g.I.OverlayInt.MIN_COORD) (whole g.I.OverlayInt.MAX_COORD)) c.args.bytes.now (IsShapesText bits c.args.choices c.args.rule) (splitting_by bits c.args.choices) splitting read.0 (subject_of kept) (clip_of kept) read.1 is_run (same.subject ∙ read.2.0) (same.clip ∙ read.2.1)
    (λ answer left. inr left) c.in_err-shapes.field-0.0 c.in_err-shapes.ensures.refused
    )

pub returns-clause-text : goal.returns-clause-text
returns-clause-text g c =
    let whole = g.I.OverlayInt.whole in
    let bits = g.I.OverlayInt.BITS in
    let read = c.in_ok-overlay.ensures.contours in
    let kept = c.set_rounding.new.self in
    let same = c.set_rounding.ensures in
    let run = c.in_ok-shapes.ensures in
    let shapes = shapes_of whole c.in_ok-shapes.shapes.items in
    let passes = passes_of c.overlay_shapes.new.self in
    let halves = reach_of c.overlay_shapes.new.self in
    let splitting = splitting_for (rounding_of kept) bits c.solver.result in
    let is_run : splitting ≡ splitting_by bits c.args.choices = splitting_is bits c.args.choices c.solver.result (rounding_of kept) (same.rounding ∙ c.rounding.ensures) c.solver.ensures.precision in
    let is_reported = reported_shapes splitting (splitting_by bits c.args.choices) c.args.rule c.args.choices.settings.fill_rule (flat_map (λ cs. cs) read.0) (subject_of kept) (clip_of kept) passes halves is_run (same.subject ∙ read.2.0) (same.clip ∙ read.2.1) run.splitting shapes run.shapes run.overlay in
    let lines_are : string_bytes c.write_shapes.new.text ≡ shape_lines shapes = c.in_ok-write_shapes.ensures ∙ (ap (λ text. text ++ shape_lines (shapes_of whole c.as_slice.result.now)) c.new-text.ensures.bytes ∙ ap (λ items. shape_lines (shapes_of whole items)) c.as_slice.ensures.value) in
    let text_is : string_bytes c.write_report.new.text ≡ shape_lines shapes ++ report_text c.args.choices.has_report passes halves = c.in_ok-write_report.ensures ∙ ap (λ text. text ++ report_text c.args.choices.has_report passes halves) lines_are in
    inl (read.0, read.1, inl (shapes, passes, halves, is_reported, ap Ok text_is))

pub returns-in_err-overlay-clause-stop : goal.returns-in_err-overlay-clause-stop
returns-in_err-overlay-clause-stop g c =
    let whole = g.I.OverlayInt.whole in
    if_err _ _ _ c.from_residual.ensures.1 (read_stop (AsksForContours c.args.choices.contour_shape (whole g.I.OverlayInt.MIN_COORD) (whole g.I.OverlayInt.MAX_COORD)) (IsFaultyContour c.args.choices.contour_shape (whole g.I.OverlayInt.MIN_COORD) (whole g.I.OverlayInt.MAX_COORD)) c.args.bytes.now (IsShapesText g.I.OverlayInt.BITS c.args.choices c.args.rule) _ c.in_err-overlay.ensures.faulty)
