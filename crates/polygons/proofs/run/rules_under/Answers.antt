use Rattle.std.proofs.Common.{◌≡◌, ◌++◌, ◌∙◌, inl, inr, ap, sym, subst, List, length, Ok, string_bytes, flat_map}
use Rattle.std.proofs.lemmas.List.{length-map}
use Rattle.overlay_base.specs.declared.overlay_core.overlay_rule.OverlayRule.{OverlayRule}
use Rattle.overlay_contours.specs.ContoursOf.{contours_of, contours_of_each}
use Rattle.overlay_contours.specs.Kept.{subject_of, clip_of, rounding_of, passes_of, reach_of}
use Rattle.overlay_contours.specs.Polygons.{ArePolygonOverlays}
use Rattle.overlay_contours.specs.Splittings.{splitting_for}
use Rattle.overlay_text.proofs.Results.{if_err}
use Rattle.polygons.specs.ContourText.{AsksForContours, IsFaultyContour, overlays_text, report_text}
use Rattle.polygons.specs.Run.{splitting_by, rules_by, IsRulesText}
use Rattle.polygons.proofs.Answering.{splitting_is, refused, read_stop}
use Rattle.polygons.proofs.SeveralRules.{as_many, reported_overlays}
use Rattle.polygons.proofs.run.rules_under.Goals as goal

pub returns-in_err-overlays-clause-stop : goal.returns-in_err-overlays-clause-stop
returns-in_err-overlays-clause-stop g c =
    let whole = g.I.OverlayInt.whole in
    let bits = g.I.OverlayInt.BITS in
    let read = c.in_ok-overlay.ensures.contours in
    let kept = c.set_rounding.new.self in
    let same = c.set_rounding.ensures in
    let splitting = splitting_for (rounding_of kept) bits c.solver.result in
    let is_run : splitting ≡ splitting_by bits c.args.choices = splitting_is bits c.args.choices c.solver.result (rounding_of kept) (same.rounding ∙ c.rounding.ensures) c.solver.ensures.precision in
    if_err _ _ _ c.from_residual-in_err-overlays.ensures.1 (
    refused (AsksForContours c.args.choices.contour_shape (whole g.I.OverlayInt.MIN_COORD) (whole g.I.OverlayInt.MAX_COORD)) (IsFaultyContour c.args.choices.contour_shape (whole g.I.OverlayInt.MIN_COORD) (whole g.I.OverlayInt.MAX_COORD)) c.args.bytes.now (IsRulesText bits c.args.choices (rules_by c.args.choices c.args.rule)) (splitting_by bits c.args.choices) splitting read.0 (subject_of kept) (clip_of kept) read.1 is_run (same.subject ∙ read.2.0) (same.clip ∙ read.2.1)
    (λ answer left. inr left) c.in_err-overlays.field-0.0 c.in_err-overlays.ensures.refused
    )

pub returns-clause-text : goal.returns-clause-text
returns-clause-text g c =
    let whole = g.I.OverlayInt.whole in
    let bits = g.I.OverlayInt.BITS in
    let read = c.in_ok-overlay.ensures.contours in
    let kept = c.set_rounding.new.self in
    let same = c.set_rounding.ensures in
    let run = c.in_ok-overlays.ensures in
    let rules = rules_by c.args.choices c.args.rule in
    let overlays = contours_of_each whole c.in_ok-overlays.overlays.items in
    let passes = passes_of c.overlay_by_rules.new.self in
    let halves = reach_of c.overlay_by_rules.new.self in
    let splitting = splitting_for (rounding_of kept) bits c.solver.result in
    let is_run : splitting ≡ splitting_by bits c.args.choices = splitting_is bits c.args.choices c.solver.result (rounding_of kept) (same.rounding ∙ c.rounding.ensures) c.solver.ensures.precision in
    let same_rules : c.deref.result.now ≡ rules = c.deref.ensures.value ∙ c.in_ok-rules.ensures in
    let are = subst (λ (rs : List OverlayRule). ArePolygonOverlays splitting c.args.choices.settings.fill_rule (subject_of kept) (clip_of kept) rs overlays) same_rules run.polygons in
    let is_reported = reported_overlays splitting (splitting_by bits c.args.choices) c.args.choices.settings.fill_rule (flat_map (λ cs. cs) read.0) (subject_of kept) (clip_of kept) passes halves is_run (same.subject ∙ read.2.0) (same.clip ∙ read.2.1) run.splitting rules overlays are in
    let lines_are : string_bytes c.write_overlays.new.text ≡ overlays_text rules overlays =
    c.in_ok-write_overlays.ensures
    ∙ (ap (λ text. text ++ overlays_text c.deref-2.result.now (contours_of_each whole c.deref-3.result.now)) c.new-text.ensures.bytes
    ∙ (ap (λ rs. overlays_text rs (contours_of_each whole c.deref-3.result.now)) (c.deref-2.ensures.value ∙ c.in_ok-rules.ensures)
    ∙ ap (λ items. overlays_text rules (contours_of_each whole items)) c.deref-3.ensures.value)) in
    let text_is : string_bytes c.write_report.new.text ≡ overlays_text rules overlays ++ report_text c.args.choices.has_report passes halves = c.in_ok-write_report.ensures ∙ ap (λ text. text ++ report_text c.args.choices.has_report passes halves) lines_are in
    inl (read.0, read.1, inl (overlays, passes, halves, is_reported, ap Ok text_is))

pub returns-in_err-overlay-clause-stop : goal.returns-in_err-overlay-clause-stop
returns-in_err-overlay-clause-stop g c =
    let whole = g.I.OverlayInt.whole in
    if_err _ _ _ c.from_residual-in_err-overlay.ensures.1 (read_stop (AsksForContours c.args.choices.contour_shape (whole g.I.OverlayInt.MIN_COORD) (whole g.I.OverlayInt.MAX_COORD)) (IsFaultyContour c.args.choices.contour_shape (whole g.I.OverlayInt.MIN_COORD) (whole g.I.OverlayInt.MAX_COORD)) c.args.bytes.now (IsRulesText g.I.OverlayInt.BITS c.args.choices (rules_by c.args.choices c.args.rule)) _ c.in_err-overlay.ensures.faulty)

pub write_overlays-requires : goal.write_overlays-requires
write_overlays-requires g c =
    let whole = g.I.OverlayInt.whole in
    let kept = c.set_rounding.new.self in
    let items = c.in_ok-overlays.overlays.items in
    let splitting = splitting_for (rounding_of kept) g.I.OverlayInt.BITS c.solver.result in
    let many = as_many splitting c.args.choices.settings.fill_rule (subject_of kept) (clip_of kept) c.deref.result.now (contours_of_each whole items) c.in_ok-overlays.ensures.polygons in
    ap (λ l. length l) c.deref-3.ensures.value
    ∙ (sym (length-map items (λ l. contours_of whole l.items)) ∙ (many ∙ ap (λ l. length l) (c.deref.ensures.value ∙ sym c.deref-2.ensures.value)))
