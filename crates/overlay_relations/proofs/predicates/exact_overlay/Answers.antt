use Rattle.std.proofs.Common.{◌≡◌, ap, sym, ◌∙◌, ◌++◌, List}
use Rattle.overlay_geometry.specs.Points.{Point}
use Rattle.overlay_contours.specs.ContoursOf.{contours_of}
use Rattle.overlay_contours.specs.Kept.{subject_of, clip_of, passes_of, reach_of, rounding_of}
use Rattle.overlay_contours.specs.declared.fault.ContourFault.TheVariants.{Refused as RefusedContours}
use Rattle.overlay_contours.proofs.laws.Overlays.{refused_as}
use Rattle.overlay_relations.specs.Refusals.{IsOverlayRefusal}
use Rattle.overlay_relations.proofs.laws.Refusals.{exact_where_none, inexact_where_some, overlay_where_none, overlay_refuses}
use Rattle.overlay_relations.proofs.predicates.exact_overlay.Goals as goal

pub returns-then-reach-ne0-clause-overlay : goal.returns-then-reach-ne0-clause-overlay
returns-then-reach-ne0-clause-overlay g c =
    let whole = g.I.OverlayInt.whole in
    let first : List (List Point) = contours_of whole c.args.first.now in
    let second : List (List Point) = contours_of whole c.args.second.now in
    let before = c.add_contours-2.new.overlay in
    let after = c.overlay.new.self in
    let kept : subject_of before ≡ first = c.add_contours-2.ensures.other ∙ c.in_ok-add_contours.ensures.added ∙ ap (λ (l : List (List Point)). l ++ first) c.new-overlay.ensures.subject in
    let other : clip_of before ≡ second = c.in_ok-add_contours-2.ensures.added ∙ ap (λ (l : List (List Point)). l ++ second) (c.add_contours.ensures.other ∙ c.new-overlay.ensures.clip) in
    let rounding = c.add_contours-2.ensures.rounding ∙ c.add_contours.ensures.rounding ∙ c.new-overlay.ensures.rounding in
    inexact_where_some first second (subject_of before) (clip_of before) (rounding_of before) g.I.OverlayInt.BITS c.args.solver.now kept other rounding (passes_of after) (reach_of after) c.in_ok-region.ensures.splitting
    (λ e. c.if-reach-ne0.true (c.reach.ensures ∙ e))

pub returns-clause-overlay : goal.returns-clause-overlay
returns-clause-overlay g c =
    let whole = g.I.OverlayInt.whole in
    let first : List (List Point) = contours_of whole c.args.first.now in
    let second : List (List Point) = contours_of whole c.args.second.now in
    let before = c.add_contours-2.new.overlay in
    let after = c.overlay.new.self in
    let kept : subject_of before ≡ first = c.add_contours-2.ensures.other ∙ c.in_ok-add_contours.ensures.added ∙ ap (λ (l : List (List Point)). l ++ first) c.new-overlay.ensures.subject in
    let other : clip_of before ≡ second = c.in_ok-add_contours-2.ensures.added ∙ ap (λ (l : List (List Point)). l ++ second) (c.add_contours.ensures.other ∙ c.new-overlay.ensures.clip) in
    let rounding = c.add_contours-2.ensures.rounding ∙ c.add_contours.ensures.rounding ∙ c.new-overlay.ensures.rounding in
    let none : reach_of after ≡ 0 = sym c.reach.ensures ∙ c.if-reach-ne0.false in (
      exact_where_none first second (subject_of before) (clip_of before) (rounding_of before) g.I.OverlayInt.BITS c.args.solver.now kept other rounding (passes_of after) (reach_of after) c.in_ok-region.ensures.splitting none,
      overlay_where_none first second (subject_of before) (clip_of before) (rounding_of before) g.I.OverlayInt.BITS c.args.solver.now kept other rounding c.args.overlay_rule c.args.fill_rule (contours_of whole c.in_ok-region.region.items) (reach_of after) c.in_ok-region.ensures.overlay none,
    )

pub returns-in_err-region-clause-refused : goal.returns-in_err-region-clause-refused
returns-in_err-region-clause-refused g c =
    let whole = g.I.OverlayInt.whole in
    let first : List (List Point) = contours_of whole c.args.first.now in
    let second : List (List Point) = contours_of whole c.args.second.now in
    let before = c.add_contours-2.new.overlay in
    let kept : subject_of before ≡ first = c.add_contours-2.ensures.other ∙ c.in_ok-add_contours.ensures.added ∙ ap (λ (l : List (List Point)). l ++ first) c.new-overlay.ensures.subject in
    let other : clip_of before ≡ second = c.in_ok-add_contours-2.ensures.added ∙ ap (λ (l : List (List Point)). l ++ second) (c.add_contours.ensures.other ∙ c.new-overlay.ensures.clip) in
    let rounding = c.add_contours-2.ensures.rounding ∙ c.add_contours.ensures.rounding ∙ c.new-overlay.ensures.rounding in
    let fault = c.in_err-region.field-0.0 in
    refused_as c.from_residual-in_err-region.result (IsOverlayRefusal first second) (RefusedContours fault) c.from_residual-in_err-region.ensures.1
    (overlay_refuses first second (subject_of before) (clip_of before) (rounding_of before) g.I.OverlayInt.BITS c.args.solver.now kept other rounding fault c.in_err-region.ensures.refused)
