use Rattle.std.proofs.Common.{◌≡◌, ap, sym, ◌∙◌, ◌++◌, List}
use Rattle.overlay_geometry.specs.Points.{Point}
use Rattle.overlay_base.specs.SegmentOf.{segments_of}
use Rattle.overlay_contours.specs.ArrangementsOf.{arrangement_of, passes_of, reach_of}
use Rattle.overlay_contours.specs.Kept.{subject_of, clip_of, rounding_of}
use Rattle.overlay_contours.specs.declared.fault.ContourFault.TheVariants.{Refused as RefusedContours}
use Rattle.overlay_contours.proofs.laws.Overlays.{refused_as}
use Rattle.overlay_relations.specs.BoundaryOf.{contours_in}
use Rattle.overlay_relations.specs.Refusals.{IsOverlayRefusal}
use Rattle.overlay_relations.proofs.laws.ContactOutcomes.{meet_at_crossing, meet_at_inexact, arranged_of_kept}
use Rattle.overlay_relations.proofs.laws.Refusals.{inexact_where_some, overlay_refuses}
use Rattle.overlay_relations.proofs.contacts.boundary_contact.Goals as goal

pub returns-in_err-arrangement-clause-refused : goal.returns-in_err-arrangement-clause-refused
returns-in_err-arrangement-clause-refused g c =
    let whole = g.I.OverlayInt.whole in
    let first : List (List Point) = contours_in c.args.first.now in
    let second : List (List Point) = contours_in c.args.second.now in
    let before = c.add_contours-2.new.overlay in
    let kept : subject_of before ≡ first = c.add_contours-2.ensures.other ∙ (rw c.deref.ensures.value at c.in_ok-add_contours.ensures.added) ∙ ap (λ (l : List (List Point)). l ++ first) c.new-overlay.ensures.subject in
    let other : clip_of before ≡ second = (rw c.deref-2.ensures.value at c.in_ok-add_contours-2.ensures.added) ∙ ap (λ (l : List (List Point)). l ++ second) (c.add_contours.ensures.other ∙ c.new-overlay.ensures.clip) in
    let rounding = c.add_contours-2.ensures.rounding ∙ c.add_contours.ensures.rounding ∙ c.new-overlay.ensures.rounding in
    let fault = c.in_err-arrangement.field-0.0 in
    refused_as c.from_residual-in_err-arrangement.result (IsOverlayRefusal first second) (RefusedContours fault) c.from_residual-in_err-arrangement.ensures.1
    (overlay_refuses first second (subject_of before) (clip_of before) (rounding_of before) g.I.OverlayInt.BITS c.args.solver.now kept other rounding fault c.in_err-arrangement.ensures.refused)

pub returns-then-reach-ne0-clause-contact : goal.returns-then-reach-ne0-clause-contact
returns-then-reach-ne0-clause-contact g c =
    let whole = g.I.OverlayInt.whole in
    let first : List (List Point) = contours_in c.args.first.now in
    let second : List (List Point) = contours_in c.args.second.now in
    let before = c.add_contours-2.new.overlay in
    let kept : subject_of before ≡ first = c.add_contours-2.ensures.other ∙ (rw c.deref.ensures.value at c.in_ok-add_contours.ensures.added) ∙ ap (λ (l : List (List Point)). l ++ first) c.new-overlay.ensures.subject in
    let other : clip_of before ≡ second = (rw c.deref-2.ensures.value at c.in_ok-add_contours-2.ensures.added) ∙ ap (λ (l : List (List Point)). l ++ second) (c.add_contours.ensures.other ∙ c.new-overlay.ensures.clip) in
    let rounding = c.add_contours-2.ensures.rounding ∙ c.add_contours.ensures.rounding ∙ c.new-overlay.ensures.rounding in
    let arrangement = c.in_ok-arrangement.arrangement in
    meet_at_inexact first second
    (inexact_where_some first second (subject_of before) (clip_of before) (rounding_of before) g.I.OverlayInt.BITS c.args.solver.now kept other rounding (passes_of arrangement) (reach_of arrangement)
    (segments_of (arrangement_of arrangement).sides.items, c.in_ok-arrangement.ensures.arrangement.arrangement.left)
    (λ e. c.if-reach-ne0.true (c.reach.ensures ∙ e)))

pub returns-clause-contact : goal.returns-clause-contact
returns-clause-contact g c =
    let whole = g.I.OverlayInt.whole in
    let first : List (List Point) = contours_in c.args.first.now in
    let second : List (List Point) = contours_in c.args.second.now in
    let before = c.add_contours-2.new.overlay in
    let kept : subject_of before ≡ first = c.add_contours-2.ensures.other ∙ (rw c.deref.ensures.value at c.in_ok-add_contours.ensures.added) ∙ ap (λ (l : List (List Point)). l ++ first) c.new-overlay.ensures.subject in
    let other : clip_of before ≡ second = (rw c.deref-2.ensures.value at c.in_ok-add_contours-2.ensures.added) ∙ ap (λ (l : List (List Point)). l ++ second) (c.add_contours.ensures.other ∙ c.new-overlay.ensures.clip) in
    let rounding = c.add_contours-2.ensures.rounding ∙ c.add_contours.ensures.rounding ∙ c.new-overlay.ensures.rounding in
    c.in_ok-contact.ensures.contact first second
    (arranged_of_kept first second (subject_of before) (clip_of before) (rounding_of before) g.I.OverlayInt.BITS c.args.solver.now kept other rounding (arrangement_of c.in_ok-arrangement.arrangement) c.in_ok-arrangement.ensures.arrangement)
    (sym c.reach.ensures ∙ c.if-reach-ne0.false)

pub returns-then-branch-clause-contact : goal.returns-then-branch-clause-contact
returns-then-branch-clause-contact g c = meet_at_crossing (contours_in c.args.first.now) (contours_in c.args.second.now) (c.in_ok-finds_crossing.ensures.crossing c.if-branch.true)
