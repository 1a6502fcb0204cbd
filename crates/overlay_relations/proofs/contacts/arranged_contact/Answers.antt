use Rattle.std.proofs.Common.{◌≡◌, ap, subst, ◌∙◌, ℕ, List, []}
use Rattle.std.specs.Prelude.{◌==◌}
use Rattle.std.proofs.lemmas.Bool.{both_ways}
use Rattle.overlay_geometry.specs.Points.{Point}
use Rattle.overlay_base.specs.SegmentOf.{segments_of}
use Rattle.overlay_base.specs.declared.overlay_core.fill_rule.FillRule.TheVariants.{NonZero}
use Rattle.overlay_base.specs.declared.overlay_core.overlay_rule.OverlayRule.TheVariants.{Subject, Clip, Intersect}
use Rattle.overlay_contours.specs.ArrangementsOf.{arrangement_of}
use Rattle.overlay_contours.specs.Beyond.{IsOverlayBeyond}
use Rattle.overlay_contours.specs.ContoursOf.{points_of, contours_of}
use Rattle.overlay_contours.specs.Splittings.{by_snapping}
use Rattle.overlay_contours.proofs.laws.Arrangements.{stays_of}
use Rattle.overlay_relations.proofs.laws.ContactOutcomes.{edges_apart, meet_by_common, touch_by_point, apart_without_point}
use Rattle.overlay_relations.proofs.laws.Outcomes.{none_in, some_in}
use Rattle.overlay_relations.proofs.contacts.arranged_contact.Goals as goal

pub returns-then-not-is_empty-clause-contact : goal.returns-then-not-is_empty-clause-contact
returns-then-not-is_empty-clause-contact g c first second is none =
    let whole = g.I.OverlayInt.whole in
    let items = c.in_ok-common.common.items in
    let empty : c.is_empty.result ≡ _ = c.is_empty.ensures ∙ ap (λ (n : ℕ). n == 0) c.in_ok-common.common.ok.0 in
    meet_by_common first second (contours_of whole items) [] []
    (subst (λ (n : ℕ). IsOverlayBeyond n Intersect NonZero first second (contours_of whole items)) none (c.in_ok-common.ensures.overlay by_snapping NonZero first second is))
    (some_in (λ v. points_of whole v.items) items c.is_empty.result empty c.if-not-is_empty.true)

pub returns-then-branch-clause-contact : goal.returns-then-branch-clause-contact
returns-then-branch-clause-contact g c first second is none =
    let whole = g.I.OverlayInt.whole in
    let items = c.in_ok-common.common.items in
    let of_first : List (List Point) = contours_of whole c.in_ok-of_subject.of_subject.items in
    let of_second : List (List Point) = contours_of whole c.in_ok-of_clip.of_clip.items in
    let a0 = arrangement_of c.args.arrangement.now in
    let a1 = arrangement_of c.contours.new.self in
    let a2 = arrangement_of c.contours-2.new.self in
    let k1 = c.in_ok-common.ensures.kept in
    let k2 = c.in_ok-of_subject.ensures.kept in
    let is1 = stays_of by_snapping NonZero first second a0 a1 k1 is in
    let is2 = stays_of by_snapping NonZero first second a1 a2 k2 is1 in
    let empty : c.is_empty.result ≡ _ = c.is_empty.ensures ∙ ap (λ (n : ℕ). n == 0) c.in_ok-common.common.ok.0 in
    let common = rw (c.deref.ensures.value, c.deref-2.ensures.value) at c.in_ok-have_common_point.ensures in
    touch_by_point first second (contours_of whole items) of_first of_second
    (subst (λ (n : ℕ). IsOverlayBeyond n Intersect NonZero first second (contours_of whole items)) none (c.in_ok-common.ensures.overlay by_snapping NonZero first second is))
    (none_in (λ v. points_of whole v.items) items c.is_empty.result empty c.if-not-is_empty.false)
    (subst (λ (n : ℕ). IsOverlayBeyond n Subject NonZero first second of_first) (k1.4 ∙ none) (c.in_ok-of_subject.ensures.overlay by_snapping NonZero first second is1))
    (subst (λ (n : ℕ). IsOverlayBeyond n Clip NonZero first second of_second) (k2.4 ∙ k1.4 ∙ none) (c.in_ok-of_clip.ensures.overlay by_snapping NonZero first second is2))
    (edges_apart first second (segments_of a0.sides.items) a0.passes a0.reach is.arrangement Subject Clip of_first of_second
    (c.in_ok-of_subject.ensures.polygons by_snapping NonZero first second is1) (c.in_ok-of_clip.ensures.polygons by_snapping NonZero first second is2))
    (common.0 c.if-branch.true)

pub returns-clause-contact : goal.returns-clause-contact
returns-clause-contact g c first second is none =
    let whole = g.I.OverlayInt.whole in
    let items = c.in_ok-common.common.items in
    let of_first : List (List Point) = contours_of whole c.in_ok-of_subject.of_subject.items in
    let of_second : List (List Point) = contours_of whole c.in_ok-of_clip.of_clip.items in
    let a0 = arrangement_of c.args.arrangement.now in
    let a1 = arrangement_of c.contours.new.self in
    let a2 = arrangement_of c.contours-2.new.self in
    let k1 = c.in_ok-common.ensures.kept in
    let k2 = c.in_ok-of_subject.ensures.kept in
    let is1 = stays_of by_snapping NonZero first second a0 a1 k1 is in
    let is2 = stays_of by_snapping NonZero first second a1 a2 k2 is1 in
    let empty : c.is_empty.result ≡ _ = c.is_empty.ensures ∙ ap (λ (n : ℕ). n == 0) c.in_ok-common.common.ok.0 in
    let common = rw (c.deref.ensures.value, c.deref-2.ensures.value) at c.in_ok-have_common_point.ensures in
    apart_without_point first second (contours_of whole items) of_first of_second
    (subst (λ (n : ℕ). IsOverlayBeyond n Intersect NonZero first second (contours_of whole items)) none (c.in_ok-common.ensures.overlay by_snapping NonZero first second is))
    (none_in (λ v. points_of whole v.items) items c.is_empty.result empty c.if-not-is_empty.false)
    (subst (λ (n : ℕ). IsOverlayBeyond n Subject NonZero first second of_first) (k1.4 ∙ none) (c.in_ok-of_subject.ensures.overlay by_snapping NonZero first second is1))
    (subst (λ (n : ℕ). IsOverlayBeyond n Clip NonZero first second of_second) (k2.4 ∙ k1.4 ∙ none) (c.in_ok-of_clip.ensures.overlay by_snapping NonZero first second is2))
    (edges_apart first second (segments_of a0.sides.items) a0.passes a0.reach is.arrangement Subject Clip of_first of_second
    (c.in_ok-of_subject.ensures.polygons by_snapping NonZero first second is1) (c.in_ok-of_clip.ensures.polygons by_snapping NonZero first second is2))
    (λ point. both_ways c.in_ok-have_common_point.field-0 c.if-branch.false (common.1 point))
