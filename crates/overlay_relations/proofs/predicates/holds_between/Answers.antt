use Rattle.std.proofs.Common.{◌≡◌, ap, refl, subst, ◌∙◌, ℕ, List}
use Rattle.std.specs.Prelude.{◌==◌}
use Rattle.overlay_geometry.specs.Points.{Point}
use Rattle.overlay_base.specs.declared.overlay_core.fill_rule.FillRule.TheVariants.{NonZero}
use Rattle.overlay_contours.specs.ContoursOf.{points_of, contours_of}
use Rattle.overlay_relations.specs.BoundaryOf.{contours_in}
use Rattle.overlay_relations.specs.steps.Outcomes.{IsExactOverlay}
use Rattle.overlay_relations.proofs.laws.CrossingParts.{inexact_boundaries_cross}
use Rattle.overlay_relations.proofs.laws.Outcomes.{holds_at_crossing, holds_by_region, none_in, some_in}
use Rattle.overlay_relations.proofs.predicates.holds_between.Goals as goal

pub returns-then-branch-clause-holds : goal.returns-then-branch-clause-holds
returns-then-branch-clause-holds g c =
    let crossing = c.in_ok-finds_crossing.ensures.crossing c.if-branch.true in
    λ subject_rule clip_rule subject clip a b. (
      λ h. holds_at_crossing c.args.overlay_rule subject_rule clip_rule subject clip (contours_in c.args.first.now) (contours_in c.args.second.now) a b crossing c.requires.inside,
      λ h. refl,
    )

pub returns-in-None-clause-holds : goal.returns-in-None-clause-holds
returns-in-None-clause-holds g c =
    let whole = g.I.OverlayInt.whole in
    let first : List (List Point) = contours_in c.args.first.now in
    let second : List (List Point) = contours_in c.args.second.now in
    let overlay = rw (c.deref.ensures.value, c.deref-2.ensures.value) at c.in_ok-exact_overlay.ensures.overlay in
    let crossing = subst (λ (l : _). IsExactOverlay whole c.args.overlay_rule NonZero first second l) c.in-None.is overlay in
    λ subject_rule clip_rule subject clip a b. (
      λ h. holds_at_crossing c.args.overlay_rule subject_rule clip_rule subject clip first second a b (inexact_boundaries_cross subject_rule clip_rule subject clip first second a b crossing) c.requires.inside,
      λ h. refl,
    )

pub returns-in-Some-clause-holds : goal.returns-in-Some-clause-holds
returns-in-Some-clause-holds g c =
    let whole = g.I.OverlayInt.whole in
    let first : List (List Point) = contours_in c.args.first.now in
    let second : List (List Point) = contours_in c.args.second.now in
    let overlay = rw (c.deref.ensures.value, c.deref-2.ensures.value) at c.in_ok-exact_overlay.ensures.overlay in
    let exact = subst (λ (l : _). IsExactOverlay whole c.args.overlay_rule NonZero first second l) c.in-Some.is overlay in
    let empty : c.is_empty.result ≡ _ = c.is_empty.ensures ∙ ap (λ (n : ℕ). n == 0) c.in-Some.region.ok.0 in
    λ subject_rule clip_rule subject clip a b. holds_by_region c.args.overlay_rule subject_rule clip_rule subject clip first second a b (contours_of whole c.in-Some.region.items)
    c.requires.outside exact.1 c.is_empty.result (none_in (λ v. points_of whole v.items) c.in-Some.region.items c.is_empty.result empty) (some_in (λ v. points_of whole v.items) c.in-Some.region.items c.is_empty.result empty)
