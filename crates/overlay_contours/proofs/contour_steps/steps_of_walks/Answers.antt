use Rattle.std.proofs.Common.{◌≡◌, refl, sym, ap, ◌∙◌, subst, ◌<◌, get_or, length, map}
use Rattle.std.specs.Prelude.{All, Some, option_map, slice_get}
use Rattle.std.proofs.lemmas.List.{length-map, get_or-map}
use Rattle.std.proofs.lemmas.Simd.{map-map}
use Rattle.overlay_base.specs.Rules.{holds}
use Rattle.overlay_build.specs.BoundaryOf.{walks_of}
use Rattle.overlay_build.specs.OverlayGraphOf.{links_of}
use Rattle.overlay_contours.specs.DataContoursOf.{data_step_of, step_along}
use Rattle.overlay_contours.proofs.laws.Extracts.{one_more, all_mapped}
use Rattle.overlay_contours.proofs.contour_steps.steps_of_walks.Goals as goal

pub steps_of_walk-requires : goal.steps_of_walk-requires
steps_of_walk-requires g c =
    let walks = c.args.walks.now in
    let k = c.loop-walk.walk-index in
    let item = c.walk-item.result in
    let low_items : k < length (walks_of walks) = rw (length-map walks (λ w. w.items)) c.loop-walk-test.true in
    let there : get_or (walks_of walks) k item.items ≡ item.items = get_or-map (λ w. w.items) walks k item item.items c.loop-walk-test.true ∙ ap (λ w. w.items) (sym c.walk-item.is) in
    subst (All (λ i. i < length (links_of c.args.graph.now))) (there ∙ sym c.deref.ensures.value) (c.requires k item.items low_items)

pub loop-walk-preserved : goal.loop-walk-preserved
loop-walk-preserved g c =
    let whole = g.I.OverlayInt.whole in
    let rule = holds c.args.rule in
    let links = links_of c.args.graph.now in
    ap (map (λ v. map (λ s. Some s) (map (data_step_of whole) v.items))) c.in_ok-push.ensures.items
    ∙ one_more (λ v. map (λ s. Some s) (map (data_step_of whole) v.items)) (λ w. map (λ i. option_map (step_along whole rule) (slice_get links i)) w.items) c.loop-walk.contours.items c.args.walks.now c.loop-walk.walk-index c.in_ok-contour.contour c.walk-item.result c.loop-walk.invariant c.loop-walk-test.true c.walk-item.is
    (c.in_ok-contour.ensures.steps ∙ ap (map (λ i. option_map (step_along whole rule) (slice_get links i))) c.deref.ensures.value)

pub returns-clause-steps : goal.returns-clause-steps
returns-clause-steps g c =
    let whole = g.I.OverlayInt.whole in
    let rule = holds c.args.rule in
    let links = links_of c.args.graph.now in
    map-map (λ steps. map (λ s. Some s) steps) (λ v. map (data_step_of whole) v.items) c.loop-walk.contours.items
    ∙ all_mapped (map (λ i. option_map (step_along whole rule) (slice_get links i))) (λ w. w.items) c.args.walks.now c.args.walks.now c.loop-walk.walk-index _ c.loop-walk.invariant c.loop-walk-test.false refl
