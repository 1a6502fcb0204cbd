use Rattle.std.proofs.Common.{◌≡◌, sym, ap, refl, ◌∙◌, ℕ, ◌<◌, get_or, length, List, map, arith}
use Rattle.std.specs.Prelude.{Some, option_map, slice_get}
use Rattle.std.proofs.lemmas.List.{get_or_default, map-append}
use Rattle.std.proofs.lemmas.Option.{slice_get_read}
use Rattle.std.proofs.lemmas.Grind.{common_steps}
use Rattle.overlay_base.specs.Rules.{holds}
use Rattle.overlay_build.specs.OverlayGraphOf.{links_of}
use Rattle.overlay_contours.specs.DataContoursOf.{data_step_of, step_along}
use Rattle.overlay_contours.proofs.laws.Extracts.{one_more}
use Rattle.overlay_contours.proofs.contour_steps.steps_of_walk.Goals as goal

pub loop-index-preserved : goal.loop-index-preserved
loop-index-preserved g c =
    let whole = g.I.OverlayInt.whole in
    let all = links_of c.args.graph.now in
    let rule = holds c.args.rule in
    let walk : List ℕ = c.args.walk.now in
    let k = c.loop-index.index-index in
    let i : ℕ = get_or walk k 0 in
    let low : i < length all = c.requires k 0 c.loop-index-test.true in
    let link = c.index-links-index.result in
    let is : link ≡ get_or all i link = rw c.links-links.ensures at c.index-links-index.is in
    let found : Some (step_along whole rule link) ≡ option_map (step_along whole rule) (slice_get all i) = sym (ap (option_map (step_along whole rule)) (slice_get_read all (length all) i link refl low is)) in
    ap (λ items. map (λ s. Some s) (map (data_step_of whole) items)) c.in_ok-push.ensures.items
    ∙ ap (map (λ s. Some s)) (map-append (data_step_of whole) c.loop-index.steps.items _)
    ∙ one_more (λ s. Some s) (λ j. option_map (step_along whole rule) (slice_get all j)) (map (data_step_of whole) c.loop-index.steps.items) walk k _ i c.loop-index.invariant c.loop-index-test.true (get_or_default walk k 0 i c.loop-index-test.true)
    (ap (λ p. Some (record { point = p; edge_data = link.edge_data })) c.start_point.ensures ∙ found)

pub offset_bounds-links-index : goal.offset_bounds-links-index
offset_bounds-links-index g c = grind (arith, common_steps)

pub bounds-links-index : goal.bounds-links-index
bounds-links-index g c = grind (arith, common_steps)

pub returns-clause-steps : goal.returns-clause-steps
returns-clause-steps g c = grind (arith, common_steps)
