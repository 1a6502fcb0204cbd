use Rattle.std.proofs.Common.{◌≡◌, refl, sym, ap, ◌∙◌, ◌<◌, get_or, length, List, map}
use Rattle.std.specs.Prelude.{All, Some, option_map, slice_get}
use Rattle.std.proofs.lemmas.List.{length-map, get_or-map}
use Rattle.std.proofs.lemmas.List.Elements.{All-from_recursion, recursion_from_All}
use Rattle.std.proofs.lemmas.Simd.{map-map}
use Rattle.overlay_geometry.proofs.laws.lists.Lists.{AllByRecursion-from_Has, AllByRecursion-at}
use Rattle.overlay_base.specs.Rules.{holds}
use Rattle.overlay_build.specs.BoundaryOf.{walks_of}
use Rattle.overlay_build.specs.DirectedWalks.{arcs, IsDirectedWalk}
use Rattle.overlay_build.specs.Graph.{Link}
use Rattle.overlay_build.specs.GraphOf.{link_of}
use Rattle.overlay_build.specs.OverlayGraphOf.{links_of}
use Rattle.overlay_shapes.specs.Gathered.{groups_of, all_walks}
use Rattle.overlay_contours.specs.DataContoursOf.{data_contours_of, data_shapes_of, step_along, AreStepsOfGroups}
use Rattle.overlay_contours.proofs.laws.DataContours.{shapes_are}
use Rattle.overlay_contours.proofs.laws.Extracts.{one_more, all_mapped}
use Rattle.overlay_contours.proofs.laws.GraphContours.{walks_within}
use Rattle.overlay_contours.proofs.laws.ShapeLists.{walk_of_group}
use Rattle.overlay_contours.proofs.contour_steps.shape_steps_of_graph.Goals as goal

pub loop-walks-init : goal.loop-walks-init
loop-walks-init g c = rw c.new-shapes.ensures.items refl

pub steps_of_walks-requires : goal.steps_of_walks-requires
steps_of_walks-requires g c =
    let whole = g.I.OverlayInt.whole in
    let all = links_of c.args.graph.now in
    let ways : List Link = arcs (holds c.args.rule) (map (link_of whole) all) in
    let groups = c.in_ok-groups.groups.items in
    let k = c.loop-walks.walks-index in
    let item = c.walks-item.result in
    let is : item ≡ get_or groups k item = rw c.deref-walks-items.ensures.value at c.walks-item.is in
    let low : k < length groups = rw c.deref-walks-items.ensures.value at c.loop-walks-test.true in
    let low_items : k < length (groups_of groups) = rw (length-map groups (λ w. walks_of w.items)) low in
    let there : get_or (groups_of groups) k (walks_of item.items) ≡ walks_of item.items = get_or-map (λ w. walks_of w.items) groups k item (walks_of item.items) low ∙ ap (λ w. walks_of w.items) (sym is) in
    rw c.deref.ensures.value
    (All-from_recursion (All (λ i. i < length all)) (walks_of item.items) (AllByRecursion-from_Has (All (λ i. i < length all)) (walks_of item.items) (λ w m.
    walks_within whole (holds c.args.rule) all w
    (AllByRecursion-at (IsDirectedWalk ways) (all_walks (groups_of groups)) w (recursion_from_All (IsDirectedWalk ways) (all_walks (groups_of groups)) c.in_ok-groups.ensures.shapes.walks.closed)
    (walk_of_group (groups_of groups) k (walks_of item.items) w low_items there m)))))

pub loop-walks-preserved : goal.loop-walks-preserved
loop-walks-preserved g c =
    let whole = g.I.OverlayInt.whole in
    let rule = holds c.args.rule in
    let links = links_of c.args.graph.now in
    ap (map (λ v. map (λ steps. map (λ s. Some s) steps) (data_contours_of whole v.items))) c.in_ok-push.ensures.items
    ∙ one_more (λ v. map (λ steps. map (λ s. Some s) steps) (data_contours_of whole v.items)) (λ w. map (λ walk. map (λ i. option_map (step_along whole rule) (slice_get links i)) walk) (walks_of w.items)) c.loop-walks.shapes.items c.deref-walks-items.result.now c.loop-walks.walks-index c.in_ok-shape.shape c.walks-item.result c.loop-walks.invariant c.loop-walks-test.true c.walks-item.is
    (c.in_ok-shape.ensures.steps ∙ ap (λ l. map (λ walk. map (λ i. option_map (step_along whole rule) (slice_get links i)) walk) (walks_of l)) c.deref.ensures.value)

pub returns-clause-shapes : goal.returns-clause-shapes
returns-clause-shapes g c =
    let whole = g.I.OverlayInt.whole in
    let rule = holds c.args.rule in
    let links = links_of c.args.graph.now in
    let groups = c.in_ok-groups.groups.items in
    let shapes = c.loop-walks.shapes.items in
    let steps : AreStepsOfGroups whole rule links (groups_of groups) (data_shapes_of whole shapes) =
    map-map (λ contours. map (λ steps. map (λ s. Some s) steps) contours) (λ v. data_contours_of whole v.items) shapes
    ∙ all_mapped (map (λ walk. map (λ i. option_map (step_along whole rule) (slice_get links i)) walk)) (λ w. walks_of w.items) c.deref-walks-items.result.now groups c.loop-walks.walks-index _ c.loop-walks.invariant c.loop-walks-test.false c.deref-walks-items.ensures.value in
    record {
      walks = groups_of groups;
      are = c.in_ok-groups.ensures.shapes;
      steps = steps;
      contours = shapes_are whole rule links (groups_of groups) (data_shapes_of whole shapes) steps;
    }
