use Rattle.std.proofs.Common.{◌≡◌, ◌<◌, ◌∷◌, ◌++◌, [], ◌∙◌, ap, ap₂, sym, subst, map, length, get_or, IsTrue, List}
use Rattle.std.proofs.lemmas.List.{map-append, take_all}
use Rattle.std.proofs.lemmas.List.Sums.{AllPass-from_list_all}
use Rattle.overlay_geometry.specs.Points.{is_ordered}
use Rattle.overlay_base.specs.Rules.{holds}
use Rattle.overlay_base.specs.Segments.{WholeSegment}
use Rattle.overlay_base.specs.Places.{winding_below}
use Rattle.overlay_base.specs.SegmentOf.{segment_of, segments_of}
use Rattle.overlay_base.specs.declared.overlay_core.link.OverlayLink.{OverlayLink}
use Rattle.overlay_build.specs.Graph.{Graph}
use Rattle.overlay_build.specs.GraphOf.{link_of, graph_with}
use Rattle.overlay_build.specs.Boundary.{directed_links}
use Rattle.overlay_build.specs.ShapedBoundary.{in_shape, BoundsAsShape}
use Rattle.overlay_build.proofs.laws.graphs.NodeLists.{map-take_next}
use Rattle.overlay_build.proofs.laws.regions.Again.{link_in_shape, links_in_shape, shapes_wind_alike, boundaries_are_shapes}
use Rattle.overlay_build.proofs.build.boundary.directed_segments.Goals as goal

pub directed_segment-requires : goal.directed_segment-requires
directed_segment-requires g c =
    let whole = g.I.OverlayInt.whole in
    let graph = c.args.graph.now in
    let item = c.link-item.result in
    let k = c.loop-link.link-index in
    let is : item ≡ get_or graph.links.now k item = c.link-item.is ∙ ap (λ ls. get_or ls k item) c.links-link-items.ensures in
    let inside : k < length graph.links.now = subst (λ ls. k < length ls) c.links-link-items.ensures c.loop-link-test.true in
    subst (λ (l : OverlayLink g.row.I.Denot g.row.D.Denot). IsTrue (is_ordered (link_of whole l).pair)) (sym is) (AllPass-from_list_all (λ l. is_ordered (link_of whole l).pair) graph.links.now graph.ordered k item inside)

pub loop-link-preserved : goal.loop-link-preserved
loop-link-preserved g c =
    let items = c.loop-link.segments.items in
    let one = c.directed_segment.result in
    let f = link_in_shape c.args.shape_type (holds c.args.rule) g.I.OverlayInt.whole in
    let here : segment_of one ≡ f c.link-item.result = λ i. record { pair = c.directed_segment.ensures.pair i; count = c.directed_segment.ensures.count i } in
    ap segments_of c.in_ok-push.ensures.items
    ∙ map-append segment_of items (one ∷ [])
    ∙ ap₂ (λ (xs : List WholeSegment) (s : WholeSegment). xs ++ s ∷ []) c.loop-link.invariant here
    ∙ sym (map-take_next f c.links-link-items.result.now c.loop-link.link-index c.link-item.result c.loop-link-test.true c.link-item.is)

pub returns-clause-segments : goal.returns-clause-segments
returns-clause-segments g c =
    let f = link_in_shape c.args.shape_type (holds c.args.rule) g.I.OverlayInt.whole in
    c.loop-link.invariant
    ∙ ap (map f) (take_all c.loop-link.link-index _ c.loop-link-test.false ∙ c.links-link-items.ensures)
    ∙ sym (links_in_shape c.args.shape_type (holds c.args.rule) g.I.OverlayInt.whole c.args.graph.now.links.now)

pub returns-clause-winds : goal.returns-clause-winds
returns-clause-winds g c = λ p.
    let f = link_in_shape c.args.shape_type (holds c.args.rule) g.I.OverlayInt.whole in
    let is = c.loop-link.invariant
    ∙ ap (map f) (take_all c.loop-link.link-index _ c.loop-link-test.false ∙ c.links-link-items.ensures)
    ∙ sym (links_in_shape c.args.shape_type (holds c.args.rule) g.I.OverlayInt.whole c.args.graph.now.links.now) in
    ap (λ (xs : List WholeSegment). winding_below xs p) is ∙ shapes_wind_alike c.args.shape_type (directed_links (holds c.args.rule) (graph_with g.I.OverlayInt.whole c.args.graph.now.links.now)) p

pub returns-clause-again : goal.returns-clause-again
returns-clause-again g c = λ fill_rule segments same arranged polygons balanced.
    let f = link_in_shape c.args.shape_type (holds c.args.rule) g.I.OverlayInt.whole in
    let is = c.loop-link.invariant
    ∙ ap (map f) (take_all c.loop-link.link-index _ c.loop-link-test.false ∙ c.links-link-items.ensures)
    ∙ sym (links_in_shape c.args.shape_type (holds c.args.rule) g.I.OverlayInt.whole c.args.graph.now.links.now) in
    subst (BoundsAsShape _ _ c.args.shape_type (holds c.args.rule) fill_rule segments) (sym (is ∙ ap (λ (k : Graph). in_shape c.args.shape_type (directed_links (holds c.args.rule) k)) same))
    (boundaries_are_shapes _ _ c.args.shape_type fill_rule (holds c.args.rule) segments arranged polygons balanced)
