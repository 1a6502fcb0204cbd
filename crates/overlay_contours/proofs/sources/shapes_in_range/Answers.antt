use Rattle.std.proofs.Common.{sym, ap, subst, ◌∙◌, List}
use Rattle.overlay_geometry.specs.Points.{Point}
use Rattle.overlay_base.specs.Rules.{holds}
use Rattle.overlay_snapping.specs.SnapOf.{reach_of_snap}
use Rattle.overlay_build.specs.GraphOf.{graph_with}
use Rattle.overlay_build.specs.OverlayGraphOf.{links_of}
use Rattle.overlay_shapes.specs.Gathered.{all_walks}
use Rattle.overlay_contours.specs.ContourSegments.{overlay_segments, are_in_range}
use Rattle.overlay_contours.specs.ContoursOf.{contours_of}
use Rattle.overlay_contours.specs.DataContours.{all_data_contours}
use Rattle.overlay_contours.specs.DataContoursOf.{data_shapes_of}
use Rattle.overlay_contours.specs.Shapes.{IsShapeOverlay, all_contours}
use Rattle.overlay_contours.specs.Splittings.{by_snapping}
use Rattle.overlay_contours.proofs.laws.Balances.{overlay_balances}
use Rattle.overlay_contours.proofs.laws.DataContours.{all_steps}
use Rattle.overlay_contours.proofs.laws.Overlays.{links_flow}
use Rattle.overlay_contours.proofs.laws.ShapeResults.{links_arranged, links_have_region, shape_overlay_of, all_in_range}
use Rattle.overlay_contours.proofs.laws.Sources.{steps_near_sources}
use Rattle.overlay_contours.proofs.laws.Splittings.{at_most_one, none_where_exact}
use Rattle.overlay_contours.proofs.sources.shapes_in_range.Goals as goal

pub shape_steps_of_graph-requires-clause-flow : goal.shape_steps_of_graph-requires-clause-flow
shape_steps_of_graph-requires-clause-flow g c =
    let graph = c.in_ok-graph.graph in
    let made = c.in_ok-graph.ensures.graph in
    links_flow g.I.OverlayInt.whole (links_of graph) c.args.fill_rule (holds c.args.overlay_rule) made.segments made.sides graph.holds.same_links

pub shape_steps_of_graph-requires-clause-arranged : goal.shape_steps_of_graph-requires-clause-arranged
shape_steps_of_graph-requires-clause-arranged g c =
    let I = g.I.OverlayInt in
    let whole = I.whole in
    let subject : List (List Point) = contours_of whole c.args.subject.now in
    let clip : List (List Point) = contours_of whole c.args.clip.now in
    let graph = c.in_ok-graph.graph in
    let made = c.in_ok-graph.ensures.graph in
    links_arranged (whole I.MIN_COORD) (whole I.MAX_COORD) c.args.fill_rule (holds c.args.overlay_rule) made.segments (graph_with whole (links_of graph)) made.graph_is made.arranged made.polygons (λ p. made.arrangement.kept p ∙ overlay_balances subject clip p)

pub shape_steps_of_graph-requires-clause-region : goal.shape_steps_of_graph-requires-clause-region
shape_steps_of_graph-requires-clause-region g c =
    let I = g.I.OverlayInt in
    let whole = I.whole in
    let subject : List (List Point) = contours_of whole c.args.subject.now in
    let clip : List (List Point) = contours_of whole c.args.clip.now in
    let graph = c.in_ok-graph.graph in
    let made = c.in_ok-graph.ensures.graph in
    let arranged = links_arranged (whole I.MIN_COORD) (whole I.MAX_COORD) c.args.fill_rule (holds c.args.overlay_rule) made.segments (graph_with whole (links_of graph)) made.graph_is made.arranged made.polygons (λ p. made.arrangement.kept p ∙ overlay_balances subject clip p) in
    links_have_region (whole I.MIN_COORD) (whole I.MAX_COORD) c.args.fill_rule (holds c.args.overlay_rule) made.segments (graph_with whole (links_of graph)) made.sides arranged

pub returns-clause-shapes : goal.returns-clause-shapes
returns-clause-shapes g c =
    let I = g.I.OverlayInt in
    let whole = I.whole in
    let subject : List (List Point) = contours_of whole c.args.subject.now in
    let clip : List (List Point) = contours_of whole c.args.clip.now in
    let graph = c.in_ok-graph.graph in
    let links = links_of graph in
    let made = c.in_ok-graph.ensures.graph in
    let rule = c.args.overlay_rule in
    let fill_rule = c.args.fill_rule in
    let arranged = links_arranged (whole I.MIN_COORD) (whole I.MAX_COORD) fill_rule (holds rule) made.segments (graph_with whole links) made.graph_is made.arranged made.polygons (λ p. made.arrangement.kept p ∙ overlay_balances subject clip p) in
    let f = c.in_ok-shapes.ensures.shapes in
    subst (IsShapeOverlay by_snapping rule fill_rule subject clip) (sym f.contours)
    (shape_overlay_of (whole I.MIN_COORD) (whole I.MAX_COORD) by_snapping rule fill_rule subject clip made.segments 1 (reach_of_snap (overlay_segments subject clip)) whole links f.walks graph.holds.same_links graph.ordered made.arrangement made.graph_is made.sides arranged f.are)

pub returns-clause-in_range : goal.returns-clause-in_range
returns-clause-in_range g c =
    let I = g.I.OverlayInt in
    let whole = I.whole in
    let subject : List (List Point) = contours_of whole c.args.subject.now in
    let clip : List (List Point) = contours_of whole c.args.clip.now in
    let graph = c.in_ok-graph.graph in
    let links = links_of graph in
    let made = c.in_ok-graph.ensures.graph in
    let rule = c.args.overlay_rule in
    let fill_rule = c.args.fill_rule in
    let arranged = links_arranged (whole I.MIN_COORD) (whole I.MAX_COORD) fill_rule (holds rule) made.segments (graph_with whole links) made.graph_is made.arranged made.polygons (λ p. made.arrangement.kept p ∙ overlay_balances subject clip p) in
    let f = c.in_ok-shapes.ensures.shapes in
    ap (λ (shapes : List (List (List Point))). are_in_range (whole I.MIN_COORD) (whole I.MAX_COORD) (all_contours shapes)) f.contours
    ∙ all_in_range (whole I.MIN_COORD) (whole I.MAX_COORD) by_snapping rule fill_rule subject clip made.segments 1 (reach_of_snap (overlay_segments subject clip)) whole links f.walks graph.holds.same_links graph.ordered made.arrangement made.graph_is made.sides arranged f.are made.arranged

pub returns-clause-sources : goal.returns-clause-sources
returns-clause-sources g c =
    let whole = g.I.OverlayInt.whole in
    let subject : List (List Point) = contours_of whole c.args.subject.now in
    let clip : List (List Point) = contours_of whole c.args.clip.now in
    let graph = c.in_ok-graph.graph in
    let links = links_of graph in
    let rule = holds c.args.overlay_rule in
    let f = c.in_ok-shapes.ensures.shapes in
    record {
      halves = reach_of_snap (overlay_segments subject clip);
      near = steps_near_sources subject clip (reach_of_snap (overlay_segments subject clip)) whole rule links graph.holds.same_links graph.ordered c.in_ok-graph.ensures.graph.near (all_walks f.walks) (all_data_contours (data_shapes_of whole c.in_ok-shapes.shapes.items)) f.are.walks (all_steps whole rule links f.walks (data_shapes_of whole c.in_ok-shapes.shapes.items) f.steps);
      reach = at_most_one (overlay_segments subject clip);
      exact = none_where_exact (overlay_segments subject clip);
    }
