use Rattle.std.proofs.Common.{sym, ap, ◌∙◌, List}
use Rattle.std.specs.Prelude.{count_by}
use Rattle.overlay_geometry.specs.Points.{Point}
use Rattle.overlay_base.specs.Rules.{holds}
use Rattle.overlay_snapping.specs.SnapOf.{reach_of_snap}
use Rattle.overlay_build.specs.DirectedWalks.{arcs}
use Rattle.overlay_build.specs.Graph.{Link}
use Rattle.overlay_build.specs.GraphOf.{graph_with}
use Rattle.overlay_build.specs.OverlayGraphOf.{links_of}
use Rattle.overlay_contours.specs.ContourSegments.{overlay_segments}
use Rattle.overlay_contours.specs.ContoursOf.{contours_of}
use Rattle.overlay_contours.specs.DataContoursOf.{data_contours_of, bare_contours_of}
use Rattle.overlay_contours.specs.Splittings.{by_snapping}
use Rattle.overlay_contours.proofs.laws.Extracts.{ways_of}
use Rattle.overlay_contours.proofs.laws.GraphContours.{graph_pairs}
use Rattle.overlay_contours.proofs.laws.Overlays.{links_flow, polygon_overlay, answer_in_range}
use Rattle.overlay_contours.proofs.laws.Sources.{steps_near_sources}
use Rattle.overlay_contours.proofs.laws.Splittings.{at_most_one, none_where_exact}
use Rattle.overlay_contours.proofs.sources.overlay_in_range.Goals as goal

pub directed_steps_of_graph-requires : goal.directed_steps_of_graph-requires
directed_steps_of_graph-requires g c =
    let graph = c.in_ok-graph.graph in
    let made = c.in_ok-graph.ensures.graph in
    links_flow g.I.OverlayInt.whole (links_of graph) c.args.fill_rule (holds c.args.overlay_rule) made.segments made.sides graph.holds.same_links

pub returns-clause-polygons : goal.returns-clause-polygons
returns-clause-polygons g c =
    let whole = g.I.OverlayInt.whole in
    let subject : List (List Point) = contours_of whole c.args.subject.now in
    let clip : List (List Point) = contours_of whole c.args.clip.now in
    let graph = c.in_ok-graph.graph in
    let links = links_of graph in
    let made = c.in_ok-graph.ensures.graph in
    let rule = c.args.overlay_rule in
    let e = c.in_ok-contours.ensures in
    polygon_overlay by_snapping rule c.args.fill_rule subject clip (bare_contours_of whole c.in_ok-contours.contours.items) made.segments 1 (reach_of_snap (overlay_segments subject clip)) (graph_with whole links) made.arrangement made.graph_is made.sides
    (λ test. e.edges test ∙ sym (ap (count_by test) (graph_pairs whole links graph.holds.same_links)))
    e.painted
    (λ test. e.directed test ∙ ap (λ (l : List Link). count_by test (ways_of (arcs (holds rule) l))) graph.holds.same_links)
    e.winds e.proper

pub returns-clause-in_range : goal.returns-clause-in_range
returns-clause-in_range g c =
    let I = g.I.OverlayInt in
    let whole = I.whole in
    let subject : List (List Point) = contours_of whole c.args.subject.now in
    let clip : List (List Point) = contours_of whole c.args.clip.now in
    let graph = c.in_ok-graph.graph in
    let links = links_of graph in
    let made = c.in_ok-graph.ensures.graph in
    let rule = c.args.overlay_rule in
    let e = c.in_ok-contours.ensures in
    answer_in_range by_snapping rule c.args.fill_rule subject clip (bare_contours_of whole c.in_ok-contours.contours.items) made.segments 1 (reach_of_snap (overlay_segments subject clip)) (graph_with whole links) made.arrangement made.graph_is made.sides
    (λ test. e.edges test ∙ sym (ap (count_by test) (graph_pairs whole links graph.holds.same_links)))
    e.painted
    (λ test. e.directed test ∙ ap (λ (l : List Link). count_by test (ways_of (arcs (holds rule) l))) graph.holds.same_links)
    e.winds e.proper
    (whole I.MIN_COORD) (whole I.MAX_COORD) made.arranged

pub returns-clause-sources : goal.returns-clause-sources
returns-clause-sources g c =
    let whole = g.I.OverlayInt.whole in
    let subject : List (List Point) = contours_of whole c.args.subject.now in
    let clip : List (List Point) = contours_of whole c.args.clip.now in
    let graph = c.in_ok-graph.graph in
    let walks = c.in_ok-contours.ensures.walks in
    record {
      halves = reach_of_snap (overlay_segments subject clip);
      near = steps_near_sources subject clip (reach_of_snap (overlay_segments subject clip)) whole (holds c.args.overlay_rule) (links_of graph) graph.holds.same_links graph.ordered c.in_ok-graph.ensures.graph.near walks.walks (data_contours_of whole c.in_ok-contours.contours.items) walks.are walks.steps;
      reach = at_most_one (overlay_segments subject clip);
      exact = none_where_exact (overlay_segments subject clip);
    }
