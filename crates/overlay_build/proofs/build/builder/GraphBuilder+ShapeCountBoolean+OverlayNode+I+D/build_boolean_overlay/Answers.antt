use Rattle.std.proofs.Common.{◌∙◌, ap, refl, rules}
use Rattle.overlay_base.specs.Rules.{holds, keeps_fill}
use Rattle.overlay_base.specs.SegmentOf.{segment_of, segments_of}
use Rattle.overlay_build.specs.Graph.{graph_by, data_by}
use Rattle.overlay_build.specs.GraphOf.{graph_with}
use Rattle.overlay_build.specs.NodeIndexes.{indexes_of, is_canonical_node}
use Rattle.overlay_build.proofs.laws.graphs.BuiltGraphs.{hold_own_graph, held_links_are_ordered, graph_with_kept, arranged_overlay, polygons_from}
use Rattle.std.proofs.lemmas.Result.{IfOk-from_err}
use Rattle.overlay_build.proofs.build.builder.GraphBuilder+ShapeCountBoolean+OverlayNode+I+D.build_boolean_overlay.Goals as goal

pub graph-requires : goal.graph-requires
graph-requires g c =
    let segments = segments_of c.args.segments.now in
    record {
      holds = hold_own_graph indexes_of is_canonical_node g.I.OverlayInt.whole _ _ (keeps_fill (holds c.args.overlay_rule)) c.args.fill_rule segments c.in_ok-build.ensures.graph;
      ordered = held_links_are_ordered indexes_of is_canonical_node g.I.OverlayInt.whole _ _ (keeps_fill (holds c.args.overlay_rule)) c.args.fill_rule _ _ segments c.requires.arranged c.in_ok-build.ensures.graph;
    }

pub returns : goal.returns
unfolding graph_by data_by
returns g c =
    let whole = g.I.OverlayInt.whole in
    let keeps = keeps_fill (holds c.args.overlay_rule) in
    let segments = segments_of c.args.segments.now in
    let is = ap (graph_with whole) c.graph.ensures.links ∙ graph_with_kept indexes_of is_canonical_node whole _ _ keeps c.args.fill_rule segments c.in_ok-build.ensures.graph in
    let balanced = arranged_overlay _ _ (holds c.args.overlay_rule) c.args.fill_rule segments c.requires.arranged (polygons_from segment_of (λ s. refl) c.args.segments.now) in
    (search rules, record { graph = rw (c.graph.ensures.nodes, c.graph.ensures.links) c.in_ok-build.ensures.graph; edge_data = rw c.graph.ensures.links c.in_ok-build.ensures.edge_data; balanced = balanced; even = λ balance. rw is (balanced balance).even; in_range = c.in_ok-build.ensures.in_range; out_of_range = tt; compared = rw c.graph.ensures.compared c.in_ok-build.ensures.compared; after = search rules })

pub returns-in_err-build : goal.returns-in_err-build
returns-in_err-build g c = ((refl, λ _. tt, (IfOk-from_err c.from_residual.result _ c.from_residual.ensures.0, search rules)), record { graph = IfOk-from_err c.from_residual.result _ c.from_residual.ensures.0; edge_data = IfOk-from_err c.from_residual.result _ c.from_residual.ensures.0; balanced = arranged_overlay _ _ (holds c.args.overlay_rule) c.args.fill_rule (segments_of c.args.segments.now) c.requires.arranged (polygons_from segment_of (λ s. refl) c.args.segments.now); even = IfOk-from_err c.from_residual.result _ c.from_residual.ensures.0; in_range = IfOk-from_err c.from_residual.result _ c.from_residual.ensures.0; out_of_range = search rules; compared = IfOk-from_err c.from_residual.result _ c.from_residual.ensures.0; after = search rules })
