use Rattle.std.proofs.Common.{List}
use Rattle.std.proofs.lemmas.Result.{IfOk-weaker, on_ok_weaker}
use Rattle.overlay_base.specs.ClipRules.{keeps_clip}
use Rattle.overlay_base.specs.Segments.{WholeSegment}
use Rattle.overlay_base.specs.SegmentOf.{segments_of}
use Rattle.overlay_base.proofs.laws.joins.Views.{segments_ordered}
use Rattle.overlay_build.specs.Graph.{graph_by}
use Rattle.overlay_build.specs.GraphOf.{HoldGraph, graph_with}
use Rattle.overlay_build.specs.NodeIndexes.{items_of, is_any_node}
use Rattle.overlay_build.specs.StringGraphOf.{line_nodes_of, line_links_of}
use Rattle.overlay_build.proofs.laws.graphs.BuiltGraphs.{graph_with_kept, hold_own_graph}
use Rattle.i_overlay.specs.Courses.{Course}
use Rattle.i_overlay.specs.Headline.{IsClipBy}
use Rattle.i_overlay.specs.SplitterOf.{course_over, passes_in}
use Rattle.i_overlay.proofs.laws.Splits.{small_masks}
use Rattle.i_overlay.proofs.laws.Overlays.{none_arranged, clip_from, refused_build}
use Rattle.i_overlay.proofs.clip_by.split_and_build_clip_by.Goals as goal

pub returns-in_err-split_segments-clause-arranged : goal.returns-in_err-split_segments-clause-arranged
returns-in_err-split_segments-clause-arranged g c = rw c.in_err-split_segments.ensures.emptied (none_arranged _ _)

pub returns-clause-clip : goal.returns-clause-clip
returns-clause-clip g c =
    let e = c.in_ok-split_segments.ensures in
    let whole = g.I.OverlayInt.whole in
    let course : Course = course_over c.args.solver.now c.args.splitter.now c.split_segments.new.self c.args.segments.now in
    let given : List WholeSegment = segments_of c.args.segments.now.items in
    let segments : List WholeSegment = segments_of c.split_segments.new.list.items in
    let balanced = rw c.deref.ensures.value at c.build_string_clip.ensures.balanced in
    IfOk-weaker c.build_string_clip.result
    (λ built. HoldGraph items_of is_any_node whole (line_nodes_of built) (line_links_of built) (graph_by (keeps_clip c.args.clip_rule) c.args.fill_rule segments))
    (λ built. IsClipBy course c.args.fill_rule c.args.clip_rule given segments (graph_with whole (line_links_of built)))
    (λ built h. clip_from course c.args.fill_rule c.args.clip_rule given segments _ (segments_ordered c.args.segments.now.items) (small_masks _ _ given c.requires) e.split.split (graph_with_kept items_of is_any_node whole (line_nodes_of built) (line_links_of built) (keeps_clip c.args.clip_rule) c.args.fill_rule segments h) balanced)
    (rw c.deref.ensures.value at c.build_string_clip.ensures.graph)

pub returns-clause-graph : goal.returns-clause-graph
returns-clause-graph g c =
    let whole = g.I.OverlayInt.whole in
    IfOk-weaker c.build_string_clip.result
    (λ built. HoldGraph items_of is_any_node whole (line_nodes_of built) (line_links_of built) (graph_by (keeps_clip c.args.clip_rule) c.args.fill_rule (segments_of c.deref.result.now)))
    (λ built. HoldGraph items_of is_any_node whole (line_nodes_of built) (line_links_of built) (graph_with whole (line_links_of built)))
    (λ built h. hold_own_graph items_of is_any_node whole (line_nodes_of built) (line_links_of built) (keeps_clip c.args.clip_rule) c.args.fill_rule (segments_of c.deref.result.now) h)
    c.build_string_clip.ensures.graph

pub returns-clause-unchanged : goal.returns-clause-unchanged
returns-clause-unchanged g c = λ arranged. on_ok_weaker _ (λ _. (c.in_ok-split_segments.ensures.unchanged arranged).1) c.build_string_clip.ensures.in_range

pub returns-clause-fits : goal.returns-clause-fits
returns-clause-fits g c = on_ok_weaker _ (λ _. c.in_ok-split_segments.ensures.split.fits) c.build_string_clip.ensures.in_range

pub returns-clause-refused : goal.returns-clause-refused
returns-clause-refused g c =
    let e = c.in_ok-split_segments.ensures in
    let course : Course = course_over c.args.solver.now c.args.splitter.now c.split_segments.new.self c.args.segments.now in
    let given : List WholeSegment = segments_of c.args.segments.now.items in
    let segments : List WholeSegment = segments_of c.split_segments.new.list.items in
    refused_build course (passes_in c.args.splitter.now) given segments c.build_string_clip.result e.split.split e.split.fits (rw c.deref.ensures.value at c.build_string_clip.ensures.out_of_range)

pub returns-clause-looked : goal.returns-clause-looked
returns-clause-looked g c = on_ok_weaker _ (λ _. c.in_ok-split_segments.ensures.looked) c.build_string_clip.ensures.in_range

pub returns-clause-asked : goal.returns-clause-asked
returns-clause-asked g c = rw c.deref.ensures.value at c.build_string_clip.ensures.compared
