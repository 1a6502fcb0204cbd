use Rattle.std.proofs.Common.{ℕ, List}
use Rattle.std.proofs.lemmas.Result.{IfOk-weaker, on_ok_weaker}
use Rattle.overlay_base.specs.ClipRules.{keeps_clip}
use Rattle.overlay_base.specs.Segments.{WholeSegment}
use Rattle.overlay_base.specs.SegmentOf.{segments_of}
use Rattle.overlay_base.proofs.laws.joins.Views.{segments_ordered}
use Rattle.overlay_cuts.specs.Run.{Settings}
use Rattle.overlay_split.specs.SettingsOf.{passes_of, settings_of}
use Rattle.overlay_build.specs.Graph.{graph_by}
use Rattle.overlay_build.specs.GraphOf.{HoldGraph, graph_with}
use Rattle.overlay_build.specs.NodeIndexes.{items_of, is_any_node}
use Rattle.overlay_build.specs.StringGraphOf.{line_nodes_of, line_links_of}
use Rattle.i_overlay.specs.Courses.{course_of_passes}
use Rattle.i_overlay.specs.Headline.{IsSplit, IsClip}
use Rattle.overlay_build.proofs.laws.graphs.BuiltGraphs.{graph_with_kept, hold_own_graph}
use Rattle.i_overlay.proofs.laws.Splits.{split_from, small_masks}
use Rattle.i_overlay.proofs.laws.Overlays.{none_arranged, clip_from, refused_build}
use Rattle.i_overlay.proofs.clip.split_and_build_clip.Goals as goal

pub returns-in_err-split_segments-clause-arranged : goal.returns-in_err-split_segments-clause-arranged
returns-in_err-split_segments-clause-arranged g c = rw c.in_err-split_segments.ensures.emptied (none_arranged _ _)

pub returns-clause-clip : goal.returns-clause-clip
returns-clause-clip g c =
    let e = c.in_ok-split_segments.ensures in
    let whole = g.I.OverlayInt.whole in
    let settings : Settings = settings_of g.I.OverlayInt.BITS c.args.solver.now c.args.splitter.now in
    let given : List WholeSegment = segments_of c.args.segments.now.items in
    let segments : List WholeSegment = segments_of c.split_segments.new.list.items in
    let passes : ℕ = passes_of c.split_segments.new.self in
    let split : IsSplit settings given segments passes = split_from _ _ _ _ _ _ _ _ e.run e.arranged e.balance e.in_box e.near e.winding e.exact_input e.bound e.reach e.exact_reach in
    let balanced = rw c.deref.ensures.value at c.build_string_clip.ensures.balanced in
    IfOk-weaker c.build_string_clip.result
    (λ built. HoldGraph items_of is_any_node whole (line_nodes_of built) (line_links_of built) (graph_by (keeps_clip c.args.clip_rule) c.args.fill_rule segments))
    (λ built. IsClip settings c.args.fill_rule c.args.clip_rule given segments passes (graph_with whole (line_links_of built)))
    (λ built h. clip_from (course_of_passes settings given passes) c.args.fill_rule c.args.clip_rule given segments _ (segments_ordered c.args.segments.now.items) (small_masks _ _ given c.requires) split (graph_with_kept items_of is_any_node whole (line_nodes_of built) (line_links_of built) (keeps_clip c.args.clip_rule) c.args.fill_rule segments h) balanced)
    (rw c.deref.ensures.value at c.build_string_clip.ensures.graph)

pub returns-clause-graph : goal.returns-clause-graph
returns-clause-graph g c =
    let whole = g.I.OverlayInt.whole in
    IfOk-weaker c.build_string_clip.result
    (λ built. HoldGraph items_of is_any_node whole (line_nodes_of built) (line_links_of built) (graph_by (keeps_clip c.args.clip_rule) c.args.fill_rule (segments_of c.deref.result.now)))
    (λ built. HoldGraph items_of is_any_node whole (line_nodes_of built) (line_links_of built) (graph_with whole (line_links_of built)))
    (λ built h. hold_own_graph items_of is_any_node whole (line_nodes_of built) (line_links_of built) (keeps_clip c.args.clip_rule) c.args.fill_rule (segments_of c.deref.result.now) h)
    c.build_string_clip.ensures.graph

pub returns-clause-unchanged : goal.returns-clause-unchanged
returns-clause-unchanged g c = λ arranged. on_ok_weaker _ (λ _. (c.in_ok-split_segments.ensures.unchanged arranged).1) c.build_string_clip.ensures.in_range

pub returns-clause-fits : goal.returns-clause-fits
returns-clause-fits g c = on_ok_weaker _ (λ _. c.in_ok-split_segments.ensures.fits) c.build_string_clip.ensures.in_range

pub returns-clause-refused : goal.returns-clause-refused
returns-clause-refused g c =
    let e = c.in_ok-split_segments.ensures in
    let settings : Settings = settings_of g.I.OverlayInt.BITS c.args.solver.now c.args.splitter.now in
    let given : List WholeSegment = segments_of c.args.segments.now.items in
    let segments : List WholeSegment = segments_of c.split_segments.new.list.items in
    let passes : ℕ = passes_of c.split_segments.new.self in
    let split : IsSplit settings given segments passes = split_from _ _ _ _ _ _ _ _ e.run e.arranged e.balance e.in_box e.near e.winding e.exact_input e.bound e.reach e.exact_reach in
    refused_build (course_of_passes settings given passes) (passes_of c.args.splitter.now) given segments c.build_string_clip.result split e.fits (rw c.deref.ensures.value at c.build_string_clip.ensures.out_of_range)

pub returns-clause-reach : goal.returns-clause-reach
returns-clause-reach g c = on_ok_weaker _ (λ _. c.in_ok-split_segments.ensures.reach) c.build_string_clip.ensures.in_range

pub returns-clause-looked : goal.returns-clause-looked
returns-clause-looked g c = on_ok_weaker _ (λ _. c.in_ok-split_segments.ensures.looked) c.build_string_clip.ensures.in_range

pub returns-clause-asked : goal.returns-clause-asked
returns-clause-asked g c = rw c.deref.ensures.value at c.build_string_clip.ensures.compared
