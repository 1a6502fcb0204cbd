use Rattle.std.proofs.Common.{◌≡◌, ◌⊎◌, inr, [], IsTrue, List}
use Rattle.std.proofs.lemmas.Result.{IfOk-weaker, IfErr-weaker, on_ok_weaker}
use Rattle.overlay_base.specs.ClipRules.{keeps_clip}
use Rattle.overlay_base.specs.Segments.{WholeSegment}
use Rattle.overlay_base.specs.SegmentOf.{segments_of}
use Rattle.overlay_base.specs.declared.segm.fault.Fault.{Fault}
use Rattle.overlay_base.specs.declared.segm.fault.Fault.TheVariants.{CountOutOfRange}
use Rattle.overlay_base.proofs.laws.joins.Views.{segments_ordered}
use Rattle.overlay_sweep.specs.ChainWindings.{tops_leave_range}
use Rattle.overlay_build.specs.Graph.{graph_by}
use Rattle.overlay_build.specs.GraphOf.{HoldGraph, graph_with}
use Rattle.overlay_build.specs.NodeIndexes.{items_of, is_any_node}
use Rattle.overlay_build.specs.StringGraphOf.{line_nodes_of, line_links_of}
use Rattle.overlay_build.proofs.laws.graphs.BuiltGraphs.{graph_with_kept, hold_own_graph}
use Rattle.overlay_contours.specs.Splittings.{SumsLeaveRange}
use Rattle.i_overlay.specs.Courses.{Course}
use Rattle.i_overlay.specs.Headline.{IsSplitBy, IsClipBy}
use Rattle.i_overlay.specs.SplitterOf.{splitting_over, course_over}
use Rattle.i_overlay.proofs.laws.Splits.{small_masks}
use Rattle.i_overlay.proofs.laws.Overlays.{clip_from}
use Rattle.i_overlay.proofs.clip_by.split_and_build_clip_with_numbers.Goals as goal

pub returns-clause-clip : goal.returns-clause-clip
returns-clause-clip g c =
    let e = c.in_ok-split.ensures in
    let whole = g.I.OverlayInt.whole in
    let course : Course = course_over c.args.solver.now c.args.splitter.now c.split.new.splitter c.args.segments.now in
    let given : List WholeSegment = segments_of c.args.segments.now.items in
    let segments : List WholeSegment = segments_of c.split.new.segments.items in
    let balanced = rw c.deref.ensures.value at c.build_string_clip.ensures.balanced in
    IfOk-weaker c.build_string_clip.result
    (λ built. HoldGraph items_of is_any_node whole (line_nodes_of built) (line_links_of built) (graph_by (keeps_clip c.args.clip_rule) c.args.fill_rule segments))
    (λ built. IsClipBy course c.args.fill_rule c.args.clip_rule given segments (graph_with whole (line_links_of built)))
    (λ built h. clip_from course c.args.fill_rule c.args.clip_rule given segments _ (segments_ordered c.args.segments.now.items) (small_masks _ _ given c.requires) e.split.split (graph_with_kept items_of is_any_node whole (line_nodes_of built) (line_links_of built) (keeps_clip c.args.clip_rule) c.args.fill_rule segments h) balanced)
    (rw c.deref.ensures.value at c.build_string_clip.ensures.graph)

pub returns-clause-graph : goal.returns-clause-graph
returns-clause-graph g c =
    let whole = g.I.OverlayInt.whole in
    IfOk-weaker c.build_string_clip.result
    (λ built. HoldGraph items_of is_any_node whole (line_nodes_of built) (line_links_of built) (graph_by (keeps_clip c.args.clip_rule) c.args.fill_rule (segments_of c.deref.result.now)))
    (λ built. HoldGraph items_of is_any_node whole (line_nodes_of built) (line_links_of built) (graph_with whole (line_links_of built)))
    (λ built h. hold_own_graph items_of is_any_node whole (line_nodes_of built) (line_links_of built) (keeps_clip c.args.clip_rule) c.args.fill_rule (segments_of c.deref.result.now) h)
    c.build_string_clip.ensures.graph

pub returns-clause-lines : goal.returns-clause-lines
returns-clause-lines g c = on_ok_weaker _ (λ _. c.in_ok-split.ensures.split.lines) c.build_string_clip.ensures.in_range

pub returns-clause-unchanged : goal.returns-clause-unchanged
returns-clause-unchanged g c = λ arranged. on_ok_weaker _ (λ _. c.in_ok-split.ensures.unchanged arranged) c.build_string_clip.ensures.in_range

pub returns-clause-looked : goal.returns-clause-looked
returns-clause-looked g c = on_ok_weaker _ (λ _. c.in_ok-split.ensures.looked) c.build_string_clip.ensures.in_range

pub returns-clause-fits : goal.returns-clause-fits
returns-clause-fits g c = on_ok_weaker _ (λ _. c.in_ok-split.ensures.split.fits) c.build_string_clip.ensures.in_range

pub returns-clause-too_large : goal.returns-clause-too_large
returns-clause-too_large g c =
    let segments : List WholeSegment = segments_of c.split.new.segments.items in
    let sums = SumsLeaveRange (splitting_over c.args.solver.now c.args.splitter.now c.args.segments.now) (segments_of c.args.segments.now.items) in
    IfErr-weaker c.build_string_clip.result (λ (fault : Fault). fault ≡ CountOutOfRange → IsTrue (tops_leave_range segments))
    (λ (fault : Fault). fault ≡ CountOutOfRange → sums ⊎ IsTrue (tops_leave_range segments)) (λ fault h k. inr (h k))
    (rw c.deref.ensures.value at c.build_string_clip.ensures.out_of_range)

pub returns-clause-stands : goal.returns-clause-stands
returns-clause-stands g c =
    let given : List WholeSegment = segments_of c.args.segments.now.items in
    let segments : List WholeSegment = segments_of c.split.new.segments.items in
    let course : Course = course_over c.args.solver.now c.args.splitter.now c.split.new.splitter c.args.segments.now in
    IfErr-weaker c.build_string_clip.result (λ (fault : Fault). fault ≡ CountOutOfRange → IsTrue (tops_leave_range segments))
    (λ (fault : Fault). (segments ≡ []) ⊎ IsSplitBy course given segments) (λ fault h. inr c.in_ok-split.ensures.split.split)
    (rw c.deref.ensures.value at c.build_string_clip.ensures.out_of_range)

pub returns-clause-asked : goal.returns-clause-asked
returns-clause-asked g c = rw c.deref.ensures.value at c.build_string_clip.ensures.compared
