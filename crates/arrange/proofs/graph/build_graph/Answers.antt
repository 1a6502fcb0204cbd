use Rattle.std.proofs.Common.{◌≡◌, refl}
use Rattle.overlay_base.specs.SegmentOf.{segments_of}
use Rattle.overlay_build.specs.OverlayGraphOf.{graph_asked}
use Rattle.overlay_build.specs.GraphOf.{graph_with}
use Rattle.i_overlay.specs.Courses.{Course}
use Rattle.i_overlay.specs.SplitterOf.{splitting_over, course_over, passes_in}
use Rattle.arrange.specs.Run.{splitting_of}
use Rattle.arrange.proofs.GraphAnswers.{cost_by_rule, cost_of_all, answered_by_rule, answered_of_all, refusal_by_rule, refusal_all}
use Rattle.arrange.proofs.graph.build_graph.Goals as goal

pub returns-in-Some-clause-graph : goal.returns-in-Some-clause-graph
returns-in-Some-clause-graph g c =
    let set : splitting_over c.solver-solver.result c.splitter_for-splitter.result c.args.segments ≡ splitting_of g.I.OverlayInt.BITS c.args.settings =
    rw (c.splitter_for-splitter.ensures.limit, c.splitter_for-splitter.ensures.rounding, c.solver-solver.ensures.precision) refl in
    let course : Course = course_over c.solver-solver.result c.splitter_for-splitter.result c.split_and_build_overlay_by.new.splitter c.args.segments in
    answered_by_rule g.I.OverlayInt.BITS c.args.settings (segments_of c.args.segments.items) (segments_of c.split_and_build_overlay_by.new.segments.items) course set c.split_and_build_overlay_by.result
    (λ graph. graph_with g.I.OverlayInt.whole graph.links.now) c.in-Some.rule c.in-Some.is c.split_and_build_overlay_by.ensures.overlay c.split_and_build_overlay_by.ensures.in_range

pub returns-in-Some-clause-out_of_range : goal.returns-in-Some-clause-out_of_range
returns-in-Some-clause-out_of_range g c =
    let set : splitting_over c.solver-solver.result c.splitter_for-splitter.result c.args.segments ≡ splitting_of g.I.OverlayInt.BITS c.args.settings =
    rw (c.splitter_for-splitter.ensures.limit, c.splitter_for-splitter.ensures.rounding, c.solver-solver.ensures.precision) refl in
    let course : Course = course_over c.solver-solver.result c.splitter_for-splitter.result c.split_and_build_overlay_by.new.splitter c.args.segments in
    refusal_by_rule g.I.OverlayInt.BITS c.args.settings (segments_of c.args.segments.items) (segments_of c.split_and_build_overlay_by.new.segments.items) course set (passes_in c.splitter_for-splitter.result) c.split_and_build_overlay_by.result c.split_and_build_overlay_by.ensures.refused

pub returns-in-Some-clause-asked : goal.returns-in-Some-clause-asked
returns-in-Some-clause-asked g c =
    let set : splitting_over c.solver-solver.result c.splitter_for-splitter.result c.args.segments ≡ splitting_of g.I.OverlayInt.BITS c.args.settings =
    rw (c.splitter_for-splitter.ensures.limit, c.splitter_for-splitter.ensures.rounding, c.solver-solver.ensures.precision) refl in
    let course : Course = course_over c.solver-solver.result c.splitter_for-splitter.result c.split_and_build_overlay_by.new.splitter c.args.segments in
    cost_by_rule g.I.OverlayInt.BITS c.args.settings (segments_of c.args.segments.items) (segments_of c.split_and_build_overlay_by.new.segments.items) course set c.split_and_build_overlay_by.result
    (λ graph. graph_with g.I.OverlayInt.whole graph.links.now) graph_asked c.in-Some.rule _ c.solver-solver.ensures.strategy c.split_and_build_overlay_by.ensures.overlay c.split_and_build_overlay_by.ensures.asked

pub returns-clause-graph : goal.returns-clause-graph
returns-clause-graph g c =
    let set : splitting_over c.solver-solver.result c.splitter_for-splitter.result c.args.segments ≡ splitting_of g.I.OverlayInt.BITS c.args.settings =
    rw (c.splitter_for-splitter.ensures.limit, c.splitter_for-splitter.ensures.rounding, c.solver-solver.ensures.precision) refl in
    let course : Course = course_over c.solver-solver.result c.splitter_for-splitter.result c.build_all.new.splitter c.args.segments in
    answered_of_all g.I.OverlayInt.BITS c.args.settings (segments_of c.args.segments.items) (segments_of c.build_all.new.segments.items) course set c.build_all.result
    (λ graph. graph_with g.I.OverlayInt.whole graph.links.now) c.build_all.ensures.left c.build_all.ensures.in_range (rw c.in-None.is c.build_all.ensures.graph)

pub returns-clause-out_of_range : goal.returns-clause-out_of_range
returns-clause-out_of_range g c =
    let set : splitting_over c.solver-solver.result c.splitter_for-splitter.result c.args.segments ≡ splitting_of g.I.OverlayInt.BITS c.args.settings =
    rw (c.splitter_for-splitter.ensures.limit, c.splitter_for-splitter.ensures.rounding, c.solver-solver.ensures.precision) refl in
    let course : Course = course_over c.solver-solver.result c.splitter_for-splitter.result c.build_all.new.splitter c.args.segments in
    refusal_all g.I.OverlayInt.BITS c.args.settings (segments_of c.args.segments.items) (segments_of c.build_all.new.segments.items) course set c.build_all.result c.build_all.ensures.out_of_range

pub returns-clause-asked : goal.returns-clause-asked
returns-clause-asked g c =
    let set : splitting_over c.solver-solver.result c.splitter_for-splitter.result c.args.segments ≡ splitting_of g.I.OverlayInt.BITS c.args.settings =
    rw (c.splitter_for-splitter.ensures.limit, c.splitter_for-splitter.ensures.rounding, c.solver-solver.ensures.precision) refl in
    let course : Course = course_over c.solver-solver.result c.splitter_for-splitter.result c.build_all.new.splitter c.args.segments in
    cost_of_all g.I.OverlayInt.BITS c.args.settings (segments_of c.args.segments.items) (segments_of c.build_all.new.segments.items) course set c.build_all.result
    graph_asked _ c.solver-solver.ensures.strategy c.build_all.ensures.left c.build_all.ensures.asked
