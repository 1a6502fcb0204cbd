use Rattle.std.proofs.Common.{◌≡◌, true, inr}
use Rattle.std.specs.Prelude.{IsTrue}
use Rattle.std.proofs.lemmas.Result.{IfOk-weaker, IfErr-weaker, on_ok_weaker}
use Rattle.overlay_base.specs.SegmentOf.{segments_of}
use Rattle.overlay_base.specs.declared.segm.fault.Fault.TheVariants.{CountOutOfRange}
use Rattle.overlay_sweep.specs.ChainWindings.{tops_leave_range}
use Rattle.overlay_build.specs.NodeIndexes.{indexes_of, is_canonical_node}
use Rattle.overlay_build.proofs.laws.graphs.BuiltGraphs.{graph_with_kept}
use Rattle.arrange.proofs.graph.build_all.Goals as goal

pub returns-clause-graph : goal.returns-clause-graph
returns-clause-graph g c =
    rw (← c.deref.ensures.value)
    (IfOk-weaker c.build_boolean_all.result _ _ (λ graph h. graph_with_kept indexes_of is_canonical_node g.I.OverlayInt.whole graph.nodes.now graph.links.now (λ _. true) c.args.fill_rule (segments_of c.deref.result.now) h) c.build_boolean_all.ensures.graph)

pub returns-clause-out_of_range : goal.returns-clause-out_of_range
returns-clause-out_of_range g c =
    IfErr-weaker c.build_boolean_all.result (λ fault. fault ≡ CountOutOfRange → IsTrue (tops_leave_range (segments_of c.split_segments.new.list.items))) _
    (λ fault tops e. inr (c.in_ok-split_segments.ensures.split.split.arrangement.left, tops e)) (rw c.deref.ensures.value at c.build_boolean_all.ensures.out_of_range)

pub split_segments-requires : goal.split_segments-requires
split_segments-requires g c = c.requires

pub build_boolean_all-requires : goal.build_boolean_all-requires
build_boolean_all-requires g c = record { arranged = rw c.deref.ensures.value c.in_ok-split_segments.ensures.split.arranged }

pub returns-clause-left : goal.returns-clause-left
returns-clause-left g c = on_ok_weaker _ (λ _. c.in_ok-split_segments.ensures.split.split.arrangement.left) c.build_boolean_all.ensures.in_range

pub returns-clause-in_range : goal.returns-clause-in_range
returns-clause-in_range g c = rw c.deref.ensures.value at c.build_boolean_all.ensures.in_range

pub returns-clause-asked : goal.returns-clause-asked
returns-clause-asked g c = rw c.deref.ensures.value at c.build_boolean_all.ensures.compared
