use Rattle.std.proofs.Common.{◌≡◌, arith}
use Rattle.overlay_base.specs.Segments.{pairs}
use Rattle.overlay_base.specs.SegmentOf.{segments_of}
use Rattle.overlay_tree.specs.steps.NodeOf.{tree_nodes}
use Rattle.overlay_tree.proofs.laws.tree.Sweeps.{pairs_in_order, length-pairs}
use Rattle.overlay_tree.proofs.laws.tree.TreeFinder.{IsUnderWay-renewed}
use Rattle.overlay_tree.proofs.split.solver_tree.take_in.Goals as goal

pub take_into_tree-requires-2-clause-way : goal.take_into_tree-requires-2-clause-way
take_into_tree-requires-2-clause-way g c =
    let whole = g.I.OverlayInt.whole in
    let xs = c.args.segments.now in
    let j = c.args.index in
    let under = c.requires.way.1 in
    let reached = under.way.reached in
    let here : j ≡ c.args.until = omega (arith, reached, c.if-index-until.false) in (
      c.requires.way.0,
      IsUnderWay-renewed (pairs (segments_of xs)) (tree_nodes whole c.args.nodes.now.items) (tree_nodes whole c.renew.new.nodes.items) c.requires.way.0 c.args.looked.now j c.args.until c.in_ok-further.further under here
          (pairs_in_order xs c.requires.sorted) c.in_ok-further.ensures.further (omega (arith, c.in_ok-further.ensures.within, length-pairs xs)) c.in_ok-further.ensures.listed c.in_ok-further.ensures.rising c.in_ok-further.ensures.summed,
    )

pub returns-clause-way : goal.returns-clause-way
returns-clause-way g c old under =
    let whole = g.I.OverlayInt.whole in
    let xs = c.args.segments.now in
    let j = c.args.index in
    let reached = under.way.reached in
    let here : j ≡ c.args.until = omega (arith, reached, c.if-index-until.false) in
    c.in_ok-take_into_tree-2.ensures.way old (IsUnderWay-renewed (pairs (segments_of xs)) (tree_nodes whole c.args.nodes.now.items) (tree_nodes whole c.renew.new.nodes.items) old c.args.looked.now j c.args.until c.in_ok-further.further under here
    (pairs_in_order xs c.requires.sorted) c.in_ok-further.ensures.further (omega (arith, c.in_ok-further.ensures.within, length-pairs xs)) c.in_ok-further.ensures.listed c.in_ok-further.ensures.rising c.in_ok-further.ensures.summed)

pub take_into_list-requires-clause-few : goal.take_into_list-requires-clause-few
take_into_list-requires-clause-few g c = omega arith
