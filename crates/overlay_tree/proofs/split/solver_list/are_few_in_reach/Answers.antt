use Rattle.std.proofs.Common.{◌≡◌, ◌<◌, refl, length, sym, ap, ◌∙◌, arith}
use Rattle.overlay_geometry.specs.PairOf.{pair_of}
use Rattle.overlay_base.specs.SegmentOf.{pairs_in}
use Rattle.overlay_tree.specs.steps.Swept.{pair_at}
use Rattle.overlay_tree.proofs.laws.list.ListReach.{few_reached, AreWithin-more, AreWithin-end}
use Rattle.overlay_tree.proofs.laws.tree.Sweeps.{pair_at-is, length-pairs}
use Rattle.overlay_tree.proofs.split.solver_list.are_few_in_reach.Goals as goal

pub loop-index-preserved : goal.loop-index-preserved
loop-index-preserved g c =
    let whole = g.I.OverlayInt.whole in
    let xs = c.args.segments.now in
    let ps = pairs_in xs in
    let i = c.loop-index.index in
    let first : pair_at ps i ≡ pair_of whole c.x_segment-end.result = pair_at-is xs i c.index-segments-index.result c.loop-index-test.true c.index-segments-index.is ∙ ap (pair_of whole) (sym c.x_segment-end.ensures) in
    let end : whole c.x_segment-end.result.b.x ≡ (pair_at ps i).b.x = rw first refl in
    let inside : i < length ps = omega (arith, length-pairs xs, c.loop-index-test.true) in
    AreWithin-more ps c.args.most c.loop-index.left c.begun_at_most-own.result i c.loop-index.invariant inside
    (few_reached xs i (whole c.x_segment-end.result.b.x) c.begun_at_most-own.result c.loop-index-test.true end c.begun_at_most-own.ensures) (omega (arith, c.if-left-own.false))

pub returns : goal.returns
returns g c same =
    let xs = c.args.segments.now in
    AreWithin-end (pairs_in xs) c.args.most c.loop-index.left c.loop-index.index c.loop-index.invariant (omega (arith, length-pairs xs, c.loop-index-test.false))
