use Rattle.std.proofs.Common.{ap, ◌∙◌, length, arith}
use borrow.Author.Count.{falls}
use Rattle.overlay_base.specs.Segments.{pairs}
use Rattle.overlay_geometry.specs.PairOf.{pair_of}
use Rattle.overlay_base.specs.SegmentOf.{segments_of, ends_of}
use Rattle.overlay_base.proofs.laws.geometry.Apart.{pairs-next, pairs-none}
use Rattle.overlay_geometry.specs.Points.{Pair}
use Rattle.overlay_grid.specs.Grid.{fragments}
use Rattle.overlay_grid.specs.GroupsOf.{grid_of}
use Rattle.overlay_grid.proofs.laws.grid.FragmentCounts.{IsCounting-start, IsCounting-more, IsCounting-end}
use Rattle.overlay_grid.proofs.split.solver_fragment.count_fragments.Goals as goal
use Rattle.overlay_geometry.proofs.laws.geometry.Points.{ordered_x}

pub loop-index-init : goal.loop-index-init
loop-index-init g c = IsCounting-start (grid_of c.args.buffer.now) (pairs (segments_of c.args.segments.now))

pub loop-index-preserved : goal.loop-index-preserved
loop-index-preserved g c =
    let l = grid_of c.args.buffer.now in
    let ps = pairs (segments_of c.args.segments.now) in
    let here = pairs-next c.args.segments.now c.loop-index.index c.index-segments-index.result c.loop-index-test.true c.index-segments-index.is in
    let own = c.fragment_count-own.ensures ∙ ap (λ (s : Pair). length (fragments l s)) (ap (pair_of g.I.OverlayInt.whole) c.x_segment.ensures) in
    IsCounting-more l (ends_of c.index-segments-index.result) ps c.loop-index.count c.saturating_add-count.result c.fragment_count-own.result c.loop-index.index c.loop-index.invariant here own c.saturating_add-count.ensures

pub returns : goal.returns
returns g c =
    IsCounting-end (grid_of c.args.buffer.now) (pairs (segments_of c.args.segments.now)) c.loop-index.count c.loop-index.index c.loop-index.invariant (pairs-none c.args.segments.now c.loop-index.index c.loop-index-test.false)

pub bounds-segments-index : goal.bounds-segments-index
bounds-segments-index g c = c.loop-index-test.true

pub x_segment-requires : goal.x_segment-requires
x_segment-requires g c κs = λ h. h

pub fragment_count-own-requires-clause-order : goal.fragment_count-own-requires-clause-order
fragment_count-own-requires-clause-order g c =
    rw c.x_segment.ensures (ordered_x (ends_of c.index-segments-index.result) c.index-segments-index.result.ordered)

pub fragment_count-own-requires-clause-from : goal.fragment_count-own-requires-clause-from
fragment_count-own-requires-clause-from g c =
    rw (c.x_segment.ensures, c.index-segments-index.is) (c.requires c.loop-index.index c.index-segments-index.result c.loop-index-test.true).from

pub fragment_count-own-requires-clause-to : goal.fragment_count-own-requires-clause-to
fragment_count-own-requires-clause-to g c =
    rw (c.x_segment.ensures, c.index-segments-index.is) (c.requires c.loop-index.index c.index-segments-index.result c.loop-index-test.true).to

pub overflow_cast-own : goal.overflow_cast-own
overflow_cast-own g c = record { fits = omega (arith, c.fragment_count-own.type_inv) }

pub loop-index-smaller : goal.loop-index-smaller
loop-index-smaller g c = falls _ _ c.loop-index-test.true
