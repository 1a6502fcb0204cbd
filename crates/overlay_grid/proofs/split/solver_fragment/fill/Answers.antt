use Rattle.std.proofs.Common.{ap, ◌∙◌}
use Rattle.overlay_base.specs.Segments.{pairs}
use Rattle.overlay_geometry.specs.PairOf.{pair_of}
use Rattle.overlay_base.specs.SegmentOf.{segments_of, ends_of}
use Rattle.overlay_base.proofs.laws.geometry.Apart.{pairs-next, pairs-none}
use Rattle.overlay_grid.specs.Grid.{Layout}
use Rattle.overlay_grid.specs.GroupsOf.{group_of, grid_of}
use Rattle.overlay_grid.proofs.laws.grid.GridFills.{fill_more, fill_end}
use Rattle.overlay_grid.proofs.split.solver_fragment.fill.Goals as goal
use Rattle.overlay_geometry.proofs.laws.geometry.Points.{ordered_x}

pub loop-index-preserved : goal.loop-index-preserved
loop-index-preserved g c =
    let ps = pairs (segments_of c.args.segments.now) in
    let here = pairs-next c.args.segments.now c.loop-index.index c.index-segments-index.result c.loop-index-test.true c.index-segments-index.is in
    record {
      layout = c.in_ok-add_segment.ensures.layout ∙ c.loop-index.invariant.layout;
      added = λ column. fill_more (grid_of c.args.buffer.now) (grid_of c.loop-index.buffer) c.loop-index.index (ends_of c.index-segments-index.result) (pair_of g.I.OverlayInt.whole c.x_segment.result) ps
          (group_of c.loop-index.buffer column) (group_of c.add_segment.new.self column) _ column c.loop-index.invariant.layout (ap (pair_of g.I.OverlayInt.whole) c.x_segment.ensures) here (c.in_ok-add_segment.ensures.added column) (c.loop-index.invariant.added column);
    }

pub returns-clause-groups : goal.returns-clause-groups
returns-clause-groups g c column =
    fill_end (grid_of c.args.buffer.now) c.loop-index.index (pairs (segments_of c.args.segments.now)) (group_of c.loop-index.buffer column) _ column (pairs-none c.args.segments.now c.loop-index.index c.loop-index-test.false) (c.loop-index.invariant.added column)

pub clear-requires : goal.clear-requires
clear-requires g c κs = λ h. h

pub loop-index-init : goal.loop-index-init
loop-index-init g c = record { layout = c.clear.ensures.layout; added = λ column. rw (c.clear.ensures.empty column) }

pub bounds-segments-index : goal.bounds-segments-index
bounds-segments-index g c = c.loop-index-test.true

pub x_segment-requires : goal.x_segment-requires
x_segment-requires g c κs = λ h. h

pub add_segment-requires-clause-in_range : goal.add_segment-requires-clause-in_range
add_segment-requires-clause-in_range g c =
    rw (c.x_segment.ensures, c.index-segments-index.is) (c.requires.in_range c.loop-index.index c.index-segments-index.result c.loop-index-test.true)

pub add_segment-requires-clause-order : goal.add_segment-requires-clause-order
add_segment-requires-clause-order g c =
    rw c.x_segment.ensures (ordered_x (ends_of c.index-segments-index.result) c.index-segments-index.result.ordered)

pub add_segment-requires-clause-from : goal.add_segment-requires-clause-from
add_segment-requires-clause-from g c =
    rw (ap (λ (l : Layout). l.min_x) c.loop-index.invariant.layout, c.x_segment.ensures, c.index-segments-index.is) (c.requires.inside c.loop-index.index c.index-segments-index.result c.loop-index-test.true).from

pub add_segment-requires-clause-to : goal.add_segment-requires-clause-to
add_segment-requires-clause-to g c =
    rw (ap (λ (l : Layout). l.max_x) c.loop-index.invariant.layout, c.x_segment.ensures, c.index-segments-index.is) (c.requires.inside c.loop-index.index c.index-segments-index.result c.loop-index-test.true).to

pub returns-in_err-add_segment-clause-layout : goal.returns-in_err-add_segment-clause-layout
returns-in_err-add_segment-clause-layout g c = c.in_err-add_segment.ensures.layout ∙ c.loop-index.invariant.layout

pub returns-clause-layout : goal.returns-clause-layout
returns-clause-layout g c = c.loop-index.invariant.layout
