use Rattle.std.proofs.Common.{refl, sym, ap, subst, ◌∙◌, ◌+◌, ◌∷◌, drop}
use borrow.Author.Count.{falls}
use Rattle.overlay_geometry.specs.PairOf.{pair_of}
use Rattle.overlay_geometry.specs.PointOf.{point_of}
use Rattle.overlay_base.specs.Segments.{pairs}
use Rattle.overlay_base.specs.SegmentOf.{segments_of, x_segment_of}
use Rattle.overlay_geometry.specs.InRange.{IsPairInRange}
use Rattle.overlay_geometry.proofs.laws.geometry.Coordinates.{point_parts}
use Rattle.overlay_base.proofs.laws.geometry.Apart.{pairs-next, pairs-none}
use Rattle.overlay_grid.specs.FragmentOf.{layout_of}
use Rattle.overlay_grid.specs.Grid.{greatest_x}
use Rattle.overlay_grid.proofs.laws.grid.GridSizes.{greatest_more, greatest_end, max_in_range, layout_of_list, narrow_list, if_some, if_none}
use Rattle.overlay_grid.proofs.split.grid_layout.GridLayout.over_list.Goals as goal

pub loop-index-preserved : goal.loop-index-preserved
loop-index-preserved g c =
    let low = g.I.OverlayInt.whole g.I.OverlayInt.MIN_COORD in
    let high = g.I.OverlayInt.whole g.I.OverlayInt.MAX_COORD in
    let ps = pairs (segments_of c.args.segments.now) in
    let here = pairs-next c.args.segments.now c.loop-index.index c.index-segments-index.result c.loop-index-test.true c.index-segments-index.is ∙ ap (λ s. pair_of g.I.OverlayInt.whole s ∷ drop (c.loop-index.index + 1) ps) (sym c.x_segment-segment.ensures) in
    let ends = subst (λ s. IsPairInRange g.I.OverlayInt.whole g.I.OverlayInt.MIN_COORD g.I.OverlayInt.MAX_COORD (x_segment_of s)) (sym c.index-segments-index.is) (c.requires.in_range c.loop-index.index c.index-segments-index.result c.loop-index-test.true) in
    let ends' = subst (λ s. IsPairInRange g.I.OverlayInt.whole g.I.OverlayInt.MIN_COORD g.I.OverlayInt.MAX_COORD s) (sym c.x_segment-segment.ensures) ends in
    let x = (point_parts low high (point_of g.I.OverlayInt.whole c.x_segment-segment.result.b) ends'.b_in_range).0 in
    record {
      greatest = greatest_more (g.I.OverlayInt.whole c.loop-index.max_x) (g.I.OverlayInt.whole c.greater-max_x.result) (pair_of g.I.OverlayInt.whole c.x_segment-segment.result) ps c.loop-index.index _ c.loop-index.invariant.greatest here c.greater-max_x.ensures;
      in_range = rw c.greater-max_x.ensures (max_in_range low high _ _ c.loop-index.invariant.in_range x);
    }

pub returns-clause-layout : goal.returns-clause-layout
returns-clause-layout g c =
    let ps = pairs (segments_of c.args.segments.now) in
    let first = pairs-next c.args.segments.now 0 c.index-segments-0.result c.requires.some c.index-segments-0.is ∙ ap (λ s. pair_of g.I.OverlayInt.whole s ∷ drop 1 ps) (sym c.x_segment-a.ensures) in
    let greatest = greatest_end (g.I.OverlayInt.whole c.loop-index.max_x) ps c.loop-index.index (greatest_x (g.I.OverlayInt.whole c.x_segment-a.result.b.x) (drop 1 ps)) c.loop-index.invariant.greatest (pairs-none c.args.segments.now c.loop-index.index c.loop-index-test.false) in
    if_some c.with_min_max.result _ _
    (λ l h. layout_of_list ps (pair_of g.I.OverlayInt.whole c.x_segment-a.result) c.args.count c.ilog2-power.result (g.I.OverlayInt.whole c.loop-index.max_x) (layout_of l) first (record { reached = c.ilog2-power.ensures.power_le; not_passed = c.ilog2-power.ensures.next_power_gt }) greatest h)
    c.with_min_max.ensures.layout

pub returns-clause-none : goal.returns-clause-none
returns-clause-none g c =
    let ps = pairs (segments_of c.args.segments.now) in
    let first = pairs-next c.args.segments.now 0 c.index-segments-0.result c.requires.some c.index-segments-0.is ∙ ap (λ s. pair_of g.I.OverlayInt.whole s ∷ drop 1 ps) (sym c.x_segment-a.ensures) in
    let greatest = greatest_end (g.I.OverlayInt.whole c.loop-index.max_x) ps c.loop-index.index (greatest_x (g.I.OverlayInt.whole c.x_segment-a.result.b.x) (drop 1 ps)) c.loop-index.invariant.greatest (pairs-none c.args.segments.now c.loop-index.index c.loop-index-test.false) in
    if_none c.with_min_max.result _ _ (narrow_list ps (pair_of g.I.OverlayInt.whole c.x_segment-a.result) (g.I.OverlayInt.whole c.loop-index.max_x) first greatest) c.with_min_max.ensures.none

pub bounds-segments-0 : goal.bounds-segments-0
bounds-segments-0 g c = c.requires.some

pub loop-index-init : goal.loop-index-init
loop-index-init g c =
    let low = g.I.OverlayInt.whole g.I.OverlayInt.MIN_COORD in
    let high = g.I.OverlayInt.whole g.I.OverlayInt.MAX_COORD in
    let ends = subst (λ s. IsPairInRange g.I.OverlayInt.whole g.I.OverlayInt.MIN_COORD g.I.OverlayInt.MAX_COORD (x_segment_of s)) (sym c.index-segments-0.is) (c.requires.in_range 0 c.index-segments-0.result c.requires.some) in
    let ends' = subst (λ s. IsPairInRange g.I.OverlayInt.whole g.I.OverlayInt.MIN_COORD g.I.OverlayInt.MAX_COORD s) (sym c.x_segment-a.ensures) ends in
    record { greatest = refl; in_range = (point_parts low high (point_of g.I.OverlayInt.whole c.x_segment-a.result.b) ends'.b_in_range).0 }

pub bounds-segments-index : goal.bounds-segments-index
bounds-segments-index g c = c.loop-index-test.true

pub loop-index-smaller : goal.loop-index-smaller
loop-index-smaller g c = falls _ _ c.loop-index-test.true

pub with_min_max-requires-clause-from : goal.with_min_max-requires-clause-from
with_min_max-requires-clause-from g c =
    let low = g.I.OverlayInt.whole g.I.OverlayInt.MIN_COORD in
    let high = g.I.OverlayInt.whole g.I.OverlayInt.MAX_COORD in
    let ends = subst (λ s. IsPairInRange g.I.OverlayInt.whole g.I.OverlayInt.MIN_COORD g.I.OverlayInt.MAX_COORD (x_segment_of s)) (sym c.index-segments-0.is) (c.requires.in_range 0 c.index-segments-0.result c.requires.some) in
    let ends' = subst (λ s. IsPairInRange g.I.OverlayInt.whole g.I.OverlayInt.MIN_COORD g.I.OverlayInt.MAX_COORD s) (sym c.x_segment-a.ensures) ends in
    (point_parts low high (point_of g.I.OverlayInt.whole c.x_segment-a.result.a) ends'.a_in_range).0

pub with_min_max-requires-clause-to : goal.with_min_max-requires-clause-to
with_min_max-requires-clause-to g c = c.loop-index.invariant.in_range
