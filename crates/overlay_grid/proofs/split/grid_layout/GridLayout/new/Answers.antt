use Rattle.std.proofs.Common.{sym, ap, subst, ◌∙◌, map, drop, get_or, ◌/◌}
use Rattle.std.specs.Prelude.{pos, ◌-ℤ◌, ◌<ℤ◌}
use Rattle.overlay_geometry.specs.PairOf.{pair_of}
use Rattle.overlay_geometry.specs.PointOf.{point_of}
use Rattle.overlay_geometry.specs.InRange.{IsPairInRange}
use Rattle.overlay_geometry.proofs.laws.geometry.Coordinates.{point_parts}
use Rattle.overlay_grid.specs.FragmentOf.{layout_of}
use Rattle.overlay_grid.proofs.laws.grid.GridSizes.{greatest_more, greatest_end, max_in_range, segments-next, segments-none, layout_of_list, same_head, narrow_list, if_some, if_none}
use Rattle.overlay_geometry.specs.Points.{Pair}
use Rattle.overlay_grid.specs.Grid.{greatest_x, IsLayout}
use Rattle.overlay_grid.proofs.split.grid_layout.GridLayout.new.Goals as goal

pub loop-index-preserved : goal.loop-index-preserved
loop-index-preserved g c =
    let low = g.I.OverlayInt.whole g.I.OverlayInt.MIN_COORD in
    let high = g.I.OverlayInt.whole g.I.OverlayInt.MAX_COORD in
    let ps = map (pair_of g.I.OverlayInt.whole) c.args.segments.now in
    let here = segments-next g.I.OverlayInt.whole c.args.segments.now c.loop-index.index c.index-segments-index.result c.loop-index-test.true c.index-segments-index.is in
    let ends = subst (λ s. IsPairInRange g.I.OverlayInt.whole g.I.OverlayInt.MIN_COORD g.I.OverlayInt.MAX_COORD s) (sym c.index-segments-index.is) (c.requires.in_range c.loop-index.index c.index-segments-index.result c.loop-index-test.true) in
    let x = (point_parts low high (point_of g.I.OverlayInt.whole c.index-segments-index.result.b) ends.b_in_range).0 in
    record {
      greatest = greatest_more (g.I.OverlayInt.whole c.loop-index.max_x) (g.I.OverlayInt.whole c.greater-max_x.result) (pair_of g.I.OverlayInt.whole c.index-segments-index.result) ps c.loop-index.index _ c.loop-index.invariant.greatest here c.greater-max_x.ensures;
      in_range = rw c.greater-max_x.ensures (max_in_range low high _ _ c.loop-index.invariant.in_range x);
    }

pub returns : goal.returns
returns g c =
    let ps = map (pair_of g.I.OverlayInt.whole) c.args.segments.now in
    let greatest = greatest_end (g.I.OverlayInt.whole c.loop-index.max_x) ps c.loop-index.index (greatest_x (g.I.OverlayInt.whole (get_or c.args.segments.now 0 c.index-segments-0-2.result).b.x) (drop 1 ps)) c.loop-index.invariant.greatest (segments-none g.I.OverlayInt.whole c.args.segments.now c.loop-index.index c.loop-index-test.false) in
    let first = segments-next g.I.OverlayInt.whole c.args.segments.now 0 c.index-segments-0.result c.requires.some c.index-segments-0.is in
    let again = segments-next g.I.OverlayInt.whole c.args.segments.now 0 c.index-segments-0-2.result c.requires.some c.index-segments-0-2.is in
    let same = same_head ps _ _ (pair_of g.I.OverlayInt.whole c.index-segments-0-2.result) (pair_of g.I.OverlayInt.whole c.index-segments-0.result) again first in
    let greatest' = greatest ∙ ap (λ r. greatest_x (g.I.OverlayInt.whole r.b.x) (drop 1 ps)) (sym c.index-segments-0-2.is) ∙ ap (λ (s : Pair). greatest_x s.b.x (drop 1 ps)) same in
    record {
      layout = if_some c.with_min_max.result _ _
          (λ l h. layout_of_list ps (pair_of g.I.OverlayInt.whole c.index-segments-0.result) c.args.count c.ilog2.result (g.I.OverlayInt.whole c.loop-index.max_x) (layout_of l) first (record { reached = c.ilog2.ensures.power_le; not_passed = c.ilog2.ensures.next_power_gt }) greatest' (subst (λ r. IsLayout (g.I.OverlayInt.whole r.a.x) (g.I.OverlayInt.whole c.loop-index.max_x) (c.ilog2.result / 2) (layout_of l)) (sym c.index-segments-0.is) h))
          c.with_min_max.ensures.layout;
      none = if_none c.with_min_max.result _ _ (λ h. narrow_list ps (pair_of g.I.OverlayInt.whole c.index-segments-0.result) (g.I.OverlayInt.whole c.loop-index.max_x) first greatest'
          (subst (λ r. (g.I.OverlayInt.whole c.loop-index.max_x -ℤ g.I.OverlayInt.whole r.a.x) <ℤ pos 4) (sym c.index-segments-0.is) h)) c.with_min_max.ensures.none;
    }
