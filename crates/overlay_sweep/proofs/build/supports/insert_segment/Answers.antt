use Rattle.std.proofs.Common.{◌≡◌, ◌∙◌, ap, sym, subst}
use Rattle.overlay_geometry.specs.Points.{Pair}
use Rattle.overlay_base.specs.BooleanWinding.{boolean_winding}
use Rattle.overlay_geometry.specs.PairOf.{pair_of}
use Rattle.overlay_base.specs.SegmentOf.{ends_of}
use Rattle.overlay_sweep.proofs.laws.live.LiveSums.{HoldSameFrom-vertical, vertical_same}
use Rattle.overlay_sweep.proofs.build.supports.insert_segment.Goals as goal

pub returns-else-is_not_vertical-clause-live : goal.returns-else-is_not_vertical-clause-live
returns-else-is_not_vertical-clause-live g c =
    let own : pair_of g.I.OverlayInt.whole c.x_segment-ends.result ≡ ends_of c.args.segment.now = ap (pair_of g.I.OverlayInt.whole) c.x_segment-ends.ensures in
    let upright = vertical_same (pair_of g.I.OverlayInt.whole c.x_segment-ends.result) (sym c.is_not_vertical.ensures ∙ c.if-is_not_vertical.false) in
    HoldSameFrom-vertical (ends_of c.args.segment.now).a.x (record { pair = ends_of c.args.segment.now; count = boolean_winding c.args.sum }) (g.S.LiveSegments.sums c.args.live.now) (subst (λ (s : Pair). s.a.x ≡ s.b.x) own upright)
