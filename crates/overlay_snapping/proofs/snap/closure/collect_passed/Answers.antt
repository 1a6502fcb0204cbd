use Rattle.std.proofs.Common.{◌∙◌, refl, ℕ, ◌+◌, List, map, get_or, take, take_all, subst}
use Rattle.overlay_geometry.specs.PointOf.{point_of}
use Rattle.overlay_geometry.specs.PairOf.{pair_of}
use Rattle.overlay_geometry.specs.declared.geom.point.IntPoint.{IntPoint}
use Rattle.overlay_base.specs.SegmentOf.{pairs_in}
use Rattle.overlay_snapping.specs.PointFinderOf.{points_in}
use Rattle.overlay_snapping.specs.steps.Closing.{ArePassedBy, AddsPassed}
use Rattle.overlay_snapping.proofs.laws.closure.Movers.{passed_none, passed_more, passed_same, wider_by, last_of}
use Rattle.overlay_snapping.proofs.laws.cuts.Places.{taken_split}
use Rattle.overlay_snapping.proofs.laws.cuts.Reads.{segment_there}
use Rattle.overlay_snapping.proofs.snap.closure.collect_passed.Goals as goal

pub loop-index-init : goal.loop-index-init
loop-index-init g c =
    let whole = g.I.OverlayInt.whole in
    record { passed = passed_none (pairs_in c.args.segments.now) (points_in c.args.points.now) (map (point_of whole) c.clear.new.self.items) (rw c.clear.ensures.items refl); same = refl }

pub loop-index-preserved : goal.loop-index-preserved
loop-index-preserved g c =
    let whole = g.I.OverlayInt.whole in
    let xs = c.args.segments.now in
    let movers = c.args.movers.now in
    let k = c.loop-index.index-index in
    let inside = c.loop-index-test.true in
    let m : ℕ = get_or movers k 0 in
    let at = segment_there xs m c.index-segments-index.result c.x_segment.result (c.requires.within k 0 inside) c.index-segments-index.is c.x_segment.ensures in
    let adds = subst (λ (l : List (IntPoint _)). AddsPassed (pair_of whole c.x_segment.result) (map (point_of whole) l) (map (point_of whole) c.loop-index.passed.items) (map (point_of whole) c.append_passed.new.passed.items)) c.loop-index.invariant.same c.in_ok-append_passed.ensures.passed in
    record {
      passed = passed_same (pairs_in xs) (points_in c.args.points.now) (take (k + 1) movers) (map (point_of whole) c.append_passed.new.passed.items) (map (point_of whole) c.drop_repeats.new.points.items) c.in_ok-drop_repeats.ensures
          (passed_more (pairs_in xs) (points_in c.args.points.now) (take k movers) (take (k + 1) movers) m (pair_of whole c.x_segment.result) at (wider_by movers k inside) (last_of movers k inside)
          (taken_split movers k 0 inside) (map (point_of whole) c.loop-index.passed.items) (map (point_of whole) c.append_passed.new.passed.items) adds c.loop-index.invariant.passed);
      same = c.append_passed.ensures.same ∙ c.loop-index.invariant.same;
    }

pub returns : goal.returns
returns g c =
    let whole = g.I.OverlayInt.whole in
    let movers = c.args.movers.now in
    subst (λ (l : List ℕ). ArePassedBy (pairs_in c.args.segments.now) (points_in c.args.points.now) l (map (point_of whole) c.loop-index.passed.items))
    (take_all c.loop-index.index-index movers c.loop-index-test.false) c.loop-index.invariant.passed
