use Rattle.std.proofs.Common.{◌≡◌, ◌↔◌, sym, subst, List, ℕ, ◌<◌, map, length, true}
use Rattle.std.specs.Prelude.{All, Contains}
use Rattle.std.specs.List.{list_all}
use Rattle.std.proofs.lemmas.Result.{on_ok_weaker}
use Rattle.overlay_geometry.specs.Points.{Point}
use Rattle.overlay_geometry.specs.PointOf.{point_of}
use Rattle.overlay_geometry.specs.Coordinates.{is_point_in_range}
use Rattle.overlay_geometry.specs.declared.geom.point.IntPoint.{IntPoint}
use Rattle.overlay_base.specs.SegmentOf.{pairs_in}
use Rattle.overlay_snapping.specs.PointFinderOf.{points_in}
use Rattle.overlay_snapping.specs.steps.Closing.{AreMovers, AreLeft}
use Rattle.overlay_snapping.specs.steps.Recorded.{AreRecorded}
use Rattle.overlay_snapping.proofs.laws.closure.Movers.{movers_over, movers_within, passed_all, passed_over}
use Rattle.overlay_snapping.proofs.laws.cuts.Reads.{pairs_long}
use Rattle.overlay_snapping.proofs.snap.closure.Closure.find_passed.Goals as goal

pub fill_hot-requires : goal.fill_hot-requires
fill_hot-requires g c =
    let whole = g.I.OverlayInt.whole in
    record {
      in_range = subst (λ (l : List (IntPoint _)). list_all (is_point_in_range (whole g.I.OverlayInt.MIN_COORD) (whole g.I.OverlayInt.MAX_COORD)) (map (point_of whole) l) ≡ true) (sym c.deref.ensures.value) c.requires.points;
    }

pub collect_passed-requires-clause-within : goal.collect_passed-requires-clause-within
collect_passed-requires-clause-within g c =
    let segments = c.args.segments.now in
    subst (λ (l : List ℕ). All (λ i. i < length segments) l) (sym c.as_slice-movers.ensures.value)
    (movers_within (pairs_in segments) (points_in c.fill_hot.new.hot) c.collect_movers.new.movers.items (length segments) (pairs_long segments) c.in_ok-collect_movers.ensures.movers)

pub returns-clause-same : goal.returns-clause-same
returns-clause-same g c = on_ok_weaker c.collect_new.result (λ h. c.collect_new.ensures.same) c.collect_new.ensures.left

pub returns-clause-hot : goal.returns-clause-hot
returns-clause-hot g c =
    let whole = g.I.OverlayInt.whole in
    let old = map (point_of whole) c.args.found.now.items in
    let new = map (point_of whole) c.collect_new.new.found.items in
    let filled : (q : Point) → Contains (points_in c.fill_hot.new.hot) q ↔ Contains old q =
    subst (λ (l : List (IntPoint _)). (q : Point) → Contains (points_in c.fill_hot.new.hot) q ↔ Contains (map (point_of whole) l) q) c.deref.ensures.value c.in_ok-fill_hot.ensures.same in
    let kept : (q : Point) → Contains (points_in c.collect_movers.new.hot) q ↔ Contains old q =
    subst (λ (l : List (IntPoint _)). (q : Point) → Contains (map (point_of whole) l) q ↔ Contains old q) (sym c.collect_movers.ensures.same) filled in
    on_ok_weaker c.collect_new.result
    (λ h q. (λ i. (c.collect_new.ensures.same q).1 ((kept q).0 i), λ i. (kept q).1 ((c.collect_new.ensures.same q).0 i)))
    c.collect_new.ensures.left

pub returns-clause-passed : goal.returns-clause-passed
returns-clause-passed g c =
    let whole = g.I.OverlayInt.whole in
    let segments = pairs_in c.args.segments.now in
    let old = map (point_of whole) c.args.found.now.items in
    let new = map (point_of whole) c.collect_new.new.found.items in
    let given = map (point_of whole) c.args.given.now in
    let others = points_in c.fill.new.self in
    let slice = c.as_slice-movers.result.now in
    let movers = c.collect_movers.new.movers.items in
    let near = map (point_of whole) c.collect_passed.new.passed.items in
    let passed = map (point_of whole) c.collect_new.new.new.items in
    let hot : (q : Point) → Contains (points_in c.fill_hot.new.hot) q ↔ Contains old q =
    subst (λ (l : List (IntPoint _)). (q : Point) → Contains (points_in c.fill_hot.new.hot) q ↔ Contains (map (point_of whole) l) q) c.deref.ensures.value c.in_ok-fill_hot.ensures.same in
    let are = subst (λ (l : List ℕ). AreMovers segments old l) (sym c.as_slice-movers.ensures.value) (movers_over segments (points_in c.fill_hot.new.hot) old movers hot c.in_ok-collect_movers.ensures.movers) in
    on_ok_weaker c.collect_new.result
    (λ h. passed_over segments old new given passed (λ q. ((c.collect_new.ensures.same q).1, (c.collect_new.ensures.same q).0))
    (passed_all segments old given others slice near passed are c.in_ok-fill.ensures.same c.in_ok-collect_passed.ensures (subst (λ (l : List (IntPoint _)). AreLeft old (map (point_of whole) l) passed) c.deref-2.ensures.value h)))
    c.collect_new.ensures.left

pub returns-clause-recorded : goal.returns-clause-recorded
returns-clause-recorded g c =
    let whole = g.I.OverlayInt.whole in
    let segments = pairs_in c.args.segments.now in
    on_ok_weaker c.collect_new.result
    (λ h. subst (λ (l : List (IntPoint _)). AreRecorded segments (map (point_of whole) l) c.collect_movers.new.meetings) (sym c.collect_movers.ensures.same) c.in_ok-collect_movers.ensures.recorded)
    c.collect_new.ensures.left
