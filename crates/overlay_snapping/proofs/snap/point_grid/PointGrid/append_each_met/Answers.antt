use Rattle.std.proofs.Common.{◌≡◌, ◌∙◌, ◌⊎◌, sym, subst, ◌+◌, List, [], map, take, take_all}
use Rattle.std.specs.Prelude.{Contains}
use Rattle.overlay_geometry.specs.Points.{Point}
use Rattle.overlay_geometry.specs.PointOf.{point_of}
use Rattle.overlay_geometry.specs.PairOf.{pair_of}
use Rattle.overlay_geometry.specs.Coordinates.{is_point_in_range}
use Rattle.overlay_geometry.specs.declared.geom.point.IntPoint.{IntPoint}
use Rattle.overlay_snapping.specs.PointGridOf.{points_in}
use Rattle.overlay_snapping.proofs.laws.closure.Elements.{no_element}
use Rattle.overlay_snapping.proofs.laws.cells.Added.{adds_nothing, adds_fewer, adds_point, adds_no_point, pushed_point, taken_or_next}
use Rattle.overlay_snapping.proofs.laws.cells.Users.{item_in, in_range_at}
use Rattle.overlay_snapping.proofs.snap.point_grid.PointGrid.append_each_met.Goals as goal
use Rattle.overlay_snapping.proofs.snap.point_grid.PointGrid.append_each_met.Goals.{then-is_met_alone+in_ok-push, else-is_met_alone}

pub loop-point-init : goal.loop-point-init
loop-point-init g c = adds_nothing (pair_of g.I.OverlayInt.whole c.args.segment.now) (points_in c.args.self.now) (λ q. Contains [] q) (map (point_of g.I.OverlayInt.whole) c.args.met.now.items) (λ q i. no_element q i)

pub is_met_alone-requires-clause-point : goal.is_met_alone-requires-clause-point
is_met_alone-requires-clause-point g c =
    let whole = g.I.OverlayInt.whole in
    in_range_at whole (is_point_in_range (whole g.I.OverlayInt.MIN_COORD) (whole g.I.OverlayInt.MAX_COORD)) c.args.self.now.points.items c.deref-point-items.result.now c.deref-point-items.ensures.value c.args.self.now.in_range
    c.loop-point.point-index c.point-item.result c.loop-point-test.true c.point-item.is

pub loop-point-preserved : goal.loop-point-preserved
loop-point-preserved g c =
    let whole = g.I.OverlayInt.whole in
    let s = pair_of whole c.args.segment.now in
    let points = points_in c.args.self.now in
    let items = c.deref-point-items.result.now in
    let i = c.loop-point.point-index in
    let x = c.point-item.result in
    let p = point_of whole x in
    let old = map (point_of whole) c.args.met.now.items in
    let now = map (point_of whole) c.loop-point.met.items in
    let there = subst (λ (l : List (IntPoint _)). Contains (map (point_of whole) l) p) c.deref-point-items.ensures.value (item_in whole items i x c.loop-point-test.true c.point-item.is) in
    let before = λ (q : Point). Contains (map (point_of whole) (take i items)) q in
    let after = λ (q : Point). Contains (map (point_of whole) (take (i + 1) items)) q in
    let split : (q : Point) → Contains points q → after q → before q ⊎ (p ≡ q) = λ q k j. taken_or_next (point_of whole) items i x c.loop-point-test.true c.point-item.is q j in
    elim c.if-is_met_alone.branch [
      | then-is_met_alone+in_ok-push w ↦
          rw w.met-is (adds_point s points before after old now (map (point_of whole) w.push.new.self.items) p c.loop-point.invariant there (sym c.is_met_alone.ensures ∙ w.if-is_met_alone.true)
          (pushed_point (point_of whole) c.loop-point.met.items w.push.new.self.items x w.in_ok-push.ensures.items) split)
      | else-is_met_alone w ↦ rw w.met-is (adds_no_point s points before after old now p c.loop-point.invariant (sym c.is_met_alone.ensures ∙ w.if-is_met_alone.false) split)
    ]

pub returns : goal.returns
returns g c =
    let whole = g.I.OverlayInt.whole in
    let items = c.deref-point-items.result.now in
    let i = c.loop-point.point-index in
    let all = take_all i items c.loop-point-test.false ∙ c.deref-point-items.ensures.value in
    adds_fewer (pair_of whole c.args.segment.now) (points_in c.args.self.now) (λ q. Contains (map (point_of whole) (take i items)) q) (λ q. Contains (points_in c.args.self.now) q) (map (point_of whole) c.args.met.now.items) (map (point_of whole) c.loop-point.met.items)
    (λ q k m j. subst (λ (l : List (IntPoint _)). Contains (map (point_of whole) l) q) (sym all) k) c.loop-point.invariant
