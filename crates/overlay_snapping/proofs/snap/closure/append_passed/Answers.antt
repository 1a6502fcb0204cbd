use Rattle.std.proofs.Common.{◌∙◌, refl, sym, ap, subst, ◌+◌, List, [], ◌∷◌, map, take, take_all}
use Rattle.std.proofs.lemmas.List.{map-append}
use Rattle.overlay_geometry.specs.PointOf.{point_of}
use Rattle.overlay_geometry.specs.PairOf.{pair_of}
use Rattle.overlay_geometry.specs.declared.geom.point.IntPoint.{IntPoint}
use Rattle.overlay_snapping.specs.PointFinderOf.{points_in}
use Rattle.overlay_snapping.proofs.laws.cells.Added.{taken_or_next}
use Rattle.overlay_snapping.proofs.laws.cells.Users.{met_only, met_all, met_in_range, item_in}
use Rattle.overlay_snapping.proofs.laws.closure.Movers.{AddsSome, adds_none, adds_over, adds_pushed, adds_all, met_is_passed}
use Rattle.overlay_snapping.proofs.snap.closure.append_passed.Goals as goal
use Rattle.overlay_snapping.proofs.snap.closure.append_passed.Goals.{then-not-lies_on+in_ok-push, else-not-lies_on}

pub loop-point-init : goal.loop-point-init
loop-point-init g c =
    let whole = g.I.OverlayInt.whole in
    adds_none (pair_of whole c.args.segment.now) (points_in c.args.points.now) (map (point_of whole) []) (map (point_of whole) c.args.passed.now.items) refl

pub lies_on-requires-clause-point : goal.lies_on-requires-clause-point
lies_on-requires-clause-point g c =
    let whole = g.I.OverlayInt.whole in
    met_in_range whole (whole g.I.OverlayInt.MIN_COORD) (whole g.I.OverlayInt.MAX_COORD) (pair_of whole c.args.segment.now) c.args.points.now.grid.points.items c.args.points.now.grid.in_range
    c.clear.new.self.items c.append_met.new.met.items c.deref-point-items.result.now c.clear.ensures.items c.deref-point-items.ensures.value c.in_ok-append_met.ensures.met c.loop-point.point-index c.point-item.result c.loop-point-test.true c.point-item.is

pub returns-clause-passed : goal.returns-clause-passed
returns-clause-passed g c =
    let whole = g.I.OverlayInt.whole in
    let s = pair_of whole c.args.segment.now in
    let points = points_in c.args.points.now in
    let met = c.deref-point-items.result.now in
    let old = map (point_of whole) c.args.passed.now.items in
    let new = map (point_of whole) c.loop-point.passed.items in
    adds_all s points (map (point_of whole) met) old new c.requires.ordered
    (met_all whole s c.args.points.now.grid.points.items c.clear.new.self.items c.append_met.new.met.items met c.clear.ensures.items c.deref-point-items.ensures.value c.in_ok-append_met.ensures.met)
    (subst (λ (l : List (IntPoint _)). AddsSome s points (map (point_of whole) l) old new) (take_all c.loop-point.point-index met c.loop-point-test.false) c.loop-point.invariant)

pub loop-point-preserved : goal.loop-point-preserved
loop-point-preserved g c =
    let whole = g.I.OverlayInt.whole in
    let s = pair_of whole c.args.segment.now in
    let points = points_in c.args.points.now in
    let old = map (point_of whole) c.args.passed.now.items in
    let now = map (point_of whole) c.loop-point.passed.items in
    let met = c.deref-point-items.result.now in
    let i = c.loop-point.point-index in
    let x = c.point-item.result in
    let p = point_of whole x in
    let there = met_only whole s c.args.points.now.grid.points.items c.clear.new.self.items c.append_met.new.met.items met c.clear.ensures.items c.deref-point-items.ensures.value c.in_ok-append_met.ensures.met
    p (item_in whole met i x c.loop-point-test.true c.point-item.is) in
    let split = taken_or_next (point_of whole) met i x c.loop-point-test.true c.point-item.is in
    let done = map (point_of whole) (take i met) in
    let more = map (point_of whole) (take (i + 1) met) in
    elim c.if-not-lies_on.branch [
      | then-not-lies_on+in_ok-push w ↦
          rw w.passed-is
          (adds_pushed s points done more p split old now c.loop-point.invariant (map (point_of whole) w.push.new.self.items)
          (ap (map (point_of whole)) w.in_ok-push.ensures.items ∙ map-append (point_of whole) c.loop-point.passed.items (x ∷ []))
          there.0 (met_is_passed s p there.1 (sym c.lies_on.ensures ∙ w.if-not-lies_on.true)))
      | else-not-lies_on w ↦ rw w.passed-is (adds_over s points done more p split old now c.loop-point.invariant (sym c.lies_on.ensures ∙ w.if-not-lies_on.false))
    ]
