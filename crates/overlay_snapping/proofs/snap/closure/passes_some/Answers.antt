use Rattle.std.proofs.Common.{◌≡◌, ◌∙◌, refl, sym, map, true}
use Rattle.overlay_geometry.specs.Points.{Point, lies_on}
use Rattle.overlay_geometry.specs.PointOf.{point_of}
use Rattle.overlay_geometry.specs.PairOf.{pair_of}
use Rattle.overlay_snapping.specs.PointFinderOf.{points_in}
use Rattle.overlay_snapping.proofs.laws.cells.Added.{taken_more, taken_all}
use Rattle.overlay_snapping.proofs.laws.cells.Users.{met_only, met_all, met_in_range, item_in, passes_off, passes_none}
use Rattle.overlay_snapping.proofs.snap.closure.passes_some.Goals as goal

pub lies_on-requires-clause-point : goal.lies_on-requires-clause-point
lies_on-requires-clause-point g c =
    let whole = g.I.OverlayInt.whole in
    met_in_range whole (whole g.I.OverlayInt.MIN_COORD) (whole g.I.OverlayInt.MAX_COORD) (pair_of whole c.args.segment.now) c.args.points.now.grid.points.items c.args.points.now.grid.in_range
    c.clear.new.self.items c.append_met.new.met.items c.deref-point-items.result.now c.clear.ensures.items c.deref-point-items.ensures.value c.in_ok-append_met.ensures.met c.loop-point.point-index c.point-item.result c.loop-point-test.true c.point-item.is

pub loop-point-preserved : goal.loop-point-preserved
loop-point-preserved g c =
    let whole = g.I.OverlayInt.whole in
    taken_more (point_of whole) (λ (q : Point). lies_on (pair_of whole c.args.segment.now) q ≡ true) c.deref-point-items.result.now c.loop-point.point-index c.point-item.result c.loop-point-test.true c.point-item.is c.loop-point.invariant
    (sym c.lies_on.ensures ∙ c.if-not-lies_on.false)

pub returns-then-not-lies_on-clause-passes : goal.returns-then-not-lies_on-clause-passes
returns-then-not-lies_on-clause-passes g c =
    let whole = g.I.OverlayInt.whole in
    let s = pair_of whole c.args.segment.now in
    let met = met_only whole s c.args.points.now.grid.points.items c.clear.new.self.items c.append_met.new.met.items c.deref-point-items.result.now c.clear.ensures.items c.deref-point-items.ensures.value c.in_ok-append_met.ensures.met
    (point_of whole c.point-item.result) (item_in whole c.deref-point-items.result.now c.loop-point.point-index c.point-item.result c.loop-point-test.true c.point-item.is) in
    (λ e. passes_off s (points_in c.args.points.now) (point_of whole c.point-item.result) met.0 met.1 (sym c.lies_on.ensures ∙ c.if-not-lies_on.true), λ p. refl)

pub returns-clause-passes : goal.returns-clause-passes
returns-clause-passes g c =
    let whole = g.I.OverlayInt.whole in
    let s = pair_of whole c.args.segment.now in (
      λ e. absurd (cc),
      λ p. absurd (passes_none s (points_in c.args.points.now) (map (point_of whole) c.deref-point-items.result.now) c.requires.ordered
          (met_all whole s c.args.points.now.grid.points.items c.clear.new.self.items c.append_met.new.met.items c.deref-point-items.result.now c.clear.ensures.items c.deref-point-items.ensures.value c.in_ok-append_met.ensures.met)
          (taken_all (point_of whole) (λ (q : Point). lies_on s q ≡ true) c.deref-point-items.result.now c.loop-point.point-index c.loop-point-test.false c.loop-point.invariant) p),
    )
