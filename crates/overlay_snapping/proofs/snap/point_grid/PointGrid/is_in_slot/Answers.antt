use Rattle.std.proofs.Common.{◌≡◌, ◌∙◌, sym, subst, ◌-◌, ◌<◌, length, arith}
use Rattle.std.specs.Prelude.{Contains}
use Rattle.std.proofs.lemmas.List.{get_or_default}
use Rattle.overlay_geometry.specs.Points.{Point}
use Rattle.overlay_geometry.specs.PointOf.{point_of}
use Rattle.overlay_geometry.proofs.laws.geometry.Points.{same_by_eq}
use Rattle.overlay_intersections.proofs.laws.marks.Comparisons.{same_points}
use Rattle.overlay_snapping.specs.PointGridOf.{points_in}
use Rattle.overlay_snapping.proofs.laws.cells.Users.{item_in}
use Rattle.overlay_snapping.proofs.snap.point_grid.PointGrid.is_in_slot.Goals as goal

pub returns-then-eq : goal.returns-then-eq
returns-then-eq g c = λ t.
    let whole = g.I.OverlayInt.whole in
    let items = c.args.self.now.points.items in
    let at = c.loop-at.at in
    let some = c.loop-at-test.true in
    let bound = c.loop-at.invariant in
    let within : at - 1 < length items = omega (arith, some, bound) in
    let x = c.index.result.now in
    let same : point_of whole x ≡ point_of whole c.args.point = same_by_eq (point_of whole x) (point_of whole c.args.point) (sym (same_points g.I.PartialEq.eq g.I.Ord.cmp whole g.met.I.Ord.matches_eq g.met.I.OverlayInt.ordered x c.args.point) ∙ sym c.eq.ensures ∙ c.if-eq.true) in
    subst (λ (q : Point). Contains (points_in c.args.self.now) q) same (item_in whole items (at - 1) x within (c.index.ensures ∙ get_or_default items (at - 1) _ x within))
