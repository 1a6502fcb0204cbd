use Rattle.std.proofs.Common.{◌≡◌, sym, ap, ap₂, subst, ◌∙◌, ◌&&◌, not, Bool, true, arith, ◌≤◌}
use Rattle.std.specs.Prelude.{ℤ, pos, int_le, int_lt}
use Rattle.std.specs.List.{list_all}
use Rattle.std.proofs.lemmas.Int.{ints}
use Rattle.overlay_geometry.specs.PairOf.{pair_of}
use Rattle.overlay_geometry.specs.PointOf.{point_of}
use Rattle.overlay_geometry.specs.Points.{turn}
use Rattle.overlay_contours.specs.Contours.{steps_of}
use Rattle.overlay_contours.specs.ContoursOf.{points_of}
use Rattle.overlay_offsets.specs.Convex.{origin, goes_left}
use Rattle.overlay_offsets.proofs.laws.Edges.{fails_at, passes_on, passed_all, count_of_edges}
use Rattle.overlay_offsets.proofs.convex.is_side.Goals as goal

pub returns-then-not-goes_left : goal.returns-then-not-goes_left
returns-then-not-goes_left g c =
    let whole = g.I.OverlayInt.whole in
    let steps = steps_of (points_of whole c.args.corners.now) in
    let edge = pair_of whole c.args.edge.now in
    sym (ap (λ (b : Bool). b && int_le (pos 0) (turn edge.a edge.b origin)) (fails_at (goes_left edge) steps c.loop-index.index _ _ c.edge_at.ensures.edge c.loop-index.invariant (sym c.goes_left.ensures ∙ c.if-not-goes_left.true)))

pub loop-index-preserved : goal.loop-index-preserved
loop-index-preserved g c =
    let whole = g.I.OverlayInt.whole in
    passes_on (goes_left (pair_of whole c.args.edge.now)) (steps_of (points_of whole c.args.corners.now)) c.loop-index.index _ c.edge_at.ensures.edge c.loop-index.invariant (sym c.goes_left.ensures ∙ c.if-not-goes_left.false)

not_right : (z : ℤ) (a b : Bool) → a ≡ int_lt z (pos 0) → b ≡ true → not a ≡ (b && int_le (pos 0) z)
not_right z a b e f = grind (arith, ints)

pub returns : goal.returns
returns g c =
    let whole = g.I.OverlayInt.whole in
    let corners = points_of whole c.args.corners.now in
    let edge = pair_of whole c.args.edge.now in
    not_right (turn edge.a edge.b origin) _ (list_all (goes_left edge) (steps_of corners)) c.has_origin_on_right.ensures
    (passed_all (goes_left edge) (steps_of corners) c.loop-index.index (rw (count_of_edges (point_of whole) c.args.corners.now) c.loop-index-test.false) c.loop-index.invariant)
