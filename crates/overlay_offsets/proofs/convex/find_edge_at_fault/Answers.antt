use Rattle.std.proofs.Common.{◌≡◌, sym, ap, subst, ◌∙◌, IsTrue, take, drop, ◌+◌, suc, arith, List}
use Rattle.std.specs.List.{list_all}
use Rattle.overlay_geometry.specs.PairOf.{pair_of}
use Rattle.overlay_geometry.specs.PointOf.{point_of}
use Rattle.overlay_contours.specs.Contours.{steps_of}
use Rattle.overlay_contours.specs.ContoursOf.{points_of}
use Rattle.overlay_offsets.specs.Convex.{is_side}
use Rattle.overlay_offsets.proofs.laws.Edges.{parts_by_drop, index_by_drop, one_more_passes, all_taken, count_of_edges}
use Rattle.overlay_offsets.proofs.convex.find_edge_at_fault.Goals as goal

pub returns-then-not-is_side-clause-first : goal.returns-then-not-is_side-clause-first
returns-then-not-is_side-clause-first g c =
    let whole = g.I.OverlayInt.whole in
    let steps = steps_of (points_of whole c.args.corners.now) in
    let index = c.loop-index.index in
    record {
      earlier = take index steps;
      element = pair_of whole c.edge_at.result;
      later = drop (index + 1) steps;
      list_is = parts_by_drop steps index _ _ c.edge_at.ensures.edge;
      place = index_by_drop steps index _ _ c.edge_at.ensures.edge;
      passed = c.loop-index.invariant;
      failed = sym c.is_side.ensures ∙ c.if-not-is_side.true;
    }

pub loop-index-preserved : goal.loop-index-preserved
loop-index-preserved g c =
    let whole = g.I.OverlayInt.whole in
    let corners = points_of whole c.args.corners.now in
    one_more_passes (is_side corners) (steps_of corners) c.loop-index.index (pair_of whole c.edge_at.result) _ c.edge_at.ensures.edge c.loop-index.invariant (sym c.is_side.ensures ∙ c.if-not-is_side.false)

pub returns-clause-none : goal.returns-clause-none
returns-clause-none g c =
    let whole = g.I.OverlayInt.whole in
    let corners = points_of whole c.args.corners.now in
    subst (λ (l : List _). IsTrue (list_all (is_side corners) l)) (all_taken (steps_of corners) c.loop-index.index (rw (count_of_edges (point_of whole) c.args.corners.now) c.loop-index-test.false)) c.loop-index.invariant
