use Rattle.std.proofs.Common.{◌∙◌, refl, sym, ap, subst, arith, IsTrue, map}
use Rattle.overlay_geometry.specs.Coordinates.{is_point_in_range}
use Rattle.overlay_geometry.proofs.laws.lists.Lists.{Has}
use Rattle.overlay_base.specs.Planar.{is_splittable}
use Rattle.overlay_base.specs.Windings.{add, is_valid}
use Rattle.overlay_base.specs.Segments.{pairs, ends}
use Rattle.overlay_base.specs.SegmentOf.{segment_of, segments_of}
use Rattle.overlay_base.proofs.laws.joins.Bags.{is_not_empty-false}
use Rattle.overlay_base.proofs.laws.joins.Rests.{rest-more, rest-none, is_splittable-valid}
use Rattle.overlay_base.proofs.laws.joins.Views.{segments_ordered}
use Rattle.overlay_snapping.specs.steps.LineWalks.{end_of, walk_of, AreEndsOf}
use Rattle.overlay_snapping.proofs.laws.collinear.Ends.{segment_given, Has-at, Has-first, usable, cancels, no_mask, place_in_range, none_splittable}
use Rattle.overlay_snapping.proofs.laws.collinear.Walking.{IsWalked, begin, take_on, resolved, pair_of_end, place_is_end}
use Rattle.overlay_snapping.proofs.snap.collinear.pieces_between.Goals as goal

pub has_some_mask-requires : goal.has_some_mask-requires
has_some_mask-requires g c = is_splittable-valid segment_of _ _ c.args.list.now c.requires

pub invert-requires : goal.invert-requires
invert-requires g c =
    let given = segments_of c.args.list.now in
    let first = c.in-Some.first.now in
    let there = subst (λ l. Has (map end_of l) (end_of first)) c.deref.ensures.value (Has-first end_of c.deref.result.now first (sym c.in-Some.ensures.value)) in
    let u = usable _ _ given (segment_of first.segment) c.requires (segment_given given _ c.in_ok-ends.ensures (end_of first) there) in
    subst (λ k. IsTrue (is_valid (g.C.WindingCount.winding k))) (sym c.count-count.ensures) u.valid

pub loop-end-init : goal.loop-end-init
loop-end-init g c =
    let given = segments_of c.args.list.now in
    let o = segments_ordered c.args.list.now in
    let no_masks = no_mask given (c.has_some_mask.ensures c.if-has_some_mask.false) in
    let first = c.in-Some.first.now in
    let there = subst (λ l. Has (map end_of l) (end_of first)) c.deref.ensures.value (Has-first end_of c.deref.result.now first (sym c.in-Some.ensures.value)) in
    let has = segment_given given _ c.in_ok-ends.ensures (end_of first) there in
    let u = usable _ _ given (segment_of first.segment) c.requires has in
    let winding = g.C.WindingCount.winding in
    record {
      walked = begin given o no_masks _ _ (record {
        all = subst (λ l. AreEndsOf given (map end_of l)) (sym c.deref-end-items.ensures.value) c.in_ok-ends.ensures;
        line = pair_of_end given o no_masks (end_of first) has;
        point = subst (Has (ends (pairs given))) (sym c.point.ensures) (place_is_end given o no_masks (end_of first) has);
        count = c.in-Ok.ensures.sum ∙ ap (add (winding c.count-count.result)) c.invert.ensures ∙ cancels (winding c.count-count.result) (ap (λ k. (winding k).mask) c.count-count.ensures ∙ no_masks (segment_of first.segment) has);
        running = refl;
        pending = refl;
        uncut = refl;
        none = ap segments_of c.new.ensures.items;
      });
      can_go_on = record {
        farthest = record { a_in_range = u.a_in_range; b_in_range = u.b_in_range };
        point = subst (λ p. IsTrue (is_point_in_range (g.I.OverlayInt.whole g.I.OverlayInt.MIN_COORD) (g.I.OverlayInt.whole g.I.OverlayInt.MAX_COORD) p)) (sym c.point.ensures) (place_in_range _ _ (end_of first) u);
        pieces = subst (λ l. IsTrue (is_splittable (g.I.OverlayInt.whole g.I.OverlayInt.MIN_COORD) (g.I.OverlayInt.whole g.I.OverlayInt.MAX_COORD) (segments_of l))) (sym c.new.ensures.items) (none_splittable _ _);
      };
    }

pub take-requires-clause-can_go_on : goal.take-requires-clause-can_go_on
take-requires-clause-can_go_on g c = c.loop-end.invariant.can_go_on

pub take-requires-clause-in_range : goal.take-requires-clause-in_range
take-requires-clause-in_range g c =
    let given = segments_of c.args.list.now in
    let all = subst (λ l. AreEndsOf given (map end_of l)) (sym c.deref-end-items.ensures.value) c.in_ok-ends.ensures in
    let has = segment_given given _ all (end_of c.end-item.result) (Has-at end_of c.deref-end-items.result.now c.loop-end.end-index c.end-item.result c.loop-end-test.true c.end-item.is) in
    let u = usable _ _ given (segment_of c.end-item.result.segment) c.requires has in
    record { a_in_range = u.a_in_range; b_in_range = u.b_in_range }

pub take-requires-clause-valid : goal.take-requires-clause-valid
take-requires-clause-valid g c =
    let given = segments_of c.args.list.now in
    let all = subst (λ l. AreEndsOf given (map end_of l)) (sym c.deref-end-items.ensures.value) c.in_ok-ends.ensures in
    let has = segment_given given _ all (end_of c.end-item.result) (Has-at end_of c.deref-end-items.result.now c.loop-end.end-index c.end-item.result c.loop-end-test.true c.end-item.is) in
    (usable _ _ given (segment_of c.end-item.result.segment) c.requires has).valid

pub loop-end-preserved : goal.loop-end-preserved
loop-end-preserved g c =
    let given = segments_of c.args.list.now in
    let o = segments_ordered c.args.list.now in
    let no_masks = no_mask given (c.has_some_mask.ensures c.if-has_some_mask.false) in
    let all = subst (λ l. AreEndsOf given (map end_of l)) (sym c.deref-end-items.ensures.value) c.in_ok-ends.ensures in
    let list = c.deref-end-items.result.now in
    let has = segment_given given _ all (end_of c.end-item.result) (Has-at end_of list c.loop-end.end-index c.end-item.result c.loop-end-test.true c.end-item.is) in
    let next = rest-more end_of list c.loop-end.end-index c.end-item.result c.loop-end-test.true c.end-item.is in
    record {
      walked = take_on given o no_masks _ (end_of c.end-item.result) _ _ has (subst (λ l. IsWalked given l (walk_of c.loop-end.walk)) next c.loop-end.invariant.walked) (c.in_ok-take.ensures.takes c.if-not-branch.false);
      can_go_on = c.in_ok-take.ensures.goes_on c.if-not-branch.false;
    }

pub returns-clause-resolved : goal.returns-clause-resolved
returns-clause-resolved g c =
    let given = segments_of c.args.list.now in
    let o = segments_ordered c.args.list.now in
    let no_masks = no_mask given (c.has_some_mask.ensures c.if-has_some_mask.false) in
    let walk = walk_of c.loop-end.walk in
    let walked = subst (λ l. IsWalked given l walk) (rest-none end_of c.deref-end-items.result.now c.loop-end.end-index c.loop-end-test.false) c.loop-end.invariant.walked in
    record {
      resolved = resolved given o no_masks walk walked (record { running = omega arith; pending = c.if-walk.false; count = is_not_empty-false _ (sym c.is_not_empty.ensures ∙ c.if-is_not_empty.false) });
      cut = walked.cut c.if-not-walk.false;
    }

pub returns-clause-splittable : goal.returns-clause-splittable
returns-clause-splittable g c = c.loop-end.invariant.can_go_on.pieces
