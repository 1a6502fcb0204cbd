use Rattle.std.proofs.Common.{◌+◌, List, refl, sym, subst, take, take_all}
use Rattle.std.proofs.lemmas.Bool.{both_ways}
use Rattle.overlay_contours.specs.Boxes.{all_points}
use Rattle.overlay_contours.specs.ContoursOf.{points_of, contours_of}
use Rattle.overlay_relations.specs.steps.ContactOutcomes.{ShareSome}
use Rattle.overlay_relations.proofs.laws.PointLists.{next_points, none_more, point_of_one, shared_to}
use Rattle.overlay_relations.proofs.contacts.have_common_point.Goals as goal

pub returns-then-have_some : goal.returns-then-have_some
returns-then-have_some g c =
    let whole = g.I.OverlayInt.whole in
    let share = rw (c.deref.ensures.value, c.deref-in-loop-contour.ensures.value) at c.have_some.ensures in
    let found = share.0 c.if-have_some.true in (
      λ h. (found.0, (c.in_ok-points.ensures.points found.0).0 found.1, point_of_one (λ v. points_of whole v.items) c.args.second.now c.loop-contour.contour-index c.contour-item.result c.loop-contour-test.true c.contour-item.is found.0 found.2),
      λ h. refl,
    )

pub loop-contour-preserved : goal.loop-contour-preserved
loop-contour-preserved g c =
    let whole = g.I.OverlayInt.whole in
    let sorted = points_of whole c.in_ok-points.points.items in
    let xs = c.args.second.now in
    let i = c.loop-contour.contour-index in
    let share = rw (c.deref.ensures.value, c.deref-in-loop-contour.ensures.value) at c.have_some.ensures in
    none_more sorted (all_points (contours_of whole (take i xs))) (all_points (contours_of whole (take (i + 1) xs))) (points_of whole c.contour-item.result.items)
    (next_points (λ v. points_of whole v.items) xs i c.contour-item.result c.loop-contour-test.true c.contour-item.is) c.loop-contour.invariant
    (λ both. both_ways c.have_some.result c.if-have_some.false (share.1 both))

pub returns : goal.returns
returns g c =
    let whole = g.I.OverlayInt.whole in
    let sorted = points_of whole c.in_ok-points.points.items in (
      λ h. absurd (cc),
      λ share. absurd (c.loop-contour.invariant (subst (λ (l : List _). ShareSome sorted (all_points (contours_of whole l))) (sym (take_all c.loop-contour.contour-index c.args.second.now c.loop-contour-test.false))
          (shared_to sorted (all_points (contours_of whole c.args.first.now)) (all_points (contours_of whole c.args.second.now)) c.in_ok-points.ensures.points share))),
    )
