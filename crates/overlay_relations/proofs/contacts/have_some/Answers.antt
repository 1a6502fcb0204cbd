use Rattle.std.proofs.Common.{◌+◌, [], ◌∷◌, List, sym, subst, map, take, take_all}
use Rattle.std.proofs.lemmas.Bool.{both_ways}
use Rattle.overlay_geometry.specs.PointOf.{point_of}
use Rattle.overlay_geometry.specs.declared.geom.point.IntPoint.{IntPoint}
use Rattle.overlay_relations.specs.steps.ContactOutcomes.{ShareSome}
use Rattle.overlay_relations.proofs.laws.PointLists.{next_taken, none_more, not_alone}
use Rattle.overlay_relations.proofs.contacts.have_some.Goals as goal

pub loop-point-preserved : goal.loop-point-preserved
loop-point-preserved g c =
    let at = point_of g.I.OverlayInt.whole in
    let sorted = map at c.args.sorted.now in
    let xs = c.args.points.now in
    let i = c.loop-point.point-index in
    let p = at c.point-item.result in
    none_more sorted (map at (take i xs)) (map at (take (i + 1) xs)) (p ∷ []) (next_taken at xs i c.point-item.result c.loop-point-test.true c.point-item.is) c.loop-point.invariant
    (not_alone sorted p (λ m. both_ways c.is_among.result c.if-is_among.false (c.is_among.ensures.1 m)))

pub returns : goal.returns
returns g c =
    let at = point_of g.I.OverlayInt.whole in
    (λ h. absurd (cc), λ share. absurd (c.loop-point.invariant (subst (λ (l : List (IntPoint _)). ShareSome (map at c.args.sorted.now) (map at l)) (sym (take_all c.loop-point.point-index c.args.points.now c.loop-point-test.false)) share)))
