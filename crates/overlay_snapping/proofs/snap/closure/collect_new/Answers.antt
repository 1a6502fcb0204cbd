use Rattle.std.proofs.Common.{◌≡◌, ◌∙◌, sym, ap, subst, ◌+◌, ◌++◌, List, [], ◌∷◌, map, take, take_all}
use Rattle.std.specs.Prelude.{Contains}
use Rattle.std.proofs.lemmas.Bool.{both_ways}
use Rattle.std.proofs.lemmas.List.{map-append, take_more}
use Rattle.overlay_geometry.specs.PointOf.{point_of}
use Rattle.overlay_geometry.specs.declared.geom.point.IntPoint.{IntPoint}
use Rattle.overlay_snapping.specs.steps.Closing.{AreLeft}
use Rattle.overlay_snapping.proofs.laws.closure.Elements.{permuted}
use Rattle.overlay_snapping.proofs.laws.closure.Movers.{left_pushed, left_over, left_over_same}
use Rattle.overlay_snapping.proofs.snap.closure.collect_new.Goals as goal
use Rattle.overlay_snapping.proofs.snap.closure.collect_new.Goals.{then-not-is_among+in_ok-push, else-not-is_among}

pub returns-in_err-push-clause-same : goal.returns-in_err-push-clause-same
returns-in_err-push-clause-same g c = λ q. permuted (point_of g.I.OverlayInt.whole) c.args.found.now.items c.sort.new.self.items c.in_ok-sort.ensures.permutation q

pub returns-clause-same : goal.returns-clause-same
returns-clause-same g c = λ q. permuted (point_of g.I.OverlayInt.whole) c.args.found.now.items c.sort.new.self.items c.in_ok-sort.ensures.permutation q

pub loop-point-preserved : goal.loop-point-preserved
loop-point-preserved g c =
    let whole = g.I.OverlayInt.whole in
    let found = map (point_of whole) c.sort.new.self.items in
    let xs = c.args.points.now in
    let i = c.loop-point.point-index in
    let x = c.point-item.result in
    let p = point_of whole x in
    let done = map (point_of whole) (take i xs) in
    let more = map (point_of whole) (take (i + 1) xs) in
    let now = map (point_of whole) c.loop-point.new.items in
    let is : more ≡ done ++ p ∷ [] = ap (map (point_of whole)) (take_more xs i x c.loop-point-test.true ∙ ap (λ z. take i xs ++ z ∷ []) (sym c.point-item.is)) ∙ map-append (point_of whole) (take i xs) (x ∷ []) in
    elim c.if-not-is_among.branch [
      | then-not-is_among+in_ok-push w ↦
          rw w.new-is
          (left_pushed found done more now p is c.loop-point.invariant (map (point_of whole) w.push.new.self.items) (ap (map (point_of whole)) w.in_ok-push.ensures.items ∙ map-append (point_of whole) c.loop-point.new.items (x ∷ []))
          (λ k. both_ways c.is_among.result w.if-not-is_among.true (c.is_among.ensures.1 (subst (λ (l : List (IntPoint _)). Contains (map (point_of whole) l) p) (sym c.deref.ensures.value) k))))
      | else-not-is_among w ↦
          rw w.new-is
          (left_over found done more now p is c.loop-point.invariant (subst (λ (l : List (IntPoint _)). Contains (map (point_of whole) l) p) c.deref.ensures.value (c.is_among.ensures.0 w.if-not-is_among.false)))
    ]

pub returns-clause-left : goal.returns-clause-left
returns-clause-left g c =
    let whole = g.I.OverlayInt.whole in
    let old = map (point_of whole) c.args.found.now.items in
    let sorted = map (point_of whole) c.sort.new.self.items in
    left_over_same sorted old (map (point_of whole) c.args.points.now) (map (point_of whole) c.loop-point.new.items) (λ q. permuted (point_of whole) c.args.found.now.items c.sort.new.self.items c.in_ok-sort.ensures.permutation q)
    (subst (λ (l : List (IntPoint _)). AreLeft sorted (map (point_of whole) l) (map (point_of whole) c.loop-point.new.items)) (take_all c.loop-point.point-index c.args.points.now c.loop-point-test.false) c.loop-point.invariant)
