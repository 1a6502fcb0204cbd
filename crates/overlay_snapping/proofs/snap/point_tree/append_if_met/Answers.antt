use Rattle.std.proofs.Common.{sym, ap, ◌∙◌, ◌++◌, append-nil}
use Rattle.overlay_geometry.specs.PointOf.{point_of}
use Rattle.overlay_geometry.specs.PairOf.{pair_of}
use Rattle.overlay_snapping.proofs.laws.point_trees.MetPlaces.{met_one, passed_one}
use Rattle.overlay_snapping.proofs.snap.point_tree.append_if_met.Goals as goal

pub returns-in_ok-push : goal.returns-in_ok-push
returns-in_ok-push g c =
    let s = pair_of g.I.OverlayInt.whole c.args.segment.now in
    let p = point_of g.I.OverlayInt.whole c.args.point in
    c.in_ok-push.ensures.items ∙ ap (λ l. c.args.places.now.items ++ l) (sym (met_one s c.args.place p (sym c.meets_pixel.ensures ∙ c.if-meets_pixel.true)))

pub returns-else-meets_pixel : goal.returns-else-meets_pixel
returns-else-meets_pixel g c =
    let s = pair_of g.I.OverlayInt.whole c.args.segment.now in
    let p = point_of g.I.OverlayInt.whole c.args.point in
    sym (append-nil c.args.places.now.items) ∙ ap (λ l. c.args.places.now.items ++ l) (sym (passed_one s c.args.place p (sym c.meets_pixel.ensures ∙ c.if-meets_pixel.false)))
