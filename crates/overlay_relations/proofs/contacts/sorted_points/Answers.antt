use Rattle.std.proofs.Common.{◌∙◌, List, ap, subst, take_all}
use Rattle.std.specs.Prelude.{◌↔◌, Contains}
use Rattle.overlay_geometry.specs.PointOf.{point_of}
use Rattle.overlay_geometry.specs.Points.{Point}
use Rattle.overlay_snapping.proofs.laws.closure.Elements.{permuted}
use Rattle.overlay_contours.specs.Boxes.{all_points}
use Rattle.overlay_contours.specs.ContoursOf.{points_of, contours_of}
use Rattle.overlay_relations.proofs.contacts.sorted_points.Goals as goal

pub returns-clause-points : goal.returns-clause-points
returns-clause-points g c p =
    let whole = g.I.OverlayInt.whole in
    let is = c.loop-contour.invariant ∙ ap (λ (l : List _). all_points (contours_of whole l)) (take_all c.loop-contour.contour-index c.args.contours.now c.loop-contour-test.false) in
    subst (λ (l : List Point). Contains (points_of whole c.sort.new.self.items) p ↔ Contains l p) is (permuted (point_of whole) c.loop-contour.points.items c.sort.new.self.items c.in_ok-sort.ensures.permutation p)
