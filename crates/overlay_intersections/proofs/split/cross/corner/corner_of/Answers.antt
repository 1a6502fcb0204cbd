use Rattle.std.proofs.Common.{◌≡◌, ap}
use Rattle.overlay_geometry.specs.Points.{Point}
use Rattle.overlay_geometry.specs.PairOf.{pair_of}
use Rattle.overlay_intersections.proofs.laws.marks.AxisPairs.{splits_horizontal, splits_vertical}
use Rattle.overlay_intersections.proofs.split.cross.corner.corner_of.Goals as goal

pub returns : goal.returns
returns g c =
    let whole = g.I.OverlayInt.whole in
    let h = pair_of whole c.args.horizontal.now in
    let v = pair_of whole c.args.vertical.now in
    let at = c.new-point.result in
    let x : whole at.x ≡ v.a.x = ap (λ (p : Point). p.x) c.new-point.ensures in
    let y : whole at.y ≡ h.a.y = ap (λ (p : Point). p.y) c.new-point.ensures in
    record {
      point_is = c.new-point.ensures;
      horizontal_is = splits_horizontal h v (whole at.x) (whole at.y) c.relation_of-in_x.result.is_inside c.relation_of-in_y.result.is_between
          c.requires.horizontal c.requires.vertical x y c.relation_of-in_x.ensures.inside c.relation_of-in_y.ensures.between;
      vertical_is = splits_vertical h v (whole at.x) (whole at.y) c.relation_of-in_y.result.is_inside c.relation_of-in_x.result.is_between
          c.requires.horizontal c.requires.vertical x y c.relation_of-in_y.ensures.inside c.relation_of-in_x.ensures.between;
    }
