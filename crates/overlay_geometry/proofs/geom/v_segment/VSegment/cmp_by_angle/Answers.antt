use Rattle.std.proofs.Common.{◌≡◌, ◌∙◌, ap, ap₂, to_z-of_z, FitsSigned, w64}
use Rattle.std.specs.Prelude.{pos}
use Rattle.std.specs.Ordering.{int_cmp}
use Rattle.overlay_geometry.specs.Points.{step, cross_product}
use Rattle.overlay_geometry.specs.Below.{angle_cmp}
use Rattle.overlay_geometry.specs.VSegmentOf.{v_pair_of}
use Rattle.overlay_geometry.proofs.geom.v_segment.VSegment.cmp_by_angle.Goals as goal

pub returns : goal.returns
unfolding angle_cmp
returns g c =
    let s = v_pair_of g.I.OverlayInt.whole c.args.self.now in
    let t = v_pair_of g.I.OverlayInt.whole c.args.other.now in
    let fit : FitsSigned w64 c.cross_product.result = record { sfits = c.cross_product.type_inv } in
    let cross : c.cross_product.result ≡ cross_product (step s.a s.b) (step t.a t.b) = c.cross_product.ensures.value ∙ ap₂ cross_product c.between-way.ensures c.between.ensures in
    simp to_z-of_z at c.cmp.ensures ∙ ap (int_cmp (pos 0)) cross
