use Rattle.std.proofs.Common.{◌≡◌, ◌∙◌, ap₂, refl}
use Rattle.overlay_geometry.specs.Points.{step, turn, cross_product, is_in_box}
use Rattle.overlay_geometry.specs.PointOf.{point_of}
use Rattle.overlay_geometry.specs.PairOf.{pair_of}
use Rattle.overlay_geometry.specs.VectorOf.{vector_of}
use Rattle.overlay_snapping.specs.Pixels.{meets_pixel, is_narrow}
use Rattle.overlay_snapping.proofs.laws.pixels.Ways.{is_box_of, box_of_steps}
use Rattle.overlay_snapping.proofs.snap.pixel.meets_pixel.Goals as goal

pub returns-then-is_in_box : goal.returns-then-is_in_box
unfolding meets_pixel turn
returns-then-is_in_box g c =
    let s = pair_of g.I.OverlayInt.whole c.args.segment.now in
    let p = point_of g.I.OverlayInt.whole c.args.point in
    let ways : is_box_of (vector_of c.between-way.result) (vector_of c.between-to.result) ≡ is_box_of (step s.a s.b) (step s.a p) = ap₂ is_box_of c.between-way.ensures c.between-to.ensures in
    let box : c.is_in_box.result ≡ is_in_box s p = rw (c.is_in_box.ensures, ways) (box_of_steps s p) in
    let narrow = c.is_narrow.ensures ∙ ap₂ (λ v w. is_narrow v (cross_product v w)) c.between-way.ensures c.between-to.ensures in
    rw (← box, c.if-is_in_box.true) narrow

pub returns-else-is_in_box : goal.returns-else-is_in_box
unfolding meets_pixel turn
returns-else-is_in_box g c =
    let s = pair_of g.I.OverlayInt.whole c.args.segment.now in
    let p = point_of g.I.OverlayInt.whole c.args.point in
    let ways : is_box_of (vector_of c.between-way.result) (vector_of c.between-to.result) ≡ is_box_of (step s.a s.b) (step s.a p) = ap₂ is_box_of c.between-way.ensures c.between-to.ensures in
    let box : c.is_in_box.result ≡ is_in_box s p = rw (c.is_in_box.ensures, ways) (box_of_steps s p) in
    rw (← box, c.if-is_in_box.false) refl
