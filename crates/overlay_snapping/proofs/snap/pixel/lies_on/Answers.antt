use Rattle.std.proofs.Common.{◌≡◌, ◌∙◌, sym, ap, ap₂, Bool, ◌&&◌}
use Rattle.overlay_geometry.specs.Points.{step, is_in_box, lies_on}
use Rattle.overlay_geometry.specs.PointOf.{point_of}
use Rattle.overlay_geometry.specs.PairOf.{pair_of}
use Rattle.overlay_geometry.specs.VectorOf.{vector_of}
use Rattle.overlay_snapping.proofs.laws.pixels.Ways.{is_box_of, box_of_steps}
use Rattle.overlay_snapping.proofs.snap.pixel.lies_on.Goals as goal

pub returns-then-is_line : goal.returns-then-is_line
unfolding lies_on
returns-then-is_line g c =
    let s = pair_of g.I.OverlayInt.whole c.args.segment.now in
    let p = point_of g.I.OverlayInt.whole c.args.point in
    let ways : is_box_of (vector_of c.between-way.result) (vector_of c.between-to.result) ≡ is_box_of (step s.a s.b) (step s.a p) = ap₂ is_box_of c.between-way.ensures c.between-to.ensures in
    c.is_in_box.ensures ∙ ways ∙ box_of_steps s p ∙ sym (ap (λ (b : Bool). b && is_in_box s p) (sym c.is_line.ensures ∙ c.if-is_line.true))

pub returns-else-is_line : goal.returns-else-is_line
unfolding lies_on
returns-else-is_line g c =
    let s = pair_of g.I.OverlayInt.whole c.args.segment.now in
    let p = point_of g.I.OverlayInt.whole c.args.point in
    c.if-is_line.false ∙ sym (ap (λ (b : Bool). b && is_in_box s p) (sym c.is_line.ensures ∙ c.if-is_line.false))
