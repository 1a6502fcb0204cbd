use Rattle.std.proofs.Common.{◌∙◌, sym, ap, Bool, ◌&&◌, int_eq}
use Rattle.std.specs.Prelude.{pos}
use Rattle.overlay_geometry.specs.Points.{turn}
use Rattle.overlay_geometry.specs.PairOf.{pair_of}
use Rattle.overlay_geometry.specs.Meeting.{are_collinear}
use Rattle.overlay_snapping.proofs.snap.collinear.are_collinear.Goals as goal

pub returns-then-is_line : goal.returns-then-is_line
unfolding are_collinear
returns-then-is_line g c =
    let s = pair_of g.I.OverlayInt.whole c.args.one.now in
    let t = pair_of g.I.OverlayInt.whole c.args.other.now in
    c.is_line-then-is_line.ensures ∙ sym (ap (λ (b : Bool). b && int_eq (turn s.a s.b t.b) (pos 0)) (sym c.is_line.ensures ∙ c.if-is_line.true))

pub returns-else-is_line : goal.returns-else-is_line
unfolding are_collinear
returns-else-is_line g c =
    let s = pair_of g.I.OverlayInt.whole c.args.one.now in
    let t = pair_of g.I.OverlayInt.whole c.args.other.now in
    c.if-is_line.false ∙ sym (ap (λ (b : Bool). b && int_eq (turn s.a s.b t.b) (pos 0)) (sym c.is_line.ensures ∙ c.if-is_line.false))
