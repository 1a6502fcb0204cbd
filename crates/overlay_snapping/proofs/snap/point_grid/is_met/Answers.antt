use Rattle.std.proofs.Common.{◌∙◌, sym}
use Rattle.overlay_geometry.specs.PointOf.{point_of}
use Rattle.overlay_geometry.specs.PairOf.{pair_of}
use Rattle.overlay_snapping.proofs.laws.cells.NotMet.{inner_met, not_inner_not_met}
use Rattle.overlay_snapping.proofs.snap.point_grid.is_met.Goals as goal

pub returns-then-has : goal.returns-then-has
returns-then-has g c =
    let s = pair_of g.I.OverlayInt.whole c.args.segment.now in
    c.is_near_line.ensures ∙ sym (inner_met s (point_of g.I.OverlayInt.whole c.args.point) (sym (c.has.ensures s c.requires.inner) ∙ c.if-has.true))

pub returns-else-has : goal.returns-else-has
returns-else-has g c =
    let s = pair_of g.I.OverlayInt.whole c.args.segment.now in
    c.if-has.false ∙ sym (not_inner_not_met s (point_of g.I.OverlayInt.whole c.args.point) (sym (c.has.ensures s c.requires.inner) ∙ c.if-has.false))
