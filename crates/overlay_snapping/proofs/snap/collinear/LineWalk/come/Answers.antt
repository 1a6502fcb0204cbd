use Rattle.std.proofs.Common.{◌∙◌, refl, sym, ap₂}
use Rattle.overlay_geometry.specs.Meeting.{are_collinear}
use Rattle.overlay_geometry.specs.PairOf.{pair_of}
use Rattle.overlay_geometry.proofs.laws.geometry.Points.{same_by_eq}
use Rattle.overlay_snapping.specs.steps.LineWalks.{stays}
use Rattle.overlay_snapping.proofs.snap.collinear.LineWalk.come.Goals as goal

pub returns-then-is_same-clause-comes : goal.returns-then-is_same-clause-comes
returns-then-is_same-clause-comes g c = λ _. stays
    (ap₂ (λ x y. are_collinear (pair_of g.I.OverlayInt.whole x) (pair_of g.I.OverlayInt.whole y)) (sym c.x_segment.ensures) (sym c.x_segment-2.ensures) ∙ sym c.are_collinear-is_along.ensures ∙ c.if-is_along.true)
    (same_by_eq _ _ (sym c.is_same.ensures ∙ c.if-is_same.true) ∙ c.point-next.ensures)
    refl
