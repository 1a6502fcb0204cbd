use Rattle.std.proofs.Common.{ap, rules}
use Rattle.overlay_contours.specs.ContoursOf.{contours_of}
use Rattle.overlay_c.proofs.Overlays.{same_laid}
use Rattle.overlay_c.proofs.engine.Engine.arranged_contours.Goals.{then-corners+in_ok-contours, else-corners+in_ok-contours-2}
use Rattle.overlay_c.proofs.engine.Engine.arranged_contours.Goals as goal

pub returns-clause-kept : goal.returns-clause-kept
returns-clause-kept c = record {
  contours = contours_of (λ z. z) c.if-corners.contours.items;
  overlay = elim c.if-corners.branch [
    | then-corners+in_ok-contours w ↦ rw (c.in-Some.is, w.if-corners.true, w.contours-is) w.in_ok-contours.ensures.polygons
    | else-corners+in_ok-contours-2 w ↦ rw (c.in-Some.is, w.if-corners.false, w.contours-is) w.in_ok-contours-2.ensures.polygons
  ];
  beyond = elim c.if-corners.branch [
    | then-corners+in_ok-contours w ↦ rw (c.in-Some.is, w.if-corners.true, w.contours-is) w.in_ok-contours.ensures.overlay
    | else-corners+in_ok-contours-2 w ↦ rw (c.in-Some.is, w.if-corners.false, w.contours-is) w.in_ok-contours-2.ensures.overlay
  ];
  kept = same_laid _ _ _ _ (ap (λ cs. contours_of (λ z. z) cs) c.deref.ensures.value) c.in_ok-keep_contours.ensures.lengths c.in_ok-keep_contours.ensures.points;
  no_shapes = search rules;
}
