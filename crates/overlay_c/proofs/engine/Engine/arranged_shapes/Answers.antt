use Rattle.std.proofs.Common.{ap, rules}
use Rattle.overlay_contours.specs.ShapesOf.{shapes_of}
use Rattle.overlay_contours.specs.Shapes.{all_contours}
use Rattle.overlay_c.proofs.Overlays.{same_laid}
use Rattle.overlay_c.proofs.engine.Engine.arranged_shapes.Goals.{then-corners+in_ok-shapes, else-corners+in_ok-shapes-2}
use Rattle.overlay_c.proofs.engine.Engine.arranged_shapes.Goals as goal

pub returns-clause-kept : goal.returns-clause-kept
returns-clause-kept c = record {
  shapes = shapes_of (λ z. z) c.if-corners.shapes.items;
  overlay = elim c.if-corners.branch [
    | then-corners+in_ok-shapes w ↦ rw (c.in-Some.is, w.if-corners.true, w.shapes-is) w.in_ok-shapes.ensures.shapes
    | else-corners+in_ok-shapes-2 w ↦ rw (c.in-Some.is, w.if-corners.false, w.shapes-is) w.in_ok-shapes-2.ensures.shapes
  ];
  beyond = elim c.if-corners.branch [
    | then-corners+in_ok-shapes w ↦ rw (c.in-Some.is, w.if-corners.true, w.shapes-is) w.in_ok-shapes.ensures.overlay
    | else-corners+in_ok-shapes-2 w ↦ rw (c.in-Some.is, w.if-corners.false, w.shapes-is) w.in_ok-shapes-2.ensures.overlay
  ];
  kept = same_laid _ _ _ _ (ap (λ cs. all_contours (shapes_of (λ z. z) cs)) c.deref.ensures.value) c.in_ok-keep_shapes.ensures.lengths c.in_ok-keep_shapes.ensures.points;
  counts = search rules;
}
