use Rattle.std.proofs.Common.{◌≡◌, take}
use Rattle.overlay_contours.specs.Arrangements.{IsOfContours}
use Rattle.overlay_contours.specs.ContoursOf.{contours_of, contours_of_each}
use Rattle.overlay_contours.specs.Polygons.{ArePolygonOverlays}
use Rattle.overlay_contours.specs.ShapesOf.{ShapesLieInRange}
use Rattle.overlay_contours.specs.Splittings.{splitting_for}
use Rattle.overlay_contours.proofs.buffers.Buffers.overlay_by_rules.Given as goal

abbrev pub invariant-loop-overlay_rule : goal.invariant-loop-overlay_rule
invariant-loop-overlay_rule g l =
    let I = g.I.OverlayInt in
    let subject = contours_of I.whole l.subject in
    let clip = contours_of I.whole l.clip in
    let splitting = splitting_for l.fn.rounding I.BITS l.solver in
    record {
      polygons : ArePolygonOverlays splitting l.fn.fill_rule subject clip (take l.overlay_rule-index l.overlay_rules) (contours_of_each I.whole l.overlays.items);
      in_range : ShapesLieInRange I.whole I.MIN_COORD I.MAX_COORD l.overlays.items;
      arranged : IsOfContours splitting l.fn.fill_rule subject clip l.self.arranged;
    }
