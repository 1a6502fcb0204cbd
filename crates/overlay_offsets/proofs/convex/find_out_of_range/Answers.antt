use Rattle.std.proofs.Common.{sym, ◌∙◌, suc, take, drop}
use Rattle.overlay_geometry.specs.PointOf.{point_of}
use Rattle.overlay_contours.specs.ContoursOf.{points_of}
use Rattle.overlay_contours.proofs.laws.Steps.{mapped_parts, taken}
use Rattle.overlay_offsets.proofs.convex.find_out_of_range.Goals as goal

pub returns-then-not-is_in_range-clause-first : goal.returns-then-not-is_in_range-clause-first
returns-then-not-is_in_range-clause-first g c =
    let whole = g.I.OverlayInt.whole in
    let points = c.args.points.now in
    let index = c.loop-index.index in
    record {
      earlier = points_of whole (take index points);
      element = point_of whole c.index-points-index.result;
      later = points_of whole (drop (suc index) points);
      list_is = mapped_parts (point_of whole) points index c.index-points-index.result c.loop-index-test.true c.index-points-index.is;
      place = taken (point_of whole) points index c.loop-index-test.true;
      passed = c.loop-index.invariant;
      failed = sym c.is_in_range.ensures ∙ c.if-not-is_in_range.true;
    }
