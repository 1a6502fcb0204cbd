use Rattle.std.proofs.Common.{suc, take, drop}
use Rattle.overlay_contours.specs.ContoursOf.{points_of, contours_of}
use Rattle.overlay_contours.proofs.laws.Steps.{mapped_parts, taken}
use Rattle.overlay_contours.proofs.contour.find_out_of_range.Goals as goal

pub returns-in-Some-clause-first : goal.returns-in-Some-clause-first
returns-in-Some-clause-first g c =
    let whole = g.I.OverlayInt.whole in
    let contours = c.args.contours.now in
    let index = c.loop-index.index in
    record {
      earlier = contours_of whole (take index contours);
      contour = points_of whole c.index-contours-index.result.items;
      later = contours_of whole (drop (suc index) contours);
      contours_are = mapped_parts (λ v. points_of whole v.items) contours index c.index-contours-index.result c.loop-index-test.true c.index-contours-index.is;
      place = taken (λ v. points_of whole v.items) contours index c.loop-index-test.true;
      in_range = c.loop-index.invariant;
      outside = rw c.deref.ensures.value at c.in-Some.ensures.first;
    }
