use Rattle.std.specs.List.{AllWithin}
use Rattle.overlay_geometry.specs.PairOf.{pair_of}
use Rattle.overlay_geometry.specs.PointOf.{point_of}
use Rattle.overlay_geometry.specs.RangeOf.{rect_of}
use Rattle.overlay_split.specs.steps.ChangedBoxes.{LiesIn}
use Rattle.overlay_split.proofs.split.changed.box_around.Given as goal

abbrev pub invariant-loop-place : goal.invariant-loop-place
invariant-loop-place g l =
    let whole = g.I.OverlayInt.whole in
    record {
      a : LiesIn (rect_of whole l.rect) (pair_of whole l.segment).a;
      b : LiesIn (rect_of whole l.rect) (pair_of whole l.segment).b;
      others : AllWithin (λ m. LiesIn (rect_of whole l.rect) (point_of whole m.point)) l.marks 0 l.place;
    }
