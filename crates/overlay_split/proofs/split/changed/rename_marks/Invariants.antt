use Rattle.std.proofs.Common.{◌≡◌, map, take, drop}
use Rattle.overlay_intersections.specs.MarkOf.{marks_of}
use Rattle.overlay_split.specs.steps.ChangedBoxes.{renamed}
use Rattle.overlay_split.proofs.split.changed.rename_marks.Given as goal

abbrev pub invariant-loop-place : goal.invariant-loop-place
invariant-loop-place g l =
    let whole = g.I.OverlayInt.whole in
    record {
      done : marks_of whole (take l.place l.marks.items) ≡ map (renamed l.indexes) (marks_of whole (take l.place l.fn.marks.items));
      left : drop l.place l.marks.items ≡ drop l.place l.fn.marks.items;
    }
