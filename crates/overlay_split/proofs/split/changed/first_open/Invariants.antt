use Rattle.std.proofs.Common.{length, ◌≤◌, ◌-◌}
use Rattle.std.specs.Prelude.{◌<ℤ◌}
use Rattle.std.specs.List.{AllWithin}
use Rattle.overlay_split.specs.steps.ChangedBoxes.{rects_of}
use Rattle.overlay_split.proofs.split.changed.first_open.Given as goal

abbrev pub invariant-loop-place : goal.invariant-loop-place
invariant-loop-place g l = record {
  from : l.from ≤ l.place;
  within : l.place ≤ length l.boxes;
  over : AllWithin (λ r. r.max_x <ℤ g.I.OverlayInt.whole l.x) (rects_of g.I.OverlayInt.whole l.boxes) l.from l.place;
}

abbrev pub decreases-loop-place : goal.decreases-loop-place
decreases-loop-place g l = length l.boxes - l.place
