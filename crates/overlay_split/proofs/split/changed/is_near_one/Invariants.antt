use Rattle.std.proofs.Common.{◌≡◌, false}
use Rattle.std.specs.List.{AllWithin}
use Rattle.overlay_geometry.specs.RangeOf.{rect_of}
use Rattle.overlay_geometry.specs.Ranges.{do_rects_meet}
use Rattle.overlay_split.specs.steps.ChangedBoxes.{rects_of}
use Rattle.overlay_split.proofs.split.changed.is_near_one.Given as goal

abbrev pub invariant-loop-place : goal.invariant-loop-place
invariant-loop-place g l = AllWithin (λ r. do_rects_meet r (rect_of g.I.OverlayInt.whole l.around) ≡ false) (rects_of g.I.OverlayInt.whole l.boxes) 0 l.place
