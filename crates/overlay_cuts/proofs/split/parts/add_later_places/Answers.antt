use Rattle.std.proofs.Common.{arith}
use Rattle.overlay_cuts.proofs.split.parts.add_later_places.Goals as goal
use Rattle.overlay_cuts.proofs.split.parts.add_later_places.Goals.{then-place-from-ge-MIN_PART+then-cuts_after+in_ok-push, else-place-from-ge-MIN_PART}

pub loop-place-preserved : goal.loop-place-preserved
loop-place-preserved g c = elim c.if-place-from-ge-MIN_PART.branch [
  | then-place-from-ge-MIN_PART+then-cuts_after+in_ok-push w ↦ omega arith
  | else-place-from-ge-MIN_PART w ↦ omega arith
]
