use Rattle.std.proofs.Common.{◌≡◌, ℕ, ◌<◌, length, slice_index}
use Rattle.overlay_shapes.specs.steps.Forests.{AreLow, HaveClasses}
use Rattle.overlay_shapes.proofs.classes.leader_of.Given as goal

abbrev pub invariant-loop-parent : goal.invariant-loop-parent
invariant-loop-parent l =
    AreLow l.parents × (l.at < length l.parents) × (l.parent ≡ slice_index l.parents l.at)
    × ((classes : ℕ → ℕ) → HaveClasses l.fn.parents classes → HaveClasses l.parents classes × (classes l.at ≡ classes l.number))

abbrev pub decreases-loop-parent : goal.decreases-loop-parent
decreases-loop-parent l = l.at
