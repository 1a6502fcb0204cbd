use Rattle.std.proofs.Common.{◌≡◌, ℕ, ◌<◌, ◌≤◌, ◌-◌, false, true, length, slice_index_or}
use Rattle.overlay_build.proofs.build.walks.next_unused.Given as goal

abbrev pub invariant-loop-place : goal.invariant-loop-place
invariant-loop-place l = (l.place ≤ length l.indexes) × ((k : ℕ) → k < l.place → slice_index_or l.used (slice_index_or l.indexes k 0) false ≡ true)

abbrev pub decreases-loop-place : goal.decreases-loop-place
decreases-loop-place l = length l.indexes - l.place
