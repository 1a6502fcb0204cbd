use Rattle.std.proofs.Common.{◌≡◌, ◌≤◌, length}
use Rattle.overlay_build.proofs.build.end_parts.least_keys.Given as goal

abbrev pub invariant-loop-place : goal.invariant-loop-place
invariant-loop-place l = record {
  as_many : length l.keys.items ≡ length l.ends;
  within : l.place ≤ length l.ends;
}

abbrev pub decreases-loop-place : goal.decreases-loop-place
decreases-loop-place l = l.place
