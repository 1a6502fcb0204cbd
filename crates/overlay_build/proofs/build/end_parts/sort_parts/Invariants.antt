use Rattle.std.proofs.Common.{◌≤◌}
use Rattle.std.specs.List.Sorted.{IsStableByKey}
use Rattle.std.specs.Ordering.{nat_cmp}
use Rattle.overlay_build.specs.declared.build.link_ends.PackedEnd.{PackedEnd}
use Rattle.overlay_build.proofs.build.end_parts.sort_parts.Given as goal

-- the list so far has the ends of each point of the given one, in their order
abbrev pub invariant-loop-place : goal.invariant-loop-place
invariant-loop-place l = record {
  within : l.from ≤ l.place;
  stable : IsStableByKey (λ (e : PackedEnd). e.key) nat_cmp l.initial.ends l.ends;
}
