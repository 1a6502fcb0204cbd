use Rattle.std.proofs.Common.{◌≤◌}
use Rattle.overlay_cuts.proofs.split.parts.add_first_places.Given as goal

-- a part begins at or before the place
abbrev pub invariant-loop-place : goal.invariant-loop-place
invariant-loop-place g l = l.from ≤ l.place
