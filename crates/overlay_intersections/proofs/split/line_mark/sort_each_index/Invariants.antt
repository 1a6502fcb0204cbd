use Rattle.std.proofs.Common.{IsPermutation, ◌<◌, ◌≤◌, length}
use Rattle.overlay_intersections.proofs.split.line_mark.sort_each_index.Given as goal

-- the marks so far are those given, and the run that is under way begins before the place
abbrev pub invariant-loop-place : goal.invariant-loop-place
invariant-loop-place g l = record {
  permutation : IsPermutation l.initial.marks l.marks;
  before : l.from < l.place;
  inside : l.from ≤ length l.marks;
}
