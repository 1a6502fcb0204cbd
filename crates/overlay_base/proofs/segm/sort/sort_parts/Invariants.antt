use Rattle.std.proofs.Common.{IsPermutation}
use Rattle.std.specs.List.Sorted.{IsStableByKey}
use Rattle.overlay_geometry.specs.Points.{pair_cmp}
use Rattle.overlay_base.specs.SegmentOf.{ends_of}
use Rattle.overlay_base.proofs.segm.sort.sort_parts.Given as goal

-- the list so far has the elements of the given one, and ties in their order
abbrev pub invariant-loop-place : goal.invariant-loop-place
invariant-loop-place g l = record {
  permutation : IsPermutation l.initial.list l.list;
  stable : IsStableByKey ends_of pair_cmp l.initial.list l.list;
}
