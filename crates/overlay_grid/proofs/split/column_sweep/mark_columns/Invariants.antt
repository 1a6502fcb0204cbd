use Rattle.std.proofs.Common.{◌≡◌, ◌<◌, ◌≤◌, map}
use Rattle.std.specs.Prelude.{IfSome, IsPermutation, IsSorted}
use Rattle.std.specs.List.{list_any, range_with_len}
use Rattle.overlay_base.specs.SegmentOf.{pairs_in}
use Rattle.overlay_intersections.specs.MarkOf.{marks_of}
use Rattle.overlay_intersections.specs.PlacingOf.{placing_of}
use Rattle.overlay_grid.specs.FragmentOf.{layout_of}
use Rattle.overlay_grid.specs.Grid.{group_count, pos_of}
use Rattle.overlay_grid.specs.steps.Entering.{entering, prior_group, rests_of}
use Rattle.overlay_grid.specs.steps.FragmentFinder.{heights_at, is_group_rounded, kept_group}
use Rattle.overlay_grid.specs.steps.Sweeps.{AreParted, looks_of_column, marks_of_column}
use Rattle.overlay_grid.proofs.laws.grid.BorderMarks.{AreBordersSeen}
use Rattle.overlay_grid.proofs.split.column_sweep.mark_columns.Given as goal

abbrev pub invariant-loop-column : goal.invariant-loop-column
invariant-loop-column g l = record {
  parted : AreParted (layout_of l.layout) (pairs_in l.segments) l.from l.column;
  rests : rests_of g.I.OverlayInt.whole l.sweep.parts.rests.items ≡ entering (layout_of l.layout) 0 (pairs_in l.segments) l.column;
  ends : l.column < group_count (layout_of l.layout) → IsPermutation (heights_at (pos_of (layout_of l.layout) l.column) (prior_group (layout_of l.layout) (pairs_in l.segments) l.column)) (map g.I.OverlayInt.whole l.sweep.right_ends.items);
  sorted : IsSorted g.I.Ord.cmp l.sweep.right_ends.items;
  seen : AreBordersSeen (marks_of_column (placing_of l.placing) (layout_of l.layout) (pairs_in l.segments)) (looks_of_column (layout_of l.layout) (pairs_in l.segments)) (marks_of g.I.OverlayInt.whole l.fn.marks.items) (marks_of g.I.OverlayInt.whole l.marks.items) l.fn.looked l.looked l.column;
  within : IfSome l.limit (λ most. l.looked ≤ most);
  flag : l.rounded ≡ list_any (λ column. is_group_rounded (kept_group (layout_of l.layout) 0 (pairs_in l.segments) column)) (range_with_len 0 l.column);
}
