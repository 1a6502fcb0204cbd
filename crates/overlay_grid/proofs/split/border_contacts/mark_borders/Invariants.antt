use Rattle.std.proofs.Common.{◌≡◌, ◌+◌}
use Rattle.overlay_intersections.specs.MarkOf.{marks_of}
use Rattle.overlay_grid.specs.Grid.{pos_of}
use Rattle.overlay_grid.specs.GroupsOf.{group_of, grid_of}
use Rattle.overlay_grid.specs.steps.FragmentFinder.{marks_of_border, looks_of_border}
use Rattle.overlay_grid.proofs.laws.grid.BorderMarks.{AreBordersSeen}
use Rattle.overlay_grid.proofs.split.border_contacts.mark_borders.Given as goal

abbrev pub invariant-loop-column : goal.invariant-loop-column
invariant-loop-column g l = record {
  layout : l.buffer.layout ≡ l.fn.buffer.layout;
  groups : l.buffer.groups ≡ l.fn.buffer.groups;
  seen : AreBordersSeen (λ column. marks_of_border (pos_of (grid_of l.fn.buffer) (column + 1)) (group_of l.fn.buffer column) (group_of l.fn.buffer (column + 1)))
      (λ column. looks_of_border (pos_of (grid_of l.fn.buffer) (column + 1)) (group_of l.fn.buffer column) (group_of l.fn.buffer (column + 1)))
      (marks_of g.I.OverlayInt.whole l.fn.marks.items) (marks_of g.I.OverlayInt.whole l.marks.items) l.fn.looked l.looked l.column;
}
