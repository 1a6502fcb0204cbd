use Rattle.overlay_intersections.specs.PlacingOf.{placing_of}
use Rattle.overlay_intersections.specs.MarkOf.{marks_of}
use Rattle.overlay_grid.specs.GroupsOf.{group_in}
use Rattle.overlay_grid.specs.ColumnLooks.{looks_of_group}
use Rattle.overlay_grid.specs.steps.FragmentFinder.{marks_of_group, is_group_rounded}
use Rattle.overlay_grid.proofs.laws.grid.GridFills.{IsOver}
use Rattle.overlay_grid.proofs.split.solver_fragment.mark_columns.Given as goal

abbrev pub invariant-loop-column : goal.invariant-loop-column
invariant-loop-column g l =
    IsOver (λ column. marks_of_group (placing_of l.placing) (group_in g.I.OverlayInt.whole l.groups column)) (λ column. is_group_rounded (group_in g.I.OverlayInt.whole l.groups column)) (λ column. looks_of_group l.axis (group_in g.I.OverlayInt.whole l.groups column))
    (marks_of g.I.OverlayInt.whole l.fn.marks.items) (marks_of g.I.OverlayInt.whole l.marks.items) l.rounded l.fn.looked l.looked l.column
