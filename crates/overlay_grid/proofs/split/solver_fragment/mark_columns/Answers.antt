use Rattle.std.proofs.Common.{◌≡◌, ◌≤◌, ◌+◌, arith, sym, ap, subst, ◌∙◌, ◌++◌, ◌||◌, Bool, true, List, length}
use Rattle.std.specs.Prelude.{IsTrue}
use Rattle.std.specs.List.{AllByRecursion}
use Rattle.overlay_intersections.specs.PlacingOf.{placing_of}
use Rattle.overlay_intersections.specs.MarkOf.{marks_of}
use Rattle.overlay_grid.specs.FragmentOf.{KeptFragment, fragments_of, IsSortedAlong}
use Rattle.overlay_grid.specs.GroupsOf.{group_in}
use Rattle.overlay_grid.specs.ColumnLooks.{looks_of_group}
use Rattle.overlay_grid.specs.steps.FragmentFinder.{is_ready, marks_of_group, is_group_rounded}
use Rattle.overlay_intersections.proofs.laws.marks.FoundMarks.{or_true, or_false}
use Rattle.overlay_grid.proofs.laws.grid.GridGroups.{group_in-at}
use Rattle.overlay_grid.proofs.laws.grid.GridFills.{over-more, over-end}
use Rattle.overlay_grid.proofs.split.solver_fragment.mark_columns.Goals as goal
use Rattle.overlay_grid.proofs.split.solver_fragment.mark_columns.Goals.{then-branch, else-branch}

pub mark_group-requires-clause-ready : goal.mark_group-requires-clause-ready
mark_group-requires-clause-ready g c =
    let same = ap (fragments_of g.I.OverlayInt.whole) c.as_slice.ensures.value ∙ group_in-at g.I.OverlayInt.whole c.args.groups.now c.loop-column.column c.index-groups-column.result c.loop-column-test.true c.index-groups-column.is in
    subst (λ (fs : List KeptFragment). AllByRecursion (λ f. IsTrue (is_ready (g.I.OverlayInt.whole g.I.OverlayInt.MIN_COORD) (g.I.OverlayInt.whole g.I.OverlayInt.MAX_COORD) f)) fs) (sym same) (c.requires.ready c.loop-column.column)

pub mark_group-requires-clause-sorted : goal.mark_group-requires-clause-sorted
mark_group-requires-clause-sorted g c =
    let same = ap (fragments_of g.I.OverlayInt.whole) c.as_slice.ensures.value ∙ group_in-at g.I.OverlayInt.whole c.args.groups.now c.loop-column.column c.index-groups-column.result c.loop-column-test.true c.index-groups-column.is in
    subst (IsSortedAlong c.args.axis) (sym same) (c.requires.sorted c.loop-column.column)

pub loop-column-preserved : goal.loop-column-preserved
loop-column-preserved g c =
    let same = ap (fragments_of g.I.OverlayInt.whole) c.as_slice.ensures.value ∙ group_in-at g.I.OverlayInt.whole c.args.groups.now c.loop-column.column c.index-groups-column.result c.loop-column-test.true c.index-groups-column.is in
    elim c.if-branch.branch [
      | then-branch w ↦
          rw w.rounded-is (over-more (λ column. marks_of_group (placing_of c.args.placing) (group_in g.I.OverlayInt.whole c.args.groups.now column)) (λ column. is_group_rounded (group_in g.I.OverlayInt.whole c.args.groups.now column)) (λ column. looks_of_group c.args.axis (group_in g.I.OverlayInt.whole c.args.groups.now column))
          (marks_of g.I.OverlayInt.whole c.args.marks.now.items) (marks_of g.I.OverlayInt.whole c.loop-column.marks.items) (marks_of g.I.OverlayInt.whole c.mark_group.new.marks.items) c.loop-column.rounded true c.args.looked.now c.loop-column.looked c.mark_group.new.looked c.loop-column.column c.loop-column.invariant
          (subst (λ (fs : List KeptFragment). marks_of g.I.OverlayInt.whole c.mark_group.new.marks.items ≡ marks_of g.I.OverlayInt.whole c.loop-column.marks.items ++ marks_of_group (placing_of c.args.placing) fs) same c.in_ok-mark_group.ensures.marks)
          (or_true c.loop-column.rounded ∙ ap (λ (b : Bool). c.loop-column.rounded || b) (sym w.if-branch.true ∙ c.in_ok-mark_group.ensures.rounded ∙ ap is_group_rounded same))
          (subst (λ (fs : List KeptFragment). c.mark_group.new.looked ≤ c.loop-column.looked + looks_of_group c.args.axis fs) same c.in_ok-mark_group.ensures.looked))
      | else-branch w ↦
          rw w.rounded-is (over-more (λ column. marks_of_group (placing_of c.args.placing) (group_in g.I.OverlayInt.whole c.args.groups.now column)) (λ column. is_group_rounded (group_in g.I.OverlayInt.whole c.args.groups.now column)) (λ column. looks_of_group c.args.axis (group_in g.I.OverlayInt.whole c.args.groups.now column))
          (marks_of g.I.OverlayInt.whole c.args.marks.now.items) (marks_of g.I.OverlayInt.whole c.loop-column.marks.items) (marks_of g.I.OverlayInt.whole c.mark_group.new.marks.items) c.loop-column.rounded c.loop-column.rounded c.args.looked.now c.loop-column.looked c.mark_group.new.looked c.loop-column.column c.loop-column.invariant
          (subst (λ (fs : List KeptFragment). marks_of g.I.OverlayInt.whole c.mark_group.new.marks.items ≡ marks_of g.I.OverlayInt.whole c.loop-column.marks.items ++ marks_of_group (placing_of c.args.placing) fs) same c.in_ok-mark_group.ensures.marks)
          (or_false c.loop-column.rounded ∙ ap (λ (b : Bool). c.loop-column.rounded || b) (sym w.if-branch.false ∙ c.in_ok-mark_group.ensures.rounded ∙ ap is_group_rounded same))
          (subst (λ (fs : List KeptFragment). c.mark_group.new.looked ≤ c.loop-column.looked + looks_of_group c.args.axis fs) same c.in_ok-mark_group.ensures.looked))
    ]

pub returns : goal.returns
returns g c =
    let upto = c.loop-column.auto.column-end in
    let past = c.loop-column-test.false in
    let last : c.loop-column.column ≡ length c.args.groups.now = omega arith in
    let end = over-end (λ column. marks_of_group (placing_of c.args.placing) (group_in g.I.OverlayInt.whole c.args.groups.now column)) (λ column. is_group_rounded (group_in g.I.OverlayInt.whole c.args.groups.now column)) (λ column. looks_of_group c.args.axis (group_in g.I.OverlayInt.whole c.args.groups.now column))
    (marks_of g.I.OverlayInt.whole c.args.marks.now.items) (marks_of g.I.OverlayInt.whole c.loop-column.marks.items) c.loop-column.rounded c.args.looked.now c.loop-column.looked c.loop-column.column (length c.args.groups.now) c.loop-column.invariant last in
    record { marks = end.found; rounded = end.flag; looked = end.counted }
