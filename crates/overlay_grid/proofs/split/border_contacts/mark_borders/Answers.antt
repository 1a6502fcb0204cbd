use Rattle.std.proofs.Common.{◌≡◌, ◌<◌, ◌≤◌, ◌+◌, ◌-◌, arith, sym, ap, subst, ◌∙◌, ◌++◌, List, Vec, Global, length, map, refl}
use Rattle.std.specs.Prelude.{IsPermutation, IsSorted, ℤ}
use borrow.Author.Count.{falls}
use Rattle.overlay_intersections.specs.MarkOf.{Mark, marks_of}
use Rattle.overlay_grid.specs.Grid.{Layout, pos_of, group_count}
use Rattle.overlay_grid.specs.FragmentOf.{KeptFragment, fragments_of, layout_of}
use Rattle.overlay_grid.specs.GroupsOf.{group_in, group_of, grid_of}
use Rattle.overlay_grid.specs.steps.FragmentFinder.{heights_at, marks_of_border, looks_of_border, marks_of_heights}
use Rattle.overlay_grid.proofs.laws.grid.GridGroups.{group_in-at}
use Rattle.overlay_grid.proofs.laws.grid.BorderMarks.{hold_equal, borders-start, borders-more, borders-end, border_to_heights, heights_to_border, few_on_border}
use Rattle.overlay_grid.proofs.split.border_contacts.mark_borders.Goals as goal

pub loop-column-init : goal.loop-column-init
loop-column-init g c = record { layout = refl; groups = refl; seen = borders-start _ _ _ _ }

pub list_right_ends-requires : goal.list_right_ends-requires
list_right_ends-requires g c =
    let count : length c.groups.result.now ≡ group_count (grid_of c.args.buffer.now) = ap length c.groups.ensures ∙ c.args.buffer.now.columns in
    let same = ap (λ (l : _). group_count (layout_of l)) c.loop-column.invariant.layout in
    let t = c.loop-column-test.true in
    omega arith

pub loop-column-preserved : goal.loop-column-preserved
loop-column-preserved g c =
    let whole = g.I.OverlayInt.whole in
    let column = c.loop-column.column in
    let first = c.args.buffer.now in
    let layout = c.in_ok-list_right_ends.ensures.layout ∙ c.loop-column.invariant.layout in
    let groups = c.in_ok-list_right_ends.ensures.groups ∙ c.loop-column.invariant.groups in
    let grid_before : grid_of c.loop-column.buffer ≡ grid_of first = ap (λ (l : _). layout_of l) c.loop-column.invariant.layout in
    let grid : grid_of c.list_right_ends.new.self ≡ grid_of first = ap (λ (l : _). layout_of l) layout in
    let within : column + 1 < length c.groups-in-loop-column.result.now =
    let t = c.loop-column-test.true in let a = ap length c.groups.ensures in let b = ap length c.groups-in-loop-column.ensures in let d = ap (λ (v : Vec _ Global). length v.items) groups in omega arith in
    let right = ap (fragments_of whole) c.as_slice-group.ensures.value ∙ group_in-at whole c.groups-in-loop-column.result.now (column + 1) c.index-groups-column.result within c.index-groups-column.is
    ∙ ap (λ (gs : List _). group_in whole gs (column + 1)) (c.groups-in-loop-column.ensures ∙ ap (λ (v : Vec _ Global). v.items) groups) in
    let x = pos_of (grid_of first) (column + 1) in
    let left = group_of first column in
    let group = group_of first (column + 1) in
    let ys = map whole c.list_right_ends.new.self.right_ends.items in
    let made = marks_of_heights x ys group in
    let at_x = ap (λ (z : ℤ). marks_of_heights z (map whole c.right_ends.result.now) (fragments_of whole c.as_slice-group.result.now)) (c.border-border.ensures ∙ ap (λ (l : Layout). pos_of l (column + 1)) grid) in
    let at_heights = ap (λ (hs : List _). marks_of_heights x (map whole hs) (fragments_of whole c.as_slice-group.result.now)) c.right_ends.ensures in
    let same = at_x ∙ at_heights ∙ ap (λ (fs : List KeptFragment). marks_of_heights x ys fs) right in
    let marks = c.in_ok-mark_border.ensures.marks ∙ ap (λ (list : List Mark). marks_of whole c.loop-column.marks.items ++ list) same in
    let looks = subst (λ (list : List Mark). c.mark_border.new.looked ≤ c.loop-column.looked + length list) same c.in_ok-mark_border.ensures.looked in
    let ends = subst (λ (l : Layout). IsPermutation (heights_at (pos_of l (column + 1)) (group_of first column)) ys) grid_before
    (subst (λ (v : Vec _ Global). IsPermutation (heights_at (pos_of (grid_of c.loop-column.buffer) (column + 1)) (group_in whole v.items column)) ys) c.loop-column.invariant.groups c.in_ok-list_right_ends.ensures.ends) in
    let few = few_on_border x left group ys ends in
    let ready = c.requires.ready (column + 1) in
    record {
      layout = layout;
      groups = groups;
      seen = borders-more (λ column. marks_of_border (pos_of (grid_of first) (column + 1)) (group_of first column) (group_of first (column + 1)))
          (λ column. looks_of_border (pos_of (grid_of first) (column + 1)) (group_of first column) (group_of first (column + 1)))
          (marks_of whole c.args.marks.now.items) (marks_of whole c.loop-column.marks.items) (marks_of whole c.mark_border.new.marks.items) made c.args.looked.now c.loop-column.looked c.mark_border.new.looked column c.loop-column.invariant.seen
          (border_to_heights (whole g.I.OverlayInt.MIN_COORD) (whole g.I.OverlayInt.MAX_COORD) x left group ys ready ends)
          (heights_to_border (whole g.I.OverlayInt.MIN_COORD) (whole g.I.OverlayInt.MAX_COORD) x left group ys ready ends)
          (hold_equal _ _ (sym marks)) (omega arith);
    }

pub returns : goal.returns
returns g c =
    let first = c.args.buffer.now in
    let lent = ap length c.groups.ensures ∙ first.columns in
    let last : c.loop-column.column ≡ group_count (grid_of first) - 1 = let upto = c.loop-column.auto.column-end in let past = c.loop-column-test.false in omega arith in
    let end = borders-end (λ column. marks_of_border (pos_of (grid_of first) (column + 1)) (group_of first column) (group_of first (column + 1)))
    (λ column. looks_of_border (pos_of (grid_of first) (column + 1)) (group_of first column) (group_of first (column + 1)))
    (marks_of g.I.OverlayInt.whole c.args.marks.now.items) (marks_of g.I.OverlayInt.whole c.loop-column.marks.items) c.args.looked.now c.loop-column.looked c.loop-column.column (group_count (grid_of first) - 1) c.loop-column.invariant.seen last in
    record { layout = ap (λ (l : _). layout_of l) c.loop-column.invariant.layout; marks = end.found; looked = end.counted }

pub overflow_sub-column-end : goal.overflow_sub-column-end
overflow_sub-column-end g c =
    let count : length c.groups.result.now ≡ group_count (grid_of c.args.buffer.now) = ap length c.groups.ensures ∙ c.args.buffer.now.columns in
    omega arith

pub overflow_add-column : goal.overflow_add-column
overflow_add-column g c = record { fits = omega (arith, c.loop-column-test.true, c.groups.type_inv) }

pub border-border-requires : goal.border-border-requires
border-border-requires g c =
    let count : length c.groups.result.now ≡ group_count (grid_of c.args.buffer.now) = ap length c.groups.ensures ∙ c.args.buffer.now.columns in
    let same = ap (λ (l : _). group_count (layout_of l)) (c.in_ok-list_right_ends.ensures.layout ∙ c.loop-column.invariant.layout) in
    let t = c.loop-column-test.true in
    omega arith

pub overflow_add-column-in-loop-column : goal.overflow_add-column-in-loop-column
overflow_add-column-in-loop-column g c = record { fits = omega (arith, c.loop-column-test.true, c.groups.type_inv) }

pub bounds-groups-column : goal.bounds-groups-column
bounds-groups-column g c =
    let groups = ap (λ (v : Vec _ Global). length v.items) (c.in_ok-list_right_ends.ensures.groups ∙ c.loop-column.invariant.groups) in
    let t = c.loop-column-test.true in let a = ap length c.groups.ensures in let b = ap length c.groups-in-loop-column.ensures in
    omega arith

pub mark_border-requires : goal.mark_border-requires
mark_border-requires g c = record { sorted = subst (λ (ys : List _). IsSorted g.I.Ord.cmp ys) (sym c.right_ends.ensures) c.in_ok-list_right_ends.ensures.sorted }

pub returns-in_err-mark_border-clause-layout : goal.returns-in_err-mark_border-clause-layout
returns-in_err-mark_border-clause-layout g c = ap (λ (l : _). layout_of l) (c.in_ok-list_right_ends.ensures.layout ∙ c.loop-column.invariant.layout)

pub loop-column-smaller : goal.loop-column-smaller
loop-column-smaller g c = falls _ _ c.loop-column-test.true
