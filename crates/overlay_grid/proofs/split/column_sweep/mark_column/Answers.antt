use Rattle.std.proofs.Common.{◌≡◌, ◌+◌, ◌*◌, ℕ, ◌++◌, ◌∙◌, arith, sym, ap, ap₂, subst, map, length, List, Vec, Global}
use Rattle.std.specs.Prelude.{ℤ, count_by, IsPermutation, IsSorted, IsTrue}
use Rattle.std.proofs.lemmas.List.{length-map}
use Rattle.std.specs.List.{AllByRecursion}
use Rattle.std.proofs.lemmas.Grind.{common_steps}
use Rattle.overlay_intersections.specs.MarkOf.{Mark, marks_of}
use Rattle.overlay_intersections.specs.PlacingOf.{placing_of}
use Rattle.overlay_grid.specs.ColumnLooks.{twos_in_height}
use Rattle.overlay_grid.specs.FragmentOf.{fragments_of, layout_of}
use Rattle.overlay_grid.specs.Grid.{pos_of}
use Rattle.overlay_grid.specs.steps.FragmentFinder.{HoldSame, heights_at, is_group_rounded, is_ready, marks_of_group, marks_of_heights, stands_at}
use Rattle.overlay_grid.proofs.laws.grid.BorderCounts.{few_counted}
use Rattle.overlay_grid.proofs.laws.grid.SweptColumns.{appended, if_found, on_found, stays_within}
use Rattle.overlay_grid.proofs.split.column_sweep.mark_column.Goals as goal
use Rattle.overlay_grid.proofs.split.column_sweep.mark_column.Goals.{then-column-column_count+in_ok-list_ends_at, else-column-column_count}

pub returns-clause-marks : goal.returns-clause-marks
returns-clause-marks g c =
    let whole = g.I.OverlayInt.whole in
    let l = layout_of c.args.layout.now in
    let p = placing_of c.args.placing in
    let group = c.args.sweep.now.parts.group in
    let same : c.if-column-column_count.sweep.parts ≡ c.args.sweep.now.parts =
    elim c.if-column-column_count.branch [
      | then-column-column_count+in_ok-list_ends_at w ↦ ap (λ (s : _). s.parts) w.sweep-is
      | else-column-column_count w ↦ ap (λ (s : _). s.parts) w.sweep-is
    ] in
    let heights = marks_of_heights (pos_of l c.args.column) (map whole c.args.sweep.now.right_ends.items) (fragments_of whole group.items) in
    let heights_are : marks_of_heights (whole c.pos-border.result) (map whole c.as_slice-ends.result.now) (fragments_of whole c.as_slice-group.result.now) ≡ heights =
    ap (λ (x : ℤ). marks_of_heights x (map whole c.as_slice-ends.result.now) (fragments_of whole c.as_slice-group.result.now)) c.pos-border.ensures
    ∙ ap₂ (λ (ys fs : List _). marks_of_heights (pos_of l c.args.column) (map whole ys) (fragments_of whole fs)) c.as_slice-ends.ensures.value c.as_slice-group.ensures.value in
    if_found c.mark_in_order.result _ _
    (λ _ h. appended (marks_of whole c.args.marks.now.items) (marks_of whole c.mark_border.new.marks.items) (marks_of whole c.mark_in_order.new.marks.items) heights (marks_of_group p (fragments_of whole group.items))
    (c.in_ok-mark_border.ensures.marks ∙ ap (λ (ms : List Mark). marks_of whole c.args.marks.now.items ++ ms) heights_are)
    (subst (λ (parts : _). HoldSame (marks_of whole c.mark_border.new.marks.items ++ marks_of_group p (fragments_of whole parts.group.items)) (marks_of whole c.mark_in_order.new.marks.items)) same h))
    c.mark_in_order.ensures.marks

pub returns-clause-rounded : goal.returns-clause-rounded
returns-clause-rounded g c =
    let whole = g.I.OverlayInt.whole in
    let same : c.if-column-column_count.sweep.parts ≡ c.args.sweep.now.parts =
    elim c.if-column-column_count.branch [
      | then-column-column_count+in_ok-list_ends_at w ↦ ap (λ (s : _). s.parts) w.sweep-is
      | else-column-column_count w ↦ ap (λ (s : _). s.parts) w.sweep-is
    ] in
    if_found c.mark_in_order.result _ _ (λ rounded is. is ∙ ap (λ (parts : _). is_group_rounded (fragments_of whole parts.group.items)) same) c.mark_in_order.ensures.rounded

pub returns-clause-looked : goal.returns-clause-looked
returns-clause-looked g c =
    let whole = g.I.OverlayInt.whole in
    let l = layout_of c.args.layout.now in
    let same : c.if-column-column_count.sweep.parts ≡ c.args.sweep.now.parts =
    elim c.if-column-column_count.branch [
      | then-column-column_count+in_ok-list_ends_at w ↦ ap (λ (s : _). s.parts) w.sweep-is
      | else-column-column_count w ↦ ap (λ (s : _). s.parts) w.sweep-is
    ] in
    let twos = ap (λ (parts : _). twos_in_height (fragments_of whole parts.group.items)) same in
    let heights = ap (λ (x : ℤ). length (marks_of_heights x (map whole c.as_slice-ends.result.now) (fragments_of whole c.as_slice-group.result.now))) c.pos-border.ensures
    ∙ ap₂ (λ (ys fs : List _). length (marks_of_heights (pos_of l c.args.column) (map whole ys) (fragments_of whole fs))) c.as_slice-ends.ensures.value c.as_slice-group.ensures.value in
    let first = c.in_ok-mark_border.ensures.looked in
    on_found c.mark_in_order.result _ _ (λ looked. omega (arith, looked, twos, heights, first)) c.mark_in_order.ensures.looked

pub returns-clause-ends : goal.returns-clause-ends
returns-clause-ends g c more =
    let whole = g.I.OverlayInt.whole in
    let l = layout_of c.args.layout.now in
    let group = c.args.sweep.now.parts.group in
    let ends : IsPermutation (heights_at (pos_of l (c.args.column + 1)) (fragments_of whole group.items)) (map whole c.if-column-column_count.sweep.right_ends.items) =
    elim c.if-column-column_count.branch [
      | then-column-column_count+in_ok-list_ends_at w ↦
          subst (λ (v : Vec _ Global). IsPermutation (heights_at (pos_of l (c.args.column + 1)) (fragments_of whole group.items)) (map whole v.items)) (sym (ap (λ (s : _). s.right_ends) w.sweep-is))
          (subst (λ (ys : List ℤ). IsPermutation ys (map whole w.list_ends_at.new.right_ends.items))
          (ap₂ (λ (x : ℤ) (fs : List _). heights_at x (fragments_of whole fs)) w.pos-next.ensures c.as_slice-group.ensures.value) w.in_ok-list_ends_at.ensures.ends)
      | else-column-column_count w ↦ (let count = c.column_count.ensures in let past = w.if-column-column_count.false in absurd (omega (arith, count, past, more)))
    ] in
    on_found c.mark_in_order.result _ _ (λ _. ends) c.mark_in_order.ensures.looked

pub returns-clause-sorted : goal.returns-clause-sorted
returns-clause-sorted g c =
    let sorted : IsSorted g.I.Ord.cmp c.if-column-column_count.sweep.right_ends.items =
    elim c.if-column-column_count.branch [
      | then-column-column_count+in_ok-list_ends_at w ↦ subst (λ (v : Vec _ Global). IsSorted g.I.Ord.cmp v.items) (sym (ap (λ (s : _). s.right_ends) w.sweep-is)) w.in_ok-list_ends_at.ensures.sorted
      | else-column-column_count w ↦ subst (λ (v : Vec _ Global). IsSorted g.I.Ord.cmp v.items) (sym (ap (λ (s : _). s.right_ends) w.sweep-is)) c.requires.sorted
    ] in
    on_found c.mark_in_order.result _ _ (λ _. sorted) c.mark_in_order.ensures.looked

pub returns-clause-rests : goal.returns-clause-rests
returns-clause-rests g c =
    elim c.if-column-column_count.branch [
      | then-column-column_count+in_ok-list_ends_at w ↦ ap (λ (s : _). s.parts.rests) w.sweep-is
      | else-column-column_count w ↦ ap (λ (s : _). s.parts.rests) w.sweep-is
    ]

pub mark_in_order-requires-clause-ready : goal.mark_in_order-requires-clause-ready
mark_in_order-requires-clause-ready g c =
    let whole = g.I.OverlayInt.whole in
    let same : c.if-column-column_count.sweep.parts ≡ c.args.sweep.now.parts =
    elim c.if-column-column_count.branch [
      | then-column-column_count+in_ok-list_ends_at w ↦ ap (λ (s : _). s.parts) w.sweep-is
      | else-column-column_count w ↦ ap (λ (s : _). s.parts) w.sweep-is
    ] in
    subst (λ (parts : _). AllByRecursion (λ f. IsTrue (is_ready (whole g.I.OverlayInt.MIN_COORD) (whole g.I.OverlayInt.MAX_COORD) f)) (fragments_of whole parts.group.items)) (sym same) c.requires.ready

pub mark_in_order-requires-clause-limit : goal.mark_in_order-requires-clause-limit
mark_in_order-requires-clause-limit g c =
    let whole = g.I.OverlayInt.whole in
    let x = whole c.pos-border.result in
    let group = fragments_of whole c.as_slice-group.result.now in
    let ends = map whole c.as_slice-ends.result.now in
    let few = few_counted x ends group in
    let as_many = ap (λ (n : ℕ). n * count_by (stands_at x) group) (length-map c.as_slice-ends.result.now whole) in
    let looked = c.in_ok-mark_border.ensures.looked in
    stays_within c.args.limit c.args.looked.now c.mark_border.new.looked (length c.as_slice-ends.result.now * count_by (stands_at x) group) c.requires.limit (c.may_take_border.ensures.within c.if-not-may_take_border.false) (omega (arith, looked, few, as_many))

pub mark_border-requires : goal.mark_border-requires
mark_border-requires g c = grind (arith, common_steps)
