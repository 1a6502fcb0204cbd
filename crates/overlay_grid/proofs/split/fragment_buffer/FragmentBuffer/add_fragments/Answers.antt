use Rattle.std.proofs.Common.{◌≡◌, ◌<◌, ◌≤◌, ◌+◌, ◌∙◌, sym, ap, subst, ℕ, refl, List, ◌++◌, length, arith}
use Rattle.std.specs.Prelude.{ℤ, ◌≤ℤ◌}
use Rattle.overlay_geometry.specs.Ranges.{Rect}
use Rattle.overlay_geometry.specs.PairOf.{pair_of}
use Rattle.overlay_geometry.specs.PointOf.{point_of}
use Rattle.overlay_grid.specs.Grid.{Layout, column_index, group_count, pos_of, rect_between}
use Rattle.overlay_grid.specs.FragmentOf.{KeptFragment, fragment_of, layout_of}
use Rattle.overlay_grid.specs.GroupsOf.{group_of}
use Rattle.overlay_grid.proofs.laws.grid.GridColumns.{then_less}
use Rattle.overlay_grid.proofs.laws.grid.GridAdding.{IsAdding, IsAdding-start, IsAdding-more, IsAdding-end, as_added, added_vertical, runs_forward, vertical_from, column_within, column_before_within, next_within, border_between, first_to_last, on_ok}
use Rattle.overlay_grid.proofs.split.fragment_buffer.FragmentBuffer.add_fragments.Goals as goal
use Rattle.overlay_geometry.proofs.laws.integers.Tests.{le_through}

pub insert-requires : goal.insert-requires
insert-requires g c =
    subst (λ (n : ℕ). n < length c.args.self.now.groups.items) (sym c.index-first.ensures)
    (column_within (layout_of c.args.self.now.layout) (g.I.OverlayInt.whole c.args.x_segment.a.x) (length c.args.self.now.groups.items) c.requires.from (le_through _ _ _ c.requires.order c.requires.to) c.args.self.now.columns)

pub returns-then-is_vertical-clause-added : goal.returns-then-is_vertical-clause-added
returns-then-is_vertical-clause-added g c =
    let l = layout_of c.args.self.now.layout in
    let s = pair_of g.I.OverlayInt.whole c.args.x_segment in
    let v = vertical_from s (sym c.is_not_vertical-is_vertical.ensures ∙ c.if-is_vertical.true) in
    on_ok c.insert.result _ _
    (λ added. added_vertical l c.args.index s (group_of c.args.self.now) (group_of c.insert.new.self) v
    (λ other. added other ∙ ap (λ (more : List KeptFragment). group_of c.args.self.now other ++ more)
    (as_added c.index-first.result (column_index l s.a.x) c.args.index s (rect_between s.a.x s.a.y s.b.x s.b.y) (fragment_of g.I.OverlayInt.whole c.between-whole.result) other c.index-first.ensures c.between-whole.ensures)))
    c.insert.ensures.added

pub index_before-last-requires-clause-from : goal.index_before-last-requires-clause-from
index_before-last-requires-clause-from g c =
    let s = pair_of g.I.OverlayInt.whole c.args.x_segment in
    let r = runs_forward s (sym c.is_not_vertical-is_vertical.ensures ∙ c.if-is_vertical.false) c.requires.order in
    then_less _ _ _ c.requires.from r.forward

pub loop-column-init : goal.loop-column-init
loop-column-init g c =
    let l = layout_of c.args.self.now.layout in
    let s = pair_of g.I.OverlayInt.whole c.args.x_segment in
    let r = runs_forward s (sym c.is_not_vertical-is_vertical.ensures ∙ c.if-is_vertical.false) c.requires.order in
    record {
      layout = refl;
      walk = subst (λ (k : ℕ). IsAdding l c.args.index s (group_of c.args.self.now) (group_of c.args.self.now) s.a k) (sym c.index-first.ensures) (IsAdding-start l c.args.index s (group_of c.args.self.now) r c.requires.from);
    }

pub pos-border-requires : goal.pos-border-requires
pos-border-requires g c =
    let l = layout_of c.args.self.now.layout in
    let s = pair_of g.I.OverlayInt.whole c.args.x_segment in
    let r = runs_forward s (sym c.is_not_vertical-is_vertical.ensures ∙ c.if-is_vertical.false) c.requires.order in
    let last = subst (λ (n : ℕ). c.loop-column.column < n) c.index_before-last.ensures c.loop-column-test.true in
    subst (λ (m : Layout). c.loop-column.column + 1 ≤ column_index m m.max_x) (sym c.loop-column.invariant.layout)
    (next_within l s c.loop-column.column r c.requires.from c.requires.to last)

pub heights_at-heights-requires-clause-forward : goal.heights_at-heights-requires-clause-forward
heights_at-heights-requires-clause-forward g c =
    let s = pair_of g.I.OverlayInt.whole c.args.x_segment in
    (runs_forward s (sym c.is_not_vertical-is_vertical.ensures ∙ c.if-is_vertical.false) c.requires.order).forward

pub heights_at-heights-requires-clause-from : goal.heights_at-heights-requires-clause-from
heights_at-heights-requires-clause-from g c =
    let l = layout_of c.args.self.now.layout in
    let s = pair_of g.I.OverlayInt.whole c.args.x_segment in
    let r = runs_forward s (sym c.is_not_vertical-is_vertical.ensures ∙ c.if-is_vertical.false) c.requires.order in
    let last = subst (λ (n : ℕ). c.loop-column.column < n) c.index_before-last.ensures c.loop-column-test.true in
    let border = c.pos-border.ensures ∙ ap (λ (m : Layout). pos_of m (c.loop-column.column + 1)) c.loop-column.invariant.layout in
    subst (λ (z : ℤ). s.a.x ≤ℤ z) (sym border) (border_between l s c.loop-column.column r c.requires.from c.loop-column.invariant.walk.from last).0

pub heights_at-heights-requires-clause-to : goal.heights_at-heights-requires-clause-to
heights_at-heights-requires-clause-to g c =
    let l = layout_of c.args.self.now.layout in
    let s = pair_of g.I.OverlayInt.whole c.args.x_segment in
    let r = runs_forward s (sym c.is_not_vertical-is_vertical.ensures ∙ c.if-is_vertical.false) c.requires.order in
    let last = subst (λ (n : ℕ). c.loop-column.column < n) c.index_before-last.ensures c.loop-column-test.true in
    let border = c.pos-border.ensures ∙ ap (λ (m : Layout). pos_of m (c.loop-column.column + 1)) c.loop-column.invariant.layout in
    subst (λ (z : ℤ). z ≤ℤ s.b.x) (sym border) (border_between l s c.loop-column.column r c.requires.from c.loop-column.invariant.walk.from last).1

pub insert-requires-in-loop-column : goal.insert-requires-in-loop-column
insert-requires-in-loop-column g c =
    let l = layout_of c.args.self.now.layout in
    let s = pair_of g.I.OverlayInt.whole c.args.x_segment in
    let r = runs_forward s (sym c.is_not_vertical-is_vertical.ensures ∙ c.if-is_vertical.false) c.requires.order in
    let last = subst (λ (n : ℕ). c.loop-column.column < n) c.index_before-last.ensures c.loop-column-test.true in
    column_before_within l s (length c.loop-column.self.groups.items) c.loop-column.column r c.requires.from c.requires.to (c.loop-column.self.columns ∙ ap (λ (m : Layout). group_count m) c.loop-column.invariant.layout) (omega arith)

pub loop-column-preserved : goal.loop-column-preserved
loop-column-preserved g c =
    let l = layout_of c.args.self.now.layout in
    let s = pair_of g.I.OverlayInt.whole c.args.x_segment in
    let r = runs_forward s (sym c.is_not_vertical-is_vertical.ensures ∙ c.if-is_vertical.false) c.requires.order in
    let last = subst (λ (n : ℕ). c.loop-column.column < n) c.index_before-last.ensures c.loop-column-test.true in
    let border = c.pos-border.ensures ∙ ap (λ (m : Layout). pos_of m (c.loop-column.column + 1)) c.loop-column.invariant.layout in
    let corner = point_of g.I.OverlayInt.whole c.loop-column.corner in
    let rect : Rect = rect_between corner.x corner.y (g.I.OverlayInt.whole c.pos-border.result) (g.I.OverlayInt.whole c.heights_at-heights.result.far) in
    record {
      layout = c.in_ok-insert.ensures.layout ∙ c.loop-column.invariant.layout;
      walk = IsAdding-more l c.args.index s (group_of c.args.self.now) (group_of c.loop-column.self) (group_of c.insert-in-loop-column.new.self) corner
          (record { x = g.I.OverlayInt.whole c.pos-border.result; y = g.I.OverlayInt.whole c.heights_at-heights.result.near }) c.loop-column.column (g.I.OverlayInt.whole c.heights_at-heights.result.far) rect r c.requires.from
          c.loop-column.invariant.walk last border c.heights_at-heights.ensures.near c.heights_at-heights.ensures.far refl
          (λ other. c.in_ok-insert.ensures.added other ∙ ap (λ (more : List KeptFragment). group_of c.loop-column.self other ++ more)
          (as_added c.loop-column.column c.loop-column.column c.args.index s rect (fragment_of g.I.OverlayInt.whole c.between-part.result) other refl c.between-part.ensures));
    }

pub insert-requires-2 : goal.insert-requires-2
insert-requires-2 g c =
    let l = layout_of c.args.self.now.layout in
    let s = pair_of g.I.OverlayInt.whole c.args.x_segment in
    let r = runs_forward s (sym c.is_not_vertical-is_vertical.ensures ∙ c.if-is_vertical.false) c.requires.order in
    column_before_within l s (length c.loop-column.self.groups.items) c.index_before-last.result r c.requires.from c.requires.to (c.loop-column.self.columns ∙ ap (λ (m : Layout). group_count m) c.loop-column.invariant.layout)
    (subst (λ (n : ℕ). c.index_before-last.result ≤ n) c.index_before-last.ensures (omega arith))

pub returns-clause-added : goal.returns-clause-added
returns-clause-added g c =
    let l = layout_of c.args.self.now.layout in
    let s = pair_of g.I.OverlayInt.whole c.args.x_segment in
    let r = runs_forward s (sym c.is_not_vertical-is_vertical.ensures ∙ c.if-is_vertical.false) c.requires.order in
    let corner = point_of g.I.OverlayInt.whole c.loop-column.corner in
    let rect : Rect = rect_between corner.x corner.y s.b.x s.b.y in
    let span : c.index-first.result ≤ c.index_before-last.result = subst (λ (n : ℕ). n ≤ c.index_before-last.result) (sym c.index-first.ensures) (subst (λ (n : ℕ). column_index l s.a.x ≤ n) (sym c.index_before-last.ensures) (first_to_last l s r c.requires.from)) in
    let upto = c.loop-column.auto.column-end span in
    let past = c.loop-column-test.false in
    let here : c.loop-column.column ≡ c.index_before-last.result = omega arith in
    on_ok c.insert-2.result _ _
    (λ added. IsAdding-end l c.args.index s (group_of c.args.self.now) (group_of c.loop-column.self) (group_of c.insert-2.new.self) corner c.loop-column.column rect r c.requires.from c.loop-column.invariant.walk
    (here ∙ c.index_before-last.ensures) refl
    (λ other. added other ∙ ap (λ (more : List KeptFragment). group_of c.loop-column.self other ++ more)
    (as_added c.index_before-last.result c.loop-column.column c.args.index s rect (fragment_of g.I.OverlayInt.whole c.between-part-2.result) other (sym here) c.between-part-2.ensures)))
    c.insert-2.ensures.added
