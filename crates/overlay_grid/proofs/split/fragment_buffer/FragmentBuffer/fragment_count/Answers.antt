use Rattle.std.proofs.Common.{◌≤◌, ◌∙◌, sym, ap₂, ℕ, length, arith, ◌-◌, ◌+◌}
use Rattle.std.specs.Prelude.{pos, ◌-ℤ◌}
use Rattle.overlay_geometry.specs.PairOf.{pair_of}
use Rattle.overlay_grid.specs.Grid.{column_index}
use Rattle.overlay_grid.specs.FragmentOf.{layout_of}
use Rattle.overlay_grid.proofs.laws.grid.GridColumns.{then_less}
use Rattle.overlay_grid.proofs.laws.grid.GridAdding.{runs_forward, vertical_from, column_before_within, first_to_last}
use Rattle.overlay_grid.proofs.laws.grid.FragmentCounts.{length-vertical, length-forward}
use Rattle.overlay_grid.proofs.split.fragment_buffer.FragmentBuffer.fragment_count.Goals as goal
use Rattle.overlay_geometry.proofs.laws.integers.Tests.{le_through}

pub returns-then-not-is_not_vertical : goal.returns-then-not-is_not_vertical
returns-then-not-is_not_vertical g c =
    length-vertical (layout_of c.args.self.now.layout) (pair_of g.I.OverlayInt.whole c.args.x_segment.now) (vertical_from (pair_of g.I.OverlayInt.whole c.args.x_segment.now) (sym c.is_not_vertical.ensures ∙ c.if-not-is_not_vertical.true))

pub index-first-requires-clause-to : goal.index-first-requires-clause-to
index-first-requires-clause-to g c = le_through _ _ _ c.requires.order c.requires.to

pub index_before-last-requires-clause-from : goal.index_before-last-requires-clause-from
index_before-last-requires-clause-from g c =
    let r = runs_forward (pair_of g.I.OverlayInt.whole c.args.x_segment.now) (sym c.is_not_vertical.ensures ∙ c.if-not-is_not_vertical.false) c.requires.order in
    then_less _ _ _ c.requires.from r.forward

pub returns : goal.returns
returns g c =
    let l = layout_of c.args.self.now.layout in
    let s = pair_of g.I.OverlayInt.whole c.args.x_segment.now in
    let r = runs_forward s (sym c.is_not_vertical.ensures ∙ c.if-not-is_not_vertical.false) c.requires.order in
    ap₂ (λ (m n : ℕ). m - n + 1) c.index_before-last.ensures c.index-first.ensures ∙ length-forward l s (sym c.is_not_vertical.ensures ∙ c.if-not-is_not_vertical.false) (first_to_last l s r c.requires.from)

pub overflow_sub-result : goal.overflow_sub-result
overflow_sub-result g c =
    let l = layout_of c.args.self.now.layout in
    let s = pair_of g.I.OverlayInt.whole c.args.x_segment.now in
    let r = runs_forward s (sym c.is_not_vertical.ensures ∙ c.if-not-is_not_vertical.false) c.requires.order in
    let span = first_to_last l s r c.requires.from in
    let first = c.index-first.ensures in
    let last = c.index_before-last.ensures in
    omega arith

pub overflow_add-result : goal.overflow_add-result
overflow_add-result g c =
    let l = layout_of c.args.self.now.layout in
    let s = pair_of g.I.OverlayInt.whole c.args.x_segment.now in
    let r = runs_forward s (sym c.is_not_vertical.ensures ∙ c.if-not-is_not_vertical.false) c.requires.order in
    let few = column_before_within l s (length c.args.self.now.groups.items) (column_index l (s.b.x -ℤ pos 1)) r c.requires.from c.requires.to c.args.self.now.columns (le-refl _) in
    let last = c.index_before-last.ensures in
    omega (arith, c.args.self.now.groups.ok, c.args.self.now.groups.small)
  where
    le-refl : (n : ℕ) → n ≤ n
    le-refl n = omega arith
