use Rattle.std.proofs.Common.{◌≡◌, ◌<◌, ◌≤◌, sym, ap, subst, ◌∙◌, ℕ, length, refl}
use Rattle.overlay_grid.specs.Grid.{group_count, Layout}
use Rattle.overlay_grid.specs.GroupsOf.{group_of}
use Rattle.overlay_grid.proofs.laws.grid.GridGroups.{AreSorted-start, AreSorted-more, permuted-more, all_sorted}
use Rattle.overlay_grid.proofs.split.fragment_buffer.FragmentBuffer.sort_along.Goals as goal

pub loop-column-init : goal.loop-column-init
loop-column-init g c = record { layout = refl; sorted = AreSorted-start c.args.axis (group_of c.args.self.now) }

pub loop-column-preserved : goal.loop-column-preserved
loop-column-preserved g c =
    let same : length c.args.self.now.groups.items ≡ length c.loop-column.self.groups.items = c.args.self.now.columns ∙ ap (λ (l : Layout). group_count l) (sym c.loop-column.invariant.layout) ∙ sym c.loop-column.self.columns in
    let here = subst (λ (n : ℕ). c.loop-column.column < n) (c.len-column-end.ensures ∙ c.args.self.now.groups.ok.0 ∙ same) c.loop-column-test.true in
    record {
      layout = c.loop-column.invariant.layout;
      sorted = AreSorted-more g.I.OverlayInt.whole c.args.axis (group_of c.args.self.now) c.loop-column.self.groups.items c.loop-column.column c.index_mut.result.now c.sort_group.new.group c.loop-column.invariant.sorted here
          c.index_mut.ensures.value c.sort_group.ensures.permutation c.in_ok-sort_group.ensures.sorted;
    }

pub returns-in_err-sort_group-clause-permutation : goal.returns-in_err-sort_group-clause-permutation
returns-in_err-sort_group-clause-permutation g c =
    let same : length c.args.self.now.groups.items ≡ length c.loop-column.self.groups.items = c.args.self.now.columns ∙ ap (λ (l : Layout). group_count l) (sym c.loop-column.invariant.layout) ∙ sym c.loop-column.self.columns in
    let here = subst (λ (n : ℕ). c.loop-column.column < n) (c.len-column-end.ensures ∙ c.args.self.now.groups.ok.0 ∙ same) c.loop-column-test.true in
    permuted-more g.I.OverlayInt.whole c.args.axis (group_of c.args.self.now) c.loop-column.self.groups.items c.loop-column.column c.index_mut.result.now c.sort_group.new.group c.loop-column.invariant.sorted.permutation here
    c.index_mut.ensures.value c.sort_group.ensures.permutation

pub returns : goal.returns
returns g c =
    let same : length c.args.self.now.groups.items ≡ length c.loop-column.self.groups.items = c.args.self.now.columns ∙ ap (λ (l : Layout). group_count l) (sym c.loop-column.invariant.layout) ∙ sym c.loop-column.self.columns in
    let passed = subst (λ (n : ℕ). n ≤ c.loop-column.column) (c.len-column-end.ensures ∙ c.args.self.now.groups.ok.0 ∙ same) c.loop-column-test.false in
    record {
      layout = c.loop-column.invariant.layout;
      permutation = c.loop-column.invariant.sorted.permutation;
      sorted = all_sorted g.I.OverlayInt.whole c.args.axis (group_of c.args.self.now) c.loop-column.self.groups.items c.loop-column.column c.loop-column.invariant.sorted passed;
    }
