use Rattle.std.proofs.Common.{◌≡◌, ◌<◌, ◌≤◌, sym, subst, ◌∙◌, ℕ, length}
use Rattle.std.proofs.lemmas.List.{length-set}
use Rattle.overlay_grid.proofs.laws.grid.GridGroups.{emptied_more, all_emptied}
use Rattle.overlay_grid.proofs.split.fragment_memory.clear_groups.Goals as goal

pub loop-column-preserved : goal.loop-column-preserved
loop-column-preserved g c =
    let same : length c.args.groups.now.items ≡ length c.loop-column.groups.items = sym c.loop-column.invariant.count in
    let here = subst (λ (n : ℕ). c.loop-column.column < n) (c.len-column-end.ensures ∙ c.args.groups.now.ok.0 ∙ same) c.loop-column-test.true in
    record {
      count = length-set c.loop-column.groups.items c.loop-column.column c.clear.new.self ∙ c.loop-column.invariant.count;
      emptied = emptied_more g.I.OverlayInt.whole c.loop-column.groups.items c.loop-column.column c.clear.new.self here c.clear.ensures.items c.loop-column.invariant.emptied;
    }

pub returns : goal.returns
returns g c =
    let same : length c.args.groups.now.items ≡ length c.loop-column.groups.items = sym c.loop-column.invariant.count in
    let passed = subst (λ (n : ℕ). n ≤ c.loop-column.column) (c.len-column-end.ensures ∙ c.args.groups.now.ok.0 ∙ same) c.loop-column-test.false in
    record { count = c.loop-column.invariant.count; empty = all_emptied g.I.OverlayInt.whole c.loop-column.groups.items c.loop-column.column passed c.loop-column.invariant.emptied }
