use Rattle.std.proofs.Common.{sym, ap, subst, ◌∙◌, Vec, Global, List, ℕ, length}
use Rattle.std.specs.Prelude.{IsPermutation}
use Rattle.std.specs.List.{range_with_len}
use Rattle.overlay_grid.specs.steps.SortKeys.{IsPicked}
use Rattle.overlay_grid.proofs.laws.grid.GroupSorts.{picked_permutes, places_within}
use Rattle.overlay_grid.proofs.split.group_sort.sort_by_keys.Goals as goal

pub pick-requires : goal.pick-requires
pick-requires g c =
    let listed = c.in_ok-list_keys.ensures ∙ ap (λ (group : List _). range_with_len 0 (length group)) c.deref.ensures.value in
    let all = places_within (length c.args.group.now.items) c.list_keys.new.keys.items c.sort.new.self.items listed c.sort.ensures.permutation in
    record {
      places = rw (c.as_slice.ensures.value, c.deref-2.ensures.value) all;
    }

pub returns : goal.returns
returns g c =
    let listed = c.in_ok-list_keys.ensures ∙ ap (λ (group : List _). range_with_len 0 (length group)) c.deref.ensures.value in
    let picked = subst (λ (keys : List ℕ). IsPicked c.args.group.now.items keys c.pick.new.row.items) c.as_slice.ensures.value
    (subst (λ (group : List _). IsPicked group c.as_slice.result.now c.pick.new.row.items) c.deref-2.ensures.value c.in_ok-pick.ensures) in
    let permuted = picked_permutes c.args.group.now.items c.list_keys.new.keys.items c.sort.new.self.items c.pick.new.row.items listed c.sort.ensures.permutation picked in
    record {
      permutation = subst (λ (v : Vec _ Global). IsPermutation c.args.group.now.items v.items) (sym c.swap.ensures.x_after) permuted;
      row = c.swap.ensures.y_after;
    }
