use Rattle.std.proofs.Common.{◌<◌, ap, ap₂, subst, ◌∙◌, arith, map, List, length}
use Rattle.std.specs.Prelude.{IsPermutation, ℤ}
use Rattle.overlay_grid.specs.FragmentOf.{KeptFragment, fragments_of}
use Rattle.overlay_grid.specs.steps.FragmentFinder.{heights_at}
use Rattle.overlay_grid.proofs.laws.grid.GridAdding.{on_ok}
use Rattle.overlay_grid.proofs.laws.grid.GridGroups.{group_in-at}
use Rattle.overlay_grid.proofs.split.fragment_buffer.FragmentBuffer.list_right_ends.Goals as goal

pub returns-clause-ends : goal.returns-clause-ends
returns-clause-ends g c =
    let whole = g.I.OverlayInt.whole in
    let within : c.args.column < length c.args.self.now.groups.items = let e = c.args.self.now.columns in let r = c.requires in omega arith in
    let group = ap (fragments_of whole) c.as_slice.ensures.value ∙ group_in-at whole c.args.self.now.groups.items c.args.column c.index.result.now within c.index.ensures in
    let listed = ap₂ (λ (x : ℤ) (fs : List KeptFragment). heights_at x fs) c.border-border.ensures group in
    on_ok c.list_ends_at.result _ _ (λ ends. subst (λ (ys : List ℤ). IsPermutation ys (map whole c.list_ends_at.new.right_ends.items)) listed ends) c.list_ends_at.ensures.ends
