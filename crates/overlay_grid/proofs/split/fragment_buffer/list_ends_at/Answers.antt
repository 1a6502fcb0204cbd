use Rattle.std.proofs.Common.{ap, subst, ◌∙◌, ◌++◌, map, List}
use Rattle.std.specs.Prelude.{IsPermutation, ℤ}
use Rattle.overlay_grid.specs.FragmentOf.{fragments_of}
use Rattle.overlay_grid.specs.steps.FragmentFinder.{heights_at}
use Rattle.std.proofs.lemmas.List.Sorted.{IsPermutation-map}
use Rattle.overlay_grid.proofs.split.fragment_buffer.list_ends_at.Goals as goal

pub returns-clause-ends : goal.returns-clause-ends
returns-clause-ends g c =
    let whole = g.I.OverlayInt.whole in
    let listed = c.in_ok-push_right_ends.ensures ∙ ap (λ (ys : List _). map whole ys ++ heights_at (whole c.args.x) (fragments_of whole c.args.group.now)) c.clear.ensures.items in
    subst (λ (ys : List ℤ). IsPermutation ys (map whole c.sort_unstable.new.self.items)) listed (IsPermutation-map whole _ _ c.sort_unstable.ensures.permutation)
