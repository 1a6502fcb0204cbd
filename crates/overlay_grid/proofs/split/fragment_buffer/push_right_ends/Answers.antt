use Rattle.std.proofs.Common.{◌≡◌, ◌+◌, sym, ap, subst, ◌∙◌, ◌++◌, [], ◌∷◌, drop, map, List}
use Rattle.std.proofs.lemmas.List.{map-append}
use Rattle.overlay_grid.specs.FragmentOf.{KeptFragment, fragment_of, fragments_of}
use Rattle.overlay_grid.specs.steps.FragmentFinder.{heights_at}
use Rattle.overlay_grid.proofs.laws.grid.FoundFragments.{fragments-next, fragments-none}
use Rattle.overlay_grid.proofs.laws.grid.BorderMarks.{ends-taken, ends-passed, ends-end}
use Rattle.overlay_grid.proofs.split.fragment_buffer.push_right_ends.Goals as goal
use Rattle.overlay_grid.proofs.split.fragment_buffer.push_right_ends.Goals.{then-ends_at+in_ok-push, else-ends_at}

pub loop-index-preserved : goal.loop-index-preserved
loop-index-preserved g c =
    let whole = g.I.OverlayInt.whole in
    let x = whole c.args.x in
    let e = fragment_of whole c.index-group-index.result in
    let fs = fragments_of whole c.args.group.now in
    let here = fragments-next whole c.args.group.now c.loop-index.index c.index-group-index.result c.loop-index-test.true c.index-group-index.is in
    let rest = drop (c.loop-index.index + 1) fs in
    let now = map whole c.loop-index.right_ends.items in
    let all = map whole c.args.right_ends.now.items ++ heights_at x fs in
    let walk = subst (λ (us : List KeptFragment). now ++ heights_at x us ≡ all) here c.loop-index.invariant in
    elim c.if-ends_at.branch [
      | then-ends_at+in_ok-push w ↦
          rw w.right_ends-is (ends-taken x e rest now (map whole w.push.new.self.items) all walk (sym c.ends_at.ensures ∙ w.if-ends_at.true)
          (ap (map whole) w.in_ok-push.ensures.items ∙ map-append whole c.loop-index.right_ends.items (c.index-group-index.result.x_segment.b.y ∷ [])))
      | else-ends_at w ↦ rw w.right_ends-is (ends-passed x e rest now all walk (sym c.ends_at.ensures ∙ w.if-ends_at.false))
    ]

pub returns : goal.returns
returns g c =
    let whole = g.I.OverlayInt.whole in
    ends-end (whole c.args.x) _ (map whole c.loop-index.right_ends.items) _ c.loop-index.invariant (fragments-none whole c.args.group.now c.loop-index.index c.loop-index-test.false)
