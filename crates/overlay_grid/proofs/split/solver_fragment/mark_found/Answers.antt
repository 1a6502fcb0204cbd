use Rattle.std.proofs.Common.{arith, ◌≡◌, ◌+◌, ◌<◌, ◌∙◌, ◌++◌, ◌||◌, sym, ap, take, length, get_or, ℕ, List, [], ◌∷◌, append_assoc, Bool}
use Rattle.std.proofs.lemmas.List.{take_more}
use Rattle.overlay_intersections.specs.PlacingOf.{placing_of}
use Rattle.overlay_intersections.specs.MarkOf.{Mark, marks_of}
use Rattle.overlay_grid.specs.FragmentOf.{KeptFragment, fragment_of, fragments_of}
use Rattle.overlay_grid.specs.steps.FragmentFinder.{marks_of_two, marks_with_places, is_rounded_at, meet_inexactly}
use Rattle.overlay_grid.proofs.laws.grid.FoundFragments.{fragments-next, ready_at, ready_range, ready_apart}
use Rattle.overlay_grid.proofs.laws.grid.FoundBlocks.{with_one_more, rounded_one_more, placed, at_each, raised, not_raised}
use Rattle.overlay_grid.proofs.split.solver_fragment.mark_found.Goals as goal
use Rattle.overlay_grid.proofs.split.solver_fragment.mark_found.Goals.{then-branch, else-branch}

pub bounds-found-index : goal.bounds-found-index
bounds-found-index g c = c.loop-index-test.true

pub offset_bounds-group-found : goal.offset_bounds-group-found
offset_bounds-group-found g c =
    let lt = at_each (λ j. j < length c.args.group.now) c.args.found.now c.loop-index.index 0 c.loop-index-test.true c.requires.places in
    omega (arith, lt)

pub bounds-group-found : goal.bounds-group-found
bounds-group-found g c = at_each (λ j. j < length c.args.group.now) c.args.found.now c.loop-index.index 0 c.loop-index-test.true c.requires.places

pub mark_two-requires-clause-radius : goal.mark_two-requires-clause-radius
mark_two-requires-clause-radius g c = c.requires.radius

pub loop-index-smaller : goal.loop-index-smaller
loop-index-smaller g c = omega (arith, c.loop-index-test.true)

pub mark_two-requires-clause-fragment : goal.mark_two-requires-clause-fragment
mark_two-requires-clause-fragment g c = ready_range g.I.OverlayInt.whole g.I.OverlayInt.MIN_COORD g.I.OverlayInt.MAX_COORD c.args.fragment.now c.requires.fragment

pub mark_two-requires-clause-other : goal.mark_two-requires-clause-other
mark_two-requires-clause-other g c =
    let whole = g.I.OverlayInt.whole in
    let place = get_or c.args.found.now c.loop-index.index 0 in
    let lt : place < length c.args.group.now = at_each (λ j. j < length c.args.group.now) c.args.found.now c.loop-index.index 0 c.loop-index-test.true c.requires.places in
    let here = fragments-next whole c.args.group.now place c.index-group-found.result lt c.index-group-found.is in
    ready_range whole g.I.OverlayInt.MIN_COORD g.I.OverlayInt.MAX_COORD c.index-group-found.result (ready_at (whole g.I.OverlayInt.MIN_COORD) (whole g.I.OverlayInt.MAX_COORD) (fragments_of whole c.args.group.now) place (fragment_of whole c.index-group-found.result) _ c.requires.ready here)

pub mark_two-requires-clause-fragment_apart : goal.mark_two-requires-clause-fragment_apart
mark_two-requires-clause-fragment_apart g c = ready_apart (g.I.OverlayInt.whole g.I.OverlayInt.MIN_COORD) (g.I.OverlayInt.whole g.I.OverlayInt.MAX_COORD) (fragment_of g.I.OverlayInt.whole c.args.fragment.now) c.requires.fragment

pub mark_two-requires-clause-other_apart : goal.mark_two-requires-clause-other_apart
mark_two-requires-clause-other_apart g c =
    let whole = g.I.OverlayInt.whole in
    let place = get_or c.args.found.now c.loop-index.index 0 in
    let lt : place < length c.args.group.now = at_each (λ j. j < length c.args.group.now) c.args.found.now c.loop-index.index 0 c.loop-index-test.true c.requires.places in
    let here = fragments-next whole c.args.group.now place c.index-group-found.result lt c.index-group-found.is in
    ready_apart (whole g.I.OverlayInt.MIN_COORD) (whole g.I.OverlayInt.MAX_COORD) (fragment_of whole c.index-group-found.result) (ready_at (whole g.I.OverlayInt.MIN_COORD) (whole g.I.OverlayInt.MAX_COORD) (fragments_of whole c.args.group.now) place (fragment_of whole c.index-group-found.result) _ c.requires.ready here)

pub loop-index-preserved : goal.loop-index-preserved
loop-index-preserved g c =
    let whole = g.I.OverlayInt.whole in
    let p = placing_of c.args.placing in
    let fs = fragments_of whole c.args.group.now in
    let f = fragment_of whole c.args.fragment.now in
    let o = fragment_of whole c.index-group-found.result in
    let place = get_or c.args.found.now c.loop-index.index 0 in
    let before = take c.loop-index.index c.args.found.now in
    let lt : place < length c.args.group.now = at_each (λ j. j < length c.args.group.now) c.args.found.now c.loop-index.index 0 c.loop-index-test.true c.requires.places in
    let at = placed whole c.args.group.now place c.index-group-found.result f lt c.index-group-found.is in
    let next : take (c.loop-index.index + 1) c.args.found.now ≡ before ++ place ∷ [] = take_more c.args.found.now c.loop-index.index 0 c.loop-index-test.true in
    let marks : marks_with_places p f fs (take (c.loop-index.index + 1) c.args.found.now) ≡ marks_with_places p f fs before ++ marks_of_two p f o =
    ap (λ (places : List ℕ). marks_with_places p f fs places) next ∙ with_one_more p f fs before place ∙ ap (λ (u : KeptFragment). marks_with_places p f fs before ++ marks_of_two p f u) at in
    let total : is_rounded_at f fs (take (c.loop-index.index + 1) c.args.found.now) ≡ (is_rounded_at f fs before || meet_inexactly f o) =
    ap (λ (places : List ℕ). is_rounded_at f fs places) next ∙ rounded_one_more f fs before place ∙ ap (λ (u : KeptFragment). is_rounded_at f fs before || meet_inexactly f u) at in
    let so_far : (c.loop-index.rounded || meet_inexactly f o) ≡ is_rounded_at f fs (take (c.loop-index.index + 1) c.args.found.now) = ap (λ (b : Bool). b || meet_inexactly f o) c.loop-index.invariant.rounded ∙ sym total in
    record {
      marks = c.in_ok-mark_two.ensures.marks ∙ ap (λ (ms : List Mark). ms ++ marks_of_two p f o) c.loop-index.invariant.marks
          ∙ append_assoc (marks_of whole c.args.marks.now.items) (marks_with_places p f fs before) (marks_of_two p f o) ∙ ap (λ (ms : List Mark). marks_of whole c.args.marks.now.items ++ ms) (sym marks);
      rounded = elim c.if-branch.branch [
        | then-branch w ↦ w.rounded-is ∙ raised c.loop-index.rounded (meet_inexactly f o) (sym c.in_ok-mark_two.ensures.rounded ∙ w.if-branch.true) ∙ so_far
        | else-branch w ↦ w.rounded-is ∙ not_raised c.loop-index.rounded (meet_inexactly f o) (sym c.in_ok-mark_two.ensures.rounded ∙ w.if-branch.false) ∙ so_far
      ];
    }
