use Rattle.std.proofs.Common.{◌+◌, sym, subst, ◌∙◌, drop, true, false, List}
use Rattle.overlay_intersections.specs.PlacingOf.{placing_of}
use Rattle.overlay_intersections.specs.MarkOf.{marks_of}
use Rattle.overlay_grid.specs.FragmentOf.{KeptFragment, fragments_of}
use Rattle.overlay_intersections.proofs.laws.marks.FoundMarks.{or_true, or_false}
use Rattle.overlay_grid.proofs.laws.grid.FoundFragments.{IsSearched, IsSearched-more, IsSearched-end, found_scanned, fragments-some, fragments-none}
use Rattle.overlay_grid.proofs.split.solver_fragment.mark_group.Goals as goal
use Rattle.overlay_grid.proofs.split.solver_fragment.mark_group.Goals.{then-branch, else-branch}

pub loop-first-preserved : goal.loop-first-preserved
loop-first-preserved g c =
    let fs = fragments_of g.I.OverlayInt.whole c.args.group.now in
    let (f, here) = fragments-some g.I.OverlayInt.whole c.args.group.now c.loop-first.first c.loop-first-test.true in
    let left = drop (c.loop-first.first + 1) fs in
    let old = marks_of g.I.OverlayInt.whole c.args.marks.now.items in
    let now = marks_of g.I.OverlayInt.whole c.loop-first.marks.items in
    let next = marks_of g.I.OverlayInt.whole c.mark_with_rest.new.marks.items in
    let walk = subst (λ (us : List KeptFragment). IsSearched (placing_of c.args.placing) c.args.axis fs old now c.loop-first.rounded c.args.looked.now c.loop-first.looked us) here c.loop-first.invariant in
    elim c.if-branch.branch [
      | then-branch w ↦
          let crosses = sym w.if-branch.true ∙ c.in_ok-mark_with_rest.ensures.rounded in
          let s = found_scanned (placing_of c.args.placing) c.args.axis (drop c.loop-first.first fs) f left now next true c.loop-first.looked c.mark_with_rest.new.looked here c.in_ok-mark_with_rest.ensures.marks crosses c.in_ok-mark_with_rest.ensures.looked in
          rw w.rounded-is (IsSearched-more (placing_of c.args.placing) c.args.axis f fs old now next c.loop-first.rounded true true c.args.looked.now c.loop-first.looked c.mark_with_rest.new.looked left walk s (or_true c.loop-first.rounded))
      | else-branch w ↦
          let exact = sym w.if-branch.false ∙ c.in_ok-mark_with_rest.ensures.rounded in
          let s = found_scanned (placing_of c.args.placing) c.args.axis (drop c.loop-first.first fs) f left now next false c.loop-first.looked c.mark_with_rest.new.looked here c.in_ok-mark_with_rest.ensures.marks exact c.in_ok-mark_with_rest.ensures.looked in
          rw w.rounded-is (IsSearched-more (placing_of c.args.placing) c.args.axis f fs old now next c.loop-first.rounded c.loop-first.rounded false c.args.looked.now c.loop-first.looked c.mark_with_rest.new.looked left walk s (or_false c.loop-first.rounded))
    ]

pub returns : goal.returns
returns g c =
    let end = IsSearched-end (placing_of c.args.placing) c.args.axis (fragments_of g.I.OverlayInt.whole c.args.group.now) _ _ c.loop-first.rounded c.args.looked.now c.loop-first.looked _ c.loop-first.invariant (fragments-none g.I.OverlayInt.whole c.args.group.now c.loop-first.first c.loop-first-test.false) in
    record { marks = end.0; rounded = end.1; looked = end.2 }
