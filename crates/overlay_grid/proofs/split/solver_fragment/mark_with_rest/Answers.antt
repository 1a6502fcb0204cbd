use Rattle.std.proofs.Common.{◌≡◌, ◌+◌, ◌∙◌, ◌||◌, sym, arith, take, drop}
use Rattle.std.proofs.lemmas.Grind.{elements}
use Rattle.overlay_intersections.specs.PlacingOf.{placing_of}
use Rattle.overlay_intersections.specs.MarkOf.{marks_of}
use Rattle.overlay_grid.specs.FragmentOf.{fragment_of, fragments_of}
use Rattle.overlay_grid.specs.steps.FragmentFinder.{is_rounded_at}
use Rattle.overlay_grid.proofs.laws.grid.FoundFragments.{IsScanned-end, scanned_found, scanned_all, fragments-next, fragments-none, ready_at}
use Rattle.overlay_grid.proofs.laws.grid.FoundBlocks.{block-more, raised, not_raised}
use Rattle.overlay_grid.proofs.split.solver_fragment.mark_with_rest.Goals as goal
use Rattle.overlay_grid.proofs.split.solver_fragment.mark_with_rest.Goals.{then-branch, else-branch}

pub offset_bounds-group-first : goal.offset_bounds-group-first
offset_bounds-group-first g c = omega (arith, c.requires.first)

pub bounds-group-first : goal.bounds-group-first
bounds-group-first g c = c.requires.first

pub block_end-end-requires-clause-later : goal.block_end-end-requires-clause-later
block_end-end-requires-clause-later g c = omega (arith, c.loop-later-test.true)

pub block_end-end-requires-clause-sorted : goal.block_end-end-requires-clause-sorted
block_end-end-requires-clause-sorted g c = c.requires.sorted

pub list_meeting-count-requires-clause-order : goal.list_meeting-count-requires-clause-order
list_meeting-count-requires-clause-order g c = c.block_end-end.ensures.from

pub list_meeting-count-requires-clause-within : goal.list_meeting-count-requires-clause-within
list_meeting-count-requires-clause-within g c = c.block_end-end.ensures.within

pub list_meeting-count-requires-clause-few : goal.list_meeting-count-requires-clause-few
list_meeting-count-requires-clause-few g c = c.block_end-end.ensures.few

pub overflow_sub-end : goal.overflow_sub-end
overflow_sub-end g c = c.block_end-end.ensures.from

pub overflow_sub-end-in-loop-later : goal.overflow_sub-end-in-loop-later
overflow_sub-end-in-loop-later g c = c.block_end-end.ensures.from

pub mark_found-requires-clause-radius : goal.mark_found-requires-clause-radius
mark_found-requires-clause-radius g c = c.requires.radius

pub mark_found-requires-clause-ready : goal.mark_found-requires-clause-ready
mark_found-requires-clause-ready g c = c.requires.ready

pub mark_found-requires-clause-fragment : goal.mark_found-requires-clause-fragment
mark_found-requires-clause-fragment g c =
    let whole = g.I.OverlayInt.whole in
    let first = fragments-next whole c.args.group.now c.args.first c.index-group-first.result c.requires.first c.index-group-first.is in
    ready_at (whole g.I.OverlayInt.MIN_COORD) (whole g.I.OverlayInt.MAX_COORD) (fragments_of whole c.args.group.now) c.args.first (fragment_of whole c.index-group-first.result) _ c.requires.ready first

pub loop-later-preserved : goal.loop-later-preserved
loop-later-preserved g c =
    let whole = g.I.OverlayInt.whole in
    let p = placing_of c.args.placing in
    let fs = fragments_of whole c.args.group.now in
    let f = fragment_of whole c.index-group-first.result in
    let places = take c.list_meeting-count.result c.list_meeting-count.new.found in
    let flag : c.if-branch.rounded ≡ (c.loop-later.rounded || is_rounded_at f fs places) = elim c.if-branch.branch [
      | then-branch w ↦ w.rounded-is ∙ raised c.loop-later.rounded (is_rounded_at f fs places) (sym c.in_ok-mark_found.ensures.rounded ∙ w.if-branch.true)
      | else-branch w ↦ w.rounded-is ∙ not_raised c.loop-later.rounded (is_rounded_at f fs places) (sym c.in_ok-mark_found.ensures.rounded ∙ w.if-branch.false)
    ] in
    let step = block-more p c.args.axis fs f (drop (c.args.first + 1) fs) (marks_of whole c.args.marks.now.items) (marks_of whole c.loop-later.marks.items) (marks_of whole c.mark_found.new.marks.items) c.loop-later.rounded c.if-branch.rounded c.args.looked.now c.loop-later.looked c.take_up_more.new.looked
    c.loop-later.later c.block_end-end.result places c.loop-later.invariant c.list_meeting-count.ensures.listed c.in_ok-mark_found.ensures.marks flag c.take_up_more.ensures c.block_end-end.ensures.looks in
    step

pub returns-then-end-later-lt-BLOCK-clause-marks : goal.returns-then-end-later-lt-BLOCK-clause-marks
returns-then-end-later-lt-BLOCK-clause-marks g c =
    let whole = g.I.OverlayInt.whole in
    let p = placing_of c.args.placing in
    let fs = fragments_of whole c.args.group.now in
    let f = fragment_of whole c.index-group-first.result in
    let places = take c.list_meeting-count.result c.list_meeting-count.new.found in
    let flag : c.if-branch.rounded ≡ (c.loop-later.rounded || is_rounded_at f fs places) = elim c.if-branch.branch [
      | then-branch w ↦ w.rounded-is ∙ raised c.loop-later.rounded (is_rounded_at f fs places) (sym c.in_ok-mark_found.ensures.rounded ∙ w.if-branch.true)
      | else-branch w ↦ w.rounded-is ∙ not_raised c.loop-later.rounded (is_rounded_at f fs places) (sym c.in_ok-mark_found.ensures.rounded ∙ w.if-branch.false)
    ] in
    let step = block-more p c.args.axis fs f (drop (c.args.first + 1) fs) (marks_of whole c.args.marks.now.items) (marks_of whole c.loop-later.marks.items) (marks_of whole c.mark_found.new.marks.items) c.loop-later.rounded c.if-branch.rounded c.args.looked.now c.loop-later.looked c.take_up_more.new.looked
    c.loop-later.later c.block_end-end.result places c.loop-later.invariant c.list_meeting-count.ensures.listed c.in_ok-mark_found.ensures.marks flag c.take_up_more.ensures c.block_end-end.ensures.looks in
    let first = fragments-next whole c.args.group.now c.args.first c.index-group-first.result c.requires.first c.index-group-first.is in
    let past = c.block_end-end.ensures.past (let from = c.block_end-end.ensures.from in let few = c.if-end-later-lt-BLOCK.true in omega arith) in
    (scanned_found p c.args.axis (drop c.args.first fs) f _ _ _ c.if-branch.rounded _ c.take_up_more.new.looked first (IsScanned-end p c.args.axis f _ _ _ c.if-branch.rounded _ c.take_up_more.new.looked _ step past)).0

pub returns-then-end-later-lt-BLOCK-clause-rounded : goal.returns-then-end-later-lt-BLOCK-clause-rounded
returns-then-end-later-lt-BLOCK-clause-rounded g c =
    let whole = g.I.OverlayInt.whole in
    let p = placing_of c.args.placing in
    let fs = fragments_of whole c.args.group.now in
    let f = fragment_of whole c.index-group-first.result in
    let places = take c.list_meeting-count.result c.list_meeting-count.new.found in
    let flag : c.if-branch.rounded ≡ (c.loop-later.rounded || is_rounded_at f fs places) = elim c.if-branch.branch [
      | then-branch w ↦ w.rounded-is ∙ raised c.loop-later.rounded (is_rounded_at f fs places) (sym c.in_ok-mark_found.ensures.rounded ∙ w.if-branch.true)
      | else-branch w ↦ w.rounded-is ∙ not_raised c.loop-later.rounded (is_rounded_at f fs places) (sym c.in_ok-mark_found.ensures.rounded ∙ w.if-branch.false)
    ] in
    let step = block-more p c.args.axis fs f (drop (c.args.first + 1) fs) (marks_of whole c.args.marks.now.items) (marks_of whole c.loop-later.marks.items) (marks_of whole c.mark_found.new.marks.items) c.loop-later.rounded c.if-branch.rounded c.args.looked.now c.loop-later.looked c.take_up_more.new.looked
    c.loop-later.later c.block_end-end.result places c.loop-later.invariant c.list_meeting-count.ensures.listed c.in_ok-mark_found.ensures.marks flag c.take_up_more.ensures c.block_end-end.ensures.looks in
    let first = fragments-next whole c.args.group.now c.args.first c.index-group-first.result c.requires.first c.index-group-first.is in
    let past = c.block_end-end.ensures.past (let from = c.block_end-end.ensures.from in let few = c.if-end-later-lt-BLOCK.true in omega arith) in
    (scanned_found p c.args.axis (drop c.args.first fs) f _ _ _ c.if-branch.rounded _ c.take_up_more.new.looked first (IsScanned-end p c.args.axis f _ _ _ c.if-branch.rounded _ c.take_up_more.new.looked _ step past)).1

pub returns-then-end-later-lt-BLOCK-clause-looked : goal.returns-then-end-later-lt-BLOCK-clause-looked
returns-then-end-later-lt-BLOCK-clause-looked g c =
    let whole = g.I.OverlayInt.whole in
    let p = placing_of c.args.placing in
    let fs = fragments_of whole c.args.group.now in
    let f = fragment_of whole c.index-group-first.result in
    let places = take c.list_meeting-count.result c.list_meeting-count.new.found in
    let flag : c.if-branch.rounded ≡ (c.loop-later.rounded || is_rounded_at f fs places) = elim c.if-branch.branch [
      | then-branch w ↦ w.rounded-is ∙ raised c.loop-later.rounded (is_rounded_at f fs places) (sym c.in_ok-mark_found.ensures.rounded ∙ w.if-branch.true)
      | else-branch w ↦ w.rounded-is ∙ not_raised c.loop-later.rounded (is_rounded_at f fs places) (sym c.in_ok-mark_found.ensures.rounded ∙ w.if-branch.false)
    ] in
    let step = block-more p c.args.axis fs f (drop (c.args.first + 1) fs) (marks_of whole c.args.marks.now.items) (marks_of whole c.loop-later.marks.items) (marks_of whole c.mark_found.new.marks.items) c.loop-later.rounded c.if-branch.rounded c.args.looked.now c.loop-later.looked c.take_up_more.new.looked
    c.loop-later.later c.block_end-end.result places c.loop-later.invariant c.list_meeting-count.ensures.listed c.in_ok-mark_found.ensures.marks flag c.take_up_more.ensures c.block_end-end.ensures.looks in
    let first = fragments-next whole c.args.group.now c.args.first c.index-group-first.result c.requires.first c.index-group-first.is in
    let past = c.block_end-end.ensures.past (let from = c.block_end-end.ensures.from in let few = c.if-end-later-lt-BLOCK.true in omega arith) in
    (scanned_found p c.args.axis (drop c.args.first fs) f _ _ _ c.if-branch.rounded _ c.take_up_more.new.looked first (IsScanned-end p c.args.axis f _ _ _ c.if-branch.rounded _ c.take_up_more.new.looked _ step past)).2

pub returns-clause-marks : goal.returns-clause-marks
returns-clause-marks g c =
    let whole = g.I.OverlayInt.whole in
    let fs = fragments_of whole c.args.group.now in
    let first = fragments-next whole c.args.group.now c.args.first c.index-group-first.result c.requires.first c.index-group-first.is in
    let none = fragments-none whole c.args.group.now c.loop-later.later c.loop-later-test.false in
    (scanned_all (placing_of c.args.placing) c.args.axis (drop c.args.first fs) (fragment_of whole c.index-group-first.result) _ _ _ c.loop-later.rounded _ c.loop-later.looked _ first c.loop-later.invariant none).0

pub returns-clause-rounded : goal.returns-clause-rounded
returns-clause-rounded g c =
    let whole = g.I.OverlayInt.whole in
    let fs = fragments_of whole c.args.group.now in
    let first = fragments-next whole c.args.group.now c.args.first c.index-group-first.result c.requires.first c.index-group-first.is in
    let none = fragments-none whole c.args.group.now c.loop-later.later c.loop-later-test.false in
    (scanned_all (placing_of c.args.placing) c.args.axis (drop c.args.first fs) (fragment_of whole c.index-group-first.result) _ _ _ c.loop-later.rounded _ c.loop-later.looked _ first c.loop-later.invariant none).1

pub returns-clause-looked : goal.returns-clause-looked
returns-clause-looked g c =
    let whole = g.I.OverlayInt.whole in
    let fs = fragments_of whole c.args.group.now in
    let first = fragments-next whole c.args.group.now c.args.first c.index-group-first.result c.requires.first c.index-group-first.is in
    let none = fragments-none whole c.args.group.now c.loop-later.later c.loop-later-test.false in
    (scanned_all (placing_of c.args.placing) c.args.axis (drop c.args.first fs) (fragment_of whole c.index-group-first.result) _ _ _ c.loop-later.rounded _ c.loop-later.looked _ first c.loop-later.invariant none).2

pub mark_found-requires-clause-places : goal.mark_found-requires-clause-places
mark_found-requires-clause-places g c = grind (arith, elements)
