use Rattle.std.proofs.Common.{◌+◌, ◌<◌, arith, sym, subst, drop, length, map, List}
use Rattle.std.specs.Prelude.{ℤ, ◌<ℤ◌}
use Rattle.overlay_intersections.specs.MarkOf.{marks_of}
use Rattle.overlay_grid.specs.FragmentOf.{fragment_of}
use Rattle.overlay_grid.proofs.laws.grid.FoundFragments.{at_most_one_more}
use Rattle.overlay_grid.proofs.laws.grid.BorderMarks.{AreHeightsSeen, mapped-next, low_skipped, high_none, heights-start, heights-more, heights-end}
use Rattle.overlay_grid.proofs.split.border_contacts.mark_heights.Goals as goal

pub loop-place-init : goal.loop-place-init
loop-place-init g c =
    let whole = g.I.OverlayInt.whole in
    let f = fragment_of whole c.args.vertical.now in
    heights-start f (map whole c.args.heights.now) (marks_of whole c.args.marks.now.items) c.args.looked.now (drop c.count_up_to-start.result (map whole c.args.heights.now))
    (low_skipped whole f c.args.heights.now c.count_up_to-start.result c.count_up_to-start.ensures.parted.0)

pub loop-place-preserved : goal.loop-place-preserved
loop-place-preserved g c =
    let whole = g.I.OverlayInt.whole in
    let f = fragment_of whole c.args.vertical.now in
    let hs = c.args.heights.now in
    let y = c.index-heights-place.result in
    let within : c.loop-place.place < length hs = let end = c.count_below-end.ensures.within in let t = c.loop-place-test.true in omega arith in
    let here = mapped-next whole hs c.loop-place.place y within c.index-heights-place.is in
    let low = subst (λ (u : _). f.pair.a.y <ℤ whole u) (sym c.index-heights-place.is) (c.count_up_to-start.ensures.parted.1 c.loop-place.place y c.loop-place.auto.place within) in
    let high = subst (λ (u : _). whole u <ℤ f.pair.b.y) (sym c.index-heights-place.is) (c.count_below-end.ensures.parted.0 c.loop-place.place y (omega arith) c.loop-place-test.true) in
    let walk = subst (λ (ys : List ℤ). AreHeightsSeen f (map whole hs) (marks_of whole c.args.marks.now.items) (marks_of whole c.loop-place.marks.items) c.args.looked.now c.loop-place.looked ys) here c.loop-place.invariant in
    heights-more f (whole y) (map whole hs) (marks_of whole c.args.marks.now.items) (marks_of whole c.loop-place.marks.items) (marks_of whole c.mark.new.marks.items) c.args.looked.now c.loop-place.looked c.take_up.new.looked (drop (c.loop-place.place + 1) (map whole hs))
    walk low high c.in_ok-mark.ensures (at_most_one_more _ _ _ c.take_up.ensures)

pub returns : goal.returns
returns g c =
    let whole = g.I.OverlayInt.whole in
    let f = fragment_of whole c.args.vertical.now in
    let end = heights-end f (map whole c.args.heights.now) _ _ c.args.looked.now c.loop-place.looked _ c.loop-place.invariant (high_none whole f c.args.heights.now c.count_below-end.result c.loop-place.place c.count_below-end.ensures.parted.1 c.loop-place-test.false) in
    record { marks = end.0; looked = end.1 }
