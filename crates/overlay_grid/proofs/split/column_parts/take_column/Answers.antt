use Rattle.std.proofs.Common.{◌≡◌, ◌+◌, ◌++◌, ◌∙◌, arith, ap, drop}
use Rattle.overlay_geometry.specs.PairOf.{pair_of}
use Rattle.overlay_geometry.specs.Points.{Pair}
use Rattle.overlay_geometry.proofs.laws.geometry.Coordinates.{ends_in_range}
use Rattle.overlay_geometry.proofs.laws.geometry.Points.{ordered_x}
use Rattle.overlay_base.specs.SegmentOf.{ends_of, pairs_in}
use Rattle.overlay_base.proofs.laws.geometry.Apart.{pairs-next}
use Rattle.overlay_grid.specs.Grid.{IsInside, column_index}
use Rattle.overlay_grid.specs.FragmentOf.{fragments_of, kept_in, layout_of}
use Rattle.overlay_grid.specs.steps.Entering.{entering_in, rest_of, rests_of}
use Rattle.overlay_grid.proofs.laws.grid.ColumnEnds.{begun_at}
use Rattle.overlay_grid.proofs.laws.grid.GridSweeps.{segments_fit, rests-next, rests-none, rest_at, part_of_rest, part_at_start, taken_from_start, taken_from_more, taken_start, taken_more, first_in, taken_all}
use Rattle.overlay_grid.proofs.split.column_parts.take_column.Goals as goal

pub loop-place-init : goal.loop-place-init
loop-place-init g c =
    let whole = g.I.OverlayInt.whole in
    let l = layout_of c.args.layout.now in
    let ss = pairs_in c.args.segments.now in
    rw (c.requires.rests, ap (fragments_of whole) (c.in_ok-reserve.ensures.items ∙ c.clear.ensures.items), ap (rests_of whole) c.clear-2.ensures.items) (taken_from_start l ss c.args.from c.args.column c.requires.parted)

pub take_part-requires-clause-in_range : goal.take_part-requires-clause-in_range
take_part-requires-clause-in_range g c =
    let whole = g.I.OverlayInt.whole in
    let l = layout_of c.args.layout.now in
    let next = rests-next whole c.args.rests.now c.loop-place.place c.index-rests-place.result c.loop-place-test.true c.index-rests-place.is in
    let at = rest_at _ _ l (pairs_in c.args.segments.now) c.args.column (rests_of whole c.args.rests.now) c.loop-place.place (rest_of whole c.index-rests-place.result) (segments_fit c.args.segments.now l c.requires.in_range c.requires.inside) c.requires.rests next in
    ends_in_range whole g.I.OverlayInt.MIN_COORD g.I.OverlayInt.MAX_COORD c.index-rests-place.result.x_segment at.0.in_range

pub take_part-requires-clause-order : goal.take_part-requires-clause-order
take_part-requires-clause-order g c =
    let whole = g.I.OverlayInt.whole in
    let l = layout_of c.args.layout.now in
    let next = rests-next whole c.args.rests.now c.loop-place.place c.index-rests-place.result c.loop-place-test.true c.index-rests-place.is in
    let at = rest_at _ _ l (pairs_in c.args.segments.now) c.args.column (rests_of whole c.args.rests.now) c.loop-place.place (rest_of whole c.index-rests-place.result) (segments_fit c.args.segments.now l c.requires.in_range c.requires.inside) c.requires.rests next in
    at.0.order

pub take_part-requires-clause-inside : goal.take_part-requires-clause-inside
take_part-requires-clause-inside g c =
    let whole = g.I.OverlayInt.whole in
    let l = layout_of c.args.layout.now in
    let next = rests-next whole c.args.rests.now c.loop-place.place c.index-rests-place.result c.loop-place-test.true c.index-rests-place.is in
    let at = rest_at _ _ l (pairs_in c.args.segments.now) c.args.column (rests_of whole c.args.rests.now) c.loop-place.place (rest_of whole c.index-rests-place.result) (segments_fit c.args.segments.now l c.requires.in_range c.requires.inside) c.requires.rests next in
    at.0.inside

pub take_part-requires-clause-place : goal.take_part-requires-clause-place
take_part-requires-clause-place g c =
    let whole = g.I.OverlayInt.whole in
    let l = layout_of c.args.layout.now in
    let next = rests-next whole c.args.rests.now c.loop-place.place c.index-rests-place.result c.loop-place-test.true c.index-rests-place.is in
    let at = rest_at _ _ l (pairs_in c.args.segments.now) c.args.column (rests_of whole c.args.rests.now) c.loop-place.place (rest_of whole c.index-rests-place.result) (segments_fit c.args.segments.now l c.requires.in_range c.requires.inside) c.requires.rests next in
    part_of_rest l c.args.column (rest_of whole c.index-rests-place.result) at.1

pub loop-place-preserved : goal.loop-place-preserved
loop-place-preserved g c =
    let whole = g.I.OverlayInt.whole in
    let l = layout_of c.args.layout.now in
    let next = rests-next whole c.args.rests.now c.loop-place.place c.index-rests-place.result c.loop-place-test.true c.index-rests-place.is in
    taken_from_more l (pairs_in c.args.segments.now) c.args.from c.args.column (rest_of whole c.index-rests-place.result) (drop (c.loop-place.place + 1) (rests_of whole c.args.rests.now)) (drop c.loop-place.place (rests_of whole c.args.rests.now))
    (fragments_of whole c.loop-place.parts.group.items) _ (rests_of whole c.loop-place.parts.rests.items) _ c.loop-place.invariant next c.in_ok-take_part.ensures.group c.in_ok-take_part.ensures.rests

pub loop-index-init : goal.loop-index-init
loop-index-init g c =
    let whole = g.I.OverlayInt.whole in
    let l = layout_of c.args.layout.now in
    taken_start l (pairs_in c.args.segments.now) c.args.from c.args.column (drop c.loop-place.place (rests_of whole c.args.rests.now)) _ _ c.requires.parted c.loop-place.invariant (rests-none whole c.args.rests.now c.loop-place.place c.loop-place-test.false)

pub take_part-requires-in-loop-index-clause-in_range : goal.take_part-requires-in-loop-index-clause-in_range
take_part-requires-in-loop-index-clause-in_range g c =
    rw (c.x_segment.ensures, c.index-segments-index.is) (c.requires.in_range c.loop-index.index c.index-segments-index.result (omega (arith, c.loop-index-test.true, c.column_end-until.ensures.bound)))

pub take_part-requires-in-loop-index-clause-order : goal.take_part-requires-in-loop-index-clause-order
take_part-requires-in-loop-index-clause-order g c =
    rw c.x_segment.ensures (ordered_x (ends_of c.index-segments-index.result) c.index-segments-index.result.ordered)

pub take_part-requires-in-loop-index-clause-inside : goal.take_part-requires-in-loop-index-clause-inside
take_part-requires-in-loop-index-clause-inside g c =
    rw (c.x_segment.ensures, c.index-segments-index.is) (c.requires.inside c.loop-index.index c.index-segments-index.result (omega (arith, c.loop-index-test.true, c.column_end-until.ensures.bound)))

pub take_part-requires-in-loop-index-clause-place : goal.take_part-requires-in-loop-index-clause-place
take_part-requires-in-loop-index-clause-place g c =
    let l = layout_of c.args.layout.now in
    let s = ends_of c.index-segments-index.result in
    let inside : IsInside l s = rw c.index-segments-index.is (c.requires.inside c.loop-index.index c.index-segments-index.result (omega (arith, c.loop-index-test.true, c.column_end-until.ensures.bound))) in
    let next = pairs-next c.args.segments.now c.loop-index.index c.index-segments-index.result (omega (arith, c.loop-index-test.true, c.column_end-until.ensures.bound)) c.index-segments-index.is in
    let from = first_in l (pairs_in c.args.segments.now) c.loop-index.index c.args.column s _ _ _ c.loop-index.invariant next in
    let up = begun_at l (pairs_in c.args.segments.now) c.column_end-until.result c.loop-index.index c.args.column s _ c.column_end-until.ensures.parted c.loop-index-test.true next in
    let here : column_index l s.a.x ≡ c.args.column = omega (arith, from, up) in
    rw c.x_segment.ensures (part_at_start l s c.args.column (ordered_x s c.index-segments-index.result.ordered) inside.from here)

pub loop-index-preserved : goal.loop-index-preserved
loop-index-preserved g c =
    let whole = g.I.OverlayInt.whole in
    let l = layout_of c.args.layout.now in
    let s = ends_of c.index-segments-index.result in
    let next = pairs-next c.args.segments.now c.loop-index.index c.index-segments-index.result (omega (arith, c.loop-index-test.true, c.column_end-until.ensures.bound)) c.index-segments-index.is in
    let up = begun_at l (pairs_in c.args.segments.now) c.column_end-until.result c.loop-index.index c.args.column s _ c.column_end-until.ensures.parted c.loop-index-test.true next in
    let here : pair_of whole c.x_segment.result ≡ s = ap (pair_of whole) c.x_segment.ensures in
    taken_more l (pairs_in c.args.segments.now) c.loop-index.index c.args.column s (fragments_of whole c.loop-index.parts.group.items) _ (rests_of whole c.loop-index.parts.rests.items) _ c.loop-index.invariant next up
    (c.in_ok-take_part-2.ensures.group ∙ ap (λ (t : Pair). fragments_of whole c.loop-index.parts.group.items ++ kept_in l c.loop-index.index t c.args.column) here)
    (c.in_ok-take_part-2.ensures.rests ∙ ap (λ (t : Pair). rests_of whole c.loop-index.parts.rests.items ++ entering_in l c.loop-index.index t (c.args.column + 1)) here)

pub returns-clause-group : goal.returns-clause-group
returns-clause-group g c = (taken_all (layout_of c.args.layout.now) (pairs_in c.args.segments.now) c.loop-index.index c.column_end-until.result c.args.column _ _ c.loop-index.invariant c.column_end-until.ensures.parted c.loop-index-test.false).0

pub returns-clause-rests : goal.returns-clause-rests
returns-clause-rests g c = (taken_all (layout_of c.args.layout.now) (pairs_in c.args.segments.now) c.loop-index.index c.column_end-until.result c.args.column _ _ c.loop-index.invariant c.column_end-until.ensures.parted c.loop-index-test.false).1
