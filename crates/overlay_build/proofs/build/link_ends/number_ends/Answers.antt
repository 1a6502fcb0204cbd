use Rattle.std.proofs.Common.{◌∙◌, ap, sym, refl, arith, get_or, ◌<◌, length, map, List}
use Rattle.std.proofs.lemmas.List.{get_or_default, map-set}
use Rattle.overlay_base.specs.declared.overlay_core.link.OverlayLink.{OverlayLink}
use Rattle.overlay_build.specs.GraphOf.{with_end}
use Rattle.overlay_build.specs.declared.build.link_ends.PackedEnd.{PackedEnd}
use Rattle.overlay_build.specs.steps.EndOf.{unpacked, end_of, ends_of}
use Rattle.overlay_build.proofs.laws.graphs.NodeLists.{length-ends, run-ends, end_at, end_point_at}
use Rattle.overlay_build.proofs.laws.graphs.LinkViews.{viewed_at, viewed_within}
use Rattle.overlay_build.proofs.laws.graphs.NumberedRuns.{numbered_none, numbered_more}
use Rattle.overlay_build.proofs.laws.graphs.PackedEnds.{unpacked-once}
use Rattle.overlay_build.proofs.build.link_ends.number_ends.Goals as goal

pub loop-next-init : goal.loop-next-init
loop-next-init g c =
    numbered_none (with_end c.args.id) (ends_of c.args.ends.now) (unpacked c.args.key) c.args.end c.args.indexes.now.items (map g.L.NumberedLink.link c.args.links.now) (rw length-ends c.requires.end)

pub loop-next-preserved : goal.loop-next-preserved
loop-next-preserved g c =
    let view = g.L.NumberedLink.link in
    let given : List (OverlayLink g.row.L-Coordinate.Denot g.row.L-Data.Denot) = map view c.args.links.now in
    let seen : List (OverlayLink g.row.L-Coordinate.Denot g.row.L-Data.Denot) = map view c.loop-next.links in
    let x : PackedEnd = get_or c.args.ends.now c.loop-next.next (record { index = 0; key = 0 }) in
    let within : x.index < length c.loop-next.links = rw c.loop-next.auto.links (c.requires.within c.loop-next.next (record { index = 0; key = 0 }) c.loop-next-test.true) in
    let y : g.row.L.Denot = get_or c.loop-next.links x.index c.index-links-index.result in
    let there = viewed_within view c.loop-next.links x.index within in
    rw (c.in_ok-push.ensures.items, map-set view c.loop-next.links x.index c.number_end.new.self)
    (numbered_more (with_end c.args.id) (ends_of c.args.ends.now) (unpacked c.args.key) c.args.end c.args.indexes.now.items given (λ l. refl) c.loop-next.next c.loop-next.indexes.items seen (end_of x) (view c.number_end.new.self) c.loop-next.invariant
    (rw length-ends c.loop-next-test.true)
    (end_at c.args.ends.now c.loop-next.next x (end_of x) c.loop-next-test.true (get_or_default c.args.ends.now c.loop-next.next _ x c.loop-next-test.true))
    (ap unpacked c.if-ends-next.true) there
    (λ d. c.number_end.ensures ∙ ap (with_end c.args.id) (viewed_at view c.loop-next.links x.index y within (get_or_default c.loop-next.links x.index c.index-links-index.result y within) ∙ get_or_default seen x.index (view y) d there)))

pub returns-else-ends-next-clause-run : goal.returns-else-ends-next-clause-run
returns-else-ends-next-clause-run g c =
    run-ends (ends_of c.args.ends.now) (unpacked c.args.key) c.args.end c.loop-next.next _ _ c.loop-next.invariant.run
    (λ d h at. c.if-ends-next.false (unpacked-once _ _ (sym (end_point_at c.args.ends.now c.loop-next.next (record { index = 0; key = 0 }) d c.loop-next-test.true) ∙ at)))

pub returns-after-loop-next-clause-run : goal.returns-after-loop-next-clause-run
returns-after-loop-next-clause-run g c =
    run-ends (ends_of c.args.ends.now) _ c.args.end c.loop-next.next _ _ c.loop-next.invariant.run
    (λ d h at. let over = c.loop-next-test.false in let as_long = length-ends c.args.ends.now in omega (arith, h, over, as_long))
