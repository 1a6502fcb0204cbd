use Rattle.std.proofs.Common.{◌∙◌, ap, sym, refl, arith, length, ◌+◌, ◌<◌}
use Rattle.std.specs.Prelude.{◌/◌}
use Rattle.overlay_base.specs.Segments.{WholeSegment}
use Rattle.overlay_sweep.specs.EntryOf.{entry_of}
use Rattle.overlay_sweep.specs.steps.PlaceOf.{stands_before}
use Rattle.overlay_sweep.proofs.laws.list.RowReads.{segment_read}
use Rattle.overlay_upstream.proofs.laws.list.Searches.{search_begins, counts_on, goes_up, stays_down, ends_above, ends_below, ends_asked}
use Rattle.overlay_upstream.proofs.build.scan_list.ScanList.position.Goals as goal
use Rattle.overlay_upstream.proofs.build.scan_list.ScanList.position.Goals.{then-is_before, else-is_before}

pub loop-size-init : goal.loop-size-init
loop-size-init g c = search_begins _ (length c.args.self.now.entries.items) _ _ (omega (arith, c.if-size-eq0.false)) (c.len-size.ensures ∙ c.args.self.now.entries.ok.0) c.requires.none

pub loop-size-preserved : goal.loop-size-preserved
loop-size-preserved g c =
    let s = c.loop-size.invariant in
    let within : c.loop-size.base + c.loop-size.size / 2 < length c.args.self.now.entries.items = omega (arith, s.within, c.loop-size-test.true) in
    let read = ap (λ (s : WholeSegment). stands_before g.I.OverlayInt.whole c.args.place.now s.pair) (segment_read entry_of c.args.self.now.entries.items _ c.index.result.now within c.index.ensures) in
    let counted = counts_on _ _ _ _ _ s (omega arith) _ c.is_before.ensures.compared in
    elim c.if-is_before.branch [
      | then-is_before w ↦ rw w.base-is (goes_up _ _ _ _ _ s c.loop-size-test.true _ refl _ counted (read ∙ sym c.is_before.ensures.value ∙ w.if-is_before.true))
      | else-is_before w ↦ rw w.base-is (stays_down _ _ _ _ _ s c.loop-size-test.true _ refl _ counted (read ∙ sym c.is_before.ensures.value ∙ w.if-is_before.false))
    ]

pub returns-then-is_before-2-clause-position : goal.returns-then-is_before-2-clause-position
returns-then-is_before-2-clause-position g c =
    let s = c.loop-size.invariant in
    let within : c.loop-size.base < length c.args.self.now.entries.items = omega (arith, s.within, s.some) in
    let read = ap (λ (s : WholeSegment). stands_before g.I.OverlayInt.whole c.args.place.now s.pair) (segment_read entry_of c.args.self.now.entries.items _ c.index-2.result.now within c.index-2.ensures) in
    ends_above _ _ _ _ _ s c.loop-size-test.false (read ∙ sym c.is_before-2.ensures.value ∙ c.if-is_before-2.true)

pub returns-then-is_before-2-clause-compared : goal.returns-then-is_before-2-clause-compared
returns-then-is_before-2-clause-compared g c = ends_asked _ _ _ _ _ c.loop-size.invariant c.loop-size-test.false _ (counts_on _ _ _ _ _ c.loop-size.invariant (omega arith) _ c.is_before-2.ensures.compared)

pub returns-else-is_before-2-clause-position : goal.returns-else-is_before-2-clause-position
returns-else-is_before-2-clause-position g c =
    let s = c.loop-size.invariant in
    let within : c.loop-size.base < length c.args.self.now.entries.items = omega (arith, s.within, s.some) in
    let read = ap (λ (s : WholeSegment). stands_before g.I.OverlayInt.whole c.args.place.now s.pair) (segment_read entry_of c.args.self.now.entries.items _ c.index-2.result.now within c.index-2.ensures) in
    ends_below _ _ _ _ _ s c.loop-size-test.false (read ∙ sym c.is_before-2.ensures.value ∙ c.if-is_before-2.false)

pub returns-else-is_before-2-clause-compared : goal.returns-else-is_before-2-clause-compared
returns-else-is_before-2-clause-compared g c = ends_asked _ _ _ _ _ c.loop-size.invariant c.loop-size-test.false _ (counts_on _ _ _ _ _ c.loop-size.invariant (omega arith) _ c.is_before-2.ensures.compared)
