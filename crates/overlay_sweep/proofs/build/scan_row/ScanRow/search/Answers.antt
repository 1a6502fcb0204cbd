use Rattle.std.proofs.Common.{◌≡◌, ◌∙◌, ap, subst, sym, refl, arith, length}
use Rattle.std.specs.Prelude.{ℕ, ◌+◌, ◌-◌, ◌/◌, ◌<◌, ◌≤◌, ◌≤ℤ◌, All}
use Rattle.std.proofs.lemmas.List.{length-map}
use Rattle.overlay_base.specs.Segments.{WholeSegment}
use Rattle.overlay_sweep.specs.EntryOf.{entry_of, entries_of}
use Rattle.overlay_sweep.specs.steps.PlaceOf.{stands_before}
use Rattle.overlay_sweep.proofs.laws.live.ScanSums.{lasting}
use Rattle.overlay_sweep.proofs.laws.list.RowReads.{segment_read}
use Rattle.overlay_sweep.proofs.laws.list.Halves.{IsHalving, halving_within, halving_begins, halving_up, halving_down, halving_past, ended_from, halving_without, halving_ends, counting_begins, counts_one, counting_without, counting_half}
use Rattle.overlay_sweep.proofs.laws.list.LastingRows.{lasting_of, without_ended, all_without, entries_without}
use Rattle.overlay_sweep.proofs.build.scan_row.ScanRow.search.Goals as goal

pub loop-low-init : goal.loop-low-init
loop-low-init g c = record {
  halving = halving_begins _ _ (entries_of c.args.self.now.entries.items) c.args.end (rw (length-map c.args.self.now.entries.items entry_of) c.requires.end);
  counting = counting_begins _ _ _ (omega arith) c.requires.none;
  kept = refl;
  begun = λ z a. a;
  fewer = omega arith;
  some = λ a. a;
}

pub loop-low-preserved-then-is_before : goal.loop-low-preserved-then-is_before
loop-low-preserved-then-is_before g c =
    let x = g.I.OverlayInt.whole c.args.x in
    let items = c.loop-low.self.entries.items in
    let low = c.loop-low.low in
    let high = c.loop-low.high in
    let middle : ℕ = low + (high - low) / 2 in
    let s = c.loop-low.invariant in
    let above : low ≤ middle = omega arith in
    let under : middle < high = omega (arith, c.loop-low-test.true) in
    let inside : high ≤ length items = omega (arith, halving_within _ _ (entries_of items) low high s.halving, length-map items entry_of) in
    let read = segment_read entry_of items middle c.index-entry.result.now (omega (arith, under, inside)) c.index-entry.ensures in
    let lasts = ap (λ (s : WholeSegment). lasting x s) read ∙ sym c.lasts_past.ensures ∙ c.if-lasts_past.true in
    let before = ap (λ (s : WholeSegment). stands_before g.I.OverlayInt.whole c.args.place.now s.pair) read ∙ sym c.is_before.ensures.value ∙ c.if-is_before.true in record {
      halving = halving_up _ _ (entries_of items) low high s.halving middle above under lasts before;
      counting = counting_half _ _ _ s.counting (omega (arith, c.loop-low-test.true)) _ (counts_one _ _ _ s.counting (omega (arith, c.ranges.end.fits)) _ c.is_before.ensures.compared) _ (omega (arith, c.loop-low-test.true));
      kept = s.kept;
      begun = s.begun;
      fewer = s.fewer;
      some = s.some;
    }

pub loop-low-preserved-else-is_before : goal.loop-low-preserved-else-is_before
loop-low-preserved-else-is_before g c =
    let x = g.I.OverlayInt.whole c.args.x in
    let items = c.loop-low.self.entries.items in
    let low = c.loop-low.low in
    let high = c.loop-low.high in
    let middle : ℕ = low + (high - low) / 2 in
    let s = c.loop-low.invariant in
    let above : low ≤ middle = omega arith in
    let under : middle < high = omega (arith, c.loop-low-test.true) in
    let inside : high ≤ length items = omega (arith, halving_within _ _ (entries_of items) low high s.halving, length-map items entry_of) in
    let read = segment_read entry_of items middle c.index-entry.result.now (omega (arith, under, inside)) c.index-entry.ensures in
    let lasts = ap (λ (s : WholeSegment). lasting x s) read ∙ sym c.lasts_past.ensures ∙ c.if-lasts_past.true in
    let after = ap (λ (s : WholeSegment). stands_before g.I.OverlayInt.whole c.args.place.now s.pair) read ∙ sym c.is_before.ensures.value ∙ c.if-is_before.false in record {
      halving = halving_down _ _ (entries_of items) low high s.halving middle above under lasts after middle above (omega arith) (λ k a b. absurd (omega (arith, a, b)));
      counting = counting_half _ _ _ s.counting (omega (arith, c.loop-low-test.true)) _ (counts_one _ _ _ s.counting (omega (arith, c.ranges.end.fits)) _ c.is_before.ensures.compared) _ (omega (arith, c.loop-low-test.true));
      kept = s.kept;
      begun = s.begun;
      fewer = s.fewer;
      some = s.some;
    }

pub loop-low-preserved-then-behind-high : goal.loop-low-preserved-then-behind-high
loop-low-preserved-then-behind-high g c =
    let x = g.I.OverlayInt.whole c.args.x in
    let items = c.loop-low.self.entries.items in
    let low = c.loop-low.low in
    let high = c.loop-low.high in
    let middle : ℕ = low + (high - low) / 2 in
    let s = c.loop-low.invariant in
    let above : low ≤ middle = omega arith in
    let under : middle < high = omega (arith, c.loop-low-test.true) in
    let inside : high ≤ length items = omega (arith, halving_within _ _ (entries_of items) low high s.halving, length-map items entry_of) in
    let read = segment_read entry_of items middle c.index-entry.result.now (omega (arith, under, inside)) c.index-entry.ensures in
    let ended = ap (λ (s : WholeSegment). lasting x s) read ∙ sym c.lasts_past.ensures ∙ c.if-lasts_past.false in record {
      halving = halving_past _ _ (entries_of items) low high s.halving middle above under (rw c.if-behind-high.true at (ended_from _ middle _ ended c.after_one_ended-behind.ensures.ended));
      counting = counting_without _ _ _ s.counting _ (omega (arith, c.loop-low-test.true));
      kept = s.kept;
      begun = s.begun;
      fewer = s.fewer;
      some = s.some;
    }

pub loop-low-preserved-then-not-lasts_past : goal.loop-low-preserved-then-not-lasts_past
loop-low-preserved-then-not-lasts_past g c =
    let x = g.I.OverlayInt.whole c.args.x in
    let items = c.loop-low.self.entries.items in
    let low = c.loop-low.low in
    let high = c.loop-low.high in
    let middle : ℕ = low + (high - low) / 2 in
    let s = c.loop-low.invariant in
    let above : low ≤ middle = omega arith in
    let under : middle < high = omega (arith, c.loop-low-test.true) in
    let inside : high ≤ length items = omega (arith, halving_within _ _ (entries_of items) low high s.halving, length-map items entry_of) in
    let read = segment_read entry_of items middle c.index-entry.result.now (omega (arith, under, inside)) c.index-entry.ensures in
    let behind = c.after_one_ended-behind.result in
    let close : behind < high = omega (arith, c.after_one_ended-behind.ensures.within, c.if-behind-high.false) in
    let order : middle < behind = omega (arith, c.after_one_ended-behind.ensures.order) in
    let ended = ap (λ (s : WholeSegment). lasting x s) read ∙ sym c.lasts_past.ensures ∙ c.if-lasts_past.false in
    let read_next = segment_read entry_of items behind c.index-next.result.now (omega (arith, close, inside)) c.index-next.ensures in
    let new : entries_of c.remove.new.self.items ≡ _ = ap entries_of c.remove.ensures.items ∙ entries_without entry_of items behind in
    let one : length c.remove.new.self.items + 1 ≡ length items = omega (arith, c.remove.ensures.len, c.remove.new.self.ok.0, c.loop-low.self.entries.ok.0) in
    let next_ended = ap (λ (s : WholeSegment). lasting x s) read_next ∙ sym c.lasts_past-in-loop-low.ensures ∙ c.if-not-lasts_past.true in record {
      halving = subst (λ l. IsHalving (λ s. lasting x s) (λ s. stands_before g.I.OverlayInt.whole c.args.place.now s.pair) l low (high - 1)) (sym new) (halving_without _ _ (entries_of items) low high s.halving behind (omega (arith, above, order)) close);
      counting = counting_without _ _ _ s.counting _ (omega (arith, c.loop-low-test.true));
      kept = ap (lasting_of x) new ∙ without_ended x (entries_of items) behind (omega (arith, close, inside, length-map items entry_of)) next_ended ∙ s.kept;
      begun = λ z a. subst (λ l. All (λ s. s.pair.a.x ≤ℤ z) l) (sym new) (all_without (λ s. s.pair.a.x ≤ℤ z) (entries_of items) behind (s.begun z a));
      fewer = omega (arith, s.fewer, one);
      some = λ a. omega (arith, one, order, close, inside);
    }

pub loop-low-preserved-then-is_before-2 : goal.loop-low-preserved-then-is_before-2
loop-low-preserved-then-is_before-2 g c =
    let x = g.I.OverlayInt.whole c.args.x in
    let items = c.loop-low.self.entries.items in
    let low = c.loop-low.low in
    let high = c.loop-low.high in
    let middle : ℕ = low + (high - low) / 2 in
    let s = c.loop-low.invariant in
    let above : low ≤ middle = omega arith in
    let under : middle < high = omega (arith, c.loop-low-test.true) in
    let inside : high ≤ length items = omega (arith, halving_within _ _ (entries_of items) low high s.halving, length-map items entry_of) in
    let read = segment_read entry_of items middle c.index-entry.result.now (omega (arith, under, inside)) c.index-entry.ensures in
    let behind = c.after_one_ended-behind.result in
    let close : behind < high = omega (arith, c.after_one_ended-behind.ensures.within, c.if-behind-high.false) in
    let order : middle < behind = omega (arith, c.after_one_ended-behind.ensures.order) in
    let ended = ap (λ (s : WholeSegment). lasting x s) read ∙ sym c.lasts_past.ensures ∙ c.if-lasts_past.false in
    let read_next = segment_read entry_of items behind c.index-next.result.now (omega (arith, close, inside)) c.index-next.ensures in
    let next_lasts = ap (λ (s : WholeSegment). lasting x s) read_next ∙ sym c.lasts_past-in-loop-low.ensures ∙ c.if-not-lasts_past.false in
    let before = ap (λ (s : WholeSegment). stands_before g.I.OverlayInt.whole c.args.place.now s.pair) read_next ∙ sym c.is_before-in-loop-low.ensures.value ∙ c.if-is_before-2.true in record {
      halving = halving_up _ _ (entries_of items) low high s.halving behind (omega (arith, above, order)) close next_lasts before;
      counting = counting_half _ _ _ s.counting (omega (arith, c.loop-low-test.true)) _ (counts_one _ _ _ s.counting (omega (arith, c.ranges.end.fits)) _ c.is_before-in-loop-low.ensures.compared) _ (omega (arith, c.loop-low-test.true));
      kept = s.kept;
      begun = s.begun;
      fewer = s.fewer;
      some = s.some;
    }

pub loop-low-preserved : goal.loop-low-preserved
loop-low-preserved g c =
    let x = g.I.OverlayInt.whole c.args.x in
    let items = c.loop-low.self.entries.items in
    let low = c.loop-low.low in
    let high = c.loop-low.high in
    let middle : ℕ = low + (high - low) / 2 in
    let s = c.loop-low.invariant in
    let above : low ≤ middle = omega arith in
    let under : middle < high = omega (arith, c.loop-low-test.true) in
    let inside : high ≤ length items = omega (arith, halving_within _ _ (entries_of items) low high s.halving, length-map items entry_of) in
    let read = segment_read entry_of items middle c.index-entry.result.now (omega (arith, under, inside)) c.index-entry.ensures in
    let behind = c.after_one_ended-behind.result in
    let close : behind < high = omega (arith, c.after_one_ended-behind.ensures.within, c.if-behind-high.false) in
    let order : middle < behind = omega (arith, c.after_one_ended-behind.ensures.order) in
    let ended = ap (λ (s : WholeSegment). lasting x s) read ∙ sym c.lasts_past.ensures ∙ c.if-lasts_past.false in
    let read_next = segment_read entry_of items behind c.index-next.result.now (omega (arith, close, inside)) c.index-next.ensures in
    let next_lasts = ap (λ (s : WholeSegment). lasting x s) read_next ∙ sym c.lasts_past-in-loop-low.ensures ∙ c.if-not-lasts_past.false in
    let after = ap (λ (s : WholeSegment). stands_before g.I.OverlayInt.whole c.args.place.now s.pair) read_next ∙ sym c.is_before-in-loop-low.ensures.value ∙ c.if-is_before-2.false in record {
      halving = halving_down _ _ (entries_of items) low high s.halving behind (omega (arith, above, order)) close next_lasts after middle above (omega (arith, order)) (ended_from _ middle behind ended c.after_one_ended-behind.ensures.ended);
      counting = counting_half _ _ _ s.counting (omega (arith, c.loop-low-test.true)) _ (counts_one _ _ _ s.counting (omega (arith, c.ranges.end.fits)) _ c.is_before-in-loop-low.ensures.compared) _ (omega (arith, c.loop-low-test.true));
      kept = s.kept;
      begun = s.begun;
      fewer = s.fewer;
      some = s.some;
    }

pub returns-clause-position : goal.returns-clause-position
returns-clause-position g c = rw (sym (length-map c.loop-low.self.entries.items entry_of)) (halving_ends _ _ (entries_of c.loop-low.self.entries.items) _ _ c.loop-low.invariant.halving (omega (arith, c.loop-low-test.false)))

pub returns-clause-few : goal.returns-clause-few
returns-clause-few g c = c.loop-low.invariant.counting.few

pub overflow_sub-middle : goal.overflow_sub-middle
overflow_sub-middle g c = omega (arith, c.loop-low-test.true)

pub index-entry-requires : goal.index-entry-requires
index-entry-requires g c = omega (arith, c.loop-low-test.true, halving_within _ _ (entries_of c.loop-low.self.entries.items) c.loop-low.low c.loop-low.high c.loop-low.invariant.halving, length-map c.loop-low.self.entries.items entry_of)

pub loop-low-smaller-then-is_before : goal.loop-low-smaller-then-is_before
loop-low-smaller-then-is_before g c = omega (arith, c.loop-low-test.true)

pub loop-low-smaller-else-is_before : goal.loop-low-smaller-else-is_before
loop-low-smaller-else-is_before g c = omega (arith, c.loop-low-test.true)

pub after_one_ended-behind-requires-clause-order : goal.after_one_ended-behind-requires-clause-order
after_one_ended-behind-requires-clause-order g c = omega (arith, c.loop-low-test.true)

pub after_one_ended-behind-requires-clause-within : goal.after_one_ended-behind-requires-clause-within
after_one_ended-behind-requires-clause-within g c = omega (arith, halving_within _ _ (entries_of c.loop-low.self.entries.items) c.loop-low.low c.loop-low.high c.loop-low.invariant.halving, length-map c.loop-low.self.entries.items entry_of)

pub loop-low-smaller-then-behind-high : goal.loop-low-smaller-then-behind-high
loop-low-smaller-then-behind-high g c = omega (arith, c.loop-low-test.true)

pub index-next-requires : goal.index-next-requires
index-next-requires g c = omega (arith, c.after_one_ended-behind.ensures.within, c.if-behind-high.false, halving_within _ _ (entries_of c.loop-low.self.entries.items) c.loop-low.low c.loop-low.high c.loop-low.invariant.halving, length-map c.loop-low.self.entries.items entry_of)

pub remove-requires : goal.remove-requires
remove-requires g c = omega (arith, c.after_one_ended-behind.ensures.within, c.if-behind-high.false, halving_within _ _ (entries_of c.loop-low.self.entries.items) c.loop-low.low c.loop-low.high c.loop-low.invariant.halving, length-map c.loop-low.self.entries.items entry_of)

pub overflow_sub-high : goal.overflow_sub-high
overflow_sub-high g c = omega (arith, c.loop-low-test.true)

pub loop-low-smaller-then-not-lasts_past : goal.loop-low-smaller-then-not-lasts_past
loop-low-smaller-then-not-lasts_past g c = omega (arith, c.loop-low-test.true)

pub loop-low-smaller-then-is_before-2 : goal.loop-low-smaller-then-is_before-2
loop-low-smaller-then-is_before-2 g c = omega (arith, c.loop-low-test.true, c.after_one_ended-behind.ensures.order, c.after_one_ended-behind.ensures.within, c.if-behind-high.false)

pub loop-low-smaller : goal.loop-low-smaller
loop-low-smaller g c = omega (arith, c.loop-low-test.true)

pub returns-clause-kept : goal.returns-clause-kept
returns-clause-kept g c = c.loop-low.invariant.kept

pub returns-clause-begun : goal.returns-clause-begun
returns-clause-begun g c = c.loop-low.invariant.begun

pub returns-clause-fewer : goal.returns-clause-fewer
returns-clause-fewer g c = c.loop-low.invariant.fewer

pub returns-clause-some : goal.returns-clause-some
returns-clause-some g c = c.loop-low.invariant.some
