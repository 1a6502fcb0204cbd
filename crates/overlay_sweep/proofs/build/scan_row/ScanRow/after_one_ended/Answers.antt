use Rattle.std.proofs.Common.{◌≡◌, ◌∙◌, ◌<◌, ap, sym, arith, length}
use Rattle.overlay_base.specs.Segments.{WholeSegment}
use Rattle.overlay_sweep.specs.EntryOf.{entry_of}
use Rattle.overlay_sweep.proofs.laws.live.ScanSums.{lasting}
use Rattle.overlay_sweep.proofs.laws.list.RowReads.{segment_read}
use Rattle.overlay_sweep.proofs.build.scan_row.ScanRow.after_one_ended.Goals as goal

pub returns-then-not-lasts_past-clause-ended : goal.returns-then-not-lasts_past-clause-ended
returns-then-not-lasts_past-clause-ended g c = λ k a b.
    let items = c.args.self.now.entries.items in
    let inside : c.args.at < length items = omega (arith, c.if-at-end.true, c.requires.within) in
    let read = segment_read entry_of items c.args.at c.index.result.now inside c.index.ensures in
    let same : k ≡ c.args.at = omega (arith, a, b) in
    rw same (ap (λ (s : WholeSegment). lasting (g.I.OverlayInt.whole c.args.x) s) read ∙ sym c.lasts_past.ensures ∙ c.if-not-lasts_past.true)

pub index-requires : goal.index-requires
index-requires g c = omega (arith, c.if-at-end.true, c.requires.within)

pub returns-then-not-lasts_past-clause-order : goal.returns-then-not-lasts_past-clause-order
returns-then-not-lasts_past-clause-order g c = omega arith

pub returns-then-not-lasts_past-clause-within : goal.returns-then-not-lasts_past-clause-within
returns-then-not-lasts_past-clause-within g c = omega (arith, c.if-at-end.true)

pub returns-else-at-end-clause-order : goal.returns-else-at-end-clause-order
returns-else-at-end-clause-order g c = omega arith

pub returns-else-at-end-clause-within : goal.returns-else-at-end-clause-within
returns-else-at-end-clause-within g c = c.requires.order

pub returns-else-at-end-clause-ended : goal.returns-else-at-end-clause-ended
returns-else-at-end-clause-ended g c = λ k a b. absurd (omega (arith, a, b))
