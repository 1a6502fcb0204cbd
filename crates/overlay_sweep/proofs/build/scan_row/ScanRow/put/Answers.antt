use Rattle.std.proofs.Common.{◌∙◌, ◌<◌, ap, sym, arith, inr, length}
use Rattle.overlay_base.specs.Segments.{WholeSegment}
use Rattle.overlay_sweep.specs.EntryOf.{entry_of}
use Rattle.overlay_sweep.proofs.laws.live.ScanSums.{lasting}
use Rattle.overlay_sweep.proofs.laws.list.RowReads.{segment_read}
use Rattle.overlay_sweep.proofs.laws.list.LastingRows.{set_in}
use Rattle.overlay_sweep.proofs.build.scan_row.ScanRow.put.Goals as goal

pub returns-then-not-lasts_past-clause-put : goal.returns-then-not-lasts_past-clause-put
returns-then-not-lasts_past-clause-put g c =
    let items = c.args.self.now.entries.items in
    let inside : c.args.at < length items = omega (arith, c.if-at-len.true, c.len.ensures, c.args.self.now.entries.ok.0) in
    let read = segment_read entry_of items c.args.at c.index.result.now inside c.index.ensures in
    inr (inside, ap (λ (s : WholeSegment). lasting (g.I.OverlayInt.whole c.args.x) s) read ∙ sym c.lasts_past.ensures ∙ c.if-not-lasts_past.true, set_in items c.args.at c.args.entry inside)
