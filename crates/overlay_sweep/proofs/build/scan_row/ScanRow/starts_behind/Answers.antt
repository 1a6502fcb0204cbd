use Rattle.std.proofs.Common.{◌∙◌, ◌<◌, ap, sym, arith, length}
use Rattle.overlay_base.specs.Segments.{WholeSegment}
use Rattle.overlay_geometry.specs.Points.{point_eq}
use Rattle.overlay_geometry.specs.PointOf.{point_of}
use Rattle.overlay_sweep.specs.EntryOf.{entry_of}
use Rattle.overlay_sweep.proofs.laws.live.ScanSums.{lasting}
use Rattle.overlay_sweep.proofs.laws.live.StartPoints.{point_eq_is}
use Rattle.overlay_sweep.proofs.laws.list.RowReads.{segment_read}
use Rattle.overlay_sweep.proofs.laws.list.Cursors.{ended_more, next_elsewhere, none_elsewhere}
use Rattle.overlay_sweep.proofs.build.scan_row.ScanRow.starts_behind.Goals as goal

pub loop-at-preserved : goal.loop-at-preserved
loop-at-preserved g c =
    let items = c.args.self.now.entries.items in
    let inside : c.loop-at.at < length items = omega (arith, c.loop-at-test.true, c.len-at-end.ensures, c.args.self.now.entries.ok.0) in
    let read = segment_read entry_of items c.loop-at.at c.index.result.now inside c.index.ensures in
    ended_more _ _ _ c.loop-at.invariant (ap (λ (s : WholeSegment). lasting (g.I.OverlayInt.whole c.args.x) s) read ∙ sym c.lasts_past.ensures ∙ c.if-lasts_past.false)

pub returns-then-lasts_past : goal.returns-then-lasts_past
returns-then-lasts_past g c = λ other.
    let items = c.args.self.now.entries.items in
    let inside : c.loop-at.at < length items = omega (arith, c.loop-at-test.true, c.len-at-end.ensures, c.args.self.now.entries.ok.0) in
    let read = segment_read entry_of items c.loop-at.at c.index.result.now inside c.index.ensures in
    let test = point_eq_is g.I.PartialEq.eq g.I.Ord.cmp g.I.OverlayInt.whole g.met.I.Ord.matches_eq g.met.I.OverlayInt.ordered c.index.result.now.segment.a c.args.p in
    next_elsewhere _ _ _ _ _ c.loop-at.invariant (omega arith)
    (ap (λ (s : WholeSegment). lasting (g.I.OverlayInt.whole c.args.x) s) read ∙ sym c.lasts_past.ensures ∙ c.if-lasts_past.true)
    (ap (λ (s : WholeSegment). point_eq s.pair.a (point_of g.I.OverlayInt.whole c.args.p)) read ∙ sym test ∙ sym c.eq.ensures ∙ other)

pub returns : goal.returns
returns g c = λ other. none_elsewhere _ _ _ _ _ c.loop-at.invariant (omega (arith, c.loop-at-test.false, c.len-at-end.ensures, c.args.self.now.entries.ok.0))
