use Rattle.std.proofs.Common.{◌∙◌, ap, sym, arith, length}
use Rattle.std.specs.Prelude.{◌-◌, ◌<◌}
use Rattle.std.proofs.lemmas.Bool.{not-true}
use Rattle.std.proofs.lemmas.List.{length-map}
use Rattle.overlay_geometry.specs.PointOf.{point_of}
use Rattle.overlay_base.specs.Segments.{WholeSegment}
use Rattle.overlay_sweep.specs.EntryOf.{entry_of, entries_of}
use Rattle.overlay_sweep.proofs.laws.list.RowReads.{segment_read}
use Rattle.overlay_sweep.proofs.laws.list.ListAnswers.{row_later}
use Rattle.overlay_sweep.proofs.laws.list.Cursors.{found_cursor, cursor_row}
use Rattle.overlay_sweep.proofs.laws.list.LastingRows.{same_sums, row_left, none_found, one_found}
use Rattle.overlay_sweep.proofs.build.scan_row.ScanRowLiveSegments.sum_below.Goals as goal

pub returns-then-position-eq0-clause-sum : goal.returns-then-position-eq0-clause-sum
returns-then-position-eq0-clause-sum g c =
    none_found (g.I.OverlayInt.whole c.args.x) (entries_of c.args.self.now.entries.items) (entries_of c.settle-position.new.self.entries.items) c.settle-position.ensures.kept (point_of g.I.OverlayInt.whole c.args.p) c.requires.same_x c.requires.time.row c.requires.free c.settle-position.result (rw (length-map c.settle-position.new.self.entries.items entry_of) c.settle-position.ensures.position) (g.C.WindingCount.winding c.args.default) c.if-position-eq0.true

pub returns-then-position-eq0-clause-sums : goal.returns-then-position-eq0-clause-sums
returns-then-position-eq0-clause-sums g c = same_sums _ _ _ c.settle-position.ensures.kept

pub returns-then-position-eq0-clause-time : goal.returns-then-position-eq0-clause-time
returns-then-position-eq0-clause-time g c = λ y h.
    let x = g.I.OverlayInt.whole c.args.x in
    let kept = c.settle-position.new.self.entries.items in
    cursor_row x y (entries_of kept) _ _ _ (row_later x y _ h (row_left _ _ _ c.settle-position.ensures.kept c.requires.time.row (c.settle-position.ensures.begun _ c.requires.time.row.begun))) (λ k. (
      c.requires.same_x,
      found_cursor x (entries_of kept) _ _ (rw (length-map kept entry_of) c.settle-position.ensures.position) (rw (length-map kept entry_of) (c.starts_behind.ensures (not-true _ k))),
    ))

pub returns-then-position-eq0-clause-most : goal.returns-then-position-eq0-clause-most
returns-then-position-eq0-clause-most g c = λ n d within most. c.settle-position.ensures.most d (omega (arith, within, most))

pub returns-else-position-eq0-clause-sum : goal.returns-else-position-eq0-clause-sum
returns-else-position-eq0-clause-sum g c =
    let kept = c.settle-position.new.self.entries.items in
    let within : c.settle-position.result - 1 < length kept = omega (arith, c.settle-position.ensures.position.within, c.if-position-eq0.false) in
    ap (λ (s : WholeSegment). s.count) (sym (segment_read entry_of kept (c.settle-position.result - 1) c.index.result.now within c.index.ensures))
    ∙ one_found (g.I.OverlayInt.whole c.args.x) (entries_of c.args.self.now.entries.items) (entries_of kept) c.settle-position.ensures.kept (point_of g.I.OverlayInt.whole c.args.p) c.requires.same_x c.requires.time.row c.requires.free c.settle-position.result (rw (length-map kept entry_of) c.settle-position.ensures.position) (g.C.WindingCount.winding c.args.default) c.if-position-eq0.false

pub returns-else-position-eq0-clause-sums : goal.returns-else-position-eq0-clause-sums
returns-else-position-eq0-clause-sums g c = same_sums _ _ _ c.settle-position.ensures.kept

pub returns-else-position-eq0-clause-time : goal.returns-else-position-eq0-clause-time
returns-else-position-eq0-clause-time g c = λ y h.
    let x = g.I.OverlayInt.whole c.args.x in
    let kept = c.settle-position.new.self.entries.items in
    cursor_row x y (entries_of kept) _ _ _ (row_later x y _ h (row_left _ _ _ c.settle-position.ensures.kept c.requires.time.row (c.settle-position.ensures.begun _ c.requires.time.row.begun))) (λ k. (
      c.requires.same_x,
      found_cursor x (entries_of kept) _ _ (rw (length-map kept entry_of) c.settle-position.ensures.position) (rw (length-map kept entry_of) (c.starts_behind.ensures (not-true _ k))),
    ))

pub returns-else-position-eq0-clause-most : goal.returns-else-position-eq0-clause-most
returns-else-position-eq0-clause-most g c = λ n d within most. c.settle-position.ensures.most d (omega (arith, within, most))
