use Rattle.std.proofs.Common.{◌∙◌, ap, sym, arith, inl, inr}
use Rattle.std.specs.Prelude.{not}
use Rattle.std.specs.Ordering.{is_lt}
use Rattle.std.proofs.lemmas.Bool.{not-true, not-false}
use Rattle.overlay_base.specs.Segments.{WholeSegment}
use Rattle.overlay_geometry.specs.Below.{under_segment_order}
use Rattle.overlay_geometry.specs.Points.{point_eq}
use Rattle.overlay_geometry.proofs.laws.geometry.Points.{same_by_eq}
use Rattle.overlay_sweep.specs.EntryOf.{entry_of}
use Rattle.overlay_sweep.specs.LiveOf.{rows_in}
use Rattle.overlay_sweep.specs.LiveRows.{joined, index_in}
use Rattle.overlay_sweep.proofs.laws.live.StartPoints.{point_eq_is}
use Rattle.overlay_sweep.proofs.laws.list.Cursors.{by_cursor, cursor_at}
use Rattle.overlay_sweep.proofs.laws.list.Rows.{index_most}
use Rattle.overlay_sweep.proofs.build.scan_rows.ScanRows.fits_cursor.Goals as goal

pub returns-in-None-clause-place : goal.returns-in-None-clause-place
returns-in-None-clause-place g c = λ x fits time starts.
    let whole = g.I.OverlayInt.whole in
    let rows = rows_in c.args.self.now.entries in
    let e = entry_of c.args.entry.now in
    let at = index_in rows c.args.self.now.cursor.row c.args.self.now.cursor.at in
    let test = point_eq_is g.I.PartialEq.eq g.I.Ord.cmp whole g.met.I.Ord.matches_eq g.met.I.OverlayInt.ordered c.args.self.now.point c.args.entry.now.segment.a in
    let here = sym test ∙ not-false _ (sym c.ne.ensures ∙ c.if-ne.false) in
    let cursor = cursor_at x (joined rows) _ _ e.pair.a _ time.whole c.if-not-self.false here starts in
    (same_by_eq _ _ here, cursor)

pub returns-in-None-clause-position : goal.returns-in-None-clause-position
returns-in-None-clause-position g c = λ x fits time starts wide free.
    let whole = g.I.OverlayInt.whole in
    let rows = rows_in c.args.self.now.entries in
    let e = entry_of c.args.entry.now in
    let at = index_in rows c.args.self.now.cursor.row c.args.self.now.cursor.at in
    let test = point_eq_is g.I.PartialEq.eq g.I.Ord.cmp whole g.met.I.Ord.matches_eq g.met.I.OverlayInt.ordered c.args.self.now.point c.args.entry.now.segment.a in
    let here = sym test ∙ not-false _ (sym c.ne.ensures ∙ c.if-ne.false) in
    let cursor = cursor_at x (joined rows) _ _ e.pair.a _ time.whole c.if-not-self.false here starts in
    by_cursor x (joined rows) time.whole.row.begun e starts wide free at cursor (inl c.in-None.ensures.first)

pub returns-then-ne-2-clause-place : goal.returns-then-ne-2-clause-place
returns-then-ne-2-clause-place g c = λ x fits time starts.
    let whole = g.I.OverlayInt.whole in
    let rows = rows_in c.args.self.now.entries in
    let e = entry_of c.args.entry.now in
    let at = index_in rows c.args.self.now.cursor.row c.args.self.now.cursor.at in
    let test = point_eq_is g.I.PartialEq.eq g.I.Ord.cmp whole g.met.I.Ord.matches_eq g.met.I.OverlayInt.ordered c.args.self.now.point c.args.entry.now.segment.a in
    let here = sym test ∙ not-false _ (sym c.ne.ensures ∙ c.if-ne.false) in
    let cursor = cursor_at x (joined rows) _ _ e.pair.a _ time.whole c.if-not-self.false here starts in
    (same_by_eq _ _ here, cursor)

pub returns-then-ne-2-clause-position : goal.returns-then-ne-2-clause-position
returns-then-ne-2-clause-position g c = λ x fits time starts wide free.
    let whole = g.I.OverlayInt.whole in
    let rows = rows_in c.args.self.now.entries in
    let e = entry_of c.args.entry.now in
    let at = index_in rows c.args.self.now.cursor.row c.args.self.now.cursor.at in
    let test = point_eq_is g.I.PartialEq.eq g.I.Ord.cmp whole g.met.I.Ord.matches_eq g.met.I.OverlayInt.ordered c.args.self.now.point c.args.entry.now.segment.a in
    let here = sym test ∙ not-false _ (sym c.ne.ensures ∙ c.if-ne.false) in
    let cursor = cursor_at x (joined rows) _ _ e.pair.a _ time.whole c.if-not-self.false here starts in
    let other = point_eq_is g.I.PartialEq.eq g.I.Ord.cmp whole g.met.I.Ord.matches_eq g.met.I.OverlayInt.ordered c.in-Some.below.segment.a c.args.entry.now.segment.a in
    let apart = ap (λ (s : WholeSegment). point_eq s.pair.a e.pair.a) c.in-Some.ensures.entry ∙ sym other ∙ not-true _ (sym c.ne-in-Some.ensures ∙ c.if-ne-2.true) in
    by_cursor x (joined rows) time.whole.row.begun e starts wide free at cursor (inr (inl apart))

pub returns-else-ne-2-clause-place : goal.returns-else-ne-2-clause-place
returns-else-ne-2-clause-place g c = λ x fits time starts.
    let whole = g.I.OverlayInt.whole in
    let rows = rows_in c.args.self.now.entries in
    let e = entry_of c.args.entry.now in
    let at = index_in rows c.args.self.now.cursor.row c.args.self.now.cursor.at in
    let test = point_eq_is g.I.PartialEq.eq g.I.Ord.cmp whole g.met.I.Ord.matches_eq g.met.I.OverlayInt.ordered c.args.self.now.point c.args.entry.now.segment.a in
    let here = sym test ∙ not-false _ (sym c.ne.ensures ∙ c.if-ne.false) in
    let cursor = cursor_at x (joined rows) _ _ e.pair.a _ time.whole c.if-not-self.false here starts in
    (same_by_eq _ _ here, cursor)

pub returns-else-ne-2-clause-position : goal.returns-else-ne-2-clause-position
returns-else-ne-2-clause-position g c = λ x fits time starts wide free.
    let whole = g.I.OverlayInt.whole in
    let rows = rows_in c.args.self.now.entries in
    let e = entry_of c.args.entry.now in
    let at = index_in rows c.args.self.now.cursor.row c.args.self.now.cursor.at in
    let test = point_eq_is g.I.PartialEq.eq g.I.Ord.cmp whole g.met.I.Ord.matches_eq g.met.I.OverlayInt.ordered c.args.self.now.point c.args.entry.now.segment.a in
    let here = sym test ∙ not-false _ (sym c.ne.ensures ∙ c.if-ne.false) in
    let cursor = cursor_at x (joined rows) _ _ e.pair.a _ time.whole c.if-not-self.false here starts in
    let before = ap (λ (s : WholeSegment). not (is_lt (under_segment_order e.pair s.pair))) c.in-Some.ensures.entry ∙ sym c.is_before.ensures.value ∙ fits in
    by_cursor x (joined rows) time.whole.row.begun e starts wide free at cursor (inr (inr before))

pub returns-else-ne-2-clause-some : goal.returns-else-ne-2-clause-some
returns-else-ne-2-clause-some g c =
    let rows = rows_in c.args.self.now.entries in
    let most = index_most rows c.args.self.now.cursor.row c.args.self.now.cursor.at c.requires.index in
    inr (omega (arith, most, c.in-Some.ensures.further))
