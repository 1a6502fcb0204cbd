use Rattle.std.proofs.Common.{◌∙◌, ◌≤◌, ◌<◌, ◌+◌, ap, sym, refl, arith, inl, inr, length}
use Rattle.std.specs.Prelude.{◌-◌, not}
use Rattle.std.specs.Ordering.{is_lt}
use Rattle.std.proofs.lemmas.Bool.{not-true, not-false}
use Rattle.std.proofs.lemmas.List.{length-map}
use Rattle.overlay_base.specs.Segments.{WholeSegment}
use Rattle.overlay_geometry.specs.Below.{under_segment_order}
use Rattle.overlay_geometry.specs.Points.{point_eq}
use Rattle.overlay_geometry.proofs.laws.geometry.Points.{same_by_eq}
use Rattle.overlay_sweep.specs.EntryOf.{entry_of, entries_of}
use Rattle.overlay_sweep.proofs.laws.live.StartPoints.{point_eq_is}
use Rattle.overlay_sweep.proofs.laws.list.RowReads.{segment_read}
use Rattle.overlay_sweep.proofs.laws.visits.LookCosts.{search_pays}
use Rattle.overlay_sweep.proofs.laws.list.Cursors.{by_cursor, cursor_at, next_at_last, below_lasts, few_most}
use Rattle.overlay_sweep.proofs.build.scan_row.ScanRow.settle_segment.Goals as goal

pub returns-then-at-eq0-clause-position : goal.returns-then-at-eq0-clause-position
returns-then-at-eq0-clause-position g c =
    let whole = g.I.OverlayInt.whole in
    let x = whole c.args.x in
    let items = c.args.self.now.entries.items in
    let e = entry_of c.args.entry.now in
    let test = point_eq_is g.I.PartialEq.eq g.I.Ord.cmp whole g.met.I.Ord.matches_eq g.met.I.OverlayInt.ordered c.args.self.now.point c.args.entry.now.segment.a in
    let here = sym test ∙ not-false _ (sym c.ne.ensures ∙ c.if-ne.false) in
    let cursor = cursor_at x (entries_of items) _ _ e.pair.a _ c.requires.time c.if-not-self.false here c.requires.start in
    rw (sym (length-map items entry_of)) (by_cursor x (entries_of items) c.requires.time.row.begun e c.requires.start c.requires.wide c.requires.free _ cursor (inl c.if-at-eq0.true))

pub returns-then-at-eq0-clause-cursor : goal.returns-then-at-eq0-clause-cursor
returns-then-at-eq0-clause-cursor g c = λ k.
    let whole = g.I.OverlayInt.whole in
    let x = whole c.args.x in
    let items = c.args.self.now.entries.items in
    let e = entry_of c.args.entry.now in
    let test = point_eq_is g.I.PartialEq.eq g.I.Ord.cmp whole g.met.I.Ord.matches_eq g.met.I.OverlayInt.ordered c.args.self.now.point c.args.entry.now.segment.a in
    let here = sym test ∙ not-false _ (sym c.ne.ensures ∙ c.if-ne.false) in
    let cursor = cursor_at x (entries_of items) _ _ e.pair.a _ c.requires.time c.if-not-self.false here c.requires.start in
    (same_by_eq _ _ here, rw (sym (length-map items entry_of)) cursor)

pub index-requires : goal.index-requires
index-requires g c =
    let whole = g.I.OverlayInt.whole in
    let x = whole c.args.x in
    let items = c.args.self.now.entries.items in
    let e = entry_of c.args.entry.now in
    let test = point_eq_is g.I.PartialEq.eq g.I.Ord.cmp whole g.met.I.Ord.matches_eq g.met.I.OverlayInt.ordered c.args.self.now.point c.args.entry.now.segment.a in
    let here = sym test ∙ not-false _ (sym c.ne.ensures ∙ c.if-ne.false) in
    let cursor = cursor_at x (entries_of items) _ _ e.pair.a _ c.requires.time c.if-not-self.false here c.requires.start in
    let inside : c.args.self.now.cursor - 1 < length items = omega (arith, cursor.within, length-map items entry_of, c.if-at-eq0.false) in
    omega (arith, inside, c.args.self.now.entries.ok.0)

pub returns-then-ne-2-clause-position : goal.returns-then-ne-2-clause-position
returns-then-ne-2-clause-position g c =
    let whole = g.I.OverlayInt.whole in
    let x = whole c.args.x in
    let items = c.args.self.now.entries.items in
    let e = entry_of c.args.entry.now in
    let test = point_eq_is g.I.PartialEq.eq g.I.Ord.cmp whole g.met.I.Ord.matches_eq g.met.I.OverlayInt.ordered c.args.self.now.point c.args.entry.now.segment.a in
    let here = sym test ∙ not-false _ (sym c.ne.ensures ∙ c.if-ne.false) in
    let cursor = cursor_at x (entries_of items) _ _ e.pair.a _ c.requires.time c.if-not-self.false here c.requires.start in
    let inside : c.args.self.now.cursor - 1 < length items = omega (arith, cursor.within, length-map items entry_of, c.if-at-eq0.false) in
    let read = segment_read entry_of items _ c.index.result.now inside c.index.ensures in
    let other = point_eq_is g.I.PartialEq.eq g.I.Ord.cmp whole g.met.I.Ord.matches_eq g.met.I.OverlayInt.ordered c.index.result.now.segment.a c.args.entry.now.segment.a in
    let apart = ap (λ (s : WholeSegment). point_eq s.pair.a e.pair.a) read ∙ sym other ∙ not-true _ (sym c.ne-2.ensures ∙ c.if-ne-2.true) in
    rw (sym (length-map items entry_of)) (by_cursor x (entries_of items) c.requires.time.row.begun e c.requires.start c.requires.wide c.requires.free _ cursor (inr (inl apart)))

pub returns-then-ne-2-clause-cursor : goal.returns-then-ne-2-clause-cursor
returns-then-ne-2-clause-cursor g c = λ k.
    let whole = g.I.OverlayInt.whole in
    let x = whole c.args.x in
    let items = c.args.self.now.entries.items in
    let e = entry_of c.args.entry.now in
    let test = point_eq_is g.I.PartialEq.eq g.I.Ord.cmp whole g.met.I.Ord.matches_eq g.met.I.OverlayInt.ordered c.args.self.now.point c.args.entry.now.segment.a in
    let here = sym test ∙ not-false _ (sym c.ne.ensures ∙ c.if-ne.false) in
    let cursor = cursor_at x (entries_of items) _ _ e.pair.a _ c.requires.time c.if-not-self.false here c.requires.start in
    (same_by_eq _ _ here, rw (sym (length-map items entry_of)) cursor)

pub returns-then-is_before-clause-position : goal.returns-then-is_before-clause-position
returns-then-is_before-clause-position g c =
    let whole = g.I.OverlayInt.whole in
    let x = whole c.args.x in
    let items = c.args.self.now.entries.items in
    let e = entry_of c.args.entry.now in
    let test = point_eq_is g.I.PartialEq.eq g.I.Ord.cmp whole g.met.I.Ord.matches_eq g.met.I.OverlayInt.ordered c.args.self.now.point c.args.entry.now.segment.a in
    let here = sym test ∙ not-false _ (sym c.ne.ensures ∙ c.if-ne.false) in
    let cursor = cursor_at x (entries_of items) _ _ e.pair.a _ c.requires.time c.if-not-self.false here c.requires.start in
    let inside : c.args.self.now.cursor - 1 < length items = omega (arith, cursor.within, length-map items entry_of, c.if-at-eq0.false) in
    let read = segment_read entry_of items _ c.index.result.now inside c.index.ensures in
    let before = ap (λ (s : WholeSegment). not (is_lt (under_segment_order e.pair s.pair))) read ∙ sym c.is_before.ensures.value ∙ c.if-is_before.true in
    rw (sym (length-map items entry_of)) (by_cursor x (entries_of items) c.requires.time.row.begun e c.requires.start c.requires.wide c.requires.free _ cursor (inr (inr before)))

pub returns-then-is_before-clause-most : goal.returns-then-is_before-clause-most
returns-then-is_before-clause-most g c = λ d h.
    let whole = g.I.OverlayInt.whole in
    let x = whole c.args.x in
    let items = c.args.self.now.entries.items in
    let e = entry_of c.args.entry.now in
    let test = point_eq_is g.I.PartialEq.eq g.I.Ord.cmp whole g.met.I.Ord.matches_eq g.met.I.OverlayInt.ordered c.args.self.now.point c.args.entry.now.segment.a in
    let here = sym test ∙ not-false _ (sym c.ne.ensures ∙ c.if-ne.false) in
    let cursor = cursor_at x (entries_of items) _ _ e.pair.a _ c.requires.time c.if-not-self.false here c.requires.start in
    let inside : c.args.self.now.cursor - 1 < length items = omega (arith, cursor.within, length-map items entry_of, c.if-at-eq0.false) in
    let one : c.is_before.new.compared ≤ 1 = omega (arith, c.is_before.ensures.compared) in
    let room : (c.args.self.now.cursor - 1) + c.is_before.new.compared ≤ length items = omega (arith, inside, one) in
    search_pays _ _ _ d (omega (arith, few_most 0 _ _ c.is_before.new.compared d (inl refl) room one h)) (omega arith)

pub returns-then-is_before-clause-cursor : goal.returns-then-is_before-clause-cursor
returns-then-is_before-clause-cursor g c = λ k.
    let whole = g.I.OverlayInt.whole in
    let x = whole c.args.x in
    let items = c.args.self.now.entries.items in
    let e = entry_of c.args.entry.now in
    let test = point_eq_is g.I.PartialEq.eq g.I.Ord.cmp whole g.met.I.Ord.matches_eq g.met.I.OverlayInt.ordered c.args.self.now.point c.args.entry.now.segment.a in
    let here = sym test ∙ not-false _ (sym c.ne.ensures ∙ c.if-ne.false) in
    let cursor = cursor_at x (entries_of items) _ _ e.pair.a _ c.requires.time c.if-not-self.false here c.requires.start in
    (same_by_eq _ _ here, rw (sym (length-map items entry_of)) cursor)

pub settle-requires-2-clause-end : goal.settle-requires-2-clause-end
settle-requires-2-clause-end g c =
    let whole = g.I.OverlayInt.whole in
    let x = whole c.args.x in
    let items = c.args.self.now.entries.items in
    let e = entry_of c.args.entry.now in
    let test = point_eq_is g.I.PartialEq.eq g.I.Ord.cmp whole g.met.I.Ord.matches_eq g.met.I.OverlayInt.ordered c.args.self.now.point c.args.entry.now.segment.a in
    let here = sym test ∙ not-false _ (sym c.ne.ensures ∙ c.if-ne.false) in
    let cursor = cursor_at x (entries_of items) _ _ e.pair.a _ c.requires.time c.if-not-self.false here c.requires.start in
    let inside : c.args.self.now.cursor - 1 < length items = omega (arith, cursor.within, length-map items entry_of, c.if-at-eq0.false) in
    let read = segment_read entry_of items _ c.index.result.now inside c.index.ensures in
    let before = ap (λ (s : WholeSegment). not (is_lt (under_segment_order e.pair s.pair))) read ∙ sym c.is_before.ensures.value ∙ c.if-is_before.false in
    rw (sym (length-map items entry_of)) (next_at_last _ _ _ _ cursor.within c.if-at-eq0.false (below_lasts _ _ _ _ cursor c.if-at-eq0.false) before)

pub settle-requires-2-clause-room : goal.settle-requires-2-clause-room
settle-requires-2-clause-room g c =
    let whole = g.I.OverlayInt.whole in
    let x = whole c.args.x in
    let items = c.args.self.now.entries.items in
    let e = entry_of c.args.entry.now in
    let test = point_eq_is g.I.PartialEq.eq g.I.Ord.cmp whole g.met.I.Ord.matches_eq g.met.I.OverlayInt.ordered c.args.self.now.point c.args.entry.now.segment.a in
    let here = sym test ∙ not-false _ (sym c.ne.ensures ∙ c.if-ne.false) in
    let cursor = cursor_at x (entries_of items) _ _ e.pair.a _ c.requires.time c.if-not-self.false here c.requires.start in
    let inside : c.args.self.now.cursor - 1 < length items = omega (arith, cursor.within, length-map items entry_of, c.if-at-eq0.false) in
    omega (arith, inside, c.is_before.ensures.compared)
