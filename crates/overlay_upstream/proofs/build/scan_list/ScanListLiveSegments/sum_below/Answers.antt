use Rattle.std.proofs.Common.{◌∙◌, ap, sym, arith, ◌<◌, length}
use Rattle.std.specs.Prelude.{◌-◌, int_lt}
use Rattle.overlay_geometry.specs.PointOf.{point_of}
use Rattle.overlay_base.specs.Segments.{WholeSegment}
use Rattle.overlay_sweep.specs.EntryOf.{entry_of, entries_of}
use Rattle.overlay_sweep.proofs.laws.list.RowReads.{segment_read}
use Rattle.overlay_upstream.proofs.laws.list.ListAnswers.{entries_kept, position_kept}
use Rattle.overlay_sweep.proofs.laws.list.ListAnswers.{kept_sums, kept_live, list_kept, default_found, last_found}
use Rattle.overlay_upstream.proofs.laws.list.SearchCosts.{fewer_last, search_asks}
use Rattle.overlay_sweep.proofs.laws.visits.LookCosts.{search_pays}
use Rattle.overlay_upstream.proofs.build.scan_list.ScanListLiveSegments.sum_below.Goals as goal

pub returns-then-position-eq0-clause-sum : goal.returns-then-position-eq0-clause-sum
returns-then-position-eq0-clause-sum g c =
    default_found (point_of g.I.OverlayInt.whole c.args.p) (entries_of c.args.self.now.entries.items) (entries_of c.settle-position.new.self.entries.items) c.settle-position.result (position_kept entry_of c.settle-position.new.self.entries.items _ c.settle-position.result c.settle-position.ensures.position) _ _ c.requires.same_x (entries_kept entry_of (g.I.OverlayInt.whole c.args.x) _ _ c.settle-position.ensures.entries) c.requires.time.row c.requires.free c.if-position-eq0.true

pub returns-then-position-eq0-clause-sums : goal.returns-then-position-eq0-clause-sums
returns-then-position-eq0-clause-sums g c = kept_sums _ _ _ (entries_kept entry_of (g.I.OverlayInt.whole c.args.x) _ _ c.settle-position.ensures.entries)

pub returns-then-position-eq0-clause-time : goal.returns-then-position-eq0-clause-time
returns-then-position-eq0-clause-time g c = λ y h. list_kept _ _ _ (entries_kept entry_of (g.I.OverlayInt.whole c.args.x) _ _ c.settle-position.ensures.entries) _ _ y c.requires.time c.settle-position.ensures.least h

pub returns-then-position-eq0-clause-live : goal.returns-then-position-eq0-clause-live
returns-then-position-eq0-clause-live g c = kept_live _ _ _ (entries_kept entry_of (g.I.OverlayInt.whole c.args.x) _ _ c.settle-position.ensures.entries)

pub returns-then-position-eq0-clause-held : goal.returns-then-position-eq0-clause-held
returns-then-position-eq0-clause-held g c = fewer_last (λ e. int_lt (g.I.OverlayInt.whole c.args.x) (g.I.OverlayInt.whole e.segment.b.x)) _ _ c.settle-position.ensures.entries

pub returns-then-position-eq0-clause-most : goal.returns-then-position-eq0-clause-most
returns-then-position-eq0-clause-most g c = λ n d within most.
    let fewer = fewer_last (λ e. int_lt (g.I.OverlayInt.whole c.args.x) (g.I.OverlayInt.whole e.segment.b.x)) _ _ c.settle-position.ensures.entries in
    search_pays _ _ _ d (search_asks _ _ n d c.settle-position.ensures.compared (omega (arith, fewer, within)) most) fewer

pub returns-else-position-eq0-clause-sum : goal.returns-else-position-eq0-clause-sum
returns-else-position-eq0-clause-sum g c =
    let kept = c.settle-position.new.self.entries.items in
    let within : c.settle-position.result - 1 < length kept = omega (arith, c.settle-position.ensures.position.within, c.if-position-eq0.false) in
    ap (λ (s : WholeSegment). s.count) (sym (segment_read entry_of kept (c.settle-position.result - 1) c.index.result.now within c.index.ensures))
    ∙ last_found (point_of g.I.OverlayInt.whole c.args.p) (entries_of c.args.self.now.entries.items) (entries_of kept) c.settle-position.result (position_kept entry_of c.settle-position.new.self.entries.items _ c.settle-position.result c.settle-position.ensures.position) (g.C.WindingCount.winding c.args.default) _ c.requires.same_x (entries_kept entry_of (g.I.OverlayInt.whole c.args.x) _ _ c.settle-position.ensures.entries) c.requires.time.row c.requires.free c.if-position-eq0.false

pub returns-else-position-eq0-clause-sums : goal.returns-else-position-eq0-clause-sums
returns-else-position-eq0-clause-sums g c = kept_sums _ _ _ (entries_kept entry_of (g.I.OverlayInt.whole c.args.x) _ _ c.settle-position.ensures.entries)

pub returns-else-position-eq0-clause-time : goal.returns-else-position-eq0-clause-time
returns-else-position-eq0-clause-time g c = λ y h. list_kept _ _ _ (entries_kept entry_of (g.I.OverlayInt.whole c.args.x) _ _ c.settle-position.ensures.entries) _ _ y c.requires.time c.settle-position.ensures.least h

pub returns-else-position-eq0-clause-live : goal.returns-else-position-eq0-clause-live
returns-else-position-eq0-clause-live g c = kept_live _ _ _ (entries_kept entry_of (g.I.OverlayInt.whole c.args.x) _ _ c.settle-position.ensures.entries)

pub returns-else-position-eq0-clause-held : goal.returns-else-position-eq0-clause-held
returns-else-position-eq0-clause-held g c = fewer_last (λ e. int_lt (g.I.OverlayInt.whole c.args.x) (g.I.OverlayInt.whole e.segment.b.x)) _ _ c.settle-position.ensures.entries

pub returns-else-position-eq0-clause-most : goal.returns-else-position-eq0-clause-most
returns-else-position-eq0-clause-most g c = λ n d within most.
    let fewer = fewer_last (λ e. int_lt (g.I.OverlayInt.whole c.args.x) (g.I.OverlayInt.whole e.segment.b.x)) _ _ c.settle-position.ensures.entries in
    search_pays _ _ _ d (search_asks _ _ n d c.settle-position.ensures.compared (omega (arith, fewer, within)) most) fewer
