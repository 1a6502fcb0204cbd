use Rattle.std.proofs.Common.{◌∙◌, ap, sym, arith}
use Rattle.std.specs.Prelude.{not, int_lt}
use Rattle.overlay_geometry.proofs.laws.integers.Tests.{le_itself, le_weak, lt-tested, lt-tested_false}
use Rattle.overlay_sweep.specs.EntryOf.{entry_of, entries_of}
use Rattle.overlay_upstream.proofs.laws.list.ListAnswers.{entries_kept, position_kept, entries_placed}
use Rattle.overlay_sweep.proofs.laws.list.ListAnswers.{placed_sums, placed_live, list_placed, ends_placed}
use Rattle.overlay_upstream.proofs.laws.list.SearchCosts.{fewer_last, one_more, search_asks}
use Rattle.overlay_sweep.proofs.laws.visits.LookCosts.{search_pays}
use Rattle.overlay_upstream.proofs.build.scan_list.ScanListLiveSegments.insert.Goals as goal

pub returns-then-not-lasts_past-clause-sums : goal.returns-then-not-lasts_past-clause-sums
returns-then-not-lasts_past-clause-sums g c = rw (entries_placed entry_of c.settle-position.new.self.entries.items c.insert.new.self.items c.settle-position.result _ _ (c.is_err.ensures.negation ∙ ap not c.if-is_err.false) c.insert.ensures.items) (placed_sums (g.I.OverlayInt.whole c.args.x) (entries_of c.args.self.now.entries.items) (entries_of c.settle-position.new.self.entries.items) (entries_kept entry_of (g.I.OverlayInt.whole c.args.x) _ _ c.settle-position.ensures.entries) _ c.settle-position.result (position_kept entry_of c.settle-position.new.self.entries.items _ c.settle-position.result c.settle-position.ensures.position))

pub returns-then-not-lasts_past-clause-time : goal.returns-then-not-lasts_past-clause-time
returns-then-not-lasts_past-clause-time g c = λ y h. rw (entries_placed entry_of c.settle-position.new.self.entries.items c.insert.new.self.items c.settle-position.result _ _ (c.is_err.ensures.negation ∙ ap not c.if-is_err.false) c.insert.ensures.items) (list_placed (g.I.OverlayInt.whole c.args.x) (entries_of c.args.self.now.entries.items) (entries_of c.settle-position.new.self.entries.items) (entries_kept entry_of (g.I.OverlayInt.whole c.args.x) _ _ c.settle-position.ensures.entries) _ c.settle-position.result (position_kept entry_of c.settle-position.new.self.entries.items _ c.settle-position.result c.settle-position.ensures.position) _ _ y c.requires.time c.requires.free c.requires.start c.requires.wide (ends_placed (g.I.OverlayInt.whole c.args.x) (entries_of c.args.self.now.entries.items) (entries_of c.settle-position.new.self.entries.items) (entries_kept entry_of (g.I.OverlayInt.whole c.args.x) _ _ c.settle-position.ensures.entries) _ c.settle-position.result (position_kept entry_of c.settle-position.new.self.entries.items _ c.settle-position.result c.settle-position.ensures.position) _ _ c.settle-position.ensures.least (lt-tested_false _ _ (sym c.lasts_past.ensures ∙ c.if-not-lasts_past.true)) (le_itself _)) h)

pub returns-then-not-lasts_past-clause-live : goal.returns-then-not-lasts_past-clause-live
returns-then-not-lasts_past-clause-live g c = rw (entries_placed entry_of c.settle-position.new.self.entries.items c.insert.new.self.items c.settle-position.result _ _ (c.is_err.ensures.negation ∙ ap not c.if-is_err.false) c.insert.ensures.items) (placed_live (g.I.OverlayInt.whole c.args.x) (entries_of c.args.self.now.entries.items) (entries_of c.settle-position.new.self.entries.items) (entries_kept entry_of (g.I.OverlayInt.whole c.args.x) _ _ c.settle-position.ensures.entries) _ c.settle-position.result (position_kept entry_of c.settle-position.new.self.entries.items _ c.settle-position.result c.settle-position.ensures.position) c.requires.wide)

pub returns-then-not-lasts_past-clause-held : goal.returns-then-not-lasts_past-clause-held
returns-then-not-lasts_past-clause-held g c =
    let fewer = fewer_last (λ e. int_lt (g.I.OverlayInt.whole c.args.x) (g.I.OverlayInt.whole e.segment.b.x)) _ _ c.settle-position.ensures.entries in
    let more = one_more _ c.settle-position.result c.settle-position.new.self.entries.items c.insert.new.self.items _ (c.is_err.ensures.negation ∙ ap not c.if-is_err.false) c.insert.ensures.items in
    omega (arith, fewer, more)

pub returns-then-not-lasts_past-clause-most : goal.returns-then-not-lasts_past-clause-most
returns-then-not-lasts_past-clause-most g c = λ n d within most.
    let fewer = fewer_last (λ e. int_lt (g.I.OverlayInt.whole c.args.x) (g.I.OverlayInt.whole e.segment.b.x)) _ _ c.settle-position.ensures.entries in
    let more = one_more _ c.settle-position.result c.settle-position.new.self.entries.items c.insert.new.self.items _ (c.is_err.ensures.negation ∙ ap not c.if-is_err.false) c.insert.ensures.items in
    search_pays _ _ _ d (search_asks _ _ n d c.settle-position.ensures.compared (omega (arith, fewer, within)) most) (omega (arith, fewer, more))

pub returns-else-not-lasts_past-clause-sums : goal.returns-else-not-lasts_past-clause-sums
returns-else-not-lasts_past-clause-sums g c = rw (entries_placed entry_of c.settle-position.new.self.entries.items c.insert.new.self.items c.settle-position.result _ _ (c.is_err.ensures.negation ∙ ap not c.if-is_err.false) c.insert.ensures.items) (placed_sums (g.I.OverlayInt.whole c.args.x) (entries_of c.args.self.now.entries.items) (entries_of c.settle-position.new.self.entries.items) (entries_kept entry_of (g.I.OverlayInt.whole c.args.x) _ _ c.settle-position.ensures.entries) _ c.settle-position.result (position_kept entry_of c.settle-position.new.self.entries.items _ c.settle-position.result c.settle-position.ensures.position))

pub returns-else-not-lasts_past-clause-time : goal.returns-else-not-lasts_past-clause-time
returns-else-not-lasts_past-clause-time g c = λ y h. rw (entries_placed entry_of c.settle-position.new.self.entries.items c.insert.new.self.items c.settle-position.result _ _ (c.is_err.ensures.negation ∙ ap not c.if-is_err.false) c.insert.ensures.items) (list_placed (g.I.OverlayInt.whole c.args.x) (entries_of c.args.self.now.entries.items) (entries_of c.settle-position.new.self.entries.items) (entries_kept entry_of (g.I.OverlayInt.whole c.args.x) _ _ c.settle-position.ensures.entries) _ c.settle-position.result (position_kept entry_of c.settle-position.new.self.entries.items _ c.settle-position.result c.settle-position.ensures.position) _ _ y c.requires.time c.requires.free c.requires.start c.requires.wide (ends_placed (g.I.OverlayInt.whole c.args.x) (entries_of c.args.self.now.entries.items) (entries_of c.settle-position.new.self.entries.items) (entries_kept entry_of (g.I.OverlayInt.whole c.args.x) _ _ c.settle-position.ensures.entries) _ c.settle-position.result (position_kept entry_of c.settle-position.new.self.entries.items _ c.settle-position.result c.settle-position.ensures.position) _ _ c.settle-position.ensures.least (le_itself _) (le_weak _ _ (lt-tested _ _ (sym c.lasts_past.ensures ∙ c.if-not-lasts_past.false)))) h)

pub returns-else-not-lasts_past-clause-live : goal.returns-else-not-lasts_past-clause-live
returns-else-not-lasts_past-clause-live g c = rw (entries_placed entry_of c.settle-position.new.self.entries.items c.insert.new.self.items c.settle-position.result _ _ (c.is_err.ensures.negation ∙ ap not c.if-is_err.false) c.insert.ensures.items) (placed_live (g.I.OverlayInt.whole c.args.x) (entries_of c.args.self.now.entries.items) (entries_of c.settle-position.new.self.entries.items) (entries_kept entry_of (g.I.OverlayInt.whole c.args.x) _ _ c.settle-position.ensures.entries) _ c.settle-position.result (position_kept entry_of c.settle-position.new.self.entries.items _ c.settle-position.result c.settle-position.ensures.position) c.requires.wide)

pub returns-else-not-lasts_past-clause-held : goal.returns-else-not-lasts_past-clause-held
returns-else-not-lasts_past-clause-held g c =
    let fewer = fewer_last (λ e. int_lt (g.I.OverlayInt.whole c.args.x) (g.I.OverlayInt.whole e.segment.b.x)) _ _ c.settle-position.ensures.entries in
    let more = one_more _ c.settle-position.result c.settle-position.new.self.entries.items c.insert.new.self.items _ (c.is_err.ensures.negation ∙ ap not c.if-is_err.false) c.insert.ensures.items in
    omega (arith, fewer, more)

pub returns-else-not-lasts_past-clause-most : goal.returns-else-not-lasts_past-clause-most
returns-else-not-lasts_past-clause-most g c = λ n d within most.
    let fewer = fewer_last (λ e. int_lt (g.I.OverlayInt.whole c.args.x) (g.I.OverlayInt.whole e.segment.b.x)) _ _ c.settle-position.ensures.entries in
    let more = one_more _ c.settle-position.result c.settle-position.new.self.entries.items c.insert.new.self.items _ (c.is_err.ensures.negation ∙ ap not c.if-is_err.false) c.insert.ensures.items in
    search_pays _ _ _ d (search_asks _ _ n d c.settle-position.ensures.compared (omega (arith, fewer, within)) most) (omega (arith, fewer, more))

pub returns-then-is_err-clause-emptied : goal.returns-then-is_err-clause-emptied
returns-then-is_err-clause-emptied g c = c.clear.ensures.sums

pub returns-then-is_err-clause-none_asked : goal.returns-then-is_err-clause-none_asked
returns-then-is_err-clause-none_asked g c = c.clear.ensures.asked

pub returns-then-is_err-clause-cleared : goal.returns-then-is_err-clause-cleared
returns-then-is_err-clause-cleared g c = c.clear.ensures.time
