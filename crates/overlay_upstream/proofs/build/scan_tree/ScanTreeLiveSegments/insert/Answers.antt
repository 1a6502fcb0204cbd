use Rattle.std.proofs.Common.{ap, arith}
use Rattle.std.specs.Prelude.{suc}
use Rattle.std.proofs.lemmas.Int.{ints}
use Rattle.overlay_base.specs.Segments.{WholeSegment}
use Rattle.overlay_geometry.specs.VSegmentOf.{v_pair_of}
use Rattle.overlay_sweep.specs.EntryOf.{entry_of, entries_of}
use Rattle.overlay_upstream.proofs.laws.tree.ScanGrowth.{scan_later}
use Rattle.overlay_upstream.proofs.laws.tree.ScanAnswers.{pushed_grows, pushed_at, pushed_free, pushed_begun, pushed_live, pushed_room, pushed_short, pushed_sums, placed_scan, asked_by_insert}
use Rattle.overlay_sweep.proofs.laws.visits.LookCosts.{highest_of_fewer}
use Rattle.overlay_upstream.proofs.laws.list.SearchCosts.{drops_pay}
use Rattle.overlay_upstream.proofs.build.scan_tree.ScanTreeLiveSegments.insert.Goals as goal

pub settle-requires-clause-growing : goal.settle-requires-clause-growing
settle-requires-clause-growing g c =
    (pushed_grows entry_of (g.I.OverlayInt.whole c.args.x) c.args.self.now.entries.items c.push.new.self.entries.items _ c.in-Ok.ensures.entries c.in-Ok.new c.in-Ok.ensures.index.0 c.in-Ok.ensures.index.1 _ _ _ c.requires.time
    (omega (arith, ints, c.requires.start)) _ _ _ c.in-Ok.ensures.nodes c.in-Ok.ensures.root c.in-Ok.ensures.kept).now

pub returns-in-Ok-clause-sums : goal.returns-in-Ok-clause-sums
returns-in-Ok-clause-sums g c =
    rw c.settle.ensures.entries
    (pushed_sums entry_of (g.I.OverlayInt.whole c.args.x) c.args.self.now.entries.items c.push.new.self.entries.items _ c.in-Ok.ensures.entries c.in-Ok.new c.in-Ok.ensures.index.0 c.in-Ok.ensures.index.1 _ _ _ c.requires.time)

pub returns-in-Ok-clause-compared : goal.returns-in-Ok-clause-compared
returns-in-Ok-clause-compared g c = λ d h. asked_by_insert _ _ _ d (rw c.in-Ok.ensures.kept at c.settle.ensures.kept) ((rw c.in-Ok.ensures.kept at c.settle.ensures.compared) d h)

pub returns-in-Ok-clause-time : goal.returns-in-Ok-clause-time
returns-in-Ok-clause-time g c = λ y h.
    let q = pushed_grows entry_of (g.I.OverlayInt.whole c.args.x) c.args.self.now.entries.items c.push.new.self.entries.items _ c.in-Ok.ensures.entries c.in-Ok.new c.in-Ok.ensures.index.0 c.in-Ok.ensures.index.1 _ _ _ c.requires.time (omega (arith, ints, c.requires.start)) _ _ _ c.in-Ok.ensures.nodes c.in-Ok.ensures.root c.in-Ok.ensures.kept in
    rw c.settle.ensures.entries
    (scan_later (g.I.OverlayInt.whole c.args.x) y _ _ _ _ h
    (placed_scan (g.I.OverlayInt.whole c.args.x) (entries_of c.push.new.self.entries.items) c.in-Ok.new (v_pair_of g.I.OverlayInt.whole c.args.segment) (ap (λ (s : WholeSegment). s.pair) (pushed_at entry_of (g.I.OverlayInt.whole c.args.x) c.args.self.now.entries.items c.push.new.self.entries.items _ c.in-Ok.ensures.entries c.in-Ok.new c.in-Ok.ensures.index.0 c.in-Ok.ensures.index.1 _ _ _ c.requires.time))
    _ _ _ _ c.args.self.now.kept
    (pushed_free entry_of (g.I.OverlayInt.whole c.args.x) c.args.self.now.entries.items c.push.new.self.entries.items _ c.in-Ok.ensures.entries c.in-Ok.new c.in-Ok.ensures.index.0 c.in-Ok.ensures.index.1 _ _ _ c.requires.time c.requires.free)
    (pushed_begun entry_of (g.I.OverlayInt.whole c.args.x) c.args.self.now.entries.items c.push.new.self.entries.items _ c.in-Ok.ensures.entries c.in-Ok.new c.in-Ok.ensures.index.0 c.in-Ok.ensures.index.1 _ _ _ c.requires.time (omega (arith, ints, c.requires.start)))
    (pushed_live entry_of (g.I.OverlayInt.whole c.args.x) c.args.self.now.entries.items c.push.new.self.entries.items _ c.in-Ok.ensures.entries c.in-Ok.new c.in-Ok.ensures.index.0 c.in-Ok.ensures.index.1 _ _ _ c.requires.time (omega (arith, ints, c.requires.start)) c.requires.wide)
    (pushed_room entry_of (g.I.OverlayInt.whole c.args.x) c.args.self.now.entries.items c.push.new.self.entries.items _ c.in-Ok.ensures.entries c.in-Ok.new c.in-Ok.ensures.index.0 c.in-Ok.ensures.index.1 _ _ _ c.requires.time)
    (pushed_short entry_of (g.I.OverlayInt.whole c.args.x) c.args.self.now.entries.items c.push.new.self.entries.items _ c.in-Ok.ensures.entries c.in-Ok.new c.in-Ok.ensures.index.0 c.in-Ok.ensures.index.1 _ _ _ c.requires.time)
    (rw c.in-Ok.ensures.kept at c.settle.ensures.kept)
    (rw q.placed_is at (c.settle.ensures.grown q.now))))

pub returns-in-Ok-clause-most : goal.returns-in-Ok-clause-most
returns-in-Ok-clause-most g c = λ n d within high.
    let kept = rw c.in-Ok.ensures.kept at c.settle.ensures.kept in
    let asked = asked_by_insert _ _ _ d kept ((rw c.in-Ok.ensures.kept at c.settle.ensures.compared) d (highest_of_fewer _ n d within high)) in
    drops_pay _ (suc c.args.self.now.kept) _ d (omega (arith, kept)) asked
