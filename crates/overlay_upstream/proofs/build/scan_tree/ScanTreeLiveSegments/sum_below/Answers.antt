use Rattle.std.proofs.Common.{List, ◌∙◌, ap, sym, arith, length}
use Rattle.std.specs.Prelude.{ℕ, ◌<◌, map}
use Rattle.std.proofs.lemmas.List.{length-map}
use Rattle.overlay_geometry.specs.PointOf.{point_of}
use Rattle.overlay_base.specs.Segments.{WholeSegment}
use Rattle.overlay_sweep.specs.EntryOf.{entry_of}
use Rattle.overlay_sweep.proofs.laws.list.RowReads.{segment_read}
use Rattle.overlay_upstream.proofs.laws.tree.ScanGrowth.{looking, looked, scan_later}
use Rattle.overlay_upstream.proofs.laws.tree.ScanAnswers.{last_within, default_answers, last_answers}
use Rattle.overlay_sweep.proofs.laws.visits.LookCosts.{highest_of_fewer}
use Rattle.overlay_upstream.proofs.laws.list.SearchCosts.{drops_pay}
use Rattle.overlay_upstream.proofs.build.scan_tree.ScanTreeLiveSegments.sum_below.Goals as goal

mapped : {E : Type 0} (f : E → WholeSegment) (items : List E) (i : ℕ) → i < length (map f items) → i < length items
mapped f items i h = omega (arith, length-map items f, h)

pub settle-last-requires-clause-growing : goal.settle-last-requires-clause-growing
settle-last-requires-clause-growing g c = looking _ _ _ _ _ c.requires.time

pub index-requires : goal.index-requires
index-requires g c =
    rw c.settle-last.ensures.entries (rw c.args.self.now.entries.ok.0 (mapped entry_of c.args.self.now.entries.items c.settle-last.result (last_within _ _ _ _ _ _ _ (c.settle-last.ensures.grown (looking _ _ _ _ _ c.requires.time)) c.if-last.false)))

pub returns-then-last-clause-sum : goal.returns-then-last-clause-sum
returns-then-last-clause-sum g c =
    default_answers (point_of g.I.OverlayInt.whole c.args.p) (g.I.OverlayInt.whole c.args.x) c.requires.same_x _ c.requires.free c.requires.time.begun _ _ _ _ (c.settle-last.ensures.grown (looking _ _ _ _ _ c.requires.time)) _ c.if-last.true

pub returns-then-last-clause-time : goal.returns-then-last-clause-time
returns-then-last-clause-time g c = λ y h.
    rw c.settle-last.ensures.entries
    (scan_later (g.I.OverlayInt.whole c.args.x) y _ _ _ _ h
    (looked (g.I.OverlayInt.whole c.args.x) _ _ _ _ _ _ c.args.self.now.kept c.requires.time.begun (omega (arith, c.requires.time.kept_is, c.requires.time.fits)) c.requires.time.short c.settle-last.ensures.kept (c.settle-last.ensures.grown (looking _ _ _ _ _ c.requires.time))))

pub returns-else-last-clause-time : goal.returns-else-last-clause-time
returns-else-last-clause-time g c = λ y h.
    rw c.settle-last.ensures.entries
    (scan_later (g.I.OverlayInt.whole c.args.x) y _ _ _ _ h
    (looked (g.I.OverlayInt.whole c.args.x) _ _ _ _ _ _ c.args.self.now.kept c.requires.time.begun (omega (arith, c.requires.time.kept_is, c.requires.time.fits)) c.requires.time.short c.settle-last.ensures.kept (c.settle-last.ensures.grown (looking _ _ _ _ _ c.requires.time))))

pub returns-else-last-clause-sum : goal.returns-else-last-clause-sum
returns-else-last-clause-sum g c =
    let found = c.settle-last.ensures.grown (looking _ _ _ _ _ c.requires.time) in
    ap (λ (s : WholeSegment). s.count) (sym (segment_read entry_of c.args.self.now.entries.items c.settle-last.result c.index.result.now (mapped entry_of c.args.self.now.entries.items c.settle-last.result (last_within _ _ _ _ _ _ _ found c.if-last.false)) (rw c.settle-last.ensures.entries at c.index.ensures)))
    ∙ last_answers (point_of g.I.OverlayInt.whole c.args.p) (g.I.OverlayInt.whole c.args.x) c.requires.same_x _ c.requires.free c.requires.time.begun _ _ _ _ found (g.C.WindingCount.winding c.args.default) c.if-last.false

pub returns-then-last-clause-most : goal.returns-then-last-clause-most
returns-then-last-clause-most g c = λ n d within high. drops_pay _ _ _ d c.settle-last.ensures.kept (c.settle-last.ensures.compared d (highest_of_fewer _ n d within high))

pub returns-else-last-clause-most : goal.returns-else-last-clause-most
returns-else-last-clause-most g c = λ n d within high. drops_pay _ _ _ d c.settle-last.ensures.kept (c.settle-last.ensures.compared d (highest_of_fewer _ n d within high))

pub returns-then-last-clause-compared : goal.returns-then-last-clause-compared
returns-then-last-clause-compared g c = c.settle-last.ensures.compared

pub returns-else-last-clause-compared : goal.returns-else-last-clause-compared
returns-else-last-clause-compared g c = c.settle-last.ensures.compared
