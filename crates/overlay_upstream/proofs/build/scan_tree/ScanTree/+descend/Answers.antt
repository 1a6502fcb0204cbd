use Rattle.std.proofs.Common.{◌≡◌, ◌∙◌, ap, sym, arith, List, ◌<◌, length, get_or}
use Rattle.std.specs.Prelude.{ℕ, ℤ, int_lt, Bool, true, false, map}
use Rattle.overlay_base.specs.Segments.{WholeSegment}
use Rattle.overlay_geometry.specs.Points.{Pair}
use Rattle.overlay_sweep.specs.EntryOf.{entry_of, entries_of}
use Rattle.overlay_sweep.specs.steps.PlaceOf.{stands_before}
use Rattle.overlay_sweep.specs.LiveRows.{segment_at, lasts_past}
use Rattle.overlay_sweep.proofs.laws.list.RowReads.{segment_read}
use Rattle.overlay_upstream.proofs.laws.tree.TreeWays.{placed_nowhere, down_within, stopped_here, left_may, right_may, right_stopped_joinable, right_stopped, left_stopped_joinable, left_stopped, right_placed_joinable, right_placed, left_placed_joinable, left_placed, right_lower, left_lower, still_parent, kept_parent, kept_parent_left, told_same, is_told_same, right_falls, left_falls, either}
use Rattle.overlay_upstream.proofs.build.scan_tree.ScanTree.+descend.Goals as goal

-- what is read of an entry, as the specification says it
lasts_is : {E : Type 0} (f : E → WholeSegment) (items : List E) (x : ℤ) (at : ℕ) (entry : E) (b : Bool) → at < length items → entry ≡ get_or items at entry → int_lt x (f entry).pair.b.x ≡ b → lasts_past x (map f items) at ≡ b
lasts_is f items x at entry b h e k = ap (λ (s : WholeSegment). int_lt x s.pair.b.x) (segment_read f items at entry h e) ∙ k

stands_is : {E : Type 0} (f : E → WholeSegment) (items : List E) (test : Pair → Bool) (at : ℕ) (entry : E) (b : Bool) → at < length items → entry ≡ get_or items at entry → test (f entry).pair ≡ b → test (segment_at (map f items) at).pair ≡ b
stands_is f items test at entry b h e k = ap (λ (s : WholeSegment). test s.pair) (segment_read f items at entry h e) ∙ k

entry_within : (at few many : ℕ) → few ≡ many → at < few → at < many
entry_within at few many e h = omega (arith, e, h)

pub returns-then-at-eq-NONE-clause-placed : goal.returns-then-at-eq-NONE-clause-placed
returns-then-at-eq-NONE-clause-placed g t c = λ is m. placed_nowhere _ _ _ _ _ _ c.if-at-eq-NONE.true m

pub index-entry-requires : goal.index-entry-requires
index-entry-requires g t c = rw c.args.self.now.entries.ok.0 (entry_within _ _ _ c.requires.same_length (down_within _ _ _ c.requires.down c.if-at-eq-NONE.false))

pub node-node-requires : goal.node-node-requires
node-node-requires g t c = down_within _ _ _ c.requires.down c.if-at-eq-NONE.false

pub returns-then-not-lasts_past-clause-stopped : goal.returns-then-not-lasts_past-clause-stopped
returns-then-not-lasts_past-clause-stopped g t c = λ is m.
    stopped_here _ _ _ _ _ _ _
    (lasts_is entry_of c.args.self.now.entries.items (g.I.OverlayInt.whole c.args.x) c.args.at c.index-entry.result.now false (entry_within _ _ _ c.requires.same_length (down_within _ _ _ m c.if-at-eq-NONE.false)) c.index-entry.ensures (sym c.lasts_past.ensures ∙ c.if-not-lasts_past.true))
    (c.remove_top.ensures m.sound)

pub descend-below-requires : goal.descend-below-requires
descend-below-requires g t c = λ κs b.
    (omega (arith, right_falls _ _ _ c.requires.down c.if-at-eq-NONE.false _ c.node-node.ensures, c.decreases), (b.0, (b.1, (right_may _ _ _ c.requires.down c.if-at-eq-NONE.false _ c.node-node.ensures, (c.requires.same_length, c.requires.place)))))

pub descend-below-requires-else-is_before : goal.descend-below-requires-else-is_before
descend-below-requires-else-is_before g t c = λ κs b.
    (omega (arith, left_falls _ _ _ c.requires.down c.if-at-eq-NONE.false _ c.node-node.ensures, c.decreases), (b.0, (b.1, (left_may _ _ _ c.requires.down c.if-at-eq-NONE.false _ c.node-node.ensures, (c.requires.same_length, c.requires.place)))))

pub rejoin-top-requires-clause-joinable : goal.rejoin-top-requires-clause-joinable
rejoin-top-requires-clause-joinable g t c =
    either c.descend-below.result.is_stopped
    (λ is. right_stopped_joinable c.args.self.now.shape.nodes.items c.args.at c.args.new c.requires.down c.if-at-eq-NONE.false c.node-node.result c.node-node.ensures (lasts_past (g.I.OverlayInt.whole c.args.x) (entries_of c.args.self.now.entries.items)) c.descend-below.new.self.shape.nodes.items c.descend-below.result.top (c.descend-below.ensures.stopped is (right_may c.args.self.now.shape.nodes.items c.args.at c.args.new c.requires.down c.if-at-eq-NONE.false c.node-node.result c.node-node.ensures)))
    (λ is. right_placed_joinable c.args.self.now.shape.nodes.items c.args.at c.args.new c.requires.down c.if-at-eq-NONE.false c.node-node.result c.node-node.ensures (lasts_past (g.I.OverlayInt.whole c.args.x) (entries_of c.args.self.now.entries.items)) (λ i. stands_before g.I.OverlayInt.whole c.args.place.now (segment_at (entries_of c.args.self.now.entries.items) i).pair) c.descend-below.new.self.shape.nodes.items c.args.given c.descend-below.result.last c.descend-below.result.top (lasts_is entry_of c.args.self.now.entries.items (g.I.OverlayInt.whole c.args.x) c.args.at c.index-entry.result.now true (entry_within _ _ _ c.requires.same_length (down_within _ _ _ c.requires.down c.if-at-eq-NONE.false)) c.index-entry.ensures (sym c.lasts_past.ensures ∙ c.if-not-lasts_past.false)) (stands_is entry_of c.args.self.now.entries.items (stands_before g.I.OverlayInt.whole c.args.place.now) c.args.at c.index-entry.result.now true (entry_within _ _ _ c.requires.same_length (down_within _ _ _ c.requires.down c.if-at-eq-NONE.false)) c.index-entry.ensures (sym c.is_before.ensures.value ∙ c.if-is_before.true)) (c.descend-below.ensures.placed is (right_may c.args.self.now.shape.nodes.items c.args.at c.args.new c.requires.down c.if-at-eq-NONE.false c.node-node.result c.node-node.ensures)))

pub returns-then-is_before-clause-compared : goal.returns-then-is_before-clause-compared
returns-then-is_before-clause-compared g t c = λ m. omega (arith, right_lower c.args.self.now.shape.nodes.items c.args.at c.args.new m c.if-at-eq-NONE.false c.node-node.result c.node-node.ensures, c.is_before.ensures.compared, c.descend-below.ensures.compared (right_may c.args.self.now.shape.nodes.items c.args.at c.args.new m c.if-at-eq-NONE.false c.node-node.result c.node-node.ensures))

pub returns-then-is_before-clause-stopped : goal.returns-then-is_before-clause-stopped
returns-then-is_before-clause-stopped g t c = λ is m.
    right_stopped c.args.self.now.shape.nodes.items c.args.at c.args.new m c.if-at-eq-NONE.false c.node-node.result c.node-node.ensures (lasts_past (g.I.OverlayInt.whole c.args.x) (entries_of c.args.self.now.entries.items)) c.descend-below.new.self.shape.nodes.items c.descend-below.result.top (c.descend-below.ensures.stopped is (right_may c.args.self.now.shape.nodes.items c.args.at c.args.new m c.if-at-eq-NONE.false c.node-node.result c.node-node.ensures)) c.rejoin-top.new.self.nodes.items c.rejoin-top.result
    (c.rejoin-top.ensures.joined (right_stopped_joinable c.args.self.now.shape.nodes.items c.args.at c.args.new m c.if-at-eq-NONE.false c.node-node.result c.node-node.ensures (lasts_past (g.I.OverlayInt.whole c.args.x) (entries_of c.args.self.now.entries.items)) c.descend-below.new.self.shape.nodes.items c.descend-below.result.top (c.descend-below.ensures.stopped is (right_may c.args.self.now.shape.nodes.items c.args.at c.args.new m c.if-at-eq-NONE.false c.node-node.result c.node-node.ensures))))

pub returns-then-is_before-clause-placed : goal.returns-then-is_before-clause-placed
returns-then-is_before-clause-placed g t c = λ is m.
    right_placed c.args.self.now.shape.nodes.items c.args.at c.args.new m c.if-at-eq-NONE.false c.node-node.result c.node-node.ensures (lasts_past (g.I.OverlayInt.whole c.args.x) (entries_of c.args.self.now.entries.items)) (λ i. stands_before g.I.OverlayInt.whole c.args.place.now (segment_at (entries_of c.args.self.now.entries.items) i).pair) c.descend-below.new.self.shape.nodes.items c.args.given c.descend-below.result.last c.descend-below.result.top (lasts_is entry_of c.args.self.now.entries.items (g.I.OverlayInt.whole c.args.x) c.args.at c.index-entry.result.now true (entry_within _ _ _ c.requires.same_length (down_within _ _ _ m c.if-at-eq-NONE.false)) c.index-entry.ensures (sym c.lasts_past.ensures ∙ c.if-not-lasts_past.false)) (stands_is entry_of c.args.self.now.entries.items (stands_before g.I.OverlayInt.whole c.args.place.now) c.args.at c.index-entry.result.now true (entry_within _ _ _ c.requires.same_length (down_within _ _ _ m c.if-at-eq-NONE.false)) c.index-entry.ensures (sym c.is_before.ensures.value ∙ c.if-is_before.true)) (c.descend-below.ensures.placed is (right_may c.args.self.now.shape.nodes.items c.args.at c.args.new m c.if-at-eq-NONE.false c.node-node.result c.node-node.ensures)) c.rejoin-top.new.self.nodes.items c.rejoin-top.result
    (c.rejoin-top.ensures.joined (right_placed_joinable c.args.self.now.shape.nodes.items c.args.at c.args.new m c.if-at-eq-NONE.false c.node-node.result c.node-node.ensures (lasts_past (g.I.OverlayInt.whole c.args.x) (entries_of c.args.self.now.entries.items)) (λ i. stands_before g.I.OverlayInt.whole c.args.place.now (segment_at (entries_of c.args.self.now.entries.items) i).pair) c.descend-below.new.self.shape.nodes.items c.args.given c.descend-below.result.last c.descend-below.result.top (lasts_is entry_of c.args.self.now.entries.items (g.I.OverlayInt.whole c.args.x) c.args.at c.index-entry.result.now true (entry_within _ _ _ c.requires.same_length (down_within _ _ _ m c.if-at-eq-NONE.false)) c.index-entry.ensures (sym c.lasts_past.ensures ∙ c.if-not-lasts_past.false)) (stands_is entry_of c.args.self.now.entries.items (stands_before g.I.OverlayInt.whole c.args.place.now) c.args.at c.index-entry.result.now true (entry_within _ _ _ c.requires.same_length (down_within _ _ _ m c.if-at-eq-NONE.false)) c.index-entry.ensures (sym c.is_before.ensures.value ∙ c.if-is_before.true)) (c.descend-below.ensures.placed is (right_may c.args.self.now.shape.nodes.items c.args.at c.args.new m c.if-at-eq-NONE.false c.node-node.result c.node-node.ensures))))

pub rejoin-top-requires-else-is_before-clause-joinable : goal.rejoin-top-requires-else-is_before-clause-joinable
rejoin-top-requires-else-is_before-clause-joinable g t c =
    either c.descend-below-else-is_before.result.is_stopped
    (λ is. left_stopped_joinable c.args.self.now.shape.nodes.items c.args.at c.args.new c.requires.down c.if-at-eq-NONE.false c.node-node.result c.node-node.ensures (lasts_past (g.I.OverlayInt.whole c.args.x) (entries_of c.args.self.now.entries.items)) c.descend-below-else-is_before.new.self.shape.nodes.items c.descend-below-else-is_before.result.top (c.descend-below-else-is_before.ensures.stopped is (left_may c.args.self.now.shape.nodes.items c.args.at c.args.new c.requires.down c.if-at-eq-NONE.false c.node-node.result c.node-node.ensures)))
    (λ is. left_placed_joinable c.args.self.now.shape.nodes.items c.args.at c.args.new c.requires.down c.if-at-eq-NONE.false c.node-node.result c.node-node.ensures (lasts_past (g.I.OverlayInt.whole c.args.x) (entries_of c.args.self.now.entries.items)) (λ i. stands_before g.I.OverlayInt.whole c.args.place.now (segment_at (entries_of c.args.self.now.entries.items) i).pair) c.descend-below-else-is_before.new.self.shape.nodes.items c.args.given c.descend-below-else-is_before.result.last c.descend-below-else-is_before.result.top (lasts_is entry_of c.args.self.now.entries.items (g.I.OverlayInt.whole c.args.x) c.args.at c.index-entry.result.now true (entry_within _ _ _ c.requires.same_length (down_within _ _ _ c.requires.down c.if-at-eq-NONE.false)) c.index-entry.ensures (sym c.lasts_past.ensures ∙ c.if-not-lasts_past.false)) (stands_is entry_of c.args.self.now.entries.items (stands_before g.I.OverlayInt.whole c.args.place.now) c.args.at c.index-entry.result.now false (entry_within _ _ _ c.requires.same_length (down_within _ _ _ c.requires.down c.if-at-eq-NONE.false)) c.index-entry.ensures (sym c.is_before.ensures.value ∙ c.if-is_before.false)) (c.descend-below-else-is_before.ensures.placed is (left_may c.args.self.now.shape.nodes.items c.args.at c.args.new c.requires.down c.if-at-eq-NONE.false c.node-node.result c.node-node.ensures)))

pub returns-else-is_before-clause-compared : goal.returns-else-is_before-clause-compared
returns-else-is_before-clause-compared g t c = λ m. omega (arith, left_lower c.args.self.now.shape.nodes.items c.args.at c.args.new m c.if-at-eq-NONE.false c.node-node.result c.node-node.ensures, c.is_before.ensures.compared, c.descend-below-else-is_before.ensures.compared (left_may c.args.self.now.shape.nodes.items c.args.at c.args.new m c.if-at-eq-NONE.false c.node-node.result c.node-node.ensures))

pub returns-else-is_before-clause-stopped : goal.returns-else-is_before-clause-stopped
returns-else-is_before-clause-stopped g t c = λ is m.
    left_stopped c.args.self.now.shape.nodes.items c.args.at c.args.new m c.if-at-eq-NONE.false c.node-node.result c.node-node.ensures (lasts_past (g.I.OverlayInt.whole c.args.x) (entries_of c.args.self.now.entries.items)) c.descend-below-else-is_before.new.self.shape.nodes.items c.descend-below-else-is_before.result.top (c.descend-below-else-is_before.ensures.stopped is (left_may c.args.self.now.shape.nodes.items c.args.at c.args.new m c.if-at-eq-NONE.false c.node-node.result c.node-node.ensures)) c.rejoin-top-else-is_before.new.self.nodes.items c.rejoin-top-else-is_before.result
    (c.rejoin-top-else-is_before.ensures.joined (left_stopped_joinable c.args.self.now.shape.nodes.items c.args.at c.args.new m c.if-at-eq-NONE.false c.node-node.result c.node-node.ensures (lasts_past (g.I.OverlayInt.whole c.args.x) (entries_of c.args.self.now.entries.items)) c.descend-below-else-is_before.new.self.shape.nodes.items c.descend-below-else-is_before.result.top (c.descend-below-else-is_before.ensures.stopped is (left_may c.args.self.now.shape.nodes.items c.args.at c.args.new m c.if-at-eq-NONE.false c.node-node.result c.node-node.ensures))))

pub returns-else-is_before-clause-placed : goal.returns-else-is_before-clause-placed
returns-else-is_before-clause-placed g t c = λ is m.
    left_placed c.args.self.now.shape.nodes.items c.args.at c.args.new m c.if-at-eq-NONE.false c.node-node.result c.node-node.ensures (lasts_past (g.I.OverlayInt.whole c.args.x) (entries_of c.args.self.now.entries.items)) (λ i. stands_before g.I.OverlayInt.whole c.args.place.now (segment_at (entries_of c.args.self.now.entries.items) i).pair) c.descend-below-else-is_before.new.self.shape.nodes.items c.args.given c.descend-below-else-is_before.result.last c.descend-below-else-is_before.result.top (lasts_is entry_of c.args.self.now.entries.items (g.I.OverlayInt.whole c.args.x) c.args.at c.index-entry.result.now true (entry_within _ _ _ c.requires.same_length (down_within _ _ _ m c.if-at-eq-NONE.false)) c.index-entry.ensures (sym c.lasts_past.ensures ∙ c.if-not-lasts_past.false)) (stands_is entry_of c.args.self.now.entries.items (stands_before g.I.OverlayInt.whole c.args.place.now) c.args.at c.index-entry.result.now false (entry_within _ _ _ c.requires.same_length (down_within _ _ _ m c.if-at-eq-NONE.false)) c.index-entry.ensures (sym c.is_before.ensures.value ∙ c.if-is_before.false)) (c.descend-below-else-is_before.ensures.placed is (left_may c.args.self.now.shape.nodes.items c.args.at c.args.new m c.if-at-eq-NONE.false c.node-node.result c.node-node.ensures)) c.rejoin-top-else-is_before.new.self.nodes.items c.rejoin-top-else-is_before.result
    (c.rejoin-top-else-is_before.ensures.joined (left_placed_joinable c.args.self.now.shape.nodes.items c.args.at c.args.new m c.if-at-eq-NONE.false c.node-node.result c.node-node.ensures (lasts_past (g.I.OverlayInt.whole c.args.x) (entries_of c.args.self.now.entries.items)) (λ i. stands_before g.I.OverlayInt.whole c.args.place.now (segment_at (entries_of c.args.self.now.entries.items) i).pair) c.descend-below-else-is_before.new.self.shape.nodes.items c.args.given c.descend-below-else-is_before.result.last c.descend-below-else-is_before.result.top (lasts_is entry_of c.args.self.now.entries.items (g.I.OverlayInt.whole c.args.x) c.args.at c.index-entry.result.now true (entry_within _ _ _ c.requires.same_length (down_within _ _ _ m c.if-at-eq-NONE.false)) c.index-entry.ensures (sym c.lasts_past.ensures ∙ c.if-not-lasts_past.false)) (stands_is entry_of c.args.self.now.entries.items (stands_before g.I.OverlayInt.whole c.args.place.now) c.args.at c.index-entry.result.now false (entry_within _ _ _ c.requires.same_length (down_within _ _ _ m c.if-at-eq-NONE.false)) c.index-entry.ensures (sym c.is_before.ensures.value ∙ c.if-is_before.false)) (c.descend-below-else-is_before.ensures.placed is (left_may c.args.self.now.shape.nodes.items c.args.at c.args.new m c.if-at-eq-NONE.false c.node-node.result c.node-node.ensures))))

pub rejoin-top-requires-clause-parent : goal.rejoin-top-requires-clause-parent
rejoin-top-requires-clause-parent g t c = λ h.
    let told = told_same c.descend-below.result.is_stopped c.args.new _ c.is_same.ensures h in
    kept_parent _ _ _ _ _ _ (still_parent c.args.self.now.shape.nodes.items c.args.at c.args.new c.requires.down c.if-at-eq-NONE.false c.node-node.result c.node-node.ensures) (c.descend-below.ensures.same told.0 told.1)

pub rejoin-top-requires-else-is_before-clause-parent : goal.rejoin-top-requires-else-is_before-clause-parent
rejoin-top-requires-else-is_before-clause-parent g t c = λ h.
    let told = told_same c.descend-below-else-is_before.result.is_stopped c.args.new _ c.is_same-else-is_before.ensures h in
    kept_parent_left _ _ _ _ _ _ (still_parent c.args.self.now.shape.nodes.items c.args.at c.args.new c.requires.down c.if-at-eq-NONE.false c.node-node.result c.node-node.ensures) (c.descend-below-else-is_before.ensures.same told.0 told.1)

pub returns-then-is_before-clause-same : goal.returns-then-is_before-clause-same
returns-then-is_before-clause-same g t c = λ is e.
    let kept = c.rejoin-top.ensures.same (is_told_same c.descend-below.result.is_stopped c.args.new _ c.is_same.ensures is e) in
    (kept.0 ∙ (c.descend-below.ensures.same is e).0, kept.1)

pub returns-else-is_before-clause-same : goal.returns-else-is_before-clause-same
returns-else-is_before-clause-same g t c = λ is e.
    let kept = c.rejoin-top-else-is_before.ensures.same (is_told_same c.descend-below-else-is_before.result.is_stopped c.args.new _ c.is_same-else-is_before.ensures is e) in
    (kept.0 ∙ (c.descend-below-else-is_before.ensures.same is e).0, kept.1)
