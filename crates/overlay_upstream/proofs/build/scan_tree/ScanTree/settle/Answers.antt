use Rattle.std.proofs.Common.{◌∙◌, arith, refl}
use Rattle.std.proofs.lemmas.List.{length-map}
use Rattle.overlay_sweep.specs.EntryOf.{entry_of}
use Rattle.overlay_upstream.proofs.laws.tree.ScanGrowth.{still_begins, still_grows, at_last, some_kept, high_within, asked_more, asked_last}
use Rattle.overlay_upstream.proofs.build.scan_tree.ScanTree.settle.Goals as goal
use Rattle.std.proofs.lemmas.Bool.{not-true, not-false}

pub loop-x-init : goal.loop-x-init
loop-x-init g c = record {
  entries = refl;
  kept = omega arith;
  grows = λ m. still_begins _ _ _ _ _ _ m;
  compared = λ d h. omega arith;
}

pub descend-descent-requires-clause-down : goal.descend-descent-requires-clause-down
descend-descent-requires-clause-down g c = (c.loop-x.invariant.grows c.requires.growing).now.down

pub descend-descent-requires-clause-same_length : goal.descend-descent-requires-clause-same_length
descend-descent-requires-clause-same_length g c = rw c.loop-x.invariant.entries ((c.loop-x.invariant.grows c.requires.growing).now.same_length ∙ length-map c.args.self.now.entries.items entry_of)

pub overflow_sub-self : goal.overflow_sub-self
overflow_sub-self g c =
    let n = (c.loop-x.invariant.grows c.requires.growing).now in
    rw c.descend-descent.ensures.kept
    (some_kept _ _ _ _ _ _ n _ _ (rw c.loop-x.invariant.entries at (c.descend-descent.ensures.stopped (not-false _ c.if-not-descent.false) n.down)))

pub returns-then-not-descent-clause-grown : goal.returns-then-not-descent-clause-grown
returns-then-not-descent-clause-grown g c = λ m.
    let n = c.loop-x.invariant.grows m in
    rw c.descend-descent.ensures.kept
    (at_last _ _ _ _ _ _ _ _ _ _ _ n (rw c.loop-x.invariant.entries at (c.descend-descent.ensures.placed (not-true _ c.if-not-descent.true) n.now.down)))

pub returns-then-not-descent-clause-compared : goal.returns-then-not-descent-clause-compared
returns-then-not-descent-clause-compared g c = λ d h.
    let n = (c.loop-x.invariant.grows c.requires.growing).now in
    rw c.descend-descent.ensures.kept
    (asked_last c.loop-x.self.compared c.descend-descent.new.self.compared n.down.sound.high d c.args.self.now.kept c.loop-x.self.kept (c.loop-x.invariant.compared d h) (c.descend-descent.ensures.compared n.down) (high_within _ _ _ _ _ _ n d c.args.self.now.kept c.loop-x.invariant.kept h))

pub loop-x-smaller : goal.loop-x-smaller
loop-x-smaller g c =
    let n = (c.loop-x.invariant.grows c.requires.growing).now in
    let k = some_kept _ _ _ _ _ _ n _ _ (rw c.loop-x.invariant.entries at (c.descend-descent.ensures.stopped (not-false _ c.if-not-descent.false) n.down)) in
    omega (arith, k, c.descend-descent.ensures.kept)

pub loop-x-preserved : goal.loop-x-preserved
loop-x-preserved g c = record {
  entries = c.descend-descent.ensures.entries ∙ c.loop-x.invariant.entries;
  kept = omega (arith, c.descend-descent.ensures.kept, c.loop-x.invariant.kept);
  grows = λ m.
      let n = c.loop-x.invariant.grows m in
      rw c.descend-descent.ensures.kept
      (still_grows _ _ _ _ _ _ _ _ _ n (rw c.loop-x.invariant.entries at (c.descend-descent.ensures.stopped (not-false _ c.if-not-descent.false) n.now.down)));
  compared = λ d h.
      let n = (c.loop-x.invariant.grows c.requires.growing).now in
      let k = some_kept _ _ _ _ _ _ n _ _ (rw c.loop-x.invariant.entries at (c.descend-descent.ensures.stopped (not-false _ c.if-not-descent.false) n.down)) in
      rw c.descend-descent.ensures.kept
      (asked_more c.loop-x.self.compared c.descend-descent.new.self.compared n.down.sound.high d c.args.self.now.kept c.loop-x.self.kept (c.loop-x.invariant.compared d h) (c.descend-descent.ensures.compared n.down) (high_within _ _ _ _ _ _ n d c.args.self.now.kept c.loop-x.invariant.kept h) k c.loop-x.invariant.kept);
}
