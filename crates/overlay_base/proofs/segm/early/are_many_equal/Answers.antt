use Rattle.std.proofs.Common.{◌<◌, ◌∙◌, sym, arith, length}
use Rattle.overlay_base.specs.SegmentOf.{segment_of}
use Rattle.overlay_base.proofs.laws.joins.Early.{has_equal_pairs-at}
use Rattle.overlay_base.proofs.segm.early.are_many_equal.Goals as goal
use Rattle.overlay_base.proofs.segm.early.are_many_equal.Goals.{then-earlier-index+then-has_same_ends, else-earlier-index}

pub loop-index-preserved : goal.loop-index-preserved
loop-index-preserved g c = elim c.if-earlier-index.branch [
  | then-earlier-index+then-has_same_ends w ↦ λ _.
      let within : c.loop-index.index < length c.args.list.now = omega arith in
      has_equal_pairs-at (λ s. segment_of s) c.args.list.now _ c.loop-index.index w.index-list-earlier.result w.index-list-index-then-earlier-index.result w.if-earlier-index.true within w.index-list-earlier.is w.index-list-index-then-earlier-index.is
      (sym w.has_same_ends.ensures ∙ w.if-has_same_ends.true)
  | else-earlier-index w ↦ rw (w.equal-is) c.loop-index.invariant
]
