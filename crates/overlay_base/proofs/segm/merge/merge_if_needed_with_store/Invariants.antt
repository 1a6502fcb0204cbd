use Rattle.overlay_base.specs.HooksOf.{hooks_of}
use Rattle.overlay_base.specs.SegmentOf.{data_segment_of}
use Rattle.overlay_base.proofs.laws.joins.Merges.{IsWalked}
use Rattle.overlay_base.proofs.segm.merge.merge_if_needed_with_store.Given as goal

abbrev pub invariant-loop-index : goal.invariant-loop-index
invariant-loop-index g l = IsWalked data_segment_of (hooks_of g.C.WindingCount.counted g.D.OverlayEdgeData) l.fn.list.items l.list.items l.fn.store l.held l.kept l.index l.store l.repeated
