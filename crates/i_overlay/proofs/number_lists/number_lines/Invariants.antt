use Rattle.std.proofs.Common.{◌≡◌, take}
use Rattle.overlay_base.specs.SegmentOf.{segments_of, data_segments_of}
use Rattle.i_overlay.specs.NumberLists.{numbered}
use Rattle.i_overlay.proofs.number_lists.number_lines.Given as goal

abbrev pub invariant-loop-index : goal.invariant-loop-index
invariant-loop-index g l = data_segments_of l.list.items ≡ take l.index (numbered (segments_of l.given))
