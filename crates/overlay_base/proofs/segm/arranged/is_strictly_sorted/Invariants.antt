use Rattle.std.proofs.Common.{◌≡◌, ◌∷◌, drop}
use Rattle.overlay_geometry.specs.Points.{pair_cmp}
use Rattle.overlay_geometry.specs.Sorting.{is_strictly_sorted}
use Rattle.overlay_base.specs.Segments.{pairs}
use Rattle.overlay_geometry.specs.PairOf.{pair_of}
use Rattle.overlay_base.specs.SegmentOf.{segments_of}
use Rattle.overlay_base.proofs.segm.arranged.is_strictly_sorted.Given as goal

abbrev pub invariant-loop-segment : goal.invariant-loop-segment
invariant-loop-segment g l = is_strictly_sorted pair_cmp (pair_of g.I.OverlayInt.whole l.last ∷ drop l.segment-index (pairs (segments_of l.later))) ≡ is_strictly_sorted pair_cmp (pairs (segments_of l.segments))
