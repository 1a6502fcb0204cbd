use Rattle.std.specs.List.{AllWithin}
use Rattle.overlay_base.specs.SegmentOf.{x_segment_of}
use Rattle.overlay_geometry.specs.InRange.{IsPairInRange}
use Rattle.overlay_intersections_tests.proofs.usable.are_in_range.Given as goal

abbrev pub invariant-loop-index : goal.invariant-loop-index
invariant-loop-index g l = AllWithin (λ s. IsPairInRange g.I.OverlayInt.whole g.I.OverlayInt.MIN_COORD g.I.OverlayInt.MAX_COORD (x_segment_of s)) l.segments 0 l.index
