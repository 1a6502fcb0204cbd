-- The lower of two segments of a sweep.
use Rattle.std.specs.Prelude.{ℤ, if◌then◌else◌}
use Rattle.std.specs.Ordering.{is_lt}
use Rattle.overlay_geometry.specs.Below.{under_segment_order}
use Rattle.overlay_geometry.specs.VSegmentOf.{v_pair_of}
use Rattle.overlay_geometry.specs.declared.geom.v_segment.VSegment.{VSegment}

-- the first, where it runs below the other, or else the other
abbrev pub lower_of : {I : Type 0} → (I → ℤ) → VSegment I → VSegment I → VSegment I
lower_of whole s t = if is_lt (under_segment_order (v_pair_of whole s) (v_pair_of whole t)) then s else t
