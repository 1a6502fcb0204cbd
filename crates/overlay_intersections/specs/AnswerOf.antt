-- The result of a call as whole numbers.
use Rattle.std.specs.Prelude.{ℤ, Option, Some, None, ◌≡◌}
use Rattle.overlay_geometry.specs.PointOf.{point_of}
use Rattle.overlay_intersections.specs.CrossAnswer.{CrossKind, pure, target_end, other_end, overlay, CrossAnswer, crossing_answer, cross_answer}
use Rattle.overlay_intersections.specs.declared.split.cross.result.CrossType.{CrossType}
use Rattle.overlay_intersections.specs.declared.split.cross.result.CrossType.TheVariants.{Pure, TargetEnd, OtherEnd, Overlay}
use Rattle.overlay_intersections.specs.declared.split.cross.result.CrossResult.{CrossResult}
use Rattle.overlay_geometry.specs.PairOf.{pair_of}
use Rattle.overlay_geometry.specs.declared.geom.x_segment.XSegment.{XSegment}
use Rattle.overlay_intersections.specs.Marks.{Placing}

abbrev pub kind_of : CrossType → CrossKind
kind_of Pure = pure
kind_of TargetEnd = target_end
kind_of OtherEnd = other_end
kind_of Overlay = overlay

abbrev pub result_of : {I : Type 0} → (I → ℤ) → CrossResult I → CrossAnswer
result_of whole result = record { kind = kind_of result.cross_type; point = point_of whole result.point; is_rounded = result.is_round }

abbrev pub answer_of : {I : Type 0} → (I → ℤ) → Option (CrossResult I) → Option CrossAnswer
answer_of whole None = None
answer_of whole (Some result) = Some (result_of whole result)

-- The result of a call is that of the meeting of two segments.
abbrev pub IsCrossAnswer : {I : Type 0} → (I → ℤ) → Placing → XSegment I → XSegment I → Option (CrossResult I) → Type 0
IsCrossAnswer whole placing target other answer = answer_of whole answer ≡ cross_answer placing (pair_of whole target) (pair_of whole other)

-- The result is what the crossing of two segments gives.
abbrev pub IsCrossingAnswer : {I : Type 0} → (I → ℤ) → Placing → XSegment I → XSegment I → CrossResult I → Type 0
IsCrossingAnswer whole placing target other result = crossing_answer placing (pair_of whole target) (pair_of whole other) ≡ Some (result_of whole result)
