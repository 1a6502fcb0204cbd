-- The result for the meeting of a target and another segment, and which marks a result stands for.
use Rattle.std.specs.Prelude.{ℕ, ◌+◌, pos, Bool, false, not, if◌then◌else◌, List, [], ◌∷◌, filter, Option, Some, None}
use Rattle.overlay_geometry.specs.Points.{Point, Pair, is_end, is_strictly_inside}
use Rattle.overlay_geometry.specs.Meeting.{are_collinear, do_cross}
use Rattle.overlay_intersections.specs.Crossing.{is_exact}
use Rattle.overlay_intersections.specs.Marks.{Placing, crossing_mark}

-- what the point is an end of: nothing, the target, the other; or the four ends lie on one line
pub data CrossKind : Type 0 where
  pure target_end other_end overlay : CrossKind

pub record CrossAnswer : Type 0 where
  pub kind : CrossKind
  pub point : Point
  pub is_rounded : Bool

abbrev pub answer_at : CrossKind → Point → Bool → Option CrossAnswer
answer_at kind point is_rounded = Some (record { kind = kind; point = point; is_rounded = is_rounded })

unfoldable pub kind_of_point : Pair → Pair → Point → CrossKind
kind_of_point target other p = if is_end target p then target_end else if is_end other p then other_end else pure

-- of a crossing strictly inside both
unfoldable pub crossing_answer : Placing → Pair → Pair → Option CrossAnswer
crossing_answer placing target other =
    let p = crossing_mark placing target other in
    answer_at (kind_of_point target other p) p (not (is_exact target other))

-- of two that do not cross: an end of one may lie strictly inside the other
unfoldable pub touch_answer : Pair → Pair → Option CrossAnswer
touch_answer target other =
    if is_strictly_inside target other.a then answer_at other_end other.a false
    else if is_strictly_inside target other.b then answer_at other_end other.b false
    else if is_strictly_inside other target.a then answer_at target_end target.a false
    else if is_strictly_inside other target.b then answer_at target_end target.b false
    else None

unfoldable pub cross_answer : Placing → Pair → Pair → Option CrossAnswer
cross_answer placing target other =
    if are_collinear target other then answer_at overlay (record { x = pos 0; y = pos 0 }) false
    else if do_cross target other then crossing_answer placing target other
    else touch_answer target other

-- a bit for each end that lies strictly inside the other segment: 1 and 2 for the target's a and b, 4 and 8 for the other's
unfoldable pub ends_mask : Pair → Pair → ℕ
ends_mask target other =
    (if is_strictly_inside other target.a then 1 else 0) + (if is_strictly_inside other target.b then 2 else 0)
    + (if is_strictly_inside target other.a then 4 else 0) + (if is_strictly_inside target other.b then 8 else 0)

-- the marks on the target that a result stands for
unfoldable pub target_marks : Pair → Pair → Option CrossAnswer → List Point
target_marks target other None = []
target_marks target other (Some answer) =
    elim answer.kind [
      | pure ↦ answer.point ∷ []
      | target_end ↦ []
      | other_end ↦ answer.point ∷ []
      | overlay ↦ filter (λ p. is_strictly_inside target p) (other.a ∷ other.b ∷ [])
    ]

-- the marks on the other segment
unfoldable pub other_marks : Pair → Pair → Option CrossAnswer → List Point
other_marks target other None = []
other_marks target other (Some answer) =
    elim answer.kind [
      | pure ↦ answer.point ∷ []
      | target_end ↦ answer.point ∷ []
      | other_end ↦ []
      | overlay ↦ filter (λ p. is_strictly_inside other p) (target.a ∷ target.b ∷ [])
    ]
