-- The text of the output: one item a line.
use Rattle.std.specs.Prelude.{ℕ, ℤ, Bool, codes, if◌then◌else◌, List, [], ◌∷◌, ◌++◌, flat_map, Option, Some, None}
use Rattle.std.specs.Fmt.{decimal, signed_decimal}
use Rattle.overlay_geometry.specs.Points.{Point, Pair, pair_lt}
use Rattle.overlay_base.specs.Segments.{WholeSegment}
use Rattle.overlay_intersections.specs.Marks.{snapping}
use Rattle.overlay_intersections.specs.CrossAnswer.{pure, target_end, other_end, overlay, CrossAnswer, cross_answer, ends_mask}
use Rattle.overlay_geometry.specs.PointOf.{point_of}
use Rattle.overlay_intersections.specs.declared.split.cross.result.CrossResult.{CrossResult}

-- two numbers, each after a space
abbrev pub pair_text : ℤ → ℤ → List ℕ
pair_text x y = codes " " ++ signed_decimal x ++ codes " " ++ signed_decimal y

-- `seg AX AY BX BY SUBJ CLIP`
unfoldable pub segment_line : WholeSegment → List ℕ
segment_line s = codes "seg" ++ pair_text s.pair.a.x s.pair.a.y ++ pair_text s.pair.b.x s.pair.b.y ++ pair_text s.count.subj s.count.clip ++ codes "\n"

abbrev pub segment_lines : List WholeSegment → List ℕ
segment_lines segments = flat_map segment_line segments

-- `true` or `false`
abbrev pub bool_text : Bool → List ℕ
bool_text b = if b then codes "true" else codes "false"

-- `flag true` or `flag false`
abbrev pub flag_line : Bool → List ℕ
flag_line flag = codes "flag " ++ bool_text flag ++ codes "\n"

-- `passes N`
abbrev pub passes_line : ℕ → List ℕ
passes_line passes = codes "passes " ++ decimal passes ++ codes "\n"

-- `KIND X Y exact` or `KIND X Y rounded`
unfoldable pub place_line : List ℕ → Point → Bool → List ℕ
place_line kind point is_rounded = kind ++ pair_text point.x point.y ++ (if is_rounded then codes " rounded\n" else codes " exact\n")

-- `overlay MASK`, with the number of the ends that lie strictly inside the other segment
abbrev pub overlay_line : Pair → Pair → List ℕ
overlay_line target other = codes "overlay " ++ decimal (ends_mask target other) ++ codes "\n"

-- the text of the result for a target and another segment
unfoldable pub answer_text : Pair → Pair → Option CrossAnswer → List ℕ
answer_text target other None = codes "none\n"
answer_text target other (Some answer) =
    elim answer.kind [
      | pure ↦ place_line (codes "pure") answer.point answer.is_rounded
      | target_end ↦ place_line (codes "target-end") answer.point answer.is_rounded
      | other_end ↦ place_line (codes "other-end") answer.point answer.is_rounded
      | overlay ↦ overlay_line target other
    ]

-- the text of where two segments meet, the smaller one as the target, under a squared radius
unfoldable pub meeting_text : ℕ → Pair → Pair → List ℕ
meeting_text r2 s t =
    if pair_lt s t then answer_text s t (cross_answer (snapping r2) s t)
    else answer_text t s (cross_answer (snapping r2) t s)

-- the text of a crossing, where it is of two segments
abbrev pub cross_text : ℕ → List WholeSegment → Option (List ℕ)
cross_text r2 (s ∷ t ∷ []) = Some (meeting_text r2 s.pair t.pair)
cross_text r2 segments = None

-- numbers, each after a space
abbrev pub numbers_text : List ℕ → List ℕ
numbers_text numbers = flat_map (λ n. codes " " ++ decimal n) numbers

-- the line of a place of code
abbrev pub place_text : {I : Type 0} → (I → ℤ) → List ℕ → CrossResult I → List ℕ
place_text whole kind place = place_line kind (point_of whole place.point) place.is_round
