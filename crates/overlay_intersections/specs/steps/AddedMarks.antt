-- What a comparison of two segments appends.
use Rattle.std.specs.Prelude.{◌≡◌, ℕ, ℤ, Bool, List, [], ◌∷◌, ◌++◌, Option, Some}
use Rattle.overlay_geometry.specs.Points.{Pair}
use Rattle.overlay_geometry.specs.PointOf.{point_of}
use Rattle.overlay_geometry.specs.PairOf.{pair_of}
use Rattle.overlay_geometry.specs.declared.geom.point.IntPoint.{IntPoint}
use Rattle.overlay_intersections.specs.Marks.{cross_inexactly}
use Rattle.overlay_intersections.specs.AnswerOf.{result_of}
use Rattle.overlay_intersections.specs.CrossAnswer.{CrossAnswer, target_marks, other_marks}
use Rattle.overlay_intersections.specs.MarkOf.{Mark, marks_of}
use Rattle.overlay_intersections.specs.MarksBetween.{marks_at, marks_between}
use Rattle.overlay_intersections.specs.PlacingOf.{placing_of}
use Rattle.overlay_intersections.specs.declared.split.cross.result.CrossResult.{CrossResult}
use Rattle.overlay_intersections.specs.declared.split.line_mark.LineMark.{LineMark}
use Rattle.overlay_intersections.specs.declared.split.marking.Indexed.{Indexed}
use Rattle.overlay_intersections.specs.declared.split.placing.Placing.{Placing}

-- Marks are appended at a point of the segment with an index.
abbrev pub AddsMark : {I : Type 0} → (I → ℤ) → ℕ → IntPoint I → List (LineMark I) → List (LineMark I) → Type 0
AddsMark whole index point old new = marks_of whole new ≡ marks_of whole old ++ marks_at index (point_of whole point ∷ [])

-- The marks that two segments put on one another are appended.
abbrev pub AddsMarksBetween : {I : Type 0} → (I → ℤ) → Placing → Indexed I → Indexed I → List (LineMark I) → List (LineMark I) → Type 0
AddsMarksBetween whole placing first second old new =
    marks_of whole new ≡ marks_of whole old
    ++ marks_between (placing_of placing) first.index (pair_of whole first.x_segment) second.index (pair_of whole second.x_segment)

-- those that a result stands for
abbrev pub marks_of_answer : ℕ → Pair → ℕ → Pair → Option CrossAnswer → List Mark
marks_of_answer i s j t answer = marks_at i (target_marks s t answer) ++ marks_at j (other_marks s t answer)

-- The marks that a result stands for are appended.
abbrev pub AddsMarksOf : {I : Type 0} → (I → ℤ) → CrossResult I → Indexed I → Indexed I → List (LineMark I) → List (LineMark I) → Type 0
AddsMarksOf whole met first second old new =
    marks_of whole new ≡ marks_of whole old
    ++ marks_of_answer first.index (pair_of whole first.x_segment) second.index (pair_of whole second.x_segment) (Some (result_of whole met))

-- whether two segments cross at a point that is not exact
abbrev pub do_cross_inexactly : {I : Type 0} → (I → ℤ) → Indexed I → Indexed I → Bool
do_cross_inexactly whole first second = cross_inexactly (pair_of whole first.x_segment) (pair_of whole second.x_segment)
