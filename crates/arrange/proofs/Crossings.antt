-- What is needed to print a crossing: conditions of the call, and which result is an overlap.
use Rattle.std.proofs.Common.{◌≡◌, ◌<◌, ◌≤◌, ℤ, Bool, true, ◌&&◌, List, [], ◌∷◌, length, get_or, map, Some, Option, sym, ap, ◌∙◌, arith}
use Rattle.std.proofs.lemmas.Bool.{and_parts}
use Rattle.std.specs.Prelude.{IsTrue}
use Rattle.overlay_geometry.specs.Points.{Pair}
use Rattle.overlay_geometry.specs.Meeting.{are_collinear}
use Rattle.overlay_base.specs.Segments.{WholeSegment}
use Rattle.overlay_base.specs.Windings.{is_valid, is_not_empty}
use Rattle.overlay_base.specs.Planar.{is_splittable}
use Rattle.overlay_geometry.specs.Coordinates.{is_pair_in_range}
use Rattle.overlay_intersections.specs.Marks.{Placing}
use Rattle.overlay_intersections.specs.CrossAnswer.{overlay, CrossAnswer, cross_answer}
use Rattle.overlay_intersections.specs.AnswerOf.{answer_of, result_of}
use Rattle.overlay_intersections.specs.declared.split.cross.result.CrossResult.{CrossResult}
use Rattle.overlay_intersections.proofs.laws.marks.MarkedPairs.{overlay_is_collinear}

-- a list of two
pub are_two : {X : Type 0} (xs : List X) (x y : X) → 2 ≤ length xs → length xs < 3 → x ≡ get_or xs 0 x → y ≡ get_or xs 1 y → xs ≡ x ∷ y ∷ []
are_two [] x y low high first second = absurd (omega arith)
are_two (u ∷ []) x y low high first second = absurd (omega arith)
are_two (u ∷ v ∷ []) x y low high first second = λ i. sym first i ∷ sym second i ∷ []
are_two (u ∷ v ∷ w ∷ xs) x y low high first second = absurd (omega arith)

pub two_in_range : {X : Type 0} (whole : X → WholeSegment) (least greatest : ℤ) (xs : List X) (x y : X) → xs ≡ x ∷ y ∷ [] → IsTrue (is_splittable least greatest (map whole xs))
    → IsTrue (is_pair_in_range least greatest (whole x).pair) × IsTrue (is_pair_in_range least greatest (whole y).pair)
unfolding is_splittable
two_in_range whole least greatest xs x y e splittable =
    let each = ap (λ l. is_splittable least greatest (map whole l)) (sym e) ∙ splittable in
    let test : WholeSegment → Bool = λ s. is_pair_in_range least greatest s.pair && is_valid s.count && is_not_empty s.count in
    let parts = and_parts (test (whole x)) (test (whole y) && true) each in
    let second = and_parts (test (whole y)) true parts.1 in
    (pair_part (whole x) parts.0, pair_part (whole y) second.0)
  where
    pair_part : (s : WholeSegment) → (is_pair_in_range least greatest s.pair && is_valid s.count && is_not_empty s.count) ≡ true → is_pair_in_range least greatest s.pair ≡ true
    pair_part s h = (and_parts (is_pair_in_range least greatest s.pair) (is_valid s.count) (and_parts (is_pair_in_range least greatest s.pair && is_valid s.count) (is_not_empty s.count) h).0).0

-- what is in a result, as whole numbers
pub answered : {I : Type 0} (whole : I → ℤ) (given : Option (CrossResult I)) (place : CrossResult I) (answer : Option CrossAnswer) → given ≡ Some place → answer_of whole given ≡ answer → Some (result_of whole place) ≡ answer
answered whole given place answer i e = sym (ap (answer_of whole) i) ∙ e

pub overlap_is_collinear : (placing : Placing) (s t : Pair) (answer : CrossAnswer) → Some answer ≡ cross_answer placing s t → answer.kind ≡ overlay → IsTrue (are_collinear s t)
overlap_is_collinear placing s t answer h k =
    overlay_is_collinear placing s t answer.point answer.is_rounded (ap (λ kind. Some (record { kind = kind; point = answer.point; is_rounded = answer.is_rounded })) (sym k) ∙ h)
