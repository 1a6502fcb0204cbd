-- Where two segments meet on one line.
use Rattle.std.proofs.Common.{◌≡◌, ◌∙◌, Bool, true, false, sym, ap, refl, Option, None, Some}
use Rattle.std.proofs.lemmas.Bool.{both_ways, false≢true}
use Rattle.overlay_geometry.specs.Points.{Pair}
use Rattle.overlay_geometry.specs.Meeting.{are_collinear}
use Rattle.overlay_intersections.specs.CrossAnswer.{CrossKind, pure, target_end, other_end, overlay, CrossAnswer, cross_answer}
use Rattle.overlay_intersections.specs.Marks.{Placing}
use Rattle.overlay_intersections.proofs.laws.crossings.AnswerMarks.{by_bool}
use Rattle.overlay_intersections.proofs.laws.marks.MarkedPairs.{overlay_is_collinear}
use Rattle.overlay_c.specs.Crosses.{is_overlay, mask_by}

abbrev overlaps : Option CrossAnswer → Bool
overlaps None = false
overlaps (Some answer) = is_overlay answer.kind

kind_is : (kind : CrossKind) → is_overlay kind ≡ true → kind ≡ overlay
kind_is pure e = absurd (false≢true e)
kind_is target_end e = absurd (false≢true e)
kind_is other_end e = absurd (false≢true e)
kind_is overlay e = refl

line_overlaps : (placing : Placing) (s t : Pair) → are_collinear s t ≡ true → overlaps (cross_answer placing s t) ≡ true
unfolding cross_answer
line_overlaps placing s t h = rw h refl

-- all ends lie on one line exactly where the result says so
pub line_of_kind : (placing : Placing) (s t : Pair) (answer : CrossAnswer) → Some answer ≡ cross_answer placing s t → are_collinear s t ≡ is_overlay answer.kind
line_of_kind placing s t answer e =
    by_bool (are_collinear s t)
    (λ h. h ∙ sym (ap overlaps e ∙ line_overlaps placing s t h))
    (λ off. by_bool (is_overlay answer.kind)
    (λ yes. absurd (both_ways (are_collinear s t) off (overlay_is_collinear placing s t answer.point answer.is_rounded
    (ap (λ k. Some (record { kind = k; point = answer.point; is_rounded = answer.is_rounded })) (sym (kind_is answer.kind yes)) ∙ e))))
    (λ no. off ∙ sym no))

-- where they do not meet they do not lie on one line
pub no_mask : (placing : Placing) (s t : Pair) → None ≡ cross_answer placing s t → 0 ≡ mask_by s t
no_mask placing s t e =
    by_bool (are_collinear s t)
    (λ h. absurd (both_ways (overlaps (cross_answer placing s t)) (sym (ap overlaps e)) (line_overlaps placing s t h)))
    (λ off. rw off refl)
