-- What the meeting of two segments says: at a point that is an end of neither they cross.
use Rattle.std.proofs.Common.{◌≡◌, ap, refl, sym, ◌∙◌}
use Rattle.std.specs.Prelude.{pos, Bool, true, false, if◌then◌else◌, Option, Some, None}
use Rattle.overlay_geometry.specs.Meeting.{are_collinear, do_cross}
use Rattle.overlay_geometry.specs.Points.{Point, Pair, is_strictly_inside}
use Rattle.overlay_intersections.specs.CrossAnswer.{CrossKind, pure, target_end, other_end, overlay, CrossAnswer, answer_at, crossing_answer, touch_answer, cross_answer}
use Rattle.overlay_intersections.specs.Marks.{Placing}

abbrev kind_in : Option CrossAnswer → CrossKind
kind_in None = overlay
kind_in (Some answer) = answer.kind

abbrev is_pure : CrossKind → Bool
is_pure pure = true
is_pure target_end = false
is_pure other_end = false
is_pure overlay = false

at_end : (a b c d : Bool) (p q r s : Point) →
    is_pure (kind_in (if a then answer_at other_end p false else if b then answer_at other_end q false else if c then answer_at target_end r false else if d then answer_at target_end s false else None)) ≡ false
at_end true b c d p q r s = refl
at_end false true c d p q r s = refl
at_end false false true d p q r s = refl
at_end false false false true p q r s = refl
at_end false false false false p q r s = refl

touch_at_end : (s t : Pair) → is_pure (kind_in (touch_answer s t)) ≡ false
unfolding touch_answer
touch_at_end s t = at_end (is_strictly_inside s t.a) (is_strictly_inside s t.b) (is_strictly_inside t s.a) (is_strictly_inside t s.b) t.a t.b s.a s.b

by_tests : (placing : Placing) (s t : Pair) (collinear crosses : Bool) →
    is_pure (kind_in (if collinear then answer_at overlay (record { x = pos 0; y = pos 0 }) false else if crosses then crossing_answer placing s t else touch_answer s t)) ≡ true → crosses ≡ true
by_tests placing s t collinear true h = refl
by_tests placing s t true false h = h
by_tests placing s t false false h = sym (touch_at_end s t) ∙ h

pub pure_crosses : (placing : Placing) (s t : Pair) (answer : CrossAnswer) → Some answer ≡ cross_answer placing s t → answer.kind ≡ pure → do_cross s t ≡ true
unfolding cross_answer
pure_crosses placing s t answer is kind = by_tests placing s t (are_collinear s t) (do_cross s t) (sym (ap (λ (o : Option CrossAnswer). is_pure (kind_in o)) is) ∙ ap is_pure kind)
