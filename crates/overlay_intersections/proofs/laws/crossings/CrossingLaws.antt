-- The laws of crossings as they are stated.
use Rattle.std.proofs.Common.{◌≡◌, refl, Bool, true, not, List, [], ◌∷◌}
use Rattle.std.specs.Prelude.{pos, filter}
use Rattle.std.specs.List.{list_all}
use Rattle.std.specs.Ordering.{int_eq}
use Rattle.std.proofs.lemmas.Bool.{and_parts}
use Rattle.std.proofs.lemmas.Bool.Decides.{Decides-int_eq}
use Rattle.overlay_geometry.specs.Points.{Point, Pair, turn, is_end, lies_on, is_strictly_inside}
use Rattle.overlay_geometry.specs.Meeting.{do_cross}
use Rattle.overlay_intersections.specs.Marks.{marks_by, ordered_mark}
use Rattle.overlay_intersections.specs.Laws.{NoMarkIsAnEnd, NeverThreeZeros, SnappedEndsAreOffTheLine, NoEndOfBoth, ExactIsOnBothLines, TargetDoesNotMatter, PointsLieInBothBoxes}
use Rattle.overlay_intersections.proofs.laws.crossings.AnswerMarks.{by_bool, crossing_ends_differ}
use Rattle.overlay_intersections.proofs.laws.crossings.TurnSigns.{Tests, never_three}
use Rattle.overlay_intersections.proofs.laws.crossings.SnappedAnswers.{snapped_target_end_off, snapped_other_end_off}
use Rattle.overlay_intersections.proofs.laws.crossings.ExactCrossings.{exact_is_on_lines, exact_is_on_lines_settling, exact_points_agree, is_exact_swap, settling_point_swap}
use Rattle.overlay_intersections.proofs.laws.crossings.Crossings.{snapping_in_target, snapping_in_other, settling_in_target, settling_in_other}

-- ---- marks

one_kept : (f g : Point → Bool) (p : Point) (rest : List Point) → (f p ≡ true → g p ≡ true) → list_all g (filter f rest) ≡ true → list_all g (filter f (p ∷ rest)) ≡ true
one_kept f g p rest h k = by_bool (f p) (λ e. rw (e, h e, k) refl) (λ n. rw n k)

inside_is_no_end : (s : Pair) (p : Point) → is_strictly_inside s p ≡ true → not (is_end s p) ≡ true
unfolding is_strictly_inside
inside_is_no_end s p h = (and_parts (lies_on s p) (not (is_end s p)) h).1

pub no_mark_is_an_end : NoMarkIsAnEnd
unfolding marks_by
no_mark_is_an_end placing s t =
    by_bool (do_cross s t)
    (λ h. rw h (one_kept (λ p. not (is_end s p)) (λ p. not (is_end s p)) (ordered_mark placing s t) [] (λ e. e) refl))
    (λ n. rw n (one_kept (λ p. is_strictly_inside s p) (λ p. not (is_end s p)) t.a (t.b ∷ []) (inside_is_no_end s t.a)
    (one_kept (λ p. is_strictly_inside s p) (λ p. not (is_end s p)) t.b [] (inside_is_no_end s t.b) refl)))

-- ---- turns

pub never_three_zeros : NeverThreeZeros
never_three_zeros s t hs ht =
    let tests : Tests s t (int_eq (turn s.a s.b t.a) (pos 0)) (int_eq (turn s.a s.b t.b) (pos 0)) (int_eq (turn t.a t.b s.a) (pos 0)) (int_eq (turn t.a t.b s.b) (pos 0)) _ _ = record {
      zero_other_a = Decides-int_eq (turn s.a s.b t.a) (pos 0);
      zero_other_b = Decides-int_eq (turn s.a s.b t.b) (pos 0);
      zero_target_a = Decides-int_eq (turn t.a t.b s.a) (pos 0);
      zero_target_b = Decides-int_eq (turn t.a t.b s.b) (pos 0);
      same_others = refl;
      same_targets = refl;
    } in
    never_three s t _ _ _ _ _ _ hs ht tests

pub snapped_ends_are_off_the_line : SnappedEndsAreOffTheLine
snapped_ends_are_off_the_line s t p h = (snapped_target_end_off s t p h, snapped_other_end_off s t p h)

-- ---- points

pub no_end_of_both : NoEndOfBoth
no_end_of_both s t p h = by_bool (is_end s p) (λ e. rw (e, crossing_ends_differ s t p h e) refl) (λ n. rw n refl)

pub exact_is_on_both_lines : ExactIsOnBothLines
exact_is_on_both_lines s t h = (exact_is_on_lines s t h, exact_is_on_lines_settling s t h, exact_points_agree s t h)

pub target_does_not_matter : TargetDoesNotMatter
target_does_not_matter s t h = (is_exact_swap s t h, settling_point_swap s t h)

pub points_lie_in_both_boxes : PointsLieInBothBoxes
points_lie_in_both_boxes s t h = (snapping_in_target s t h, snapping_in_other s t h, settling_in_target s t h, settling_in_other s t h)
