-- Laws over the definitions, each a statement that is proved once and named by a contract.
use Rattle.std.specs.Prelude.{◌≡◌, ◌≢◌, ◌<◌, ◌≤◌, ℕ, ◌*◌, ℤ, pos, ◌+ℤ◌, ◌-ℤ◌, ◌*ℤ◌, ◌≤ℤ◌, ◌<ℤ◌, unsigned_abs, not, ◌&&◌, IsTrue}
use Rattle.std.specs.List.{list_all}
use Rattle.std.specs.Ordering.{int_eq}
use Rattle.overlay_geometry.specs.Points.{Point, Pair, pair_lt, turn, is_end, is_in_box}
use Rattle.overlay_geometry.specs.Meeting.{do_cross}
use Rattle.overlay_intersections.specs.Crossing.{Quotient, truncated, nearest, nearest_upward, is_exact, is_on_lines, snapping_point, settling_point}
use Rattle.overlay_intersections.specs.Marks.{Placing, nearer_end, marks_by}
use Rattle.overlay_intersections.specs.Counts.{count_true}
use Rattle.overlay_intersections.specs.CrossAnswer.{cross_answer, target_marks, other_marks}

-- ---- marks and crossings

-- the result for two pairs, the smaller as target, stands for the marks that the two put on one another
abbrev pub AnswersAreMarks : Type 0
AnswersAreMarks =
    (placing : Placing) (s t : Pair) → IsTrue (pair_lt s t) →
    (target_marks s t (cross_answer placing s t) ≡ marks_by placing s t) × (other_marks s t (cross_answer placing s t) ≡ marks_by placing t s)

-- no mark is an end of the pair that it marks
abbrev pub NoMarkIsAnEnd : Type 0
NoMarkIsAnEnd = (placing : Placing) (s t : Pair) → IsTrue (list_all (λ p. not (is_end s p)) (marks_by placing s t))

-- of the four turns of two pairs, the ends of each apart, never just three are 0
abbrev pub NeverThreeZeros : Type 0
NeverThreeZeros =
    (s t : Pair) → s.a ≢ s.b → t.a ≢ t.b →
    count_true (int_eq (turn s.a s.b t.a) (pos 0)) (int_eq (turn s.a s.b t.b) (pos 0)) (int_eq (turn t.a t.b s.a) (pos 0)) (int_eq (turn t.a t.b s.b) (pos 0)) ≢ 3

-- the end that a crossing snaps to does not lie on the other's line
abbrev pub SnappedEndsAreOffTheLine : Type 0
SnappedEndsAreOffTheLine =
    (s t : Pair) (p : Point) → IsTrue (do_cross s t) →
    (turn t.a (nearer_end p s) t.b ≢ pos 0) × (turn s.a (nearer_end p t) s.b ≢ pos 0)

-- no point is an end of both of two that cross, and so the settling point is not
abbrev pub NoEndOfBoth : Type 0
NoEndOfBoth = (s t : Pair) (p : Point) → IsTrue (do_cross s t) → IsTrue (not (is_end s p && is_end t p))

-- a crossing is exact where the point that it is placed at lies on both lines, and then both placings agree
abbrev pub ExactIsOnBothLines : Type 0
ExactIsOnBothLines =
    (s t : Pair) → IsTrue (do_cross s t) →
    (is_exact s t ≡ is_on_lines s t (snapping_point s t)) × (is_exact s t ≡ is_on_lines s t (settling_point s t))
    × (IsTrue (is_exact s t) → snapping_point s t ≡ settling_point s t)

-- whether a crossing is exact, and where it settles, does not depend on which is the target
abbrev pub TargetDoesNotMatter : Type 0
TargetDoesNotMatter = (s t : Pair) → IsTrue (do_cross s t) → (is_exact s t ≡ is_exact t s) × (settling_point s t ≡ settling_point t s)

-- the points of a crossing lie in the boxes of both
abbrev pub PointsLieInBothBoxes : Type 0
PointsLieInBothBoxes =
    (s t : Pair) → IsTrue (do_cross s t) →
    IsTrue (is_in_box s (snapping_point s t)) × IsTrue (is_in_box t (snapping_point s t))
    × IsTrue (is_in_box s (settling_point s t)) × IsTrue (is_in_box t (settling_point s t))

-- how far a whole number is from a quotient, times the bottom
abbrev pub distance_from : Quotient → ℤ → ℕ
distance_from q r = unsigned_abs (q.top -ℤ pos q.bottom *ℤ r)

-- the nearest whole number, of two as near the one farther from 0
pub record IsNearest (q : Quotient) (r : ℤ) : Type 0 where
  pub near : 2 * distance_from q r ≤ q.bottom
  pub half_away : 2 * distance_from q r ≡ q.bottom → unsigned_abs q.top < unsigned_abs (pos q.bottom *ℤ r)

-- the whole number that is left where the rest is cut off
pub record IsTruncated (q : Quotient) (r : ℤ) : Type 0 where
  pub near : distance_from q r < q.bottom
  pub toward_zero : unsigned_abs (pos q.bottom *ℤ r) ≤ unsigned_abs q.top

-- the greatest whole number that is at most the quotient and one half
pub record IsFloorOfHalfMore (q : Quotient) (r : ℤ) : Type 0 where
  pub low : (pos 2 *ℤ (pos q.bottom *ℤ r)) ≤ℤ (pos 2 *ℤ q.top +ℤ pos q.bottom)
  pub high : (pos 2 *ℤ q.top) <ℤ (pos 2 *ℤ (pos q.bottom *ℤ r) +ℤ pos q.bottom)

-- what the quotients of the three roundings are, and that nothing else is so
pub record IsRoundedAs (q : Quotient) (round : ℤ) (IsRounded : Quotient → ℤ → Type 0) : Type 0 where
  pub is_so : IsRounded q round
  pub alone : (r : ℤ) → IsRounded q r → r ≡ round

abbrev pub RoundingsAreAsMeant : Type 0
RoundingsAreAsMeant =
    (q : Quotient) → 0 < q.bottom →
    IsRoundedAs q (nearest q) IsNearest × IsRoundedAs q (truncated q) IsTruncated × IsRoundedAs q (nearest_upward q) IsFloorOfHalfMore
