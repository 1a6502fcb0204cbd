-- How far a split moves segments. Distances are those in x and in y, whichever is more, and are counted in halves.
use Rattle.std.specs.Prelude.{◌⊎◌, ◌<◌, ◌≤◌, ◌==◌, IsFalse, Bool, not, filter, ◌&&◌, nat_lt, ℕ, zero, suc, ◌+◌, ◌*◌, pos, ◌+ℤ◌, ◌-ℤ◌, ◌*ℤ◌, unsigned_abs, nat_le, if◌then◌else◌, List, All, Contains, IsTrue}
use Rattle.std.specs.List.{list_all}
use Rattle.overlay_geometry.specs.Points.{Point, Pair, is_within_box_of}
use Rattle.overlay_base.specs.Places.{RationalPoint}
use Rattle.overlay_base.specs.Windings.{Winding, is_not_empty}
use Rattle.overlay_base.specs.Segments.{WholeSegment, pairs, winding_at, ends}
use Rattle.overlay_intersections.specs.Crossing.{offset_x, offset_y}
use Rattle.overlay_intersections.specs.Marks.{Placing, snapping, settling}
use Rattle.overlay_cuts.specs.Pass.{EachMark, cut}
use Rattle.overlay_intersections.specs.PassMarks.{is_rounded}
use Rattle.overlay_cuts.specs.Run.{Settings, placing_of_pass, after_passes}
use Rattle.overlay_base.specs.Join.{join}

-- ---- points and pairs

abbrev pub whole_point : Point → RationalPoint
whole_point p = record { x = p.x; y = p.y; bottom = 1 }

-- A number from 0 to 1.
pub record Fraction : Type 0 where
  pub part : ℕ
  pub whole : ℕ
  pub positive : 0 < whole
  pub at_most_one : part ≤ whole

-- the point that lies that fraction of the way along a pair
abbrev pub point_along : Pair → Fraction → RationalPoint
point_along s f = record {
  x = s.a.x *ℤ pos f.whole +ℤ (s.b.x -ℤ s.a.x) *ℤ pos f.part;
  y = s.a.y *ℤ pos f.whole +ℤ (s.b.y -ℤ s.a.y) *ℤ pos f.part;
  bottom = f.whole;
}

-- where two pairs cross
abbrev pub exact_crossing : Pair → Pair → RationalPoint
exact_crossing target other = record {
  x = target.a.x *ℤ pos (offset_x target other).bottom +ℤ (offset_x target other).top;
  y = target.a.y *ℤ pos (offset_y target other).bottom +ℤ (offset_y target other).top;
  bottom = (offset_x target other).bottom;
}

-- two points are at most that many halves apart, in x and in y
pub record IsWithin (halves : ℕ) (p q : RationalPoint) : Type 0 where
  pub in_x : 2 * unsigned_abs (p.x *ℤ pos q.bottom -ℤ q.x *ℤ pos p.bottom) ≤ halves * (p.bottom * q.bottom)
  pub in_y : 2 * unsigned_abs (p.y *ℤ pos q.bottom -ℤ q.y *ℤ pos p.bottom) ≤ halves * (p.bottom * q.bottom)

-- p is that near to some point of s
abbrev pub IsNear : ℕ → RationalPoint → Pair → Type 0
IsNear halves p s = (f : Fraction) × IsWithin halves p (point_along s f)

-- every point of r is that near to some point of s
abbrev pub LiesNear : ℕ → Pair → Pair → Type 0
LiesNear halves r s = (f : Fraction) → IsNear halves (point_along r f) s

-- every pair of the result lies that near to one of the given pairs
abbrev pub LieNear : ℕ → List Pair → List Pair → Type 0
LieNear halves given result = All (λ r. (s : Pair) × Contains given s × LiesNear halves r s) result

-- each mark on a pair of the list lies that near to the pair, where a function names the marks on a pair
abbrev pub MarksLieNear : ℕ → (Pair → List Point) → List WholeSegment → Type 0
MarksLieNear halves marks segments = EachMark (λ s m. IsNear halves (whole_point m) s) marks segments

-- p is that near to some pair of a list
abbrev pub IsNearSome : ℕ → RationalPoint → List Pair → Type 0
IsNearSome halves p list = (s : Pair) × Contains list s × IsNear halves p s

-- ---- passes and runs

-- the greatest whole number whose square is at most n
unfoldable pub root : ℕ → ℕ
root zero = 0
root (suc n) = let r = root n in if nat_le ((r + 1) * (r + 1)) (suc n) then r + 1 else r

-- How far a placing moves a crossing: less than 1 to the snapping point and from there no farther than the radius; or one half.
abbrev pub reach : Placing → ℕ
reach (snapping r2) = 2 + 2 * root r2
reach settling = 1

-- a pass moves something only where two segments cross at a point that is not exact
unfoldable pub reach_of_pass : Placing → List WholeSegment → ℕ
reach_of_pass placing segments = if is_rounded segments then reach placing else 0

-- the passes of a run so far, added
unfoldable pub reach_of_run : Settings → List WholeSegment → ℕ → ℕ
reach_of_run settings given zero = 0
reach_of_run settings given (suc k) = reach_of_run settings given k + reach_of_pass (placing_of_pass settings (suc k)) (after_passes settings given k)

-- as many passes, whatever is given
unfoldable pub reach_of_passes : Settings → ℕ → ℕ
reach_of_passes settings zero = 0
reach_of_passes settings (suc k) = reach_of_passes settings k + reach (placing_of_pass settings (suc k))

-- ---- what a run keeps

-- what the first join of a run joins, and that of each pass
unfoldable pub joined_in : Settings → List WholeSegment → ℕ → List WholeSegment
joined_in settings given zero = given
joined_in settings given (suc k) = cut (placing_of_pass settings (suc k)) (after_passes settings given k)

-- a pair of the bag at which the counts cancel, so that the join drops it
abbrev pub Cancels : List WholeSegment → Pair → Type 0
Cancels bag r = Contains (pairs bag) r × IsFalse (is_not_empty (winding_at bag r))

-- the counts of lines have a mask of two bits that is not 0, which no sum takes from them
abbrev pub are_lines : List WholeSegment → Bool
are_lines segments = list_all (λ s. nat_lt 0 s.count.mask && nat_lt s.count.mask 4) segments

-- p is near a pair that cancelled in one of the first passes, or in the join before them
abbrev pub IsNearCancelled : Settings → List WholeSegment → ℕ → RationalPoint → Type 0
IsNearCancelled settings given passes p = (k : ℕ) × (k ≤ passes) × (r : Pair) × Cancels (joined_in settings given k) r × IsNear (reach_of_run settings given k) p r

-- Every segment of the result lies near a given one, and every point of a given one lies near the result, or near where
-- counts cancelled on the way.
pub record StaysNear (settings : Settings) (given result : List WholeSegment) (passes : ℕ) : Type 0 where
  pub result_is_near : LieNear (reach_of_run settings given passes) (pairs given) (pairs result)
  pub given_is_near : (s : Pair) → Contains (pairs given) s → (f : Fraction) → IsNearSome (reach_of_run settings given passes) (point_along s f) (pairs result) ⊎ IsNearCancelled settings given passes (point_along s f)

-- whether a count has a mask, as that of a line does
abbrev pub has_mask : Winding → Bool
has_mask c = not (c.mask == 0)

-- the segments of a list with a mask
abbrev pub with_mask : List WholeSegment → List WholeSegment
with_mask segments = filter (λ s. has_mask s.count) segments

-- Lines stay: every segment of the result with a mask lies near a given one with a mask, and every point of such a given one lies near such a one of the result.
pub record LinesStayNear (settings : Settings) (given result : List WholeSegment) (passes : ℕ) : Type 0 where
  pub result_is_near : LieNear (reach_of_run settings given passes) (pairs (with_mask given)) (pairs (with_mask result))
  pub given_is_near : (s : Pair) → Contains (pairs (with_mask given)) s → (f : Fraction) → IsNearSome (reach_of_run settings given passes) (point_along s f) (pairs (with_mask result))

-- The ends of the result lie in the box of the ends that the join of what is given has.
abbrev pub LieInGivenBox : List WholeSegment → List WholeSegment → Type 0
LieInGivenBox given result = IsTrue (list_all (λ p. is_within_box_of (ends (pairs (join given))) p) (ends (pairs result)))
