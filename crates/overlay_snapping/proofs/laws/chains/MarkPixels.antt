-- A segment meets the pixel of each point at which a settling pass marks it.
use Rattle.std.proofs.Common.{◌≡◌, subst, arith, ℕ, List, IsTrue}
use Rattle.std.specs.Prelude.{ℤ, pos, negsuc, ◌+ℤ◌, ◌-ℤ◌, ◌*ℤ◌, ◌≤ℤ◌, ◌<ℤ◌, neg_ℤ}
use Rattle.std.proofs.lemmas.Int.{ints}
use Rattle.overlay_geometry.specs.Points.{Point, Pair, is_ordered}
use Rattle.overlay_geometry.proofs.laws.integers.Products.{times_comm}
use Rattle.overlay_geometry.proofs.laws.lists.Lists.{Has, AllByRecursion-at, list_all-at, Has-map_out}
use Rattle.overlay_geometry.proofs.laws.lists.Elements.{Has-from_Contains}
use Rattle.overlay_base.specs.Segments.{WholeSegment, pairs, are_ordered}
use Rattle.overlay_intersections.specs.Marks.{settling}
use Rattle.overlay_intersections.specs.PassMarks.{marks_on}
use Rattle.overlay_intersections.proofs.laws.crossings.Crossings.{IsPart}
use Rattle.overlay_intersections.proofs.laws.crossings.Rounding.{IsRoundedUp}
use Rattle.overlay_intersections.proofs.laws.marks.Marks.{IsRoundedPoint, rounded-marks_on}
use Rattle.overlay_snapping.specs.Pixels.{MeetsPixel}
use Rattle.overlay_snapping.specs.Laws.{MarksMeetPixels}
use Rattle.overlay_snapping.proofs.laws.pixels.Inequality.{inequality_is_meant}

pub low_side : (t z : ℤ) (w : ℕ) → IsRoundedUp t w z → neg_ℤ (pos w) ≤ℤ (pos 2 *ℤ (t -ℤ z *ℤ pos w))
low_side t z w is = plain t (z *ℤ pos w) (pos w *ℤ z) w (times_comm z (pos w)) is.low
  where
    plain : (t x y : ℤ) (w : ℕ) → x ≡ y → (pos 2 *ℤ y) ≤ℤ (pos 2 *ℤ t +ℤ pos w) → neg_ℤ (pos w) ≤ℤ (pos 2 *ℤ (t -ℤ x))
    plain t x y w e l = omega (arith, ints, e, l)

pub high_side : (t z : ℤ) (w : ℕ) → IsRoundedUp t w z → (pos 2 *ℤ (t -ℤ z *ℤ pos w)) <ℤ pos w
high_side t z w is = plain t (z *ℤ pos w) (pos w *ℤ z) w (times_comm z (pos w)) is.high
  where
    plain : (t x y : ℤ) (w : ℕ) → x ≡ y → (pos 2 *ℤ t) <ℤ (pos 2 *ℤ y +ℤ pos w) → (pos 2 *ℤ (t -ℤ x)) <ℤ pos w
    plain t x y w e l = omega (arith, ints, e, l)

pub met : (s : Pair) (c : Point) (n : ℤ) (w : ℕ) → IsPart n w → IsRoundedUp (s.a.x *ℤ pos w +ℤ (s.b.x -ℤ s.a.x) *ℤ n) w c.x → IsRoundedUp (s.a.y *ℤ pos w +ℤ (s.b.y -ℤ s.a.y) *ℤ n) w c.y → MeetsPixel s c
met s c (negsuc n) w is x y = absurd (let l = is.low in omega (arith, ints, l))
met s c (pos n) w is x y = (
  record { part = n; whole = w; positive = is.some; at_most_one = let l = is.high in omega (arith, ints, l) },
  record { from_left = low_side _ c.x w x; to_right = high_side _ c.x w x; from_below = low_side _ c.y w y; to_top = high_side _ c.y w y },
)

-- each pair of a list of ordered segments
pub ordered : (segments : List WholeSegment) → IsTrue (are_ordered segments) → (s : Pair) → Has (pairs segments) s → IsTrue (is_ordered s)
ordered segments h s i =
    let r = Has-map_out (λ (u : WholeSegment). u.pair) segments s i in
    subst (λ (p : Pair). IsTrue (is_ordered p)) r.2 (list_all-at (λ (u : WholeSegment). is_ordered u.pair) segments r.0 h r.1)

pub marks_meet_pixels : MarksMeetPixels
marks_meet_pixels segments h s c i m =
    let o = ordered segments h s (Has-from_Contains (pairs segments) s i) in
    let r = AllByRecursion-at (IsRoundedPoint s) (marks_on settling segments s) c (rounded-marks_on segments s o) (Has-from_Contains (marks_on settling segments s) c m) in
    (inequality_is_meant s c o).1 (met s c r.part r.whole r.is_part r.at_x r.at_y)
