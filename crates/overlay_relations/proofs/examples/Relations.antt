-- Worked examples of relations: squares, two slopes that cross less than a tenth of a unit below a corner, a bow tie, and no contours.
use Rattle.std.proofs.Common.{◌≡◌, refl, ◌∙◌, arith}
use Rattle.std.specs.Prelude.{ℕ, pos, true, false, List, [], ◌∷◌, ◌++◌}
use Rattle.std.specs.List.{AllByRecursion}
use Rattle.std.proofs.lemmas.Bool.{both_ways}
use Rattle.std.proofs.lemmas.Int.{ints}
use Rattle.overlay_geometry.specs.Points.{Point}
use Rattle.overlay_geometry.proofs.laws.lists.Elements.{Has-from_Contains}
use Rattle.overlay_geometry.proofs.laws.lists.Lists.{AllByRecursion-at}
use Rattle.overlay_base.specs.Places.{RationalPoint}
use Rattle.overlay_base.specs.declared.overlay_core.fill_rule.FillRule.TheVariants.{NonZero}
use Rattle.overlay_intersections.proofs.examples.Computing.{computing}
use Rattle.overlay_cuts.specs.Nearness.{IsNear}
use Rattle.overlay_contours.specs.Contours.{edges, winding_number}
use Rattle.overlay_contours.specs.ContourSegments.{contour_segments, overlay_segments}
use Rattle.overlay_contours.specs.Polygons.{IsBeyond}
use Rattle.overlay_contours.proofs.examples.Polygons.{point, at_point, square}
use Rattle.overlay_relations.specs.Boundaries.{has_inexact_crossing}
use Rattle.overlay_relations.specs.Relations.{is_in, InteriorsMeet, Covers, IsWithin, AreSameRegion}

-- the point x / bottom, y / bottom
abbrev part_of : ℕ → ℕ → ℕ → RationalPoint
part_of x y bottom = record { x = pos x; y = pos y; bottom = bottom }

-- A point is on no edge if it is near none.
off_each : (subject clip : List (List Point)) (p : RationalPoint) → AllByRecursion (λ s. IsNear 0 p s → ⊥) (edges subject ++ edges clip) → IsBeyond 0 subject clip p
off_each subject clip p each (s, i, near) =
    AllByRecursion-at (λ t. IsNear 0 p t → ⊥) (edges subject ++ edges clip) s each (Has-from_Contains (edges subject ++ edges clip) s i) near

-- ---- two squares that have a square in common

abbrev first : List (List Point)
first = square 0 4 ∷ []

abbrev second : List (List Point)
second = square 2 6 ∷ []

in_both : (is_in NonZero first (at_point 3 3) ≡ true) × (is_in NonZero second (at_point 3 3) ≡ true)
unfolding winding_number
in_both = (refl, refl)

in_second_alone : (is_in NonZero first (at_point 5 5) ≡ false) × (is_in NonZero second (at_point 5 5) ≡ true)
unfolding winding_number
in_second_alone = (refl, refl)

off_squares : (x y : ℕ) → AllByRecursion (λ s. IsNear 0 (at_point x y) s → ⊥) (edges first ++ edges second) → IsBeyond 0 first second (at_point x y)
off_squares x y each = off_each first second (at_point x y) each

middle_off_edges : IsBeyond 0 first second (at_point 3 3)
middle_off_edges = off_squares 3 3 (
  λ n. omega (arith, ints, n.0.positive, n.1.in_x, n.1.in_y),
  (
    λ n. omega (arith, ints, n.0.positive, n.1.in_x, n.1.in_y),
    (
      λ n. omega (arith, ints, n.0.positive, n.1.in_x, n.1.in_y),
      (
        λ n. omega (arith, ints, n.0.positive, n.1.in_x, n.1.in_y),
        (
          λ n. omega (arith, ints, n.0.positive, n.1.in_x, n.1.in_y),
          (
            λ n. omega (arith, ints, n.0.positive, n.1.in_x, n.1.in_y),
            (
              λ n. omega (arith, ints, n.0.positive, n.1.in_x, n.1.in_y),
              (
                λ n. omega (arith, ints, n.0.positive, n.1.in_x, n.1.in_y),
                tt,
              ),
            ),
          ),
        ),
      ),
    ),
  ),
)

corner_off_edges : IsBeyond 0 first second (at_point 5 5)
corner_off_edges = off_squares 5 5 (
  λ n. omega (arith, ints, n.0.positive, n.1.in_x, n.1.in_y),
  (
    λ n. omega (arith, ints, n.0.positive, n.1.in_x, n.1.in_y),
    (
      λ n. omega (arith, ints, n.0.positive, n.1.in_x, n.1.in_y),
      (
        λ n. omega (arith, ints, n.0.positive, n.1.in_x, n.1.in_y),
        (
          λ n. omega (arith, ints, n.0.positive, n.1.in_x, n.1.in_y),
          (
            λ n. omega (arith, ints, n.0.positive, n.1.in_x, n.1.in_y),
            (
              λ n. omega (arith, ints, n.0.positive, n.1.in_x, n.1.in_y),
              (
                λ n. omega (arith, ints, n.0.positive, n.1.in_x, n.1.in_y),
                tt,
              ),
            ),
          ),
        ),
      ),
    ),
  ),
)

squares_meet : InteriorsMeet NonZero NonZero first second
squares_meet = record { point = at_point 3 3; some = omega arith; off_edges = middle_off_edges; of_subject = in_both.0; of_clip = in_both.1 }

no_cover : Covers NonZero NonZero first second → ⊥
no_cover covers = both_ways (is_in NonZero first (at_point 5 5)) in_second_alone.0 (covers (at_point 5 5) (omega arith) corner_off_edges in_second_alone.1)

not_the_same : AreSameRegion NonZero NonZero first second → ⊥
not_the_same same = both_ways (is_in NonZero first (at_point 5 5)) in_second_alone.0 (same (at_point 5 5) (omega arith) corner_off_edges ∙ in_second_alone.1)

-- ---- less than a tenth of a unit in common: below the line to (10, 1), and above that to (11, 1)

abbrev below_slope : List (List Point)
below_slope = (point 0 0 ∷ point 10 0 ∷ point 10 1 ∷ []) ∷ []

abbrev above_lower_slope : List (List Point)
above_lower_slope = (point 0 0 ∷ point 11 1 ∷ point 0 1 ∷ []) ∷ []

between_slopes : (is_in NonZero below_slope (part_of 1980 189 220) ≡ true) × (is_in NonZero above_lower_slope (part_of 1980 189 220) ≡ true)
unfolding winding_number
between_slopes = (refl, refl)

off_slopes : IsBeyond 0 below_slope above_lower_slope (part_of 1980 189 220)
off_slopes = off_each below_slope above_lower_slope (part_of 1980 189 220) (
  λ n. omega (arith, ints, n.0.positive, n.1.in_x, n.1.in_y),
  (
    λ n. omega (arith, ints, n.0.positive, n.1.in_x, n.1.in_y),
    (
      λ n. omega (arith, ints, n.0.positive, n.1.in_x, n.1.in_y),
      (
        λ n. omega (arith, ints, n.0.positive, n.1.in_x, n.1.in_y),
        (
          λ n. omega (arith, ints, n.0.positive, n.1.in_x, n.1.in_y),
          (
            λ n. omega (arith, ints, n.0.positive, n.1.in_x, n.1.in_y),
            tt,
          ),
        ),
      ),
    ),
  ),
)

slopes_meet : InteriorsMeet NonZero NonZero below_slope above_lower_slope
slopes_meet = record { point = part_of 1980 189 220; some = omega arith; off_edges = off_slopes; of_subject = between_slopes.0; of_clip = between_slopes.1 }

-- ---- no contours: every shape covers them, and they cover no square

nothing_inside : (p : RationalPoint) → is_in NonZero [] p ≡ false
unfolding winding_number
nothing_inside p = refl

nothing_is_covered : (contours : List (List Point)) → Covers NonZero NonZero contours []
nothing_is_covered contours p some far inside = absurd (both_ways (is_in NonZero [] p) (nothing_inside p) inside)

nothing_is_within : (contours : List (List Point)) → IsWithin NonZero NonZero [] contours
nothing_is_within contours p some far inside = absurd (both_ways (is_in NonZero [] p) (nothing_inside p) inside)

off_one_square : IsBeyond 0 [] first (at_point 2 2)
off_one_square = off_each [] first (at_point 2 2) (
  λ n. omega (arith, ints, n.0.positive, n.1.in_x, n.1.in_y),
  (
    λ n. omega (arith, ints, n.0.positive, n.1.in_x, n.1.in_y),
    (
      λ n. omega (arith, ints, n.0.positive, n.1.in_x, n.1.in_y),
      (
        λ n. omega (arith, ints, n.0.positive, n.1.in_x, n.1.in_y),
        tt,
      ),
    ),
  ),
)

in_one_square : is_in NonZero first (at_point 2 2) ≡ true
unfolding winding_number
in_one_square = refl

nothing_covers_no_square : Covers NonZero NonZero [] first → ⊥
nothing_covers_no_square covers = both_ways (is_in NonZero [] (at_point 2 2)) (nothing_inside (at_point 2 2)) (covers (at_point 2 2) (omega arith) off_one_square in_one_square)

-- ---- crossings at points that are not whole: of a bow tie, and of none where a second one runs back along it

abbrev bow : List Point
bow = point 0 0 ∷ point 1 1 ∷ point 1 0 ∷ point 0 1 ∷ []

abbrev bow_back : List Point
bow_back = point 0 1 ∷ point 1 0 ∷ point 1 1 ∷ point 0 0 ∷ []

bow_crosses : has_inexact_crossing (bow ∷ []) [] ≡ true
unfolding computing contour_segments overlay_segments
bow_crosses = refl

bows_cancel : has_inexact_crossing (bow ∷ bow_back ∷ []) [] ≡ false
unfolding computing contour_segments overlay_segments
bows_cancel = refl

squares_cross_exactly : has_inexact_crossing first second ≡ false
unfolding computing contour_segments overlay_segments
squares_cross_exactly = refl

slopes_cross_inexactly : has_inexact_crossing below_slope above_lower_slope ≡ true
unfolding computing contour_segments overlay_segments
slopes_cross_inexactly = refl
