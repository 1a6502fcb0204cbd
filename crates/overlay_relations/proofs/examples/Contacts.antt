-- Worked examples of contacts: how near points are, points inside and outside near a common corner of two squares, squares that overlap,
-- and no contours.
use Rattle.std.proofs.Common.{◌≡◌, refl, arith}
use Rattle.std.specs.Prelude.{ℕ, pos, true, false, List, [], ◌∷◌, ◌++◌}
use Rattle.std.specs.List.{AllByRecursion}
use Rattle.std.proofs.lemmas.Bool.{both_ways}
use Rattle.std.proofs.lemmas.Int.{ints}
use Rattle.overlay_geometry.specs.Points.{Point}
use Rattle.overlay_geometry.proofs.laws.lists.Elements.{Has-from_Contains}
use Rattle.overlay_geometry.proofs.laws.lists.Lists.{AllByRecursion-at}
use Rattle.overlay_base.specs.Places.{RationalPoint}
use Rattle.overlay_base.specs.declared.overlay_core.fill_rule.FillRule.TheVariants.{NonZero}
use Rattle.overlay_cuts.specs.Nearness.{IsNear}
use Rattle.overlay_contours.specs.Contours.{edges, winding_number}
use Rattle.overlay_contours.specs.Polygons.{IsBeyond}
use Rattle.overlay_contours.proofs.examples.Polygons.{at_point, square}
use Rattle.overlay_relations.specs.Contacts.{IsCloser, HasCloser, SharePoint, AreDisjoint, Touch}
use Rattle.overlay_relations.specs.Relations.{is_in, InteriorsMeet}
use Rattle.overlay_relations.proofs.laws.ContactOutcomes.{meeting_shares}

-- the point x / bottom, y / bottom
abbrev part_of : ℕ → ℕ → ℕ → RationalPoint
part_of x y bottom = record { x = pos x; y = pos y; bottom = bottom }

-- ---- a quarter of a unit is nearer than a third, and not nearer than a quarter

nearer_than_a_third : IsCloser 3 (at_point 0 0) (part_of 1 0 4)
nearer_than_a_third = record { in_x = omega arith; in_y = omega arith }

not_nearer_than_a_quarter : IsCloser 4 (at_point 0 0) (part_of 1 0 4) → ⊥
not_nearer_than_a_quarter close = absurd (omega (arith, close.in_x))

far_upward : IsCloser 1 (at_point 0 0) (part_of 0 5 4) → ⊥
far_upward close = absurd (omega (arith, close.in_y))

-- ---- the corner (4, 4), common to two squares: nearer than one hundredth are points inside and outside of each

abbrev first : List (List Point)
first = square 0 4 ∷ []

abbrev second : List (List Point)
second = square 4 8 ∷ []

-- A point is on no edge if it is near none.
off_each : (contours : List (List Point)) (p : RationalPoint) → AllByRecursion (λ s. IsNear 0 p s → ⊥) (edges contours ++ edges []) → IsBeyond 0 contours [] p
off_each contours p each (s, i, near) = AllByRecursion-at (λ t. IsNear 0 p t → ⊥) (edges contours ++ edges []) s each (Has-from_Contains (edges contours ++ edges []) s i) near

low_off_first : IsBeyond 0 first [] (part_of 511 511 128)
low_off_first = off_each first (part_of 511 511 128) (
  λ n. omega (arith, ints, n.0.positive, n.1.in_x, n.1.in_y),
  (
    λ n. omega (arith, ints, n.0.positive, n.1.in_x, n.1.in_y),
    (
      λ n. omega (arith, ints, n.0.positive, n.1.in_x, n.1.in_y),
      (
        λ n. omega (arith, ints, n.0.positive, n.1.in_x, n.1.in_y),
        tt,
      ),
    ),
  ),
)

high_off_first : IsBeyond 0 first [] (part_of 513 513 128)
high_off_first = off_each first (part_of 513 513 128) (
  λ n. omega (arith, ints, n.0.positive, n.0.at_most_one, n.1.in_x, n.1.in_y),
  (
    λ n. omega (arith, ints, n.0.positive, n.0.at_most_one, n.1.in_x, n.1.in_y),
    (
      λ n. omega (arith, ints, n.0.positive, n.0.at_most_one, n.1.in_x, n.1.in_y),
      (
        λ n. omega (arith, ints, n.0.positive, n.0.at_most_one, n.1.in_x, n.1.in_y),
        tt,
      ),
    ),
  ),
)

high_off_second : IsBeyond 0 second [] (part_of 513 513 128)
high_off_second = off_each second (part_of 513 513 128) (
  λ n. omega (arith, ints, n.0.positive, n.1.in_x, n.1.in_y),
  (
    λ n. omega (arith, ints, n.0.positive, n.1.in_x, n.1.in_y),
    (
      λ n. omega (arith, ints, n.0.positive, n.1.in_x, n.1.in_y),
      (
        λ n. omega (arith, ints, n.0.positive, n.1.in_x, n.1.in_y),
        tt,
      ),
    ),
  ),
)

in_first : (is_in NonZero first (part_of 511 511 128) ≡ true) × (is_in NonZero first (part_of 513 513 128) ≡ false) × (is_in NonZero second (part_of 513 513 128) ≡ true)
unfolding winding_number
in_first = (refl, refl, refl)

inside_first : HasCloser NonZero first true (at_point 4 4) 100
inside_first = record { point = part_of 511 511 128; some = omega arith; closer = record { in_x = omega arith; in_y = omega arith }; off_edges = low_off_first; here = in_first.0 }

outside_first : HasCloser NonZero first false (at_point 4 4) 100
outside_first = record { point = part_of 513 513 128; some = omega arith; closer = record { in_x = omega arith; in_y = omega arith }; off_edges = high_off_first; here = in_first.1 }

inside_second : HasCloser NonZero second true (at_point 4 4) 100
inside_second = record { point = part_of 513 513 128; some = omega arith; closer = record { in_x = omega arith; in_y = omega arith }; off_edges = high_off_second; here = in_first.2 }

-- ---- shapes that have a point inside both share it, so they neither touch nor are disjoint

meeting_is_contact : (subject clip : List (List Point)) → InteriorsMeet NonZero NonZero subject clip → SharePoint NonZero NonZero subject clip
meeting_is_contact subject clip meet = meeting_shares NonZero NonZero subject clip meet

meeting_is_no_touch : (subject clip : List (List Point)) → InteriorsMeet NonZero NonZero subject clip → Touch NonZero NonZero subject clip → ⊥
meeting_is_no_touch subject clip meet touch = touch.1 meet

-- ---- no contours share no point with any

nothing_inside : (p : RationalPoint) → is_in NonZero [] p ≡ false
unfolding winding_number
nothing_inside p = refl

nothing_is_disjoint : (contours : List (List Point)) → AreDisjoint NonZero NonZero [] contours
nothing_is_disjoint contours share = let q = share.of_subject 0 in both_ways (is_in NonZero [] q.point) (nothing_inside q.point) q.here

nothing_touches_nothing : (contours : List (List Point)) → Touch NonZero NonZero contours [] → ⊥
nothing_touches_nothing contours touch = let q = touch.0.of_clip 0 in both_ways (is_in NonZero [] q.point) (nothing_inside q.point) q.here
