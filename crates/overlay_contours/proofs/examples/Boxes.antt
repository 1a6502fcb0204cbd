-- Worked examples of the box around points. Each holds by computation.
use Rattle.std.specs.Prelude.{refl, pos, List, [], ◌∷◌}
use Rattle.std.proofs.lemmas.List.Elements.{All-from_recursion, Contains-get_or}
use Rattle.std.proofs.Common.{arith}
use Rattle.std.proofs.lemmas.Int.{ints}
use Rattle.overlay_geometry.specs.Points.{Point}
use Rattle.overlay_geometry.specs.Ranges.{Rect}
use Rattle.overlay_contours.specs.Boxes.{all_points, LiesIn, IsBoundingBox}
use Rattle.overlay_contours.proofs.examples.Polygons.{point}

-- a triangle and one point more
abbrev given : List (List Point)
given = (point 2 9 ∷ point 7 1 ∷ point 4 4 ∷ []) ∷ (point 3 5 ∷ []) ∷ []

abbrev box : Rect
box = record { min_x = pos 2; max_x = pos 7; min_y = pos 1; max_y = pos 9 }

around_given : IsBoundingBox (all_points given) box
around_given = record {
  around = All-from_recursion (LiesIn box) (all_points given) (first, (second, (third, (fourth, tt))));
  left = (point 2 9, Contains-get_or (all_points given) 0 (point 0 0) (omega arith), refl);
  right = (point 7 1, Contains-get_or (all_points given) 1 (point 0 0) (omega arith), refl);
  below = (point 7 1, Contains-get_or (all_points given) 1 (point 0 0) (omega arith), refl);
  above = (point 2 9, Contains-get_or (all_points given) 0 (point 0 0) (omega arith), refl);
}
  where
    first : LiesIn box (point 2 9)
    first = record { left = omega (arith, ints); right = omega (arith, ints); below = omega (arith, ints); above = omega (arith, ints) }

    second : LiesIn box (point 7 1)
    second = record { left = omega (arith, ints); right = omega (arith, ints); below = omega (arith, ints); above = omega (arith, ints) }

    third : LiesIn box (point 4 4)
    third = record { left = omega (arith, ints); right = omega (arith, ints); below = omega (arith, ints); above = omega (arith, ints) }

    fourth : LiesIn box (point 3 5)
    fourth = record { left = omega (arith, ints); right = omega (arith, ints); below = omega (arith, ints); above = omega (arith, ints) }
