-- Worked examples of places beyond a distance: the middle of a square is farther than a unit from its edges, and no farther than two.
use Rattle.std.proofs.Common.{inl, inr, sym, subst, arith, refl}
use Rattle.std.specs.Prelude.{ℕ, List, [], ◌∷◌, ◌++◌}
use Rattle.std.proofs.lemmas.Int.{ints}
use Rattle.overlay_geometry.specs.Points.{Pair}
use Rattle.overlay_geometry.proofs.laws.lists.Elements.{Has-from_Contains, Contains-from_Has}
use Rattle.overlay_geometry.proofs.laws.lists.Lists.{Has}
use Rattle.overlay_cuts.specs.Nearness.{IsNear}
use Rattle.overlay_contours.specs.Polygons.{IsBeyond}
use Rattle.overlay_contours.specs.Contours.{edges}
use Rattle.overlay_contours.proofs.examples.Polygons.{point, at_point, square}

abbrev side : ℕ → ℕ → ℕ → ℕ → Pair
side x y u v = record { a = point x y; b = point u v }

abbrev sides : List Pair
sides = edges (square 0 4 ∷ []) ++ edges []

middle_is_beyond : IsBeyond 2 (square 0 4 ∷ []) [] (at_point 2 2)
middle_is_beyond (s, i, near) = by (Has-from_Contains sides s i)
  where
    lower : IsNear 2 (at_point 2 2) (side 0 0 4 0) → ⊥
    lower (f, near) = omega (arith, ints, f.positive, near.in_x, near.in_y)

    right : IsNear 2 (at_point 2 2) (side 4 0 4 4) → ⊥
    right (f, near) = omega (arith, ints, f.positive, near.in_x, near.in_y)

    upper : IsNear 2 (at_point 2 2) (side 0 4 4 4) → ⊥
    upper (f, near) = omega (arith, ints, f.positive, near.in_x, near.in_y)

    left : IsNear 2 (at_point 2 2) (side 0 0 0 4) → ⊥
    left (f, near) = omega (arith, ints, f.positive, near.in_x, near.in_y)

    by : Has sides s → ⊥
    by (inl e) = lower (subst (λ (t : Pair). IsNear 2 (at_point 2 2) t) (sym e) near)
    by (inr (inl e)) = right (subst (λ (t : Pair). IsNear 2 (at_point 2 2) t) (sym e) near)
    by (inr (inr (inl e))) = upper (subst (λ (t : Pair). IsNear 2 (at_point 2 2) t) (sym e) near)
    by (inr (inr (inr (inl e)))) = left (subst (λ (t : Pair). IsNear 2 (at_point 2 2) t) (sym e) near)
    by (inr (inr (inr (inr none)))) = absurd none

-- two units are just the distance to the lower side
middle_is_within_two : IsBeyond 4 (square 0 4 ∷ []) [] (at_point 2 2) → ⊥
middle_is_within_two beyond = beyond (
  side 0 0 4 0,
  Contains-from_Has sides (side 0 0 4 0) (inl refl),
  (record { part = 1; whole = 2; positive = omega arith; at_most_one = omega arith }, record { in_x = omega (arith, ints); in_y = omega (arith, ints) }),
)
