-- Which rays lie inside a sector: of the eight main directions, by the sectors between two of them.
use Rattle.std.specs.Prelude.{◌≡◌, refl, ℤ, pos, true, false, [], ◌∷◌, map, List}
use Rattle.overlay_geometry.specs.Points.{Point, turn}
use Rattle.overlay_shapes.specs.Sectors.{lies_in_sector, leads_into_sector}

abbrev at : ℤ → ℤ → Point
at x y = record { x = x; y = y }

abbrev center : Point
center = at (pos 3) (pos 2)

-- around (3, 2), counterclockwise from the right
abbrev around : List Point
around = at (pos 5) (pos 2) ∷ at (pos 5) (pos 4) ∷ at (pos 3) (pos 4) ∷ at (pos 1) (pos 4) ∷ at (pos 1) (pos 2) ∷ at (pos 1) (pos 0) ∷ at (pos 3) (pos 0) ∷ at (pos 5) (pos 0) ∷ []

-- less than half a turn: from the right to straight up lies what leads right and up
quarter : map (lies_in_sector center (at (pos 4) (pos 2)) (at (pos 3) (pos 7))) around ≡ (false ∷ true ∷ false ∷ false ∷ false ∷ false ∷ false ∷ false ∷ [])
unfolding turn
quarter = refl

-- more than half a turn: from straight up on to the right, all but that and the two bounds
three_quarters : map (lies_in_sector center (at (pos 3) (pos 7)) (at (pos 4) (pos 2))) around ≡ (false ∷ false ∷ false ∷ true ∷ true ∷ true ∷ true ∷ true ∷ [])
unfolding turn
three_quarters = refl

-- just half a turn: from the right to the left what leads up, and from the left to the right what leads down
upper_half : map (lies_in_sector center (at (pos 4) (pos 2)) (at (pos 0) (pos 2))) around ≡ (false ∷ true ∷ true ∷ true ∷ false ∷ false ∷ false ∷ false ∷ [])
unfolding turn
upper_half = refl

lower_half : map (lies_in_sector center (at (pos 0) (pos 2)) (at (pos 4) (pos 2))) around ≡ (false ∷ false ∷ false ∷ false ∷ false ∷ true ∷ true ∷ true ∷ [])
unfolding turn
lower_half = refl

-- A pair leads into a sector by either of its ends at the point. One that has none there does not, even if it lies inside.
into_quarter : map (leads_into_sector center (at (pos 4) (pos 2)) (at (pos 3) (pos 7))) (record { a = center; b = at (pos 5) (pos 4) } ∷ record { a = at (pos 5) (pos 4); b = center } ∷ record { a = at (pos 1) (pos 0); b = center } ∷ record { a = at (pos 4) (pos 3); b = at (pos 5) (pos 4) } ∷ [])
    ≡ (true ∷ true ∷ false ∷ false ∷ [])
unfolding turn
into_quarter = refl
