-- Raw outlines of contours: each step moved by a vector, and around the end of each a way to where the next one is moved.
use Rattle.std.specs.Prelude.{⊤, pos, ◌≤ℤ◌, List, [], ◌∷◌, ◌++◌, map}
use Rattle.overlay_geometry.specs.Points.{Point, Pair, moved, step, turn, cross_product}
use Rattle.overlay_contours.specs.Contours.{steps_of}

-- The way around the end of s: from the end of s, moved as s, over some points, to the same point, moved as t.
abbrev pub turn_way : (Pair → Point) → (Pair → Pair → List Point) → Pair → Pair → List Point
turn_way vector between s t = moved (vector s) s.b ∷ between s t ++ moved (vector t) s.b ∷ []

-- these ways from s along some steps, and on to the first step
abbrev pub outline_from : (Pair → Point) → (Pair → Pair → List Point) → Pair → Pair → List Pair → List Point
outline_from vector between first s [] = turn_way vector between s first
outline_from vector between first s (t ∷ steps) = turn_way vector between s t ++ outline_from vector between first t steps

abbrev outline_of_steps : (Pair → Point) → (Pair → Pair → List Point) → List Pair → List Point
outline_of_steps vector between [] = []
outline_of_steps vector between (s ∷ steps) = outline_from vector between s s steps

-- the outline of a contour
abbrev pub outline : (Pair → Point) → (Pair → Pair → List Point) → List Point → List Point
outline vector between contour = outline_of_steps vector between (steps_of contour)

-- ---- the pieces of an outline

-- from a step to where it is moved, and back along the step
abbrev pub parallelogram : (Pair → Point) → Pair → List Point
parallelogram vector s = s.a ∷ moved (vector s) s.a ∷ moved (vector s) s.b ∷ s.b ∷ []

abbrev pub parallelograms : (Pair → Point) → List Point → List (List Point)
parallelograms vector contour = map (parallelogram vector) (steps_of contour)

-- from the end of s along the way around it, and back
abbrev pub fan : (Pair → Point) → (Pair → Pair → List Point) → Pair → Pair → List Point
fan vector between s t = s.b ∷ turn_way vector between s t

abbrev pub fans_from : (Pair → Point) → (Pair → Pair → List Point) → Pair → Pair → List Pair → List (List Point)
fans_from vector between first s [] = fan vector between s first ∷ []
fans_from vector between first s (t ∷ steps) = fan vector between s t ∷ fans_from vector between first t steps

abbrev fans_of_steps : (Pair → Point) → (Pair → Pair → List Point) → List Pair → List (List Point)
fans_of_steps vector between [] = []
fans_of_steps vector between (s ∷ steps) = fans_from vector between s s steps

abbrev pub fans : (Pair → Point) → (Pair → Pair → List Point) → List Point → List (List Point)
fans vector between contour = fans_of_steps vector between (steps_of contour)

-- ---- pieces that wind 0 or more

-- Seen from b, the way from m along some points turns right nowhere.
abbrev pub TurnsLeft : Point → Point → List Point → Type 0
TurnsLeft b m [] = ⊤
TurnsLeft b m (n ∷ points) = (pos 0 ≤ℤ turn b m n) × TurnsLeft b n points

-- A step is moved to its right, or along itself.
abbrev pub IsMovedRight : (Pair → Point) → Pair → Type 0
IsMovedRight vector s = pos 0 ≤ℤ cross_product (vector s) (step s.a s.b)

-- No step is moved to its left, and no way around the end of a step turns right there.
abbrev pub KeepRight : (Pair → Point) → (Pair → Pair → List Point) → Pair → Pair → List Pair → Type 0
KeepRight vector between first s [] = IsMovedRight vector s × TurnsLeft s.b (moved (vector s) s.b) (between s first ++ moved (vector first) s.b ∷ [])
KeepRight vector between first s (t ∷ steps) =
    IsMovedRight vector s × TurnsLeft s.b (moved (vector s) s.b) (between s t ++ moved (vector t) s.b ∷ []) × KeepRight vector between first t steps

abbrev all_keep_right : (Pair → Point) → (Pair → Pair → List Point) → List Pair → Type 0
all_keep_right vector between [] = ⊤
all_keep_right vector between (s ∷ steps) = KeepRight vector between s s steps

abbrev pub RunsOutside : (Pair → Point) → (Pair → Pair → List Point) → List Point → Type 0
RunsOutside vector between contour = all_keep_right vector between (steps_of contour)
