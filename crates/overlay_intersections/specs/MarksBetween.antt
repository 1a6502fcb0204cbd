-- What a comparison of every pair of segments of a list finds.
use Rattle.std.specs.Prelude.{ℕ, ◌+◌, Bool, false, ◌||◌, List, [], ◌∷◌, ◌++◌, map, filter}
use Rattle.std.specs.List.{list_any}
use Rattle.overlay_geometry.specs.Points.{Point, Pair, is_strictly_inside}
use Rattle.overlay_intersections.specs.Marks.{Placing, marks_by, cross_inexactly}
use Rattle.overlay_intersections.specs.MarkOf.{Mark}

-- marks at points of one segment
abbrev pub marks_at : ℕ → List Point → List Mark
marks_at index points = map (λ p. record { index = index; point = p }) points

-- those of two segments on one line, at the ends of each that lie strictly inside the other
unfoldable pub marks_of_overlap : ℕ → Pair → ℕ → Pair → List Mark
marks_of_overlap i s j t = marks_at i (filter (λ p. is_strictly_inside s p) (t.a ∷ t.b ∷ [])) ++ marks_at j (filter (λ p. is_strictly_inside t p) (s.a ∷ s.b ∷ []))

-- the marks that two segments put on one another
unfoldable pub marks_between : Placing → ℕ → Pair → ℕ → Pair → List Mark
marks_between placing i s j t = marks_at i (marks_by placing s t) ++ marks_at j (marks_by placing t s)

-- those of a segment and each of those that follow from an index on
unfoldable pub marks_with : Placing → ℕ → Pair → ℕ → List Pair → List Mark
marks_with placing i s j [] = []
marks_with placing i s j (t ∷ ts) = marks_between placing i s j t ++ marks_with placing i s (j + 1) ts

-- those of the first of the segments from an index on, and each that follows it
unfoldable pub marks_of_first : Placing → ℕ → List Pair → List Mark
marks_of_first placing i [] = []
marks_of_first placing i (s ∷ ss) = marks_with placing i s (i + 1) ss

-- those of each of them and each that follows it
unfoldable pub marks_of_each : Placing → ℕ → List Pair → List Mark
marks_of_each placing i [] = []
marks_of_each placing i (s ∷ ss) = marks_with placing i s (i + 1) ss ++ marks_of_each placing (i + 1) ss

-- whether the first and one that follows it cross at a point that is not exact
unfoldable pub first_crosses_inexactly : List Pair → Bool
first_crosses_inexactly [] = false
first_crosses_inexactly (s ∷ ss) = list_any (λ t. cross_inexactly s t) ss

-- whether one of them and one that follows it do
unfoldable pub some_cross_inexactly : List Pair → Bool
some_cross_inexactly [] = false
some_cross_inexactly (s ∷ ss) = list_any (λ t. cross_inexactly s t) ss || some_cross_inexactly ss
