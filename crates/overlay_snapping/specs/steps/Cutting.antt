-- What the steps of a search for cuts collect.
use Rattle.std.specs.Prelude.{ℕ, ℤ, pos, Bool, not, List, map, filter, slice_index_or}
use Rattle.overlay_geometry.specs.Points.{Point, Pair, lies_on}
use Rattle.overlay_geometry.specs.PointOf.{point_of}
use Rattle.overlay_intersections.specs.MarkOf.{Mark, mark_of}
use Rattle.overlay_intersections.specs.declared.split.line_mark.LineMark.{LineMark}

-- what stands for a point where a list has none
abbrev pub origin : Point
origin = record { x = pos 0; y = pos 0 }

abbrev pub point_at : List Point → ℕ → Point
point_at points place = slice_index_or points place origin

-- whether a mark lies on the segment that it marks
abbrev pub lies_at : List Pair → Mark → Bool
lies_at segments m = lies_on (slice_index_or segments m.index (record { a = origin; b = origin })) m.point

-- the points of those marks of code that do, and of those that do not
abbrev pub points_on : {I : Type 0} → (I → ℤ) → List Pair → List (LineMark I) → List Point
points_on whole segments marks = map (λ m. point_of whole m.point) (filter (λ m. lies_at segments (mark_of whole m)) marks)

abbrev pub points_off : {I : Type 0} → (I → ℤ) → List Pair → List (LineMark I) → List Point
points_off whole segments marks = map (λ m. point_of whole m.point) (filter (λ m. not (lies_at segments (mark_of whole m))) marks)

-- the points of those marks of code that lie on s
abbrev pub points_along : {I : Type 0} → (I → ℤ) → Pair → List (LineMark I) → List Point
points_along whole s marks = map (λ m. point_of whole m.point) (filter (λ m. lies_on s (point_of whole m.point)) marks)
