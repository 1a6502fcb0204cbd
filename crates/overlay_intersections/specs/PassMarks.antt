-- The marks that a pass makes, and whether it rounds.
use Rattle.std.specs.Prelude.{ℕ, Bool, List, flat_map, length, sum_by}
use Rattle.std.specs.List.{list_any}
use Rattle.overlay_geometry.specs.Points.{Point, Pair, point_cmp}
use Rattle.overlay_geometry.specs.Sorting.{distinct_in_order}
use Rattle.overlay_base.specs.Segments.{WholeSegment, pairs}
use Rattle.overlay_intersections.specs.Marks.{Placing, marks_by, cross_inexactly}

-- the marks on a pair, each once. A pair puts none on itself
unfoldable pub marks_on : Placing → List WholeSegment → Pair → List Point
marks_on placing segments pair = distinct_in_order point_cmp (flat_map (λ t. marks_by placing pair t) (pairs segments))

-- whether some two segments cross at a point that is not exact
unfoldable pub is_rounded : List WholeSegment → Bool
is_rounded segments = list_any (λ s. list_any (λ t. cross_inexactly s t) (pairs segments)) (pairs segments)

-- how many marks a pass makes
unfoldable pub mark_count : Placing → List WholeSegment → ℕ
mark_count placing segments = sum_by (λ s. length (marks_on placing segments s)) (pairs segments)
