-- What the scan of a list has left to find, the heights that it reads, what it lists, and how far it has come.
use Rattle.std.specs.Prelude.{◌≡◌, ℕ, ℤ, int_le, ◌+◌, ◌<◌, ◌≤◌, Bool, ◌&&◌, ◌||◌, List, ◌++◌, All, count_by, drop, flat_map, length, map}
use Rattle.std.specs.List.{list_any}
use Rattle.overlay_geometry.specs.Points.{Pair}
use Rattle.overlay_geometry.specs.Ranges.{WholeRange, heights}
use Rattle.overlay_geometry.specs.RangeOf.{range_of}
use Rattle.overlay_geometry.specs.declared.geom.line_range.LineRange.{LineRange}
use Rattle.overlay_intersections.specs.Marks.{Placing, cross_inexactly}
use Rattle.overlay_intersections.specs.MarkOf.{Mark}
use Rattle.overlay_intersections.specs.Looked.{x_ranges_meet}
use Rattle.overlay_intersections.specs.MarksBetween.{marks_between, marks_with}
use Rattle.overlay_tree.specs.steps.Swept.{pair_at}

-- whether two ranges share a number
abbrev pub do_ranges_meet : WholeRange → WholeRange → Bool
do_ranges_meet r s = int_le r.least s.greatest && int_le s.least r.greatest

-- The ranges are the heights of the pairs, in their order.
abbrev pub AreHeightsOf : {I : Type 0} → (I → ℤ) → List (LineRange I) → List Pair → Type 0
AreHeightsOf whole ranges ps = map (range_of whole) ranges ≡ map heights ps

-- the marks that the pair at an index and each from another index on put on one another
abbrev pub marks_left : Placing → List Pair → ℕ → ℕ → List Mark
marks_left placing ps index from = marks_with placing index (pair_at ps index) from (drop from ps)

-- whether it crosses one of those at a point that is not exact
abbrev pub crosses_left : List Pair → ℕ → ℕ → Bool
crosses_left ps index from = list_any (λ t. cross_inexactly (pair_at ps index) t) (drop from ps)

-- the marks that the pair at an index and those at some later indexes put on one another
abbrev pub marks_listed : Placing → List Pair → ℕ → List ℕ → List Mark
marks_listed placing ps index later = flat_map (λ j. marks_between placing index (pair_at ps index) j (pair_at ps j)) later

-- whether it crosses one of these at a point that is not exact
abbrev pub crosses_listed : List Pair → ℕ → List ℕ → Bool
crosses_listed ps index later = list_any (λ j. cross_inexactly (pair_at ps index) (pair_at ps j)) later

-- later indexes which have, of those from one index up to another, what marks the pair at an index
pub record AreListed (ps : List Pair) (index from to : ℕ) (later : List ℕ) : Type 0 where
  pub within : All (λ j. (index < j) × (j < length ps)) later
  pub marks : (placing : Placing) → marks_listed placing ps index later ++ marks_left placing ps index to ≡ marks_left placing ps index from
  pub flag : (crosses_listed ps index later || crosses_left ps index to) ≡ crosses_left ps index from

-- Each of those after an index and before j has a range in x that meets that of the pair at the index.
pub record IsReaching (ps : List Pair) (index j : ℕ) : Type 0 where
  pub told : index + 1 + count_by (x_ranges_meet (pair_at ps index)) (drop (index + 1) ps) ≡ j + count_by (x_ranges_meet (pair_at ps index)) (drop j ps)
  pub after : index < j
  pub within : j ≤ length ps
