-- A walk over the columns of a grid from the left.
use Rattle.std.specs.Prelude.{ℕ, ◌≡◌, ◌+◌, ◌≤◌, ◌<◌, nat_lt, pos, ◌-ℤ◌, Bool, not, ◌&&◌, List, ◌++◌, take, drop, IsTrue}
use Rattle.std.specs.List.{AllByRecursion}
use Rattle.overlay_geometry.specs.Points.{Point, Pair, is_vertical}
use Rattle.overlay_intersections.specs.Marks.{Placing}
use Rattle.overlay_intersections.specs.MarkOf.{Mark}
use Rattle.overlay_grid.specs.Grid.{Layout, column_index, pos_of}
use Rattle.overlay_grid.specs.ColumnLooks.{twos_in_height}
use Rattle.overlay_grid.specs.steps.FragmentFinder.{kept_group, marks_of_border, marks_of_group, looks_of_border}
use Rattle.overlay_grid.specs.steps.Entering.{corner_in, prior_group}

-- the first so many segments begin left of a column, the others in it or to its right
pub record AreParted (l : Layout) (ss : List Pair) (n column : ℕ) : Type 0 where
  pub before : AllByRecursion (λ s. column_index l s.a.x < column) (take n ss)
  pub after : AllByRecursion (λ s. column ≤ column_index l s.a.x) (drop n ss)

-- whether a segment enters a column to the right of one
abbrev pub goes_on : Layout → Pair → ℕ → Bool
goes_on l s column = not (is_vertical s) && nat_lt column (column_index l (s.b.x -ℤ pos 1))

-- what a column marks: the right ends on its left border, and every two of its fragments
unfoldable pub marks_of_column : Placing → Layout → List Pair → ℕ → List Mark
marks_of_column placing l ss column = marks_of_border (pos_of l column) (prior_group l ss column) (kept_group l 0 ss column) ++ marks_of_group placing (kept_group l 0 ss column)

-- and how many comparisons that may take
unfoldable pub looks_of_column : Layout → List Pair → ℕ → ℕ
looks_of_column l ss column = looks_of_border (pos_of l column) (prior_group l ss column) (kept_group l 0 ss column) + twos_in_height (kept_group l 0 ss column)

-- a segment has a part in a column, which begins at a corner
pub record IsPartAt (l : Layout) (s : Pair) (column : ℕ) (corner : Point) : Type 0 where
  pub from : column_index l s.a.x ≤ column
  pub upright : IsTrue (is_vertical s) → (column_index l s.a.x ≡ column) × (corner ≡ s.a)
  pub up_to : IsTrue (not (is_vertical s)) → column ≤ column_index l (s.b.x -ℤ pos 1)
  pub slanted : IsTrue (not (is_vertical s)) → corner ≡ corner_in l s column
