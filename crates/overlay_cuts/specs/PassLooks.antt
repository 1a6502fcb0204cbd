-- How many pairs a pass may compare, by what it goes over.
use Rattle.std.specs.Prelude.{◌≡◌, ℕ, ◌+◌, ◌-◌, ◌^◌, ◌≤◌, min, List, length, Option, Some, None, if◌then◌else◌}
use Rattle.overlay_geometry.specs.Points.{Pair}
use Rattle.overlay_base.specs.Choices.{list_splits}
use Rattle.overlay_base.specs.declared.overlay_core.solver.Strategy.{Strategy}
use Rattle.overlay_base.specs.declared.overlay_core.solver.Strategy.TheVariants.{List as ByList}
use Rattle.overlay_grid.specs.Grid.{Layout}
use Rattle.overlay_intersections.specs.Looked.{list_looks, tree_looks}
use Rattle.overlay_grid.specs.GridLooks.{grid_looks}

-- a pass over a grid, if there is one, and else over a tree
unfoldable pub wide_looks : Option Layout → List Pair → ℕ
wide_looks None segments = tree_looks segments
wide_looks (Some l) segments = grid_looks l segments

-- a pass over a list, where the strategy wants one for that many segments, and else over a grid or a tree
unfoldable pub pass_looks : Strategy → Option Layout → List Pair → ℕ
pass_looks strategy grid segments = if list_splits strategy (length segments) then list_looks segments else wide_looks grid segments

-- The comparisons before and after a pass: it adds no more than it may, and under the strategy `List` just that many, up to the greatest
-- number.
pub record ArePassLooks (strategy : Strategy) (grid : Option Layout) (segments : List Pair) (old new : ℕ) : Type 0 where
  pub most : new ≤ old + pass_looks strategy grid segments
  pub exact : strategy ≡ ByList → new ≡ min (old + pass_looks strategy grid segments) (2 ^ 128 - 1)
