-- How many pairs the passes of a run may compare, each by what it goes over.
use Rattle.std.specs.Prelude.{◌≡◌, ℕ, zero, suc, ◌+◌, ◌-◌, ◌^◌, ◌≤◌, min, List, Option}
use Rattle.overlay_base.specs.Segments.{WholeSegment, pairs}
use Rattle.overlay_base.specs.Join.{join}
use Rattle.overlay_base.specs.declared.overlay_core.solver.Strategy.{Strategy}
use Rattle.overlay_base.specs.declared.overlay_core.solver.Strategy.TheVariants.{List as ByList}
use Rattle.overlay_cuts.specs.Run.{Settings, after_passes}
use Rattle.overlay_grid.specs.Grid.{Layout}
use Rattle.overlay_grid.specs.GridFor.{IsGridFor}
use Rattle.overlay_cuts.specs.PassLooks.{pass_looks}

-- what the first n passes may compare, each over what is left by those before it
unfoldable pub run_looks : Strategy → Settings → Option Layout → List WholeSegment → ℕ → ℕ
run_looks strategy settings grid given zero = 0
run_looks strategy settings grid given (suc n) = run_looks strategy settings grid given n + pass_looks strategy grid (pairs (after_passes settings given n))

-- The comparisons of a run of n passes, over the grid that its first arrangement decides: no more than these passes may compare, and
-- under the strategy `List` just that many, up to the greatest number.
pub record AreRunLooks (strategy : Strategy) (settings : Settings) (given : List WholeSegment) (grid : Option Layout) (n looked : ℕ) : Type 0 where
  pub is_for : IsGridFor strategy (join given) grid
  pub most : looked ≤ run_looks strategy settings grid given n
  pub exact : strategy ≡ ByList → looked ≡ min (run_looks strategy settings grid given n) (2 ^ 128 - 1)
