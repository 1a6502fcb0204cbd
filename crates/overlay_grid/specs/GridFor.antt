-- Over which grid the passes of a run go.
use Rattle.std.specs.Prelude.{ℕ, Bool, not, ◌&&◌, List, length, Option, Some, None, IsTrue}
use Rattle.overlay_base.specs.Segments.{WholeSegment, pairs}
use Rattle.overlay_base.specs.Choices.{grid_splits, list_splits}
use Rattle.overlay_base.specs.declared.overlay_core.solver.Strategy.{Strategy}
use Rattle.overlay_grid.specs.Grid.{Layout, IsLayoutOf, IsTooNarrow}

-- whether passes go over a grid at all: not where the first compares all pairs of a list
abbrev pub takes_grid : Strategy → ℕ → Bool
takes_grid strategy count = grid_splits strategy count && not (list_splits strategy count)

-- The grid of a run, which the first arrangement decides: its layout, where the passes are to go over a grid; none where they
-- are not, or where that arrangement is too narrow.
abbrev pub IsGridFor : Strategy → List WholeSegment → Option Layout → Type 0
IsGridFor strategy first (Some l) = IsTrue (takes_grid strategy (length first)) × IsLayoutOf (pairs first) (length first) l
IsGridFor strategy first None = IsTrue (takes_grid strategy (length first)) → IsTooNarrow (pairs first)
