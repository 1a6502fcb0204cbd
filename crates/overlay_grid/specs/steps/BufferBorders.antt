-- What the borders of a buffer take at most.
use Rattle.std.specs.Prelude.{ℕ, ◌+◌, ◌-◌, sum_by}
use Rattle.std.specs.List.{range_with_len}
use Rattle.overlay_grid.specs.Grid.{pos_of, group_count}
use Rattle.overlay_grid.specs.GroupsOf.{group_of, grid_of}
use Rattle.overlay_grid.specs.declared.split.fragment_buffer.FragmentBuffer.{FragmentBuffer}
use Rattle.overlay_grid.specs.steps.FragmentFinder.{looks_of_border}

-- the comparisons at the left borders of its columns, but for the first
abbrev pub buffer_borders : {I : Type 0} {w : _} {o : _} {e : _} {p : _} → FragmentBuffer I w o e p → ℕ
buffer_borders buffer = sum_by (λ column. looks_of_border (pos_of (grid_of buffer) (column + 1)) (group_of buffer column) (group_of buffer (column + 1))) (range_with_len 0 (group_count (grid_of buffer) - 1))
