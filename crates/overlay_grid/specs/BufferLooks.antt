-- What a scan of the columns of a buffer compares.
use Rattle.std.specs.Prelude.{ℕ}
use Rattle.overlay_grid.specs.ColumnLooks.{looks_of_groups}
use Rattle.overlay_grid.specs.Grid.{group_count}
use Rattle.overlay_grid.specs.GroupsOf.{group_of, grid_of}
use Rattle.overlay_grid.specs.declared.split.axis.Axis.{Axis}
use Rattle.overlay_grid.specs.declared.split.fragment_buffer.FragmentBuffer.{FragmentBuffer}

-- the comparisons that its columns take along an axis
abbrev pub buffer_looks : {I : Type 0} {w : _} {o : _} {e : _} {p : _} → Axis → FragmentBuffer I w o e p → ℕ
buffer_looks axis buffer = looks_of_groups axis (group_of buffer) (group_count (grid_of buffer))
