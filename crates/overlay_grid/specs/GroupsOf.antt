-- The groups of a buffer as whole numbers.
use Rattle.std.specs.Prelude.{ℕ, ℤ, List, [], Option, Some, None, Vec, map, slice_index_or, ◌≡◌, ◌++◌}
use Rattle.std.specs.declared.alloc.Global.{Global}
use Rattle.overlay_grid.specs.Grid.{Layout}
use Rattle.overlay_grid.specs.FragmentOf.{KeptFragment, fragments_of, layout_of, kept_in}
use Rattle.overlay_grid.specs.declared.split.fragment.Fragment.{Fragment as CodeFragment}
use Rattle.overlay_grid.specs.declared.split.fragment_buffer.FragmentBuffer.{FragmentBuffer}
use Rattle.overlay_geometry.specs.PairOf.{pair_of}
use Rattle.overlay_geometry.specs.declared.geom.x_segment.XSegment.{XSegment}

-- what a list of groups keeps in a column; nothing beyond the last
abbrev pub group_in : {I : Type 0} → (I → ℤ) → List (Vec (CodeFragment I) Global) → ℕ → List KeptFragment
group_in whole groups column = slice_index_or (map (λ v. fragments_of whole v.items) groups) column []

-- the groups of a buffer, column by column
abbrev pub groups_of : {I : Type 0} {w : _} {o : _} {e : _} {p : _} → FragmentBuffer I w o e p → List (Vec (CodeFragment I) Global)
groups_of buffer = buffer.groups.items

-- what a buffer keeps in a column
abbrev pub group_of : {I : Type 0} {w : _} {o : _} {e : _} {p : _} → FragmentBuffer I w o e p → ℕ → List KeptFragment
group_of {w = w} buffer column = group_in w.whole buffer.groups.items column

abbrev pub grid_of : {I : Type 0} {w : _} {o : _} {e : _} {p : _} → FragmentBuffer I w o e p → Layout
grid_of buffer = layout_of buffer.layout

-- the layout of a buffer, if there is one
abbrev pub grid_in : {I : Type 0} {w : _} {o : _} {e : _} {p : _} → Option (FragmentBuffer I w o e p) → Option Layout
grid_in None = None
grid_in (Some buffer) = Some (grid_of buffer)

-- The fragments of a segment of code are appended, each in its column.
abbrev pub AddsFragments : {I : Type 0} {w : _} {o : _} {e : _} {p : _} → ℕ → XSegment I → FragmentBuffer I w o e p → FragmentBuffer I w o e p → Type 0
AddsFragments {w = w} index s old new = (column : ℕ) → group_of new column ≡ group_of old column ++ kept_in (grid_of old) index (pair_of w.whole s) column
