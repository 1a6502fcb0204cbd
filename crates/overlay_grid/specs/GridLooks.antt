-- How many pairs a pass over a grid may compare.
use Rattle.std.specs.Prelude.{ℕ, ◌+◌, ◌==◌, nat_lt, Bool, ◌&&◌, List, flat_map, length, sum_by, count_by}
use Rattle.std.specs.Ordering.{int_eq}
use Rattle.overlay_geometry.specs.Points.{Pair, is_vertical}
use Rattle.overlay_grid.specs.Grid.{Layout, Fragment, column_index, pos_of, fragments}
use Rattle.overlay_intersections.specs.Looked.{count_twos, ranges_meet}

unfoldable pub all_fragments : Layout → List Pair → List Fragment
all_fragments l segments = flat_map (λ s. fragments l s) segments

unfoldable pub fragments_meet : Fragment → Fragment → Bool
fragments_meet f g = (f.column == g.column) && ranges_meet f.rect.min_y f.rect.max_y g.rect.min_y g.rect.max_y

-- whether s is vertical and lies on the left border of a column other than the first
unfoldable pub is_on_border : Layout → Pair → Bool
is_on_border l s = is_vertical s && nat_lt 0 (column_index l s.a.x) && int_eq s.a.x (pos_of l (column_index l s.a.x))

-- the fragments in the column to the left of a vertical segment on a border
unfoldable pub border_contacts : Layout → List Pair → Pair → ℕ
border_contacts l segments s = count_by (λ f. is_on_border l s && (f.column + 1 == column_index l s.a.x)) (all_fragments l segments)

-- what a scan of all fragments of a grid compares: the pairs in one column whose heights meet, and the contacts on borders
unfoldable pub fragment_looks : Layout → List Pair → ℕ
fragment_looks l segments = count_twos fragments_meet (all_fragments l segments) + sum_by (λ s. border_contacts l segments s) segments

-- a pass of the grid may compare that many, and as many besides as there are fragments
unfoldable pub grid_looks : Layout → List Pair → ℕ
grid_looks l segments = length (all_fragments l segments) + fragment_looks l segments
