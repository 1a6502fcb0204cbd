-- The segments that go on from one column into the next, and where their parts there begin.
use Rattle.std.specs.Prelude.{ℕ, zero, suc, ◌+◌, nat_lt, ℤ, pos, ◌-ℤ◌, not, ◌&&◌, if◌then◌else◌, List, [], ◌∷◌, ◌++◌, map}
use Rattle.std.specs.Int.{int_max}
use Rattle.overlay_geometry.specs.Points.{Point, Pair, is_vertical}
use Rattle.overlay_geometry.specs.PairOf.{pair_of}
use Rattle.overlay_geometry.specs.PointOf.{point_of}
use Rattle.overlay_grid.specs.Grid.{Layout, column_index, pos_of, toward, least_rise}
use Rattle.overlay_grid.specs.FragmentOf.{KeptFragment}
use Rattle.overlay_grid.specs.steps.FragmentFinder.{kept_group}
use Rattle.overlay_grid.specs.declared.split.column_parts.Rest.{Rest}

-- what is left of a segment from a corner on: its index, its ends, and that corner
pub record KeptRest : Type 0 where
  pub index : ℕ
  pub pair : Pair
  pub corner : Point

abbrev pub rest_of : {I : Type 0} → (I → ℤ) → Rest I → KeptRest
rest_of whole r = record { index = r.index; pair = pair_of whole r.x_segment; corner = point_of whole r.corner }

abbrev pub rests_of : {I : Type 0} → (I → ℤ) → List (Rest I) → List KeptRest
rests_of whole list = map (rest_of whole) list

-- where the part of a segment in a column begins
abbrev pub corner_in : Layout → Pair → ℕ → Point
corner_in l s column = record { x = int_max s.a.x (pos_of l column); y = toward s (least_rise s (int_max s.a.x (pos_of l column))) }

-- a segment that begins left of a column and enters it, with its corner there
unfoldable pub entering_in : Layout → ℕ → Pair → ℕ → List KeptRest
entering_in l index s column =
    if not (is_vertical s) && nat_lt (column_index l s.a.x) column && nat_lt column (column_index l (s.b.x -ℤ pos 1) + 1) then (let rest : KeptRest = record { index = index; pair = s; corner = corner_in l s column } in rest) ∷ []
    else []

-- those of segments that are counted from an index on
unfoldable pub entering : Layout → ℕ → List Pair → ℕ → List KeptRest
entering l i [] column = []
entering l i (s ∷ ss) column = entering_in l i s column ++ entering l (i + 1) ss column

-- the fragments to the left of a column: none of the first
abbrev pub prior_group : Layout → List Pair → ℕ → List KeptFragment
prior_group l ss zero = []
prior_group l ss (suc column) = kept_group l 0 ss column
