-- Layouts, fragments and groups of code as whole numbers.
use Rattle.std.specs.Prelude.{ℕ, ◌==◌, ℤ, ◌≤ℤ◌, ⊤, List, [], ◌∷◌, map, filter}
use Rattle.std.specs.List.{AllByRecursion}
use Rattle.overlay_geometry.specs.Points.{Pair}
use Rattle.overlay_geometry.specs.Ranges.{Rect}
use Rattle.overlay_geometry.specs.PairOf.{pair_of}
use Rattle.overlay_geometry.specs.RangeOf.{rect_of}
use Rattle.overlay_grid.specs.Grid.{Layout, Fragment as WholeFragment, fragments, rect_between}
use Rattle.overlay_grid.specs.declared.split.axis.Axis.{Axis}
use Rattle.overlay_grid.specs.declared.split.axis.Axis.TheVariants.{X, Y}
use Rattle.overlay_grid.specs.declared.split.grid_layout.GridLayout.{GridLayout}
use Rattle.overlay_grid.specs.declared.split.fragment.Fragment.{Fragment}
use Rattle.overlay_geometry.specs.declared.geom.point.IntPoint.{IntPoint}
use Rattle.overlay_geometry.specs.declared.geom.x_segment.XSegment.{XSegment}

abbrev pub layout_of : {I : Type 0} {w : _} {o : _} {e : _} {p : _} → GridLayout I w o e p → Layout
layout_of {w = w} l = record { min_x = w.whole l.min_x; max_x = w.whole l.max_x; power = l.power }

-- a fragment with the index and the ends of its segment
pub record KeptFragment : Type 0 where
  pub index : ℕ
  pub pair : Pair
  pub rect : Rect

abbrev pub fragment_of : {I : Type 0} → (I → ℤ) → Fragment I → KeptFragment
fragment_of whole f = record { index = f.index; pair = pair_of whole f.x_segment; rect = rect_of whole f.rect }

abbrev pub fragments_of : {I : Type 0} → (I → ℤ) → List (Fragment I) → List KeptFragment
fragments_of whole list = map (fragment_of whole) list

-- fragments of a segment, as they are kept
abbrev pub kept : ℕ → Pair → List WholeFragment → List KeptFragment
kept index s parts = map (λ f. record { index = index; pair = s; rect = f.rect }) parts

-- those of one column
abbrev pub in_column : ℕ → List WholeFragment → List WholeFragment
in_column column parts = filter (λ f. f.column == column) parts

-- the fragments of a segment in one column, as they are kept
abbrev pub kept_in : Layout → ℕ → Pair → ℕ → List KeptFragment
kept_in l index s column = kept index s (in_column column (fragments l s))

-- what lies along an axis, of something along each
abbrev pub on_axis : {A : Type 0} → Axis → A → A → A
on_axis X x y = x
on_axis Y x y = y

-- where a fragment begins along an axis, and where it ends
abbrev pub least_along : Axis → KeptFragment → ℤ
least_along axis f = on_axis axis f.rect.min_x f.rect.min_y

abbrev pub greatest_along : Axis → KeptFragment → ℤ
greatest_along axis f = on_axis axis f.rect.max_x f.rect.max_y

-- along an axis no fragment begins before those that precede it
abbrev pub IsSortedAlong : Axis → List KeptFragment → Type 0
IsSortedAlong axis [] = ⊤
IsSortedAlong axis (f ∷ fs) = AllByRecursion (λ g. least_along axis f ≤ℤ least_along axis g) fs × IsSortedAlong axis fs

-- a fragment of a segment of code whose rectangle has two points as opposite corners
abbrev pub kept_between : {I : Type 0} → (I → ℤ) → ℕ → XSegment I → IntPoint I → IntPoint I → KeptFragment
kept_between whole index s p q =
    record { index = index; pair = pair_of whole s; rect = rect_between (whole p.x) (whole p.y) (whole q.x) (whole q.y) }
