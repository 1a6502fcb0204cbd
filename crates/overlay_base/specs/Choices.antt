-- What a solver chooses, by its strategy and the number of segments.
use Rattle.std.specs.Prelude.{ℕ, Bool, true, false, nat_lt}
use Rattle.overlay_base.specs.declared.overlay_core.solver.Strategy.{Strategy}
use Rattle.overlay_base.specs.declared.overlay_core.solver.Strategy.TheVariants.{List, Tree, Frag, Auto}

-- whether a pass compares all pairs of a list
abbrev pub list_splits : Strategy → ℕ → Bool
list_splits List count = true
list_splits Tree count = false
list_splits Frag count = false
list_splits Auto count = nat_lt count 4000

-- whether passes go over a grid of columns
abbrev pub grid_splits : Strategy → ℕ → Bool
grid_splits List count = nat_lt 16000 count
grid_splits Tree count = nat_lt 16000 count
grid_splits Frag count = true
grid_splits Auto count = nat_lt 16000 count

-- whether `is_list_fill` is true
abbrev pub list_fills : Strategy → ℕ → Bool
list_fills List count = true
list_fills Tree count = false
list_fills Frag count = false
list_fills Auto count = nat_lt count 8000

-- whether a sweep keeps its live segments in one row
abbrev pub in_one_row : Strategy → Bool
in_one_row List = true
in_one_row Tree = false
in_one_row Frag = false
in_one_row Auto = false
