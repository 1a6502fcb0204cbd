-- What a finder of a run has: the solver whose choices it takes, its grid, if any, and how many pairs it has compared.
use Rattle.std.specs.Prelude.{ℕ, Option, List}
use Rattle.overlay_base.specs.declared.overlay_core.solver.Solver.{Solver}
use Rattle.overlay_grid.specs.Grid.{Layout}
use Rattle.overlay_grid.specs.GroupsOf.{grid_in}
use Rattle.overlay_cuts.specs.declared.split.finder.PairFinder.{PairFinder}
use Rattle.overlay_base.specs.SegmentOf.{pairs_in}
use Rattle.overlay_base.specs.declared.segm.segment.Segment.{Segment}
use Rattle.overlay_cuts.specs.PassLooks.{ArePassLooks}

abbrev pub solver_in : {I : Type 0} {w : _} {o : _} {e : _} {p : _} → PairFinder I w o e p → Solver
solver_in finder = finder.solver

abbrev pub layout_in : {I : Type 0} {w : _} {o : _} {e : _} {p : _} → PairFinder I w o e p → Option Layout
layout_in finder = grid_in finder.grid

abbrev pub looks_in : {I : Type 0} {w : _} {o : _} {e : _} {p : _} → PairFinder I w o e p → ℕ
looks_in finder = finder.looked

-- The finder has compared what a pass over the list may compare, besides what it had before.
abbrev pub LooksThrough : {C I D : Type 0} {m : _} {w : _} {o : _} {e : _} {p : _} {w' : _} {o' : _} {e' : _} {p' : _} → List (Segment C I D m w o e p) → PairFinder I w' o' e' p' → PairFinder I w' o' e' p' → Type 0
LooksThrough list before after = ArePassLooks (solver_in before).strategy (layout_in before) (pairs_in list) (looks_in before) (looks_in after)
