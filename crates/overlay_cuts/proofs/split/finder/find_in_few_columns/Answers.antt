use Rattle.std.proofs.Common.{◌≡◌, ◌<◌, ℕ, arith, subst, sym, ◌∙◌, length, false, rules}
use Rattle.std.specs.Prelude.{◌==◌}
use Rattle.std.specs.Int.{div_ceil}
use Rattle.std.proofs.lemmas.Bool.Decides.{nat_tests}
use Rattle.overlay_base.specs.SegmentOf.{pairs_in}
use Rattle.overlay_grid.specs.Grid.{Layout, IsLayoutOf}
use Rattle.overlay_grid.specs.GroupsOf.{grid_of}
use Rattle.overlay_cuts.proofs.laws.passes.GridRuns.{lies_inside_its_grid}
use Rattle.overlay_cuts.proofs.split.finder.find_in_few_columns.Goals as goal

some_of : (n : ℕ) → false ≡ (n == 0) → 0 < n
some_of n e = grind (arith, nat_tests)

half_of_some : (n half : ℕ) → 0 < n → half ≡ div_ceil n 2 → 0 < half
half_of_some n half h e = grind (arith, e)

pub find_in_columns-requires-clause-inside : goal.find_in_columns-requires-clause-inside
find_in_columns-requires-clause-inside g c =
    let xs = c.args.segments.now in
    let count = c.div_ceil-count.result in
    let some = some_of (length xs) (sym c.if-is_empty.false ∙ c.is_empty.ensures) in
    lies_inside_its_grid xs count (grid_of c.in_ok-grid.grid) c.requires.sorted some (half_of_some (length xs) count some c.div_ceil-count.ensures) (subst (λ (l : Layout). IsLayoutOf (pairs_in xs) count l) (sym c.in_ok-grid.ensures.layout) c.in-Some.ensures.layout)

pub over_list-requires-clause-count : goal.over_list-requires-clause-count
over_list-requires-clause-count g c = search rules
