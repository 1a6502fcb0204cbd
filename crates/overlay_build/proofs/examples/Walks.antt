-- Worked examples of walks. Each holds by computation.
use Rattle.std.specs.Prelude.{◌≡◌, refl, ℕ, pos, List, [], ◌∷◌, Some, None}
use Rattle.overlay_build.specs.Graph.{Link}
use Rattle.overlay_build.specs.Walks.{walk_end}
use Rattle.overlay_sweep.proofs.examples.Sweeps.{pair}

abbrev joined : ℕ → ℕ → Link
joined a b = record { pair = pair (pos 0) (pos 0) (pos 1) (pos 0); fill = 1; a_node = a; b_node = b }

-- three links between three nodes
abbrev triangle : List Link
triangle = joined 0 1 ∷ joined 0 2 ∷ joined 1 2 ∷ []

walk_round : walk_end triangle 0 (0 ∷ 2 ∷ 1 ∷ []) ≡ Some 0
unfolding walk_end
walk_round = refl

walk_round_the_other_way : walk_end triangle 0 (1 ∷ 2 ∷ 0 ∷ []) ≡ Some 0
unfolding walk_end
walk_round_the_other_way = refl

-- from another node the same links do not follow one another
walk_from_elsewhere : walk_end triangle 2 (0 ∷ 2 ∷ 1 ∷ []) ≡ None
unfolding walk_end
walk_from_elsewhere = refl

walk_not_closed : walk_end triangle 0 (0 ∷ 2 ∷ []) ≡ Some 2
unfolding walk_end
walk_not_closed = refl

-- there is no such link
walk_out_of_the_graph : walk_end triangle 0 (0 ∷ 3 ∷ []) ≡ None
unfolding walk_end
walk_out_of_the_graph = refl
