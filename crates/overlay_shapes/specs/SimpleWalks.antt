-- Directed walks that come to no node twice.
use Rattle.std.specs.Prelude.{ℕ, ◌≤◌, ◌==◌, List, count_by, slice_index_or}
use Rattle.overlay_build.specs.Graph.{Link}
use Rattle.overlay_build.specs.DirectedWalks.{no_link}

-- at each node at most one link of the walk starts
abbrev pub PassesOnce : List Link → List ℕ → Type 0
PassesOnce arcs walk = (u : ℕ) → count_by (λ i. (slice_index_or arcs i no_link).a_node == u) walk ≤ 1
