-- Which link leads on from each one of a list of links in their directions.
use Rattle.std.specs.Prelude.{◌≡◌, ℕ, ◌<◌, List, length, All, slice_index, slice_index_or}
use Rattle.overlay_build.specs.DirectedWalks.{no_link}
use Rattle.overlay_build.specs.Graph.{Link}
use Rattle.overlay_shapes.specs.Sectors.{TurnsInto}

-- At the index of each link is the index of the one that leads on from it along its sector: the only one. No two links have one.
pub record LeadOn (arcs : List Link) (next : List ℕ) : Type 0 where
  pub each : length next ≡ length arcs
  pub within : All (λ j. j < length arcs) next
  pub meets : (i : ℕ) → i < length arcs → (slice_index_or arcs i no_link).b_node ≡ (slice_index_or arcs (slice_index next i) no_link).a_node
  pub turns : (i : ℕ) → i < length arcs → TurnsInto arcs i (slice_index next i)
  pub only : (i j : ℕ) → TurnsInto arcs i j → slice_index next i ≡ j
  pub apart : (i j : ℕ) → i < length arcs → j < length arcs → slice_index next i ≡ slice_index next j → i ≡ j
