-- Links in their directions that no walk has used, while directed walks are found.
use Rattle.std.specs.Prelude.{◌≡◌, ◌≢◌, ℕ, ◌+◌, ◌<◌, ◌≤◌, ◌==◌, Bool, true, false, List, [], ◌∷◌, map, length, slice_index_or}
use Rattle.overlay_sweep.specs.Fill.{flag_value}
use Rattle.overlay_build.specs.Graph.{Link}

-- how many unused links have this node at one of their ends
abbrev pub unused_at : (Link → ℕ) → List Bool → List Link → ℕ → ℕ
unused_at end [] arcs u = 0
unused_at end (b ∷ used) [] u = 0
unused_at end (true ∷ used) (l ∷ arcs) u = unused_at end used arcs u
unused_at end (false ∷ used) (l ∷ arcs) u = flag_value (end l == u) 1 + unused_at end used arcs u

abbrev pub unused_starts : List Bool → List Link → ℕ → ℕ
unused_starts used arcs u = unused_at (λ l. l.a_node) used arcs u

abbrev pub unused_ends : List Bool → List Link → ℕ → ℕ
unused_ends used arcs u = unused_at (λ l. l.b_node) used arcs u

-- at every node as many unused links start as end
pub record AreUnusedFlow (arcs : List Link) (used : List Bool) : Type 0 where
  pub level : (u : ℕ) → unused_starts used arcs u ≡ unused_ends used arcs u

-- the nodes at which links start
abbrev pub starts_of : List Link → List ℕ
starts_of arcs = map (λ l. l.a_node) arcs

-- the link with this index is unused and starts at the node
abbrev pub IsFreeAt : List Link → List Bool → ℕ → ℕ → Type 0
IsFreeAt arcs used u i = (slice_index_or used i false ≡ false) × (slice_index_or (starts_of arcs) i 0 ≡ u)

-- of each node's list, no link before the cursor is free there
pub record ArePassedOver (arcs : List Link) (nodes : List (List ℕ)) (used : List Bool) (cursors : List ℕ) : Type 0 where
  pub each : length cursors ≡ length nodes
  pub within : (u : ℕ) → u < length nodes → slice_index_or cursors u 0 ≤ length (slice_index_or nodes u [])
  pub passed : (u k : ℕ) → u < length nodes → k < slice_index_or cursors u 0 → slice_index_or used (slice_index_or (slice_index_or nodes u []) k 0) false ≡ false → slice_index_or (starts_of arcs) (slice_index_or (slice_index_or nodes u []) k 0) 0 ≢ u
