-- Links that no walk has used, while walks are found.
use Rattle.std.specs.Prelude.{◌≡◌, ℕ, ◌+◌, ◌<◌, ◌≤◌, ◌%◌, ◌==◌, ◌||◌, Bool, true, false, List, [], ◌∷◌, length, count_by, slice_index_or}
use Rattle.overlay_sweep.specs.Fill.{flag_value}
use Rattle.overlay_build.specs.Graph.{Link}

-- whether a link begins or ends at a node
abbrev pub meets : Link → ℕ → Bool
meets l u = l.a_node == u || l.b_node == u

-- how often a link begins or ends at a node
abbrev pub touches : Link → ℕ → ℕ
touches l u = flag_value (l.a_node == u) 1 + flag_value (l.b_node == u) 1

-- how many unused links begin or end at a node
abbrev pub unused_degree : List Bool → List Link → ℕ → ℕ
unused_degree [] links u = 0
unused_degree (b ∷ used) [] u = 0
unused_degree (true ∷ used) (l ∷ links) u = unused_degree used links u
unused_degree (false ∷ used) (l ∷ links) u = touches l u + unused_degree used links u

-- an even number of unused links begins or ends at each node
pub record AreUnusedEven (links : List Link) (used : List Bool) : Type 0 where
  pub even : (u : ℕ) → unused_degree used links u % 2 ≡ 0

-- each used link is once in the walks, one after another, and no other is
pub record AreCounted (used : List Bool) (walked : List ℕ) : Type 0 where
  pub once : (j : ℕ) → count_by (λ k. k == j) walked ≡ flag_value (slice_index_or used j false) 1

-- of each node's list, all links before the cursor are used
pub record ArePassed (nodes : List (List ℕ)) (used : List Bool) (cursors : List ℕ) : Type 0 where
  pub each : length cursors ≡ length nodes
  pub within : (u : ℕ) → u < length nodes → slice_index_or cursors u 0 ≤ length (slice_index_or nodes u [])
  pub passed : (u k : ℕ) → u < length nodes → k < slice_index_or cursors u 0 → slice_index_or used (slice_index_or (slice_index_or nodes u []) k 0) false ≡ true
