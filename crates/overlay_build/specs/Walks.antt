-- Closed walks over the links of a graph.
use Rattle.std.specs.Prelude.{◌≡◌, ◌≢◌, ℕ, ◌<◌, ◌==◌, if◌then◌else◌, List, [], ◌∷◌, length, take, count_by, flat_map, All, Option, Some, None, option_and_then, slice_get}
use Rattle.overlay_build.specs.Graph.{Link}

-- the node to which a link leads from one of its ends
abbrev pub other_node : ℕ → Link → Option ℕ
other_node node link = if link.a_node == node then Some link.b_node else if link.b_node == node then Some link.a_node else None

-- where a walk from a node ends, if its links follow one another
unfoldable pub walk_end : List Link → ℕ → List ℕ → Option ℕ
walk_end links node [] = Some node
walk_end links node (i ∷ walk) = option_and_then (λ next. walk_end links next walk) (option_and_then (λ link. other_node node link) (slice_get links i))

-- a list of links, not empty, that leads from some node back to it
abbrev pub IsClosedWalk : List Link → List ℕ → Type 0
IsClosedWalk links walk = (walk ≢ []) × ((node : ℕ) × (walk_end links node walk ≡ Some node))

-- from the node where it begins a walk comes back there at its end, and not before
pub record IsFirstReturn (links : List Link) (walk : List ℕ) : Type 0 where
  pub start : ℕ
  pub closed : walk_end links start walk ≡ Some start
  pub away : (k : ℕ) → 0 < k → k < length walk → walk_end links start (take k walk) ≢ Some start

-- closed walks in which every link is in exactly one place, each up to its first return
pub record AreClosedWalks (links : List Link) (walks : List (List ℕ)) : Type 0 where
  pub closed : All (IsClosedWalk links) walks
  pub first_return : All (IsFirstReturn links) walks
  pub once : (i : ℕ) → i < length links → count_by (λ j. j == i) (flat_map (λ walk. walk) walks) ≡ 1
