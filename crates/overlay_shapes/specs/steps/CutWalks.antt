-- A walk that is cut where it comes to a node again.
use Rattle.std.specs.Prelude.{◌≡◌, ℕ, ◌<◌, ◌==◌, List, ◌++◌, map, length, All, count_by, flat_map}
use Rattle.overlay_build.specs.Graph.{Link}
use Rattle.overlay_build.specs.DirectedWalks.{along, rotated, IsDirectedWalk}
use Rattle.overlay_shapes.specs.SimpleWalks.{PassesOnce}

-- Each of some links ends where the next one starts, and the last one where the first does. On the way they may come there.
pub record IsClosedChain (arcs : List Link) (walk : List ℕ) : Type 0 where
  pub within : All (λ i. i < length arcs) walk
  pub meets : map (λ l. l.b_node) (along arcs walk) ≡ rotated (map (λ l. l.a_node) (along arcs walk))

-- Parts of a walk are appended to walks: closed, none of which comes to a node twice, with the links of the walk.
pub record AppendsParts (arcs : List Link) (walk : List ℕ) (before after : List (List ℕ)) : Type 0 where
  pub parts : List (List ℕ)
  pub appended : after ≡ before ++ parts
  pub closed : All (IsDirectedWalk arcs) parts
  pub simple : All (PassesOnce arcs) parts
  pub counted : (i : ℕ) → count_by (λ j. j == i) (flat_map (λ part. part) parts) ≡ count_by (λ j. j == i) walk
