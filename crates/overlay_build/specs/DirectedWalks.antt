-- Closed walks that follow each link in its direction: the one that has what a truth function holds of on its left.
use Rattle.std.specs.Prelude.{◌≡◌, ◌≢◌, ℕ, pos, ◌<◌, ◌==◌, Bool, if◌then◌else◌, List, [], ◌∷◌, ◌++◌, map, filter, length, All, slice_index_or}
use Rattle.std.specs.List.{zip, count_by, flat_map}
use Rattle.overlay_geometry.specs.Points.{Point, Pair}
use Rattle.overlay_base.specs.Rules.{top_value}
use Rattle.overlay_build.specs.Graph.{Link}

-- ---- links in their directions

abbrev pub turned : Link → Link
turned l = record { pair = record { a = l.pair.b; b = l.pair.a }; fill = l.fill; a_node = l.b_node; b_node = l.a_node }

-- A link from where it starts to where it ends in its direction: as it is where the truth function holds of the top of its
-- fill, and else turned.
abbrev pub in_direction : (Bool → Bool → Bool) → Link → Link
in_direction rule l = if top_value rule l.fill then l else turned l

-- all links so
abbrev pub arcs : (Bool → Bool → Bool) → List Link → List Link
arcs rule links = map (in_direction rule) links

-- at every node as many of them start as end
abbrev pub IsFlow : List Link → Type 0
IsFlow arcs = (u : ℕ) → length (filter (λ l. l.a_node == u) arcs) ≡ length (filter (λ l. l.b_node == u) arcs)

-- ---- walks

-- is used where a walk names no link, which no closed walk does
abbrev pub no_link : Link
no_link = record { pair = record { a = record { x = pos 0; y = pos 0 }; b = record { x = pos 0; y = pos 0 } }; fill = 0; a_node = 0; b_node = 0 }

-- the links of a walk
abbrev pub along : List Link → List ℕ → List Link
along arcs walk = map (λ i. slice_index_or arcs i no_link) walk

-- a walk from a node on to others and back to it
pub record GoesRound (arcs : List Link) (walk : List ℕ) (start : ℕ) (rest : List ℕ) : Type 0 where
  -- each index names a link
  pub within : All (λ i. i < length arcs) walk
  -- the links start at these nodes, in order
  pub starts : map (λ l. l.a_node) (along arcs walk) ≡ start ∷ rest
  -- each ends where the next starts, and the last where the first does
  pub ends : map (λ l. l.b_node) (along arcs walk) ≡ rest ++ (start ∷ [])
  -- on the way it does not come there
  pub apart : All (λ u. u ≢ start) rest

abbrev pub IsDirectedWalk : List Link → List ℕ → Type 0
IsDirectedWalk arcs walk = (start : ℕ) × ((rest : List ℕ) × GoesRound arcs walk start rest)

-- ---- contours

-- the points at which the links of a walk start, in order
abbrev pub contour : List Link → List ℕ → List Point
contour arcs walk = map (λ l. l.pair.a) (along arcs walk)

-- a list with its first element put last
abbrev pub rotated : {X : Type 0} → List X → List X
rotated [] = []
rotated (x ∷ xs) = xs ++ (x ∷ [])

-- the edges of a contour: from each point to the next, and from the last to the first
abbrev pub edges : List Point → List Pair
edges points = map (λ e. record { a = e.0; b = e.1 }) (zip points (rotated points))

-- ---- all together

-- directed walks in which every link is in exactly one place
pub record AreDirectedWalks (arcs : List Link) (walks : List (List ℕ)) : Type 0 where
  pub closed : All (IsDirectedWalk arcs) walks
  pub once : (i : ℕ) → i < length arcs → count_by (λ j. j == i) (flat_map (λ walk. walk) walks) ≡ 1
