-- Walks in groups, by the leaders of their links.
use Rattle.std.specs.Prelude.{◌≡◌, ℕ, ◌<◌, ◌==◌, List, ◌∷◌, length, map, count_by, flat_map, Contains, slice_index, slice_index_or, [], Vec}
use Rattle.std.specs.Global.{Global}
use Rattle.overlay_build.specs.BoundaryOf.{walks_of}

-- groups of walks of code as lists of indexes
abbrev pub groups_of : List (Vec (Vec ℕ Global) Global) → List (List (List ℕ))
groups_of groups = map (λ g. walks_of g.items) groups

-- all walks of all groups
abbrev pub all_walks : List (List (List ℕ)) → List (List ℕ)
all_walks groups = flat_map (λ group. group) groups

-- all links of some walks
abbrev pub all_links : List (List ℕ) → List ℕ
all_links walks = flat_map (λ walk. walk) walks

-- the group with this number
abbrev pub group_at : List (List (List ℕ)) → ℕ → List (List ℕ)
group_at groups k = slice_index_or groups k []

-- The groups have the walks, and each has those of one leader; the first of these has the leader's front.
pub record AreGathered (leaders fronts : List ℕ) (walks : List (List ℕ)) (groups : List (List (List ℕ))) : Type 0 where
  -- each walk of a group is one of them, and each link is as often in the one as in the other
  pub taken : (k : ℕ) (walk : List ℕ) → k < length groups → Contains (group_at groups k) walk → Contains walks walk
  pub counted : (i : ℕ) → count_by (λ j. j == i) (all_links (all_walks groups)) ≡ count_by (λ j. j == i) (all_links walks)
  -- the leaders of the groups, which rise
  pub heads : List ℕ
  pub each : length heads ≡ length groups
  pub rising : (j k : ℕ) → j < k → k < length heads → slice_index heads j < slice_index heads k
  pub led : (k i : ℕ) → k < length groups → Contains (all_links (group_at groups k)) i → slice_index leaders i ≡ slice_index heads k
  -- the first walk of each has the front of its leader
  pub first : (k : ℕ) → k < length groups → (front : List ℕ) × (later : List (List ℕ)) × (group_at groups k ≡ front ∷ later) × Contains front (slice_index fronts (slice_index heads k))
