-- Walks while they are gathered into groups.
use Rattle.std.specs.Prelude.{◌≡◌, ◌≢◌, ℕ, ◌<◌, ◌≤◌, ◌==◌, List, [], length, All, Contains, count_by, slice_index}
use Rattle.overlay_shapes.specs.Gathered.{all_links, group_at}

-- each number has a leader that leads itself
pub record AreLeading (leaders : List ℕ) : Type 0 where
  pub least : (i : ℕ) → i < length leaders → slice_index leaders i ≤ i
  pub led : (i : ℕ) → i < length leaders → slice_index leaders (slice_index leaders i) ≡ slice_index leaders i

-- walks over such numbers, none of them empty, each with one leader, and every number in one
pub record MayBeGathered (leaders : List ℕ) (walks : List (List ℕ)) : Type 0 where
  pub filled : (walk : List ℕ) → Contains walks walk → 0 < length walk
  pub within : (walk : List ℕ) (i : ℕ) → Contains walks walk → Contains walk i → i < length leaders
  pub together : (walk : List ℕ) (i : ℕ) → Contains walks walk → Contains walk i → slice_index leaders i ≡ slice_index leaders (slice_index walk 0)
  pub once : (i : ℕ) → i < length leaders → count_by (λ j. j == i) (all_links walks) ≡ 1

-- those that lead themselves are numbered in order, and there is an empty group for each
pub record AreNumbered (leaders numbers : List ℕ) (groups : List (List (List ℕ))) : Type 0 where
  pub heads : List ℕ
  pub each : length heads ≡ length groups
  pub rising : (j k : ℕ) → j < k → k < length heads → slice_index heads j < slice_index heads k
  pub leading : (k : ℕ) → k < length heads → (slice_index heads k < length leaders) × (slice_index leaders (slice_index heads k) ≡ slice_index heads k)
  pub number : (i : ℕ) → i < length leaders → slice_index leaders i ≡ i → (slice_index numbers i < length heads) × (slice_index heads (slice_index numbers i) ≡ i)
  pub empty : (k : ℕ) → k < length groups → group_at groups k ≡ []
