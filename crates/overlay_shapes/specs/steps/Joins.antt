-- Joins of links: with those that lead on from them, and with their supports.
use Rattle.std.specs.Prelude.{◌≡◌, ◌⊎◌, ℕ, ◌<◌, Bool, false, List, length, slice_index, slice_index_or}
use Rattle.overlay_base.specs.Rules.{top_value}
use Rattle.overlay_build.specs.DirectedWalks.{no_link}
use Rattle.overlay_build.specs.Graph.{Link}
use Rattle.overlay_shapes.specs.Classes.{IsJoin}
use Rattle.overlay_shapes.specs.declared.classes.Join.{Join}

-- of each number with the one that leads on from it
pub record AreJoinsAlong (next : List ℕ) (joins : List Join) : Type 0 where
  pub more : (a : ℕ) → a < length next → IsJoin joins a (slice_index next a)
  pub only : (a b : ℕ) → IsJoin joins a b → (a < length next) × (slice_index next a ≡ b)

-- a link that is to be joined with its support
pub record IsToBeJoined (rule : Bool → Bool → Bool) (links : List Link) (supports : List ℕ) (n a b : ℕ) : Type 0 where
  pub before : a < n
  pub on : slice_index supports a ≡ b
  pub stands : b < length links
  pub between : top_value rule (slice_index_or links a no_link).fill ≡ rule false false

-- those of the links below an index are added
pub record AddsSupports (rule : Bool → Bool → Bool) (links : List Link) (supports : List ℕ) (n : ℕ) (old new : List Join) : Type 0 where
  pub kept : (a b : ℕ) → IsJoin old a b → IsJoin new a b
  pub more : (a b : ℕ) → IsToBeJoined rule links supports n a b → IsJoin new a b
  pub only : (a b : ℕ) → IsJoin new a b → IsJoin old a b ⊎ IsToBeJoined rule links supports n a b
