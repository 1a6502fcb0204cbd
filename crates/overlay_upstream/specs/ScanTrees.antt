-- What a list of live segments holds: those that last, from below. And what a tree does: the indexes of these.
use Rattle.std.specs.Prelude.{◌≡◌, ℕ, suc, ◌+◌, ◌*◌, ◌<◌, ◌≤◌, ◌^◌, ℤ, ◌≤ℤ◌, Bool, true, List, [], ◌++◌, ◌⊎◌, length, All}
use Rattle.overlay_base.specs.Segments.{WholeSegment}
use Rattle.overlay_sweep.specs.Costs.{IsHighest}
use Rattle.overlay_upstream.specs.declared.build.tree_shape.TreeNode.{TreeNode}
use Rattle.overlay_sweep.specs.LiveRows.{Has, none, HasLast, HasFirst, IsFromBelow, is_live_at, lasts_past}
use Rattle.overlay_upstream.specs.TreeShapes.{IsTree, IsDistinct, MayGoDown}

-- a balanced tree of segments that begin by x, from below, with all that are live at x
pub record IsScanTree (x : ℤ) (segments : List WholeSegment) (nodes : List TreeNode) (root kept : ℕ) : Type 0 where
  pub order : List ℕ
  pub high : ℕ
  pub tree : IsTree nodes root order high
  pub distinct : IsDistinct order
  pub kept_is : kept ≡ length order
  pub fits : length order ≤ length segments
  pub short : length segments < 2 ^ 64
  pub same_length : length nodes ≡ length segments
  pub begun : All (λ s. s.pair.a.x ≤ℤ x) segments
  pub has_live : (i : ℕ) → is_live_at x segments i ≡ true → Has order i
  pub from_below : IsFromBelow x segments order

-- such a tree, but for what is to be placed in it
pub record IsGrowing (x : ℤ) (segments : List WholeSegment) (nodes : List TreeNode) (root new kept : ℕ) : Type 0 where
  pub down : MayGoDown nodes root new
  pub kept_is : kept ≡ length down.sound.order
  pub same_length : length nodes ≡ length segments
  pub begun : All (λ s. s.pair.a.x ≤ℤ x) segments
  pub has_live : (i : ℕ) → is_live_at x segments i ≡ true → Has down.sound.order i ⊎ Has down.placed i
  pub from_below : IsFromBelow x segments down.sound.order

-- such a tree with what was placed in it
pub record IsGrown (x : ℤ) (segments : List WholeSegment) (before : ℕ → Bool) (placed : List ℕ) (nodes : List TreeNode) (root kept last : ℕ) : Type 0 where
  pub earlier : List ℕ
  pub later : List ℕ
  pub high : ℕ
  pub tree : IsTree nodes root (earlier ++ (placed ++ later)) high
  pub distinct : IsDistinct (earlier ++ (placed ++ later))
  pub kept_is : kept ≡ length (earlier ++ later)
  pub same_length : length nodes ≡ length segments
  pub has_live : (i : ℕ) → is_live_at x segments i ≡ true → Has (earlier ++ later) i ⊎ Has placed i
  pub known : (i : ℕ) → Has (earlier ++ later) i → (i < length segments) × (i < none)
  pub from_below : IsFromBelow x segments (earlier ++ later)
  pub last_is : ((earlier ≡ []) × (last ≡ none)) ⊎ HasLast (lasts_past x segments) before earlier last
  pub first_is : (later ≡ []) ⊎ HasFirst (lasts_past x segments) before later

-- At most (removed + 1) * d orders were compared, where d is the greatest height of a balanced tree of as many entries as there were.
abbrev pub IsAskedWithin : ℕ → ℕ → ℕ → Type 0
IsAskedWithin was removed asked = (d : ℕ) → IsHighest was d → asked ≤ suc removed * d
