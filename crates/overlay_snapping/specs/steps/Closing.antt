-- One repetition on the way to all hot points: the segments that pass by those found so far, and the points by which these pass.
use Rattle.std.specs.Prelude.{◌≡◌, ◌⊎◌, ◌↔◌, ℕ, IsTrue, List, Some, Contains, slice_get}
use Rattle.overlay_geometry.specs.Points.{Point, Pair}
use Rattle.overlay_snapping.specs.Chains.{rounded_crossings, given_points, passes_by}

-- The first are the points to which crossings are rounded. The others have all ends and whole crossings, and maybe some of the first.
pub record IsInput (segments : List Pair) (rounded given : List Point) : Type 0 where
  pub rounded_are : (c : Point) → Contains rounded c ↔ Contains (rounded_crossings segments) c
  pub given_are : (c : Point) → Contains given c → Contains (given_points segments) c ⊎ Contains (rounded_crossings segments) c
  pub all_given : (c : Point) → Contains (given_points segments) c → Contains given c

-- s passes by some of these points
abbrev pub PassesSome : List Point → Pair → Type 0
PassesSome points s = (c : Point) × Contains points c × IsTrue (passes_by s c)

-- the indices of the segments that pass by some of these points
pub record AreMovers (segments : List Pair) (points : List Point) (movers : List ℕ) : Type 0 where
  pub only : (i : ℕ) → Contains movers i → (s : Pair) × (slice_get segments i ≡ Some s) × PassesSome points s
  pub all : (i : ℕ) (s : Pair) → slice_get segments i ≡ Some s → PassesSome points s → Contains movers i

-- the new points have the old ones, and those of a list by which s passes
pub record AddsPassed (s : Pair) (points old new : List Point) : Type 0 where
  pub kept : (c : Point) → Contains old c → Contains new c
  pub only : (c : Point) → Contains new c → Contains old c ⊎ (Contains points c × IsTrue (passes_by s c))
  pub all : (c : Point) → Contains points c → IsTrue (passes_by s c) → Contains new c

-- the points of a list by which some segments pass
pub record ArePassedBy (segments : List Pair) (points : List Point) (movers : List ℕ) (passed : List Point) : Type 0 where
  pub only : (c : Point) → Contains passed c → Contains points c × ((i : ℕ) × (s : Pair) × Contains movers i × (slice_get segments i ≡ Some s) × IsTrue (passes_by s c))
  pub all : (i : ℕ) (s : Pair) (c : Point) → Contains movers i → slice_get segments i ≡ Some s → Contains points c → IsTrue (passes_by s c) → Contains passed c

-- the new points are those of the old ones that are not found already
pub record AreLeft (found old new : List Point) : Type 0 where
  pub only : (c : Point) → Contains new c → Contains old c × (Contains found c → ⊥)
  pub all : (c : Point) → Contains old c → Contains found c ⊎ Contains new c

-- the given points by which segments pass that pass by some of the points found, but for these
pub record ArePassed (segments : List Pair) (found given passed : List Point) : Type 0 where
  pub only : (c : Point) → Contains passed c → Contains given c × ((s : Pair) × Contains segments s × PassesSome found s × IsTrue (passes_by s c)) × (Contains found c → ⊥)
  pub all : (s : Pair) (c : Point) → Contains segments s → PassesSome found s → Contains given c → IsTrue (passes_by s c) → Contains found c ⊎ Contains passed c
