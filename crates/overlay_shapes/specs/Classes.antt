-- Classes of numbers: two are in one class where joins link them, one after another.
use Rattle.std.specs.Prelude.{◌≡◌, ℕ, ◌<◌, ◌≤◌, List, length, All, Contains, slice_index}
use Rattle.overlay_shapes.specs.declared.classes.Join.{Join}

-- steps lead from the one to the other, each along a relation or back
pub data AreLinked {X : Type 0} (R : X → X → Type 0) : X → X → Type 0 where
  here : {x : X} → AreLinked R x x
  along : {x y z : X} → R x y → AreLinked R y z → AreLinked R x z
  back : {x y z : X} → R y x → AreLinked R y z → AreLinked R x z

-- one of the joins is of these two
abbrev pub IsJoin : List Join → ℕ → ℕ → Type 0
IsJoin joins a b = Contains joins (record { a = a; b = b })

-- Of each number below a bound the least one of its class. Joins put two into one class, and only what joins link is in one.
pub record AreLeaders (count : ℕ) (joins : List Join) (leaders : List ℕ) : Type 0 where
  pub each : length leaders ≡ count
  pub joined : All (λ j. slice_index leaders j.a ≡ slice_index leaders j.b) joins
  pub linked : (i : ℕ) → i < count → AreLinked (IsJoin joins) i (slice_index leaders i)
  pub least : (i : ℕ) → i < count → slice_index leaders i ≤ i
  pub led : (i : ℕ) → i < count → slice_index leaders (slice_index leaders i) ≡ slice_index leaders i
