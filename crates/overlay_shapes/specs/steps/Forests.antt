-- Numbers with parents, each at most as great as its child: those above one another are of one class.
use Rattle.std.specs.Prelude.{◌≡◌, ℕ, ◌<◌, ◌≤◌, ◌==◌, max, min, if◌then◌else◌, List, length, slice_index}

abbrev pub AreLow : List ℕ → Type 0
AreLow parents = (i : ℕ) → i < length parents → slice_index parents i ≤ i

-- the classes of a forest, by their least numbers
pub record HaveClasses (parents : List ℕ) (classes : ℕ → ℕ) : Type 0 where
  -- a number is in the class of its parent
  pub same : (i : ℕ) → i < length parents → classes (slice_index parents i) ≡ classes i
  -- one that is its own parent is the least of its class
  pub top : (i : ℕ) → i < length parents → slice_index parents i ≡ i → classes i ≡ i
  pub least : (i : ℕ) → i < length parents → classes i ≤ i
  pub led : (i : ℕ) → i < length parents → classes (classes i) ≡ classes i

-- the same with two classes put together
abbrev pub joined : (ℕ → ℕ) → ℕ → ℕ → ℕ → ℕ
joined classes a b i = if classes i == max (classes a) (classes b) then min (classes a) (classes b) else classes i
