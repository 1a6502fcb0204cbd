-- What is kept of a list.
use Rattle.std.proofs.Common.{◌≡◌}
use Rattle.std.specs.Prelude.{suc, Bool, List, filter}
use Rattle.std.specs.List.Retain.{IsFiltered}
use Rattle.std.proofs.lemmas.Fn.{filter_same}

-- ---- a list that grows by one

-- what `retain` keeps, where its test changes nothing
pub kept_by : {X F : Type 0} (R : F → X → Bool → F → Type 0) (test : X → Bool) (f : F) (xs ys : List X) → IsFiltered R f xs ys → ((x : X) (b : Bool) (g : F) → R f x b g → (b ≡ test x) × (g ≡ f)) → ys ≡ filter test xs
kept_by R test f xs ys kept h = filter_same R test f h xs ys kept
