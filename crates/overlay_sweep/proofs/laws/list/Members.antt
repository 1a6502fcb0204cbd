-- What is in the parts of a list is in the list.
use Rattle.std.proofs.Common.{inl, inr}
use Rattle.std.specs.Prelude.{ℕ, ◌+◌, ◌⊎◌, List, [], ◌∷◌, ◌++◌}
use Rattle.overlay_sweep.specs.LiveRows.{Has}

-- ---- lists without repeats

pub Has-left : (xs ys : List ℕ) (x : ℕ) → Has xs x → Has (xs ++ ys) x
Has-left [] ys x m = absurd m
Has-left (y ∷ xs) ys x (inl e) = inl e
Has-left (y ∷ xs) ys x (inr m) = inr (Has-left xs ys x m)

pub Has-right : (xs ys : List ℕ) (x : ℕ) → Has ys x → Has (xs ++ ys) x
Has-right [] ys x m = m
Has-right (y ∷ xs) ys x m = inr (Has-right xs ys x m)

pub Has-parts : (xs ys : List ℕ) (x : ℕ) → Has (xs ++ ys) x → Has xs x ⊎ Has ys x
Has-parts [] ys x m = inr m
Has-parts (y ∷ xs) ys x (inl e) = inl (inl e)
Has-parts (y ∷ xs) ys x (inr m) = elim (Has-parts xs ys x m) [ inl n ↦ inl (inr n) | inr n ↦ inr n ]
