-- Tests of heights, as those of whole numbers.
use Rattle.std.proofs.Common.{◌≡◌, refl, ap, ◌∙◌, arith, Bool, true, false, cond, Ordering, Less, Greater, Equal}
use Rattle.std.specs.Prelude.{ℤ, int_lt, Option, Some}
use Rattle.std.specs.Int.{int_max}
use Rattle.std.specs.Ordering.{int_cmp, is_lt, is_some_and, partial_lt}
use Rattle.std.proofs.lemmas.Int.{ints}

module _ {I : Type 0} (partial-cmp : I → I → Option Ordering) (cmp : I → I → Ordering) (whole : I → ℤ) (matches : (x y : I) → partial-cmp x y ≡ Some (cmp x y)) (ordered : (x y : I) → cmp x y ≡ int_cmp (whole x) (whole y)) (x y : I) where
  pub lt_whole : partial_lt partial-cmp x y ≡ int_lt (whole x) (whole y)
  lt_whole = ap (is_some_and is_lt) (matches x y) ∙ ap is_lt (ordered x y) ∙ first (int_lt (whole x) (whole y)) (int_lt (whole y) (whole x))
    where
      first : (b c : Bool) → is_lt (cond b Less (cond c Greater Equal)) ≡ b
      first true c = refl
      first false true = refl
      first false false = refl

-- the greater of two heights
pub greater_first : (a b : ℤ) → int_lt a b ≡ false → a ≡ int_max a b
greater_first a b h = grind (arith, ints)

pub greater_second : (a b : ℤ) → int_lt a b ≡ true → b ≡ int_max a b
greater_second a b h = grind (arith, ints)
