-- Tests of coordinates and of their whole numbers.
use Rattle.std.proofs.Common.{◌≡◌, refl, ap, ◌∙◌, Bool, true, false, cond, Ordering, Less, Equal, Greater, is_eq}
use Rattle.std.specs.Prelude.{ℤ, int_lt}
use Rattle.std.specs.Ordering.{int_cmp, eq_by_cmp, is_lt}

by_tests : (less more : Bool) → is_lt (cond less Less (cond more Greater Equal)) ≡ less
by_tests true more = refl
by_tests false true = refl
by_tests false false = refl

pub int_lt-by_cmp : (a b : ℤ) → is_lt (int_cmp a b) ≡ int_lt a b
int_lt-by_cmp a b = by_tests (int_lt a b) (int_lt b a)

-- `==` of coordinates is that of their whole numbers
pub whole_eq : {I : Type 0} (eq : I → I → Bool) (cmp : I → I → Ordering) (whole : I → ℤ) → ((a b : I) → eq a b ≡ eq_by_cmp cmp a b) → ((a b : I) → cmp a b ≡ int_cmp (whole a) (whole b)) → (a b : I) → eq a b ≡ is_eq (int_cmp (whole a) (whole b))
whole_eq eq cmp whole e o a b = e a b ∙ ap is_eq (o a b)
