-- The lesser and the greater of two coordinates of code, as whole numbers.
use Rattle.std.proofs.Common.{◌≡◌, refl, ap, ◌∙◌, Bool, true, false, cond}
use Rattle.std.specs.Prelude.{ℤ}
use Rattle.std.specs.Int.{int_min, int_max}
use Rattle.std.specs.Ordering.{int_cmp, is_lt, ord_min, ord_max}
use Rattle.std.specs.declared.cmp.Ordering.{Ordering}
use Rattle.overlay_geometry.proofs.laws.geometry.Comparisons.{int_lt-by_cmp}

of_either : {I : Type 0} (whole : I → ℤ) (b : Bool) (x y : I) → whole (cond b x y) ≡ cond b (whole x) (whole y)
of_either whole true x y = refl
of_either whole false x y = refl

pub whole_min : {I : Type 0} (whole : I → ℤ) (cmp : I → I → Ordering) → ((a b : I) → cmp a b ≡ int_cmp (whole a) (whole b)) → (a b : I) → whole (ord_min cmp a b) ≡ int_min (whole a) (whole b)
whole_min whole cmp ordered a b = of_either whole (is_lt (cmp b a)) b a ∙ ap (λ (t : Bool). cond t (whole b) (whole a)) (ap is_lt (ordered b a) ∙ int_lt-by_cmp (whole b) (whole a))

pub whole_max : {I : Type 0} (whole : I → ℤ) (cmp : I → I → Ordering) → ((a b : I) → cmp a b ≡ int_cmp (whole a) (whole b)) → (a b : I) → whole (ord_max cmp a b) ≡ int_max (whole a) (whole b)
whole_max whole cmp ordered a b = of_either whole (is_lt (cmp b a)) a b ∙ ap (λ (t : Bool). cond t (whole a) (whole b)) (ap is_lt (ordered b a) ∙ int_lt-by_cmp (whole b) (whole a))
