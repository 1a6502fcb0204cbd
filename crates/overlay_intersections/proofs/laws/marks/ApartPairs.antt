-- Pairs that are apart put no mark on one another.
use Rattle.std.proofs.Common.{◌≡◌, refl, sym, ap, subst, ◌∙◌, inl, inr, arith, Bool, false, IsTrue, IsFalse, [], ◌∷◌}
use Rattle.std.specs.Prelude.{ℤ, pos, filter}
use Rattle.std.proofs.lemmas.Int.{ints}
use Rattle.std.proofs.lemmas.Bool.{or_from, false_from_ne_true}
use Rattle.overlay_geometry.specs.Points.{Point, Pair, turn, is_ordered, is_strictly_inside}
use Rattle.overlay_geometry.specs.Meeting.{do_cross, has_end_inside, are_apart}
use Rattle.overlay_geometry.proofs.laws.geometry.Points.{Before, before, Before-irreflexive, Before-trans, inside_order, turn_same_last}
use Rattle.overlay_base.proofs.laws.geometry.Apart.{Opposite, do_cross_parts, are_apart_from, are_apart_parts, are_apart-back, no_end_inside_parts}
use Rattle.overlay_intersections.specs.Marks.{Placing, marks_by, cross_inexactly}
use Rattle.overlay_intersections.proofs.laws.marks.Marks.{marks_at_ends}

abbrev pub AreApart : Pair → Pair → Type 0
AreApart s t = IsTrue (are_apart s t)

pub AreApart-back : (s t : Pair) → AreApart s t → AreApart t s
AreApart-back s t apart = are_apart-back t s ∙ apart

pub none_of_two : {X : Type 0} (f : X → Bool) (p q : X) → f p ≡ false → f q ≡ false → filter f (p ∷ q ∷ []) ≡ []
none_of_two f p q h k = rw (h, k) refl

pub apart_have_no_mark : (placing : Placing) (s t : Pair) → AreApart s t → marks_by placing s t ≡ []
apart_have_no_mark placing s t h =
    let parts = are_apart_parts s t h in
    let none = no_end_inside_parts s t parts.1 in
    marks_at_ends placing s t parts.0 ∙ none_of_two (λ p. is_strictly_inside s p) t.a t.b none.0 none.1

pub apart_are_exact : (s t : Pair) → AreApart s t → IsFalse (cross_inexactly s t)
unfolding cross_inexactly
apart_are_exact s t h = rw (are_apart_parts s t h).0

-- ---- one begins where the other ends

no_opposite : (f g : ℤ) → f ≡ pos 0 → Opposite f g → ⊥
no_opposite f g e (inl h) = omega (arith, ints, h)
no_opposite f g e (inr h) = omega (arith, ints, h)

chained_cross : (s t : Pair) → s.b ≡ t.a → IsFalse (do_cross s t)
chained_cross s t e = false_from_ne_true _ (λ h.
    no_opposite (turn s.a s.b t.a) (turn s.a s.b t.b) (ap (turn s.a s.b) (sym e) ∙ turn_same_last s.a s.b) (do_cross_parts s t h).0)

-- what lies strictly inside comes after the first end and before the second
not_inside_at : (s : Pair) (p : Point) → IsTrue (is_ordered s) → (Before s.a p → Before p s.b → ⊥) → IsFalse (is_strictly_inside s p)
not_inside_at s p o h = false_from_ne_true _ (λ i. let r = inside_order s p (before s.a s.b o) i in h r.1 r.2)

pub AreApart-chained : (s t : Pair) → IsTrue (is_ordered s) → IsTrue (is_ordered t) → s.b ≡ t.a → AreApart s t
unfolding has_end_inside
AreApart-chained s t os ot e =
    are_apart_from s t (chained_cross s t e)
    (or_from (is_strictly_inside s t.a) (is_strictly_inside s t.b)
    (not_inside_at s t.a os (λ a b. Before-irreflexive t.a (subst (λ (q : Point). Before t.a q) e b)))
    (not_inside_at s t.b os (λ a b. Before-irreflexive t.a (Before-trans t.a t.b t.a (before t.a t.b ot) (subst (λ (q : Point). Before t.b q) e b)))))
    (or_from (is_strictly_inside t s.a) (is_strictly_inside t s.b)
    (not_inside_at t s.a ot (λ a b. Before-irreflexive t.a (Before-trans t.a s.a t.a a (subst (λ (q : Point). Before s.a q) e (before s.a s.b os)))))
    (not_inside_at t s.b ot (λ a b. Before-irreflexive t.a (subst (λ (q : Point). Before t.a q) e a))))

-- ends in order differ
pub ends_differ : (s : Pair) → IsTrue (is_ordered s) → s.a ≡ s.b → ⊥
ends_differ s h e = Before-irreflexive s.a (subst (λ (p : Point). Before s.a p) (sym e) (before s.a s.b h))
