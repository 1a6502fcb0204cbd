-- The box around points, with one point more.
use Rattle.std.proofs.Common.{◌≡◌, refl, sym, ap, subst, ◌∙◌, ◌⊎◌, inl, inr, Bool, true, false, cond, List, [], ◌∷◌, ◌++◌, get_or, arith}
use Rattle.std.specs.Prelude.{ℤ, ◌≤ℤ◌, Contains}
use Rattle.std.specs.Int.{int_min, int_max}
use Rattle.std.specs.Ordering.{int_cmp, is_lt, ord_min, ord_max}
use Rattle.std.specs.declared.cmp.Ordering.{Ordering}
use Rattle.std.proofs.lemmas.Int.{ints}
use Rattle.std.proofs.lemmas.List.Elements.{All-append, All-from_recursion, Contains-append_left, Contains-push}
use Rattle.overlay_geometry.proofs.laws.geometry.Comparisons.{int_lt-by_cmp}
use Rattle.overlay_geometry.specs.Points.{Point}
use Rattle.overlay_geometry.specs.Ranges.{Rect}
use Rattle.overlay_contours.specs.Boxes.{LiesIn, IsBoundingBox}

-- the box of one point, and a box with one point more
abbrev pub box_of : Point → Rect
box_of p = record { min_x = p.x; max_x = p.x; min_y = p.y; max_y = p.y }

abbrev pub box_with : Rect → Point → Rect
box_with r p = record { min_x = int_min r.min_x p.x; max_x = int_max r.max_x p.x; min_y = int_min r.min_y p.y; max_y = int_max r.max_y p.y }

least_left : (u v w : ℤ) → u ≤ℤ w → int_min u v ≤ℤ w
least_left u v w h = grind (arith, ints)

least_right : (u v : ℤ) → int_min u v ≤ℤ v
least_right u v = grind (arith, ints)

greatest_left : (u v w : ℤ) → w ≤ℤ u → w ≤ℤ int_max u v
greatest_left u v w h = grind (arith, ints)

greatest_right : (u v : ℤ) → v ≤ℤ int_max u v
greatest_right u v = grind (arith, ints)

least_is : (u v : ℤ) → (int_min u v ≡ u) ⊎ (int_min u v ≡ v)
least_is u v = grind (arith, ints)

greatest_is : (u v : ℤ) → (int_max u v ≡ u) ⊎ (int_max u v ≡ v)
greatest_is u v = grind (arith, ints)

side : (of : Point → ℤ) (points : List Point) (p : Point) (old new : ℤ) → (q : Point) × Contains points q × (of q ≡ old) → (new ≡ old) ⊎ (new ≡ of p) → (q : Point) × Contains (points ++ p ∷ []) q × (of q ≡ new)
side of points p old new has (inl e) = (has.0, Contains-append_left points (p ∷ []) has.0 has.1, has.2 ∙ sym e)
side of points p old new has (inr e) = (p, Contains-push points p, sym e)

itself : (z : ℤ) → z ≤ℤ z
itself z = omega (arith, ints)

pub box_widened : (points : List Point) (r : Rect) (p : Point) → IsBoundingBox points r → IsBoundingBox (points ++ p ∷ []) (box_with r p)
box_widened points r p b = record {
  around =
      All-append (LiesIn (box_with r p)) points (p ∷ [])
      (λ i d h.
      let l = b.around i d h in
      record {
        left = least_left r.min_x p.x (get_or points i d).x l.left;
        right = greatest_left r.max_x p.x (get_or points i d).x l.right;
        below = least_left r.min_y p.y (get_or points i d).y l.below;
        above = greatest_left r.max_y p.y (get_or points i d).y l.above;
      })
      (All-from_recursion (LiesIn (box_with r p)) (p ∷ []) (record { left = least_right r.min_x p.x; right = greatest_right r.max_x p.x; below = least_right r.min_y p.y; above = greatest_right r.max_y p.y }, tt));
  left = side (λ q. q.x) points p r.min_x (int_min r.min_x p.x) b.left (least_is r.min_x p.x);
  right = side (λ q. q.x) points p r.max_x (int_max r.max_x p.x) b.right (greatest_is r.max_x p.x);
  below = side (λ q. q.y) points p r.min_y (int_min r.min_y p.y) b.below (least_is r.min_y p.y);
  above = side (λ q. q.y) points p r.max_y (int_max r.max_y p.y) b.above (greatest_is r.max_y p.y);
}

pub box_alone : (points : List Point) (p : Point) → points ≡ [] → IsBoundingBox (points ++ p ∷ []) (box_of p)
box_alone points p none = subst (λ (l : List Point). IsBoundingBox (l ++ p ∷ []) (box_of p)) (sym none)
    (record {
      around = All-from_recursion (LiesIn (box_of p)) (p ∷ []) (record { left = itself p.x; right = itself p.x; below = itself p.y; above = itself p.y }, tt);
      left = (p, Contains-push [] p, refl);
      right = (p, Contains-push [] p, refl);
      below = (p, Contains-push [] p, refl);
      above = (p, Contains-push [] p, refl);
    })

-- the lesser and the greater of two coordinates of code
of_either : {I : Type 0} (whole : I → ℤ) (b : Bool) (x y : I) → whole (cond b x y) ≡ cond b (whole x) (whole y)
of_either whole true x y = refl
of_either whole false x y = refl

pub whole_min : {I : Type 0} (whole : I → ℤ) (cmp : I → I → Ordering) → ((a b : I) → cmp a b ≡ int_cmp (whole a) (whole b)) → (a b : I) → whole (ord_min cmp a b) ≡ int_min (whole a) (whole b)
whole_min whole cmp ordered a b = of_either whole (is_lt (cmp b a)) b a ∙ ap (λ (t : Bool). cond t (whole b) (whole a)) (ap is_lt (ordered b a) ∙ int_lt-by_cmp (whole b) (whole a))

pub whole_max : {I : Type 0} (whole : I → ℤ) (cmp : I → I → Ordering) → ((a b : I) → cmp a b ≡ int_cmp (whole a) (whole b)) → (a b : I) → whole (ord_max cmp a b) ≡ int_max (whole a) (whole b)
whole_max whole cmp ordered a b = of_either whole (is_lt (cmp b a)) a b ∙ ap (λ (t : Bool). cond t (whole a) (whole b)) (ap is_lt (ordered b a) ∙ int_lt-by_cmp (whole b) (whole a))
