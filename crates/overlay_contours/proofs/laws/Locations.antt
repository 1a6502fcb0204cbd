-- How often steps wind around a point that lies on none of them: one step by the turn to the point, and steps one after another.
use Rattle.std.proofs.Common.{◌≡◌, refl, sym, ap, ap₂, ◌∙◌, ◌&&◌, ◌||◌, Bool, true, false, cond, None, Some, List, [], ◌∷◌, ◌++◌, ℕ, suc, ◌+◌, ◌<◌, ◌≤◌, length, get_or, drop, map, arith}
use Rattle.std.specs.Prelude.{ℤ, pos, negsuc, ◌+ℤ◌, ◌*ℤ◌, ◌≤ℤ◌, ◌<ℤ◌, int_le, int_lt}
use Rattle.std.specs.Ordering.{int_cmp, int_eq}
use Rattle.std.proofs.lemmas.Int.{ints}
use Rattle.std.specs.declared.cmp.Ordering.TheVariants.{Less, Equal, Greater}
use Rattle.overlay_geometry.specs.Below.{width}
use Rattle.overlay_geometry.specs.Points.{Point, Pair, turn, lies_on, is_in_box}
use Rattle.overlay_geometry.proofs.laws.geometry.Polynomials.{as_D, diffs, D-eq}
use Rattle.overlay_base.specs.Places.{height_at, runs_below, lies_below}
use Rattle.overlay_cuts.specs.Nearness.{whole_point}
use Rattle.overlay_base.specs.declared.overlay_core.fill_rule.FillRule.{FillRule}
use Rattle.overlay_sweep.specs.Fill.{is_inside}
use Rattle.overlay_contours.specs.Contours.{turned, step_winding, steps_from, steps_of, steps, winding_number}
use Rattle.overlay_contours.specs.Locations.{location}
use Rattle.overlay_contours.specs.declared.location.PointLocation.TheVariants.{Inside, OnBoundary, Outside}
use Rattle.overlay_base.proofs.laws.lists.Monoids.{gathered-append}
use Rattle.std.proofs.lemmas.List.Folds.{list_any-append}
use Rattle.overlay_contours.proofs.laws.Areas.{whole_sums}
use Rattle.overlay_contours.proofs.laws.Steps.{drop_at, drop_all}
use Rattle.overlay_contours.specs.steps.Locating.{is_on_one, winding_of_steps, IsWindingOf}

-- ---- one step

-- by the numbers at which it starts and ends, that of the point, and the turn to it
abbrev pub winding_by : ℤ → ℤ → ℤ → ℤ → ℤ
winding_by a b x t = cond ((int_le a x && int_lt x b) && int_lt (pos 0) t) (pos 1) (cond ((int_le b x && int_lt x a) && int_lt t (pos 0)) (negsuc 0) (pos 0))

height_and_turn : (s : Pair) (p : Point) → height_at s (whole_point p) +ℤ turn s.a s.b p ≡ p.y *ℤ width s
unfolding turn
height_and_turn s p = rw (as_D s.a.x, as_D s.a.y, as_D s.b.x, as_D s.b.y, as_D p.x, as_D p.y) (simp diffs (D-eq _ _ _ _ (omega arith)))

below_by_sum : (h t q : ℤ) → h +ℤ t ≡ q → int_lt h q ≡ int_lt (pos 0) t
below_by_sum h t q e = grind (arith, ints)

by_one : (z : ℤ) → z *ℤ pos 1 ≡ z
by_one z = omega (arith, ints)

below_by_turn : (s : Pair) (p : Point) → lies_below s (whole_point p) ≡ ((int_le s.a.x p.x && int_lt p.x s.b.x) && int_lt (pos 0) (turn s.a s.b p))
below_by_turn s p =
    ap₂ (λ (u v : ℤ). (int_le u p.x && int_lt p.x v) && runs_below s (whole_point p)) (by_one s.a.x) (by_one s.b.x)
    ∙ ap (λ (b : Bool). (int_le s.a.x p.x && int_lt p.x s.b.x) && b) (below_by_sum (height_at s (whole_point p)) (turn s.a s.b p) (p.y *ℤ width s) (height_and_turn s p))

above_by_neg : (t u : ℤ) → t +ℤ u ≡ pos 0 → int_lt (pos 0) u ≡ int_lt t (pos 0)
above_by_neg t u e = grind (arith, ints)

turns_cancel : (a b p : Point) → turn a b p +ℤ turn b a p ≡ pos 0
unfolding turn
turns_cancel a b p = rw (as_D a.x, as_D a.y, as_D b.x, as_D b.y, as_D p.x, as_D p.y) (simp diffs (D-eq _ _ _ _ (omega arith)))

pub winding_by_turn : (s : Pair) (p : Point) → step_winding (whole_point p) s ≡ winding_by s.a.x s.b.x p.x (turn s.a s.b p)
winding_by_turn s p =
    ap₂ (λ (u v : Bool). cond u (pos 1) (cond v (negsuc 0) (pos 0))) (below_by_turn s p)
    (below_by_turn (turned s) p ∙ ap (λ (b : Bool). (int_le s.b.x p.x && int_lt p.x s.a.x) && b) (above_by_neg (turn s.a s.b p) (turn s.b s.a p) (turns_cancel s.a s.b p)))

by_less : (t : ℤ) → int_cmp t (pos 0) ≡ Less → t <ℤ pos 0
by_less t e = grind (arith, ints)

by_equal : (t : ℤ) → int_cmp t (pos 0) ≡ Equal → t ≡ pos 0
by_equal t e = grind (arith, ints)

by_greater : (t : ℤ) → int_cmp t (pos 0) ≡ Greater → pos 0 <ℤ t
by_greater t e = grind (arith, ints)

counts_right : (a b x t : ℤ) → pos 0 <ℤ t → a ≤ℤ x → x <ℤ b → winding_by a b x t ≡ pos 1
counts_right a b x t h k l = grind (arith, ints)

counts_left : (a b x t : ℤ) → t <ℤ pos 0 → b ≤ℤ x → x <ℤ a → winding_by a b x t ≡ negsuc 0
counts_left a b x t h k l = grind (arith, ints)

counts_none_on_line : (a b x t : ℤ) → t ≡ pos 0 → winding_by a b x t ≡ pos 0
counts_none_on_line a b x t h = grind (arith, ints)

counts_none_before : (a b x t : ℤ) → pos 0 <ℤ t → x <ℤ a → winding_by a b x t ≡ pos 0
counts_none_before a b x t h k = grind (arith, ints)

counts_none_after : (a b x t : ℤ) → pos 0 <ℤ t → b ≤ℤ x → winding_by a b x t ≡ pos 0
counts_none_after a b x t h k = grind (arith, ints)

counts_none_before_turned : (a b x t : ℤ) → t <ℤ pos 0 → x <ℤ b → winding_by a b x t ≡ pos 0
counts_none_before_turned a b x t h k = grind (arith, ints)

counts_none_after_turned : (a b x t : ℤ) → t <ℤ pos 0 → a ≤ℤ x → winding_by a b x t ≡ pos 0
counts_none_after_turned a b x t h k = grind (arith, ints)

-- a step alone, on which the point lies
pub on_step : (s : Pair) (p : Point) → int_cmp (turn s.a s.b p) (pos 0) ≡ Equal → is_in_box s p ≡ true → IsWindingOf (s ∷ []) p None
unfolding lies_on
on_step s p e box = record {
  none = ap₂ (λ (u v : Bool). (u && v) || false) (zero_test (turn s.a s.b p) (by_equal (turn s.a s.b p) e)) box;
  off = tt;
  winds = tt;
}
  where
    zero_test : (t : ℤ) → t ≡ pos 0 → int_eq t (pos 0) ≡ true
    zero_test t e = grind (arith, ints)

-- or does not, and then as the step winds
off_step : (s : Pair) (p : Point) (w : ℤ) → lies_on s p ≡ false → winding_by s.a.x s.b.x p.x (turn s.a s.b p) ≡ w → IsWindingOf (s ∷ []) p (Some w)
off_step s p w off e = record {
  none = tt;
  off = ap (λ (b : Bool). b || false) off;
  winds = let one = winding_by_turn s p ∙ e in omega (arith, ints, one);
}

off_line : (s : Pair) (p : Point) → (turn s.a s.b p ≡ pos 0 → ⊥) → lies_on s p ≡ false
unfolding lies_on
off_line s p apart = ap (λ (b : Bool). b && is_in_box s p) (test (turn s.a s.b p) apart)
  where
    test : (t : ℤ) → (t ≡ pos 0 → ⊥) → int_eq t (pos 0) ≡ false
    test t h = grind (arith, ints)

positive_apart : (t : ℤ) → pos 0 <ℤ t → t ≡ pos 0 → ⊥
positive_apart t h e = omega (arith, ints)

negative_apart : (t : ℤ) → t <ℤ pos 0 → t ≡ pos 0 → ⊥
negative_apart t h e = omega (arith, ints)

off_box : (s : Pair) (p : Point) → is_in_box s p ≡ false → lies_on s p ≡ false
unfolding lies_on
off_box s p box = ap (λ (b : Bool). int_eq (turn s.a s.b p) (pos 0) && b) box ∙ none (int_eq (turn s.a s.b p) (pos 0))
  where
    none : (b : Bool) → (b && false) ≡ false
    none true = refl
    none false = refl

pub passes_on_line : (s : Pair) (p : Point) → int_cmp (turn s.a s.b p) (pos 0) ≡ Equal → is_in_box s p ≡ false → IsWindingOf (s ∷ []) p (Some (pos 0))
passes_on_line s p e box = off_step s p (pos 0) (off_box s p box) (counts_none_on_line s.a.x s.b.x p.x (turn s.a s.b p) (by_equal (turn s.a s.b p) e))

-- to the left of the step
module _ (s : Pair) (p : Point) (e : int_cmp (turn s.a s.b p) (pos 0) ≡ Greater) where
  abbrev left_of : pos 0 <ℤ turn s.a s.b p
  left_of = by_greater (turn s.a s.b p) e

  abbrev off_left : lies_on s p ≡ false
  off_left = off_line s p (positive_apart (turn s.a s.b p) left_of)

  pub winds_right : s.a.x ≤ℤ p.x → p.x <ℤ s.b.x → IsWindingOf (s ∷ []) p (Some (pos 1))
  winds_right h k = off_step s p (pos 1) off_left (counts_right s.a.x s.b.x p.x (turn s.a s.b p) left_of h k)

  pub passes_before : p.x <ℤ s.a.x → IsWindingOf (s ∷ []) p (Some (pos 0))
  passes_before h = off_step s p (pos 0) off_left (counts_none_before s.a.x s.b.x p.x (turn s.a s.b p) left_of h)

  pub passes_after : s.b.x ≤ℤ p.x → IsWindingOf (s ∷ []) p (Some (pos 0))
  passes_after h = off_step s p (pos 0) off_left (counts_none_after s.a.x s.b.x p.x (turn s.a s.b p) left_of h)

-- to the right of it
module _ (s : Pair) (p : Point) (e : int_cmp (turn s.a s.b p) (pos 0) ≡ Less) where
  abbrev right_of : turn s.a s.b p <ℤ pos 0
  right_of = by_less (turn s.a s.b p) e

  abbrev off_right : lies_on s p ≡ false
  off_right = off_line s p (negative_apart (turn s.a s.b p) right_of)

  pub winds_left : s.b.x ≤ℤ p.x → p.x <ℤ s.a.x → IsWindingOf (s ∷ []) p (Some (negsuc 0))
  winds_left h k = off_step s p (negsuc 0) off_right (counts_left s.a.x s.b.x p.x (turn s.a s.b p) right_of h k)

  pub passes_before_turned : p.x <ℤ s.b.x → IsWindingOf (s ∷ []) p (Some (pos 0))
  passes_before_turned h = off_step s p (pos 0) off_right (counts_none_before_turned s.a.x s.b.x p.x (turn s.a s.b p) right_of h)

  pub passes_after_turned : s.a.x ≤ℤ p.x → IsWindingOf (s ∷ []) p (Some (pos 0))
  passes_after_turned h = off_step s p (pos 0) off_right (counts_none_after_turned s.a.x s.b.x p.x (turn s.a s.b p) right_of h)

-- ---- steps one after another

-- Of all the steps some are left: the point lies on none of the others, and these wind as often as is counted.
pub record IsCounted (all left : List Pair) (p : Point) (counted : ℤ) : Type 0 where
  pub on : is_on_one left p ≡ is_on_one all p
  pub winds : counted +ℤ winding_of_steps left p ≡ winding_of_steps all p

pub counted_more : (all left some more : List Pair) (p : Point) (w v : ℤ) → IsCounted all left p w → left ≡ some ++ more → IsWindingOf some p (Some v) → IsCounted all more p (w +ℤ v)
counted_more all left some more p w v h parts found = record {
  on = sym (ap (λ (b : Bool). b || is_on_one more p) found.off) ∙ sym (list_any-append (λ s. lies_on s p) some more) ∙ ap (λ (l : List Pair). is_on_one l p) (sym parts) ∙ h.on;
  winds =
      let sum = gathered-append whole_sums (step_winding (whole_point p)) some more in
      let here : winding_of_steps left p ≡ winding_of_steps some p +ℤ winding_of_steps more p = ap (λ (l : List Pair). winding_of_steps l p) parts ∙ sum in
      let count = found.winds in
      let before = h.winds in
      omega (arith, ints, here, count, before);
}

pub counted_all : (all left : List Pair) (p : Point) (w : ℤ) → IsCounted all left p w → left ≡ [] → IsWindingOf all p (Some w)
counted_all all left p w h done = record {
  none = tt;
  off = sym h.on ∙ ap (λ (l : List Pair). is_on_one l p) done;
  winds = let rest : winding_of_steps left p ≡ pos 0 = ap (λ (l : List Pair). winding_of_steps l p) done in let e = h.winds in omega (arith, ints, rest, e);
}

-- the steps of a contour from a point on, along the points from an index on and back to the first one
abbrev pub steps_along : {X : Type 0} → (X → Point) → List X → ℕ → Point → Point → List Pair
steps_along f xs i o q = steps_from q (map f (drop i xs) ++ o ∷ [])

pub next_step : {X : Type 0} (f : X → Point) (xs : List X) (i : ℕ) (x : X) (o q : Point) → i < length xs → x ≡ get_or xs i x → steps_along f xs i o q ≡ (record { a = q; b = f x } ∷ []) ++ steps_along f xs (i + 1) o (f x)
next_step f xs i x o q h is =
    let next : i + 1 ≡ suc i = omega arith in
    ap (λ (l : List _). steps_from q (map f l ++ o ∷ [])) (drop_at xs i x h is) ∙ ap (λ (n : ℕ). record { a = q; b = f x } ∷ steps_along f xs n o (f x)) (sym next)

pub last_step : {X : Type 0} (f : X → Point) (xs : List X) (i : ℕ) (o q : Point) → length xs ≤ i → steps_along f xs i o q ≡ (record { a = q; b = o } ∷ []) ++ []
last_step f xs i o q h = ap (λ (l : List _). steps_from q (map f l ++ o ∷ [])) (drop_all xs i h)

-- those of the contours from an index on
abbrev pub steps_past : {X : Type 0} → (X → List Point) → List X → ℕ → List Pair
steps_past f xs i = steps (map f (drop i xs))

pub next_contour : {X : Type 0} (f : X → List Point) (xs : List X) (i : ℕ) (x : X) → i < length xs → x ≡ get_or xs i x → steps_past f xs i ≡ steps_of (f x) ++ steps_past f xs (i + 1)
next_contour f xs i x h is =
    let next : i + 1 ≡ suc i = omega arith in
    ap (λ (l : List _). steps (map f l)) (drop_at xs i x h is) ∙ ap (λ (n : ℕ). steps_of (f x) ++ steps_past f xs n) (sym next)

-- ---- where the point lies

pub located : (fill_rule : FillRule) (contours : List (List Point)) (p : Point) (w : ℤ) → IsWindingOf (steps contours) p (Some w) → (inside : Bool) → is_inside fill_rule w ≡ inside → cond inside Inside Outside ≡ location fill_rule contours p
unfolding winding_number
located fill_rule contours p w found inside e =
    sym (ap (λ (b : Bool). cond b OnBoundary (cond (is_inside fill_rule (winding_number contours (whole_point p))) Inside Outside)) found.off ∙ ap (λ (z : ℤ). cond (is_inside fill_rule z) Inside Outside) (sym found.winds) ∙ ap (λ (b : Bool). cond b Inside Outside) e)
