-- What contours paint by even-odd is where they run around a place an odd number of times.
use Rattle.std.proofs.Common.{◌≡◌, refl, sym, ap, ap₂, ◌∙◌, ℕ, ◌+◌, ◌%◌, ◌==◌, Bool, true, false, not, cond, List, [], ◌∷◌, map, filter, arith}
use Rattle.std.specs.Prelude.{ℤ, pos, negsuc, ◌+ℤ◌, unsigned_abs, count_by, sum_by}
use Rattle.std.proofs.lemmas.Int.{ints}
use Rattle.std.proofs.lemmas.List.Sums.{sum_by-cons}
use Rattle.overlay_geometry.specs.Points.{Pair, point_lt, point_eq}
use Rattle.overlay_base.specs.Places.{RationalPoint, lies_below}
use Rattle.overlay_base.specs.Sums.{gathered}
use Rattle.overlay_geometry.proofs.laws.geometry.Points.{same_by_eq}
use Rattle.overlay_geometry.proofs.laws.lists.Lists.{sum_by-map}
use Rattle.overlay_contours.specs.Contours.{steps, is_edge, in_order, turned, step_winding, winding_number, is_painted}
use Rattle.overlay_contours.specs.Laws.{PaintsByEvenOdd}
use Rattle.overlay_contours.proofs.laws.Windings.{not_below, right, left, upright}

abbrev flag : Bool → ℕ
flag b = cond b 1 0

parity_forward : (b : ℤ) → unsigned_abs (pos 1 +ℤ b) % 2 ≡ (1 + unsigned_abs b) % 2
parity_forward b = omega (arith, ints)

parity_backward : (b : ℤ) → unsigned_abs (negsuc 0 +ℤ b) % 2 ≡ (1 + unsigned_abs b) % 2
parity_backward b = omega (arith, ints)

parity_none : (b : ℤ) → unsigned_abs (pos 0 +ℤ b) % 2 ≡ (0 + unsigned_abs b) % 2
parity_none b = omega (arith, ints)

module _ (p : RationalPoint) where
  -- a step winds by one or not at all, and by one where its edge is below
  abbrev met : Pair → ℕ
  met s = cond (is_edge s) (flag (lies_below (in_order s) p)) 0

  one_step : (u v : Bool) (b : ℤ) (n m : ℕ) → (u ≡ true → n ≡ 1) → (u ≡ false → v ≡ true → n ≡ 1) → (u ≡ false → v ≡ false → n ≡ 0) → unsigned_abs b % 2 ≡ m % 2 → unsigned_abs (cond u (pos 1) (cond v (negsuc 0) (pos 0)) +ℤ b) % 2 ≡ (n + m) % 2
  one_step true v b n m f g h e = let k = parity_forward b in let n1 = f refl in omega (arith, k, n1, e)
  one_step false true b n m f g h e = let k = parity_backward b in let n1 = g refl refl in omega (arith, k, n1, e)
  one_step false false b n m f g h e = let k = parity_none b in let n0 = h refl refl in omega (arith, k, n0, e)

  -- what is met is the step's edge, whichever way it runs
  is_met : (s : Pair) → met s ≡ cond (lies_below s p) 1 (flag (lies_below (turned s) p))
  is_met s = by (point_eq s.a s.b) refl (point_lt s.a s.b) refl
    where
      by : (d : Bool) → point_eq s.a s.b ≡ d → (b : Bool) → point_lt s.a s.b ≡ b → cond (not d) (flag (lies_below (cond b s (turned s)) p)) 0 ≡ cond (lies_below s p) 1 (flag (lies_below (turned s) p))
      by true e b l = let same = upright s (same_by_eq s.a s.b e) in rw (not_below s p same.0, not_below (turned s) p same.1) refl
      by false e true l = rw (not_below (turned s) p (right s l)) (plain (lies_below s p))
        where
          plain : (c : Bool) → flag c ≡ cond c 1 (flag false)
          plain true = refl
          plain false = refl
      by false e false l = rw (not_below s p (left s l)) refl

  same_parity : (list : List Pair) → unsigned_abs (gathered ◌+ℤ◌ (pos 0) (step_winding p) list) % 2 ≡ sum_by met list % 2
  same_parity [] = refl
  same_parity (s ∷ list) =
      one_step (lies_below s p) (lies_below (turned s) p) (gathered ◌+ℤ◌ (pos 0) (step_winding p) list) (met s) (sum_by met list)
      (λ e. is_met s ∙ ap (λ (b : Bool). cond b 1 (flag (lies_below (turned s) p))) e)
      (λ e k. is_met s ∙ ap₂ (λ (b c : Bool). cond b 1 (flag c)) e k)
      (λ e k. is_met s ∙ ap₂ (λ (b c : Bool). cond b 1 (flag c)) e k)
      (same_parity list)
      ∙ ap (λ (n : ℕ). n % 2) (sym (sum_by-cons met s list))

  counted : (list : List Pair) → count_by (λ e. lies_below e p) (map in_order (filter is_edge list)) ≡ sum_by met list
  counted list = sum_by-map (λ e. flag (lies_below e p)) in_order (filter is_edge list) ∙ over list
    where
      over : (xs : List Pair) → sum_by (λ s. flag (lies_below (in_order s) p)) (filter is_edge xs) ≡ sum_by met xs
      over [] = refl
      over (x ∷ xs) = by (is_edge x) refl (over xs) ∙ sym (sum_by-cons met x xs)
        where
          by : (b : Bool) → is_edge x ≡ b → sum_by (λ s. flag (lies_below (in_order s) p)) (filter is_edge xs) ≡ sum_by met xs → sum_by (λ s. flag (lies_below (in_order s) p)) (cond b (x ∷ filter is_edge xs) (filter is_edge xs)) ≡ cond b (flag (lies_below (in_order x) p)) 0 + sum_by met xs
          by true e ih = sum_by-cons (λ s. flag (lies_below (in_order s) p)) x (filter is_edge xs) ∙ ap (λ (n : ℕ). flag (lies_below (in_order x) p) + n) ih
          by false e ih = let r = ih in omega (arith, r)

pub paints_by_even_odd : PaintsByEvenOdd
unfolding is_painted winding_number
paints_by_even_odd contours p = ap (λ (n : ℕ). n == 1) (ap (λ (n : ℕ). n % 2) (counted p (steps contours)) ∙ sym (same_parity p (steps contours)))
