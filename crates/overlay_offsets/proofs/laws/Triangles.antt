-- A triangle that does not turn right winds once or not at all, and so does a parallelogram.
-- The vertical line through the point meets two sides of the triangle, one that runs to the right and one that runs to the left. The turns from
-- the three sides to the place, each times how far the corner across is to the right of the point, add up to 0.
use Rattle.std.proofs.Common.{◌≡◌, sym, ap, ap₂, subst, ◌∙◌, Bool, cond, ◌&&◌, [], ◌∷◌, ◌⊎◌, inl, inr, arith, ℕ, ◌<◌}
use Rattle.std.specs.Prelude.{ℤ, pos, negsuc, ◌+ℤ◌, ◌-ℤ◌, ◌*ℤ◌, neg_ℤ, ◌≤ℤ◌, ◌<ℤ◌, int_le, int_lt}
use Rattle.std.proofs.lemmas.Int.{ints, by_lt_z}
use Rattle.overlay_geometry.specs.Below.{width}
use Rattle.overlay_geometry.specs.Points.{Point, Pair, turn}
use Rattle.overlay_geometry.proofs.laws.geometry.Polynomials.{as_D, diffs, D-eq, mul-pos, mul-nonneg, mul-neg, mul-nonpos, mul-nonpos_left, mul-nonneg_both, cancel-zero}
use Rattle.overlay_base.specs.Places.{RationalPoint, height_at, lies_below}
use Rattle.overlay_base.specs.Rays.{place_turn}
use Rattle.overlay_base.proofs.laws.rays.Rays.{turn_is_height, lt-difference}
use Rattle.overlay_contours.specs.Contours.{turned, step_winding, winding_number}
use Rattle.overlay_contours.proofs.laws.Locations.{winding_by}
use Rattle.overlay_offsets.specs.Laws.{IsTriangleWinding, TriangleWindsOnce}
use Rattle.overlay_offsets.proofs.laws.Ways.{step}

-- ---- one step, by the turn from it to the point

turned_turn : (s : Pair) (p : RationalPoint) → place_turn s p +ℤ place_turn (turned s) p ≡ pos 0
turned_turn s p = plain s.a.x s.a.y s.b.x s.b.y p.x p.y (pos p.bottom)
  where
    plain : (ax ay bx by x y d : ℤ) → ((bx -ℤ ax) *ℤ (y -ℤ ay *ℤ d) -ℤ (by -ℤ ay) *ℤ (x -ℤ ax *ℤ d)) +ℤ ((ax -ℤ bx) *ℤ (y -ℤ by *ℤ d) -ℤ (ay -ℤ by) *ℤ (x -ℤ bx *ℤ d)) ≡ pos 0
    plain ax ay bx by x y d = rw (as_D ax, as_D ay, as_D bx, as_D by, as_D x, as_D y, as_D d) (simp diffs (D-eq _ _ _ _ (omega arith)))

by_negative : (t u : ℤ) → t +ℤ u ≡ pos 0 → int_lt (pos 0) u ≡ int_lt t (pos 0)
by_negative t u e = grind (arith, ints)

below_by_turn : (s : Pair) (p : RationalPoint) → lies_below s p ≡ ((int_le (s.a.x *ℤ pos p.bottom) p.x && int_lt p.x (s.b.x *ℤ pos p.bottom)) && int_lt (pos 0) (place_turn s p))
below_by_turn s p = ap (λ (b : Bool). (int_le (s.a.x *ℤ pos p.bottom) p.x && int_lt p.x (s.b.x *ℤ pos p.bottom)) && b) (lt-difference (height_at s p) (p.y *ℤ width s) (place_turn s p) (turn_is_height s p))

pub winding_of_step : (s : Pair) (p : RationalPoint) → step_winding p s ≡ winding_by (s.a.x *ℤ pos p.bottom) (s.b.x *ℤ pos p.bottom) p.x (place_turn s p)
winding_of_step s p =
    ap₂ (λ (u v : Bool). cond u (pos 1) (cond v (negsuc 0) (pos 0))) (below_by_turn s p)
    (below_by_turn (turned s) p ∙ ap (λ (b : Bool). (int_le (s.b.x *ℤ pos p.bottom) p.x && int_lt p.x (s.a.x *ℤ pos p.bottom)) && b) (by_negative (place_turn s p) (place_turn (turned s) p) (turned_turn s p)))

rightward : (a b x t : ℤ) → a ≤ℤ x → x <ℤ b → winding_by a b x t ≡ cond (int_lt (pos 0) t) (pos 1) (pos 0)
rightward a b x t h k = grind (arith, ints)

leftward : (a b x t : ℤ) → b ≤ℤ x → x <ℤ a → winding_by a b x t ≡ cond (int_lt t (pos 0)) (negsuc 0) (pos 0)
leftward a b x t h k = grind (arith, ints)

to_the_right : (a b x t : ℤ) → x <ℤ a → x <ℤ b → winding_by a b x t ≡ pos 0
to_the_right a b x t h k = grind (arith, ints)

to_the_left : (a b x t : ℤ) → a ≤ℤ x → b ≤ℤ x → winding_by a b x t ≡ pos 0
to_the_left a b x t h k = grind (arith, ints)

-- ---- one side below and one above, and a third

record Settled (f k u w : ℤ) : Type 0 where
  pub once : (w ≡ pos 0) ⊎ (w ≡ pos 1)
  pub inside : pos 0 <ℤ f → pos 0 <ℤ k → pos 0 <ℤ u → w ≡ pos 1
  pub outside_f : f <ℤ pos 0 → w ≡ pos 0
  pub outside_k : k <ℤ pos 0 → w ≡ pos 0
  pub outside_u : u <ℤ pos 0 → w ≡ pos 0

-- f is the turn from the side that runs to the right, k from the one that runs to the left, u from the third
settled : (f k u w : ℤ) → w ≡ cond (int_lt (pos 0) f) (pos 1) (pos 0) +ℤ cond (int_lt k (pos 0)) (negsuc 0) (pos 0) →
    (f ≤ℤ pos 0 → k <ℤ pos 0 → ⊥) → (u <ℤ pos 0 → pos 0 <ℤ f → pos 0 ≤ℤ k → ⊥) → Settled f k u w
settled f k u w e no_above no_third = by_lt_z (pos 0) f (λ a. by_lt_z k (pos 0) (λ b. over a b) (λ b. within a b)) (λ a. by_lt_z k (pos 0) (λ b. absurd (no_above a b)) (λ b. under a b))
  where
    is_one : (f k w : ℤ) → w ≡ cond (int_lt (pos 0) f) (pos 1) (pos 0) +ℤ cond (int_lt k (pos 0)) (negsuc 0) (pos 0) → pos 0 <ℤ f → pos 0 ≤ℤ k → w ≡ pos 1
    is_one f k w e a b = grind (arith, ints)

    is_none : (f k w : ℤ) → w ≡ cond (int_lt (pos 0) f) (pos 1) (pos 0) +ℤ cond (int_lt k (pos 0)) (negsuc 0) (pos 0) → pos 0 <ℤ f → k <ℤ pos 0 → w ≡ pos 0
    is_none f k w e a b = grind (arith, ints)

    is_under : (f k w : ℤ) → w ≡ cond (int_lt (pos 0) f) (pos 1) (pos 0) +ℤ cond (int_lt k (pos 0)) (negsuc 0) (pos 0) → f ≤ℤ pos 0 → pos 0 ≤ℤ k → w ≡ pos 0
    is_under f k w e a b = grind (arith, ints)

    clash : {X : Type 0} (z : ℤ) → pos 0 <ℤ z → z <ℤ pos 0 → X
    clash z a b = absurd (omega (arith, ints, a, b))

    clash_weak : {X : Type 0} (z : ℤ) → pos 0 ≤ℤ z → z <ℤ pos 0 → X
    clash_weak z a b = absurd (omega (arith, ints, a, b))

    clash_back : {X : Type 0} (z : ℤ) → z ≤ℤ pos 0 → pos 0 <ℤ z → X
    clash_back z a b = absurd (omega (arith, ints, a, b))

    within : pos 0 <ℤ f → pos 0 ≤ℤ k → Settled f k u w
    within a b = record {
      once = inr (is_one f k w e a b);
      inside = λ _ _ _. is_one f k w e a b;
      outside_f = λ c. clash f a c;
      outside_k = λ c. clash_weak k b c;
      outside_u = λ c. absurd (no_third c a b);
    }

    over : pos 0 <ℤ f → k <ℤ pos 0 → Settled f k u w
    over a b = let none = is_none f k w e a b in record {
      once = inl none;
      inside = λ _ c _. clash k c b;
      outside_f = λ _. none;
      outside_k = λ _. none;
      outside_u = λ _. none;
    }

    under : f ≤ℤ pos 0 → pos 0 ≤ℤ k → Settled f k u w
    under a b = let none = is_under f k w e a b in record {
      once = inl none;
      inside = λ c _ _. clash_back f a c;
      outside_f = λ _. none;
      outside_k = λ _. none;
      outside_u = λ _. none;
    }

-- ---- the signs, where one corner is not to the right of the point and two are

-- F, K, U: how far the corner across from each side is to the right of the point
module _ (f k u F K U : ℤ) (flat : f *ℤ F +ℤ (k *ℤ K +ℤ u *ℤ U) ≡ pos 0) (turns : pos 0 ≤ℤ (f +ℤ (k +ℤ u))) where
  one_left-above : pos 0 <ℤ F → pos 0 <ℤ K → U ≤ℤ pos 0 → f ≤ℤ pos 0 → k <ℤ pos 0 → ⊥
  one_left-above F> K> U≤ f≤ k< =
      let a = mul-nonpos_left f F f≤ (nonneg F F>) in
      let b = negative K k K> k< in
      by_lt_z u (pos 0) (λ u<. too_low f k u turns f≤ k< u<) (λ u≥. let c = mul-nonpos u U u≥ U≤ in no_sum (f *ℤ F) (k *ℤ K) (u *ℤ U) flat a b c)
    where
      nonneg : (z : ℤ) → pos 0 <ℤ z → pos 0 ≤ℤ z
      nonneg z h = omega (arith, ints, h)

      commuted : (a b : ℤ) → a *ℤ b ≡ b *ℤ a
      commuted a b = rw (as_D a, as_D b) (simp diffs (D-eq _ _ _ _ (omega arith)))

      negative : (a b : ℤ) → pos 0 <ℤ a → b <ℤ pos 0 → (b *ℤ a) <ℤ pos 0
      negative a b h l = rw (commuted b a) (mul-neg a b h l)

      too_low : (f k u : ℤ) → pos 0 ≤ℤ (f +ℤ (k +ℤ u)) → f ≤ℤ pos 0 → k <ℤ pos 0 → u <ℤ pos 0 → ⊥
      too_low f k u s a b c = omega (arith, ints, s, a, b, c)

      no_sum : (x y z : ℤ) → x +ℤ (y +ℤ z) ≡ pos 0 → x ≤ℤ pos 0 → y <ℤ pos 0 → z ≤ℤ pos 0 → ⊥
      no_sum x y z e a b c = omega (arith, ints, e, a, b, c)

  one_left-third : pos 0 <ℤ F → pos 0 <ℤ K → U ≤ℤ pos 0 → u <ℤ pos 0 → pos 0 <ℤ f → pos 0 ≤ℤ k → ⊥
  one_left-third F> K> U≤ u< f> k≥ =
      let a = mul-pos f F f> F> in
      let b = mul-nonneg k K k≥ (nonneg K K>) in
      let c = mul-nonneg_both u U (nonpos u u<) U≤ in
      no_sum (f *ℤ F) (k *ℤ K) (u *ℤ U) flat a b c
    where
      nonneg : (z : ℤ) → pos 0 <ℤ z → pos 0 ≤ℤ z
      nonneg z h = omega (arith, ints, h)

      nonpos : (z : ℤ) → z <ℤ pos 0 → z ≤ℤ pos 0
      nonpos z h = omega (arith, ints, h)

      no_sum : (x y z : ℤ) → x +ℤ (y +ℤ z) ≡ pos 0 → pos 0 <ℤ x → pos 0 ≤ℤ y → pos 0 ≤ℤ z → ⊥
      no_sum x y z e a b c = omega (arith, ints, e, a, b, c)

  two_left-above : F ≤ℤ pos 0 → K ≤ℤ pos 0 → pos 0 <ℤ U → f ≤ℤ pos 0 → k <ℤ pos 0 → ⊥
  two_left-above F≤ K≤ U> f≤ k< =
      let a = mul-nonneg_both f F f≤ F≤ in
      let b = mul-nonneg_both k K (nonpos k k<) K≤ in
      by_lt_z (pos 0) u (λ u>. let c = mul-pos u U u> U> in no_sum (f *ℤ F) (k *ℤ K) (u *ℤ U) flat a b c) (λ u≤. too_low f k u turns f≤ k< u≤)
    where
      nonpos : (z : ℤ) → z <ℤ pos 0 → z ≤ℤ pos 0
      nonpos z h = omega (arith, ints, h)

      too_low : (f k u : ℤ) → pos 0 ≤ℤ (f +ℤ (k +ℤ u)) → f ≤ℤ pos 0 → k <ℤ pos 0 → u ≤ℤ pos 0 → ⊥
      too_low f k u s a b c = omega (arith, ints, s, a, b, c)

      no_sum : (x y z : ℤ) → x +ℤ (y +ℤ z) ≡ pos 0 → pos 0 ≤ℤ x → pos 0 ≤ℤ y → pos 0 <ℤ z → ⊥
      no_sum x y z e a b c = omega (arith, ints, e, a, b, c)

  two_left-third : F ≤ℤ pos 0 → K ≤ℤ pos 0 → pos 0 <ℤ U → u <ℤ pos 0 → pos 0 <ℤ f → pos 0 ≤ℤ k → ⊥
  two_left-third F≤ K≤ U> u< f> k≥ =
      let a = mul-nonpos f F (nonneg f f>) F≤ in
      let b = mul-nonpos k K k≥ K≤ in
      let c = negative U u U> u< in
      no_sum (f *ℤ F) (k *ℤ K) (u *ℤ U) flat a b c
    where
      nonneg : (z : ℤ) → pos 0 <ℤ z → pos 0 ≤ℤ z
      nonneg z h = omega (arith, ints, h)

      commuted : (a b : ℤ) → a *ℤ b ≡ b *ℤ a
      commuted a b = rw (as_D a, as_D b) (simp diffs (D-eq _ _ _ _ (omega arith)))

      negative : (a b : ℤ) → pos 0 <ℤ a → b <ℤ pos 0 → (b *ℤ a) <ℤ pos 0
      negative a b h l = rw (commuted b a) (mul-neg a b h l)

      no_sum : (x y z : ℤ) → x +ℤ (y +ℤ z) ≡ pos 0 → x ≤ℤ pos 0 → y ≤ℤ pos 0 → z <ℤ pos 0 → ⊥
      no_sum x y z e a b c = omega (arith, ints, e, a, b, c)

  one_left : (w : ℤ) → w ≡ cond (int_lt (pos 0) f) (pos 1) (pos 0) +ℤ cond (int_lt k (pos 0)) (negsuc 0) (pos 0) → pos 0 <ℤ F → pos 0 <ℤ K → U ≤ℤ pos 0 → Settled f k u w
  one_left w e F> K> U≤ = settled f k u w e (one_left-above F> K> U≤) (one_left-third F> K> U≤)

  two_left : (w : ℤ) → w ≡ cond (int_lt (pos 0) f) (pos 1) (pos 0) +ℤ cond (int_lt k (pos 0)) (negsuc 0) (pos 0) → F ≤ℤ pos 0 → K ≤ℤ pos 0 → pos 0 <ℤ U → Settled f k u w
  two_left w e F≤ K≤ U> = settled f k u w e (two_left-above F≤ K≤ U>) (two_left-third F≤ K≤ U>)

-- ---- all sides

-- A, B, C: the corners, and t, u, v: the turns from the sides a to b, b to c, c to a
module _ (A B C x t u v : ℤ) (flat : t *ℤ (C -ℤ x) +ℤ (u *ℤ (A -ℤ x) +ℤ v *ℤ (B -ℤ x)) ≡ pos 0) (turns : pos 0 ≤ℤ (t +ℤ (u +ℤ v)))
    (level : A ≡ x → B ≡ x → t ≡ pos 0) where
  abbrev ab : ℤ
  ab = winding_by A B x t

  abbrev bc : ℤ
  bc = winding_by B C x u

  abbrev ca : ℤ
  ca = winding_by C A x v

  abbrev wound : ℤ
  wound = ab +ℤ (bc +ℤ ca)

  -- what a side counts that runs to the right, and one that runs to the left
  abbrev forth : ℤ → ℤ
  forth z = cond (int_lt (pos 0) z) (pos 1) (pos 0)

  abbrev home : ℤ → ℤ
  home z = cond (int_lt z (pos 0)) (negsuc 0) (pos 0)

  rotated : (a b c : ℤ) → a +ℤ (b +ℤ c) ≡ b +ℤ (c +ℤ a)
  rotated a b c = omega (arith, ints)

  rotated_back : (a b c : ℤ) → a +ℤ (b +ℤ c) ≡ c +ℤ (a +ℤ b)
  rotated_back a b c = omega (arith, ints)

  exchanged : (a b c : ℤ) → a +ℤ (b +ℤ c) ≡ a +ℤ (c +ℤ b)
  exchanged a b c = omega (arith, ints)

  two_of_three : (a b c m n : ℤ) → a ≡ m → b ≡ n → c ≡ pos 0 → a +ℤ (b +ℤ c) ≡ m +ℤ n
  two_of_three a b c m n e f g = omega (arith, ints, e, f, g)

  less : (a : ℤ) → x <ℤ a → pos 0 <ℤ (a -ℤ x)
  less a h = omega (arith, ints, h)

  not_less : (a : ℤ) → a ≤ℤ x → (a -ℤ x) ≤ℤ pos 0
  not_less a h = omega (arith, ints, h)

  -- the side of t runs to the right, and that of v to the left, or .. : f, k and the third
  from_tvu : Settled t v u wound → IsTriangleWinding t u v wound
  from_tvu s = record { once = s.once; inside = λ a b c. s.inside a c b; outside = λ (either : (t <ℤ pos 0) ⊎ ((u <ℤ pos 0) ⊎ (v <ℤ pos 0))). by either }
    where
      by : (t <ℤ pos 0) ⊎ ((u <ℤ pos 0) ⊎ (v <ℤ pos 0)) → wound ≡ pos 0
      by (inl h) = s.outside_f h
      by (inr (inl h)) = s.outside_u h
      by (inr (inr h)) = s.outside_k h

  from_utv : Settled u t v wound → IsTriangleWinding t u v wound
  from_utv s = record { once = s.once; inside = λ a b c. s.inside b a c; outside = λ (either : (t <ℤ pos 0) ⊎ ((u <ℤ pos 0) ⊎ (v <ℤ pos 0))). by either }
    where
      by : (t <ℤ pos 0) ⊎ ((u <ℤ pos 0) ⊎ (v <ℤ pos 0)) → wound ≡ pos 0
      by (inl h) = s.outside_k h
      by (inr (inl h)) = s.outside_f h
      by (inr (inr h)) = s.outside_u h

  from_vut : Settled v u t wound → IsTriangleWinding t u v wound
  from_vut s = record { once = s.once; inside = λ a b c. s.inside c b a; outside = λ (either : (t <ℤ pos 0) ⊎ ((u <ℤ pos 0) ⊎ (v <ℤ pos 0))). by either }
    where
      by : (t <ℤ pos 0) ⊎ ((u <ℤ pos 0) ⊎ (v <ℤ pos 0)) → wound ≡ pos 0
      by (inl h) = s.outside_u h
      by (inr (inl h)) = s.outside_k h
      by (inr (inr h)) = s.outside_f h

  from_vtu : Settled v t u wound → IsTriangleWinding t u v wound
  from_vtu s = record { once = s.once; inside = λ a b c. s.inside c a b; outside = λ (either : (t <ℤ pos 0) ⊎ ((u <ℤ pos 0) ⊎ (v <ℤ pos 0))). by either }
    where
      by : (t <ℤ pos 0) ⊎ ((u <ℤ pos 0) ⊎ (v <ℤ pos 0)) → wound ≡ pos 0
      by (inl h) = s.outside_k h
      by (inr (inl h)) = s.outside_u h
      by (inr (inr h)) = s.outside_f h

  from_tuv : Settled t u v wound → IsTriangleWinding t u v wound
  from_tuv s = record { once = s.once; inside = λ a b c. s.inside a b c; outside = λ (either : (t <ℤ pos 0) ⊎ ((u <ℤ pos 0) ⊎ (v <ℤ pos 0))). by either }
    where
      by : (t <ℤ pos 0) ⊎ ((u <ℤ pos 0) ⊎ (v <ℤ pos 0)) → wound ≡ pos 0
      by (inl h) = s.outside_f h
      by (inr (inl h)) = s.outside_k h
      by (inr (inr h)) = s.outside_u h

  from_uvt : Settled u v t wound → IsTriangleWinding t u v wound
  from_uvt s = record { once = s.once; inside = λ a b c. s.inside b c a; outside = λ (either : (t <ℤ pos 0) ⊎ ((u <ℤ pos 0) ⊎ (v <ℤ pos 0))). by either }
    where
      by : (t <ℤ pos 0) ⊎ ((u <ℤ pos 0) ⊎ (v <ℤ pos 0)) → wound ≡ pos 0
      by (inl h) = s.outside_u h
      by (inr (inl h)) = s.outside_f h
      by (inr (inr h)) = s.outside_k h

  none : wound ≡ pos 0 → (pos 0 <ℤ t → pos 0 <ℤ u → pos 0 <ℤ v → ⊥) → IsTriangleWinding t u v wound
  none e never = record { once = inl e; inside = λ a b c. absurd (never a b c); outside = λ _. e }

  sum_tvu : t *ℤ (C -ℤ x) +ℤ (v *ℤ (B -ℤ x) +ℤ u *ℤ (A -ℤ x)) ≡ pos 0
  sum_tvu = exchanged (t *ℤ (C -ℤ x)) (v *ℤ (B -ℤ x)) (u *ℤ (A -ℤ x)) ∙ flat

  sum_utv : u *ℤ (A -ℤ x) +ℤ (t *ℤ (C -ℤ x) +ℤ v *ℤ (B -ℤ x)) ≡ pos 0
  sum_utv = let e = flat in plain (t *ℤ (C -ℤ x)) (u *ℤ (A -ℤ x)) (v *ℤ (B -ℤ x)) e
    where
      plain : (a b c : ℤ) → a +ℤ (b +ℤ c) ≡ pos 0 → b +ℤ (a +ℤ c) ≡ pos 0
      plain a b c e = omega (arith, ints, e)

  sum_vut : v *ℤ (B -ℤ x) +ℤ (u *ℤ (A -ℤ x) +ℤ t *ℤ (C -ℤ x)) ≡ pos 0
  sum_vut = plain (t *ℤ (C -ℤ x)) (u *ℤ (A -ℤ x)) (v *ℤ (B -ℤ x)) flat
    where
      plain : (a b c : ℤ) → a +ℤ (b +ℤ c) ≡ pos 0 → c +ℤ (b +ℤ a) ≡ pos 0
      plain a b c e = omega (arith, ints, e)

  sum_vtu : v *ℤ (B -ℤ x) +ℤ (t *ℤ (C -ℤ x) +ℤ u *ℤ (A -ℤ x)) ≡ pos 0
  sum_vtu = plain (t *ℤ (C -ℤ x)) (u *ℤ (A -ℤ x)) (v *ℤ (B -ℤ x)) flat
    where
      plain : (a b c : ℤ) → a +ℤ (b +ℤ c) ≡ pos 0 → c +ℤ (a +ℤ b) ≡ pos 0
      plain a b c e = omega (arith, ints, e)

  sum_uvt : u *ℤ (A -ℤ x) +ℤ (v *ℤ (B -ℤ x) +ℤ t *ℤ (C -ℤ x)) ≡ pos 0
  sum_uvt = plain (t *ℤ (C -ℤ x)) (u *ℤ (A -ℤ x)) (v *ℤ (B -ℤ x)) flat
    where
      plain : (a b c : ℤ) → a +ℤ (b +ℤ c) ≡ pos 0 → b +ℤ (c +ℤ a) ≡ pos 0
      plain a b c e = omega (arith, ints, e)

  turns_tvu : pos 0 ≤ℤ (t +ℤ (v +ℤ u))
  turns_tvu = omega (arith, ints, turns)

  turns_utv : pos 0 ≤ℤ (u +ℤ (t +ℤ v))
  turns_utv = omega (arith, ints, turns)

  turns_vut : pos 0 ≤ℤ (v +ℤ (u +ℤ t))
  turns_vut = omega (arith, ints, turns)

  turns_vtu : pos 0 ≤ℤ (v +ℤ (t +ℤ u))
  turns_vtu = omega (arith, ints, turns)

  turns_uvt : pos 0 ≤ℤ (u +ℤ (v +ℤ t))
  turns_uvt = omega (arith, ints, turns)

  three_none : (a b c : ℤ) → a ≡ pos 0 → b ≡ pos 0 → c ≡ pos 0 → a +ℤ (b +ℤ c) ≡ pos 0
  three_none a b c e f g = omega (arith, ints, e, f, g)

  -- all corners to the right of the point
  all_right : x <ℤ A → x <ℤ B → x <ℤ C → IsTriangleWinding t u v wound
  all_right a b c = none (three_none ab bc ca (to_the_right A B x t a b) (to_the_right B C x u b c) (to_the_right C A x v c a)) never
    where
      too_much : (a b c : ℤ) → a +ℤ (b +ℤ c) ≡ pos 0 → pos 0 <ℤ a → pos 0 <ℤ b → pos 0 <ℤ c → ⊥
      too_much a b c e f g h = omega (arith, ints, e, f, g, h)

      never : pos 0 <ℤ t → pos 0 <ℤ u → pos 0 <ℤ v → ⊥
      never d e f = too_much (t *ℤ (C -ℤ x)) (u *ℤ (A -ℤ x)) (v *ℤ (B -ℤ x)) flat (mul-pos t (C -ℤ x) d (less C c)) (mul-pos u (A -ℤ x) e (less A a)) (mul-pos v (B -ℤ x) f (less B b))

  -- none of them
  none_right : A ≤ℤ x → B ≤ℤ x → C ≤ℤ x → IsTriangleWinding t u v wound
  none_right a b c = none (three_none ab bc ca (to_the_left A B x t a b) (to_the_left B C x u b c) (to_the_left C A x v c a)) never
    where
      weak : (z : ℤ) → pos 0 <ℤ z → pos 0 ≤ℤ z
      weak z h = omega (arith, ints, h)

      too_little : (a b c : ℤ) → a +ℤ (b +ℤ c) ≡ pos 0 → a ≤ℤ pos 0 → b <ℤ pos 0 → c ≤ℤ pos 0 → ⊥
      too_little a b c e f g h = omega (arith, ints, e, f, g, h)

      too_little_later : (a b c : ℤ) → a +ℤ (b +ℤ c) ≡ pos 0 → a ≤ℤ pos 0 → b ≤ℤ pos 0 → c <ℤ pos 0 → ⊥
      too_little_later a b c e f g h = omega (arith, ints, e, f, g, h)

      below : (z : ℤ) → z <ℤ x → (z -ℤ x) <ℤ pos 0
      below z h = omega (arith, ints, h)

      same : (z : ℤ) → z ≤ℤ x → x ≤ℤ z → z ≡ x
      same z h k = omega (arith, ints, h, k)

      not_both : (z : ℤ) → pos 0 <ℤ z → z ≡ pos 0 → ⊥
      not_both z h e = omega (arith, ints, h, e)

      never : pos 0 <ℤ t → pos 0 <ℤ u → pos 0 <ℤ v → ⊥
      never d e f =
          let at_c = mul-nonpos t (C -ℤ x) (weak t d) (not_less C c) in
          let at_a = mul-nonpos u (A -ℤ x) (weak u e) (not_less A a) in
          let at_b = mul-nonpos v (B -ℤ x) (weak v f) (not_less B b) in
          by_lt_z A x
          (λ l. too_little (t *ℤ (C -ℤ x)) (u *ℤ (A -ℤ x)) (v *ℤ (B -ℤ x)) flat at_c (mul-neg u (A -ℤ x) e (below A l)) at_b)
          (λ m. by_lt_z B x
          (λ l. too_little_later (t *ℤ (C -ℤ x)) (u *ℤ (A -ℤ x)) (v *ℤ (B -ℤ x)) flat at_c at_a (mul-neg v (B -ℤ x) f (below B l)))
          (λ n. not_both t d (level (same A a m) (same B b n))))

  pub three_sides : IsTriangleWinding t u v wound
  three_sides = by_lt_z x A (λ a. by_lt_z x B (λ b. by_lt_z x C (all_right a b) (only_c a b)) (λ b. by_lt_z x C (only_b a b) (not_a a b))) (λ a. by_lt_z x B (λ b. by_lt_z x C (only_a a b) (not_b a b)) (λ b. by_lt_z x C (not_c a b) (none_right a b)))
    where
      -- the one corner that is not to the right
      only_a : A ≤ℤ x → x <ℤ B → x <ℤ C → IsTriangleWinding t u v wound
      only_a a b c = from_tvu (one_left t v u (C -ℤ x) (B -ℤ x) (A -ℤ x) sum_tvu turns_tvu wound
          (exchanged ab bc ca ∙ two_of_three ab ca bc (forth t) (home v) (rightward A B x t a b) (leftward C A x v a c) (to_the_right B C x u b c)) (less C c) (less B b) (not_less A a))

      only_b : x <ℤ A → B ≤ℤ x → x <ℤ C → IsTriangleWinding t u v wound
      only_b a b c = from_utv (one_left u t v (A -ℤ x) (C -ℤ x) (B -ℤ x) sum_utv turns_utv wound
          (rotated ab bc ca ∙ exchanged bc ca ab ∙ two_of_three bc ab ca (forth u) (home t) (rightward B C x u b c) (leftward A B x t b a) (to_the_right C A x v c a)) (less A a) (less C c) (not_less B b))

      only_c : x <ℤ A → x <ℤ B → C ≤ℤ x → IsTriangleWinding t u v wound
      only_c a b c = from_vut (one_left v u t (B -ℤ x) (A -ℤ x) (C -ℤ x) sum_vut turns_vut wound
          (rotated_back ab bc ca ∙ exchanged ca ab bc ∙ two_of_three ca bc ab (forth v) (home u) (rightward C A x v c a) (leftward B C x u c b) (to_the_right A B x t a b)) (less B b) (less A a) (not_less C c))

      -- the one that is
      not_a : x <ℤ A → B ≤ℤ x → C ≤ℤ x → IsTriangleWinding t u v wound
      not_a a b c = from_vtu (two_left v t u (B -ℤ x) (C -ℤ x) (A -ℤ x) sum_vtu turns_vtu wound
          (rotated_back ab bc ca ∙ two_of_three ca ab bc (forth v) (home t) (rightward C A x v c a) (leftward A B x t b a) (to_the_left B C x u b c)) (not_less B b) (not_less C c) (less A a))

      not_b : A ≤ℤ x → x <ℤ B → C ≤ℤ x → IsTriangleWinding t u v wound
      not_b a b c = from_tuv (two_left t u v (C -ℤ x) (A -ℤ x) (B -ℤ x) flat turns wound
          (two_of_three ab bc ca (forth t) (home u) (rightward A B x t a b) (leftward B C x u c b) (to_the_left C A x v c a)) (not_less C c) (not_less A a) (less B b))

      not_c : A ≤ℤ x → B ≤ℤ x → x <ℤ C → IsTriangleWinding t u v wound
      not_c a b c = from_uvt (two_left u v t (A -ℤ x) (B -ℤ x) (C -ℤ x) sum_uvt turns_uvt wound
          (rotated ab bc ca ∙ two_of_three bc ca ab (forth u) (home v) (rightward B C x u b c) (leftward C A x v a c) (to_the_left A B x t a b)) (not_less A a) (not_less B b) (less C c))

-- ---- triangles

module _ (a b c : Point) (p : RationalPoint) (some : 0 < p.bottom) where
  abbrev side : Point → Point → Pair
  side q r = record { a = q; b = r }

  three_steps : winding_number ((a ∷ b ∷ c ∷ []) ∷ []) p ≡ step p a b +ℤ (step p b c +ℤ step p c a)
  unfolding winding_number
  three_steps = plain (step p a b) (step p b c) (step p c a)
    where
      plain : (u v w : ℤ) → u +ℤ (v +ℤ (w +ℤ pos 0)) ≡ u +ℤ (v +ℤ w)
      plain u v w = omega (arith, ints)

  add_up : place_turn (side a b) p +ℤ (place_turn (side b c) p +ℤ place_turn (side c a) p) ≡ turn a b c *ℤ pos p.bottom
  unfolding turn
  add_up = plain a.x a.y b.x b.y c.x c.y p.x p.y (pos p.bottom)
    where
      plain : (ax ay bx by cx cy x y d : ℤ) →
          ((bx -ℤ ax) *ℤ (y -ℤ ay *ℤ d) -ℤ (by -ℤ ay) *ℤ (x -ℤ ax *ℤ d))
          +ℤ (((cx -ℤ bx) *ℤ (y -ℤ by *ℤ d) -ℤ (cy -ℤ by) *ℤ (x -ℤ bx *ℤ d))
          +ℤ ((ax -ℤ cx) *ℤ (y -ℤ cy *ℤ d) -ℤ (ay -ℤ cy) *ℤ (x -ℤ cx *ℤ d)))
          ≡ ((bx -ℤ ax) *ℤ (cy -ℤ ay) -ℤ (by -ℤ ay) *ℤ (cx -ℤ ax)) *ℤ d
      plain ax ay bx by cx cy x y d = rw (as_D ax, as_D ay, as_D bx, as_D by, as_D cx, as_D cy, as_D x, as_D y, as_D d) (simp diffs (D-eq _ _ _ _ (omega arith)))

  positive : pos 0 <ℤ pos p.bottom
  positive = omega (arith, ints, some)

  scaled : (ax ay bx by x y d : ℤ) → d *ℤ ((bx -ℤ ax) *ℤ (y -ℤ ay *ℤ d) -ℤ (by -ℤ ay) *ℤ (x -ℤ ax *ℤ d)) ≡ (x -ℤ ax *ℤ d) *ℤ (y -ℤ by *ℤ d) -ℤ (x -ℤ bx *ℤ d) *ℤ (y -ℤ ay *ℤ d)
  scaled ax ay bx by x y d = rw (as_D ax, as_D ay, as_D bx, as_D by, as_D x, as_D y, as_D d) (simp diffs (D-eq _ _ _ _ (omega arith)))

  flat_sum : place_turn (side a b) p *ℤ (c.x *ℤ pos p.bottom -ℤ p.x) +ℤ (place_turn (side b c) p *ℤ (a.x *ℤ pos p.bottom -ℤ p.x) +ℤ place_turn (side c a) p *ℤ (b.x *ℤ pos p.bottom -ℤ p.x)) ≡ pos 0
  flat_sum = cancel-zero (pos p.bottom) _ positive
      (gathered_up (pos p.bottom) (place_turn (side a b) p) (place_turn (side b c) p) (place_turn (side c a) p)
      (p.x -ℤ a.x *ℤ pos p.bottom) (p.y -ℤ a.y *ℤ pos p.bottom) (p.x -ℤ b.x *ℤ pos p.bottom) (p.y -ℤ b.y *ℤ pos p.bottom) (p.x -ℤ c.x *ℤ pos p.bottom) (p.y -ℤ c.y *ℤ pos p.bottom)
      (a.x *ℤ pos p.bottom -ℤ p.x) (b.x *ℤ pos p.bottom -ℤ p.x) (c.x *ℤ pos p.bottom -ℤ p.x)
      (scaled a.x a.y b.x b.y p.x p.y (pos p.bottom)) (scaled b.x b.y c.x c.y p.x p.y (pos p.bottom)) (scaled c.x c.y a.x a.y p.x p.y (pos p.bottom))
      (opposite (a.x *ℤ pos p.bottom) p.x) (opposite (b.x *ℤ pos p.bottom) p.x) (opposite (c.x *ℤ pos p.bottom) p.x))
    where
      opposite : (u x : ℤ) → u -ℤ x ≡ neg_ℤ (x -ℤ u)
      opposite u x = omega (arith, ints)

      spread : (d t u v f g h : ℤ) → d *ℤ (t *ℤ h +ℤ (u *ℤ f +ℤ v *ℤ g)) ≡ (d *ℤ t) *ℤ h +ℤ ((d *ℤ u) *ℤ f +ℤ (d *ℤ v) *ℤ g)
      spread d t u v f g h = rw (as_D d, as_D t, as_D u, as_D v, as_D f, as_D g, as_D h) (simp diffs (D-eq _ _ _ _ (omega arith)))

      nothing : (ax ay bx by cx cy : ℤ) → (ax *ℤ by -ℤ bx *ℤ ay) *ℤ neg_ℤ cx +ℤ ((bx *ℤ cy -ℤ cx *ℤ by) *ℤ neg_ℤ ax +ℤ (cx *ℤ ay -ℤ ax *ℤ cy) *ℤ neg_ℤ bx) ≡ pos 0
      nothing ax ay bx by cx cy = rw (as_D ax, as_D ay, as_D bx, as_D by, as_D cx, as_D cy) (simp diffs (D-eq _ _ _ _ (omega arith)))

      gathered_up : (d t u v ax ay bx by cx cy f g h : ℤ) → d *ℤ t ≡ ax *ℤ by -ℤ bx *ℤ ay → d *ℤ u ≡ bx *ℤ cy -ℤ cx *ℤ by → d *ℤ v ≡ cx *ℤ ay -ℤ ax *ℤ cy →
          f ≡ neg_ℤ ax → g ≡ neg_ℤ bx → h ≡ neg_ℤ cx → d *ℤ (t *ℤ h +ℤ (u *ℤ f +ℤ v *ℤ g)) ≡ pos 0
      gathered_up d t u v ax ay bx by cx cy f g h e1 e2 e3 e4 e5 e6 = spread d t u v f g h ∙ rw (e1, e2, e3, e4, e5, e6) (nothing ax ay bx by cx cy)

  level_side : a.x *ℤ pos p.bottom ≡ p.x → b.x *ℤ pos p.bottom ≡ p.x → place_turn (side a b) p ≡ pos 0
  level_side e f = cancel-zero (pos p.bottom) (place_turn (side a b) p) positive (seen a.x a.y b.x b.y p.x p.y (pos p.bottom) e f)
    where
      nothing : (u v m n : ℤ) → u ≡ pos 0 → v ≡ pos 0 → u *ℤ m -ℤ v *ℤ n ≡ pos 0
      nothing u v m n e f = rw (e, f) (omega (arith, ints))

      no_difference : (u v : ℤ) → v ≡ u → u -ℤ v ≡ pos 0
      no_difference u v e = omega (arith, ints, e)

      seen : (ax ay bx by x y d : ℤ) → ax *ℤ d ≡ x → bx *ℤ d ≡ x → d *ℤ ((bx -ℤ ax) *ℤ (y -ℤ ay *ℤ d) -ℤ (by -ℤ ay) *ℤ (x -ℤ ax *ℤ d)) ≡ pos 0
      seen ax ay bx by x y d e f = scaled ax ay bx by x y d ∙ nothing (x -ℤ ax *ℤ d) (x -ℤ bx *ℤ d) (y -ℤ by *ℤ d) (y -ℤ ay *ℤ d) (no_difference x (ax *ℤ d) e) (no_difference x (bx *ℤ d) f)

  steps_wind : step p a b +ℤ (step p b c +ℤ step p c a)
      ≡ winding_by (a.x *ℤ pos p.bottom) (b.x *ℤ pos p.bottom) p.x (place_turn (side a b) p)
      +ℤ (winding_by (b.x *ℤ pos p.bottom) (c.x *ℤ pos p.bottom) p.x (place_turn (side b c) p) +ℤ winding_by (c.x *ℤ pos p.bottom) (a.x *ℤ pos p.bottom) p.x (place_turn (side c a) p))
  steps_wind = ap₂ ◌+ℤ◌ (winding_of_step (side a b) p) (ap₂ ◌+ℤ◌ (winding_of_step (side b c) p) (winding_of_step (side c a) p))

  triangle : pos 0 ≤ℤ turn a b c → IsTriangleWinding (place_turn (side a b) p) (place_turn (side b c) p) (place_turn (side c a) p) (winding_number ((a ∷ b ∷ c ∷ []) ∷ []) p)
  triangle h = subst (IsTriangleWinding (place_turn (side a b) p) (place_turn (side b c) p) (place_turn (side c a) p)) (sym (three_steps ∙ steps_wind))
      (three_sides (a.x *ℤ pos p.bottom) (b.x *ℤ pos p.bottom) (c.x *ℤ pos p.bottom) p.x (place_turn (side a b) p) (place_turn (side b c) p) (place_turn (side c a) p) flat_sum
      (rw add_up (mul-nonneg (turn a b c) (pos p.bottom) h (natural p.bottom))) level_side)
    where
      natural : (n : ℕ) → pos 0 ≤ℤ pos n
      natural n = omega (arith, ints)

pub triangle_winds_once : TriangleWindsOnce
triangle_winds_once a b c p some h = triangle a b c p some h
