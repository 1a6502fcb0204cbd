-- Ways that lead to a chosen side of a segment, or of two that cross, and to no line of a list. So there are places on each of
-- the four sides of two that cross, directly beside both, and on each side of one.
use Rattle.std.proofs.Common.{◌≡◌, ap, refl, sym, subst, ◌∙◌, arith, ℕ, zero, suc, ◌+◌, ◌*◌, ◌<◌, inl, inr, [], ◌∷◌}
use Rattle.std.specs.Prelude.{ℤ, pos, negsuc, ◌+ℤ◌, ◌-ℤ◌, ◌*ℤ◌, neg_ℤ, ◌<ℤ◌, ◌≤ℤ◌, unsigned_abs, IsTrue, Bool, true, false, ◌⊎◌, List}
use Rattle.std.proofs.lemmas.Int.{ints}
use Rattle.overlay_geometry.specs.Points.{Point, Pair, turn}
use Rattle.overlay_geometry.specs.Below.{width}
use Rattle.overlay_geometry.specs.Meeting.{do_cross}
use Rattle.overlay_geometry.proofs.laws.geometry.Polynomials.{as_D, diffs, D-eq, mul-pos, mul-neg, mul-nonneg, mul-nonneg_both, cancel-zero}
use Rattle.overlay_geometry.proofs.laws.geometry.Points.{Before}
use Rattle.overlay_geometry.proofs.laws.integers.Tests.{by_sign}
use Rattle.overlay_geometry.proofs.laws.integers.Products.{times_nothing}
use Rattle.overlay_geometry.proofs.laws.lists.Lists.{Has}
use Rattle.overlay_base.specs.Segments.{WholeSegment}
use Rattle.overlay_base.specs.Places.{RationalPoint}
use Rattle.overlay_base.specs.Rays.{place_turn}
use Rattle.overlay_base.proofs.laws.geometry.Apart.{Opposite, do_cross_parts}
use Rattle.overlay_sweep.proofs.laws.columns.ColumnLines.{point_lt-cases}
use Rattle.overlay_sweep.proofs.laws.columns.Members.{IsArranged}
use Rattle.overlay_build.specs.Beside.{is_on_top_of, is_at_bottom_of}
use Rattle.overlay_relations.proofs.laws.InsidePlaces.{IsInside, IsInsideBoth, inside_both, mean_of, mean_inside}
use Rattle.overlay_relations.proofs.laws.NearPlaces.{near, near_turn, turn_by, fineness, fine_enough, stays_negative, stays_positive, below_abs, above_abs}
use Rattle.overlay_relations.proofs.laws.NearUprights.{near_top, near_bottom}

-- ---- numbers

above_all_step : {X : Type 0} (f : X → ℕ) (y : X) (ys : List X) (n : ℕ) → ((x : X) → Has ys x → f x < n) → (x : X) → Has (y ∷ ys) x → f x < (suc (f y) + n)
above_all_step f y ys n h x (inl e) = let same : f y ≡ f x = ap f e in omega (arith, same)
above_all_step f y ys n h x (inr m) = let less = h x m in omega (arith, less)

pub above_all : {X : Type 0} (f : X → ℕ) (xs : List X) → (n : ℕ) × ((x : X) → Has xs x → f x < n)
above_all f [] = (0, λ x m. absurd m)
above_all f (y ∷ ys) = let rest = above_all f ys in (suc (f y) + rest.0, above_all_step f y ys rest.0 rest.1)

product_zero : (c m : ℤ) → (c ≡ pos 0 → ⊥) → c *ℤ m ≡ pos 0 → m ≡ pos 0
product_zero c m some e =
    by_sign c
    (λ (l : c <ℤ pos 0). cancel-zero (neg_ℤ c) m (omega (arith, ints, l)) (turned c m ∙ back _ e))
    (λ z. absurd (some z))
    (λ l. cancel-zero c m l e)
  where
    turned : (c m : ℤ) → neg_ℤ c *ℤ m ≡ neg_ℤ (c *ℤ m)
    turned c m = rw (as_D c, as_D m) (simp diffs (D-eq _ _ _ _ (omega arith)))

    back : (z : ℤ) → z ≡ pos 0 → neg_ℤ z ≡ pos 0
    back z e = omega (arith, ints, e)

-- 1 or -1
abbrev IsUnit : ℤ → Type 0
IsUnit z = (z ≡ pos 1) ⊎ (z ≡ negsuc 0)

one_times : (z : ℤ) → pos 1 *ℤ z ≡ z
one_times z = omega (arith, ints)

back_times : (z : ℤ) → negsuc 0 *ℤ z ≡ neg_ℤ z
back_times z = omega (arith, ints)

same_size : (z : ℤ) → unsigned_abs (neg_ℤ z) ≡ unsigned_abs z
same_size (pos n) = omega (arith, ints)
same_size (negsuc n) = omega (arith, ints)

unit_size : (u z : ℤ) → IsUnit u → unsigned_abs (u *ℤ z) ≡ unsigned_abs z
unit_size u z (inl e) = ap (λ (w : ℤ). unsigned_abs (w *ℤ z)) e ∙ ap (λ (w : ℤ). unsigned_abs w) (one_times z)
unit_size u z (inr e) = ap (λ (w : ℤ). unsigned_abs (w *ℤ z)) e ∙ ap (λ (w : ℤ). unsigned_abs w) (back_times z) ∙ same_size z

unit_zero : (u z : ℤ) → IsUnit u → u *ℤ z ≡ pos 0 → z ≡ pos 0
unit_zero u z h e = product_zero u z (some h) e
  where
    some : {u : ℤ} → IsUnit u → u ≡ pos 0 → ⊥
    some (inl e) f = omega (arith, ints, e, f)
    some (inr e) f = omega (arith, ints, e, f)

-- a unit that gives a number the sign that is wanted
record IsSigned (c : ℤ) (left : Bool) : Type 0 where
  unit : ℤ
  is_unit : IsUnit unit
  up : left ≡ true → pos 0 <ℤ (unit *ℤ c)
  down : left ≡ false → (unit *ℤ c) <ℤ pos 0

signed : (c : ℤ) (left : Bool) → (c ≡ pos 0 → ⊥) → IsSigned c left
signed c true some = by_sign c
    (λ l. record { unit = negsuc 0; is_unit = inr refl; up = λ e. subst (λ (z : ℤ). pos 0 <ℤ z) (sym (back_times c)) (turned c l); down = λ e. absurd (cc) })
    (λ z. absurd (some z))
    (λ l. record { unit = pos 1; is_unit = inl refl; up = λ e. subst (λ (z : ℤ). pos 0 <ℤ z) (sym (one_times c)) l; down = λ e. absurd (cc) })
  where
    turned : (c : ℤ) → c <ℤ pos 0 → pos 0 <ℤ neg_ℤ c
    turned c l = omega (arith, ints, l)
signed c false some = by_sign c
    (λ l. record { unit = pos 1; is_unit = inl refl; up = λ e. absurd (cc); down = λ e. subst (λ (z : ℤ). z <ℤ pos 0) (sym (one_times c)) l })
    (λ z. absurd (some z))
    (λ l. record { unit = negsuc 0; is_unit = inr refl; up = λ e. absurd (cc); down = λ e. subst (λ (z : ℤ). z <ℤ pos 0) (sym (back_times c)) (turned c l) })
  where
    turned : (c : ℤ) → pos 0 <ℤ c → neg_ℤ c <ℤ pos 0
    turned c l = omega (arith, ints, l)

-- ---- ways along two pairs

-- the turn from one pair to another
abbrev pub by_pair : Pair → Pair → ℤ
by_pair u t = width u *ℤ (t.b.y -ℤ t.a.y) -ℤ (u.b.y -ℤ u.a.y) *ℤ width t

abbrev way : ℤ → Pair → ℤ → Pair → Point
way j t k s = record { x = j *ℤ width t +ℤ k *ℤ width s; y = j *ℤ (t.b.y -ℤ t.a.y) +ℤ k *ℤ (s.b.y -ℤ s.a.y) }

turn_by_way : (u : Pair) (j : ℤ) (t : Pair) (k : ℤ) (s : Pair) → turn_by u (way j t k s) ≡ j *ℤ by_pair u t +ℤ k *ℤ by_pair u s
turn_by_way u j t k s = plain (width u) (u.b.y -ℤ u.a.y) j k (width t) (t.b.y -ℤ t.a.y) (width s) (s.b.y -ℤ s.a.y)
  where
    plain : (w h j k tx ty sx sy : ℤ) → w *ℤ (j *ℤ ty +ℤ k *ℤ sy) -ℤ h *ℤ (j *ℤ tx +ℤ k *ℤ sx) ≡ j *ℤ (w *ℤ ty -ℤ h *ℤ tx) +ℤ k *ℤ (w *ℤ sy -ℤ h *ℤ sx)
    plain w h j k tx ty sx sy = rw (as_D w, as_D h, as_D j, as_D k, as_D tx, as_D ty, as_D sx, as_D sy) (simp diffs (D-eq _ _ _ _ (omega arith)))

by_itself : (s : Pair) → by_pair s s ≡ pos 0
by_itself s = plain (width s) (s.b.y -ℤ s.a.y)
  where
    plain : (w h : ℤ) → w *ℤ h -ℤ h *ℤ w ≡ pos 0
    plain w h = rw (as_D w, as_D h) (simp diffs (D-eq _ _ _ _ (omega arith)))

by_back : (s t : Pair) → by_pair t s ≡ neg_ℤ (by_pair s t)
by_back s t = plain (width s) (s.b.y -ℤ s.a.y) (width t) (t.b.y -ℤ t.a.y)
  where
    plain : (sx sy tx ty : ℤ) → tx *ℤ sy -ℤ ty *ℤ sx ≡ neg_ℤ (sx *ℤ ty -ℤ sy *ℤ tx)
    plain sx sy tx ty = rw (as_D sx, as_D sy, as_D tx, as_D ty) (simp diffs (D-eq _ _ _ _ (omega arith)))

-- no pair is along both of two that are not along one another
across_x : (gx gy sx sy tx ty : ℤ) → (sx *ℤ ty -ℤ sy *ℤ tx) *ℤ gx ≡ (gx *ℤ ty -ℤ gy *ℤ tx) *ℤ sx -ℤ (gx *ℤ sy -ℤ gy *ℤ sx) *ℤ tx
across_x gx gy sx sy tx ty = rw (as_D gx, as_D gy, as_D sx, as_D sy, as_D tx, as_D ty) (simp diffs (D-eq _ _ _ _ (omega arith)))

across_y : (gx gy sx sy tx ty : ℤ) → (sx *ℤ ty -ℤ sy *ℤ tx) *ℤ gy ≡ (gx *ℤ ty -ℤ gy *ℤ tx) *ℤ sy -ℤ (gx *ℤ sy -ℤ gy *ℤ sx) *ℤ ty
across_y gx gy sx sy tx ty = rw (as_D gx, as_D gy, as_D sx, as_D sy, as_D tx, as_D ty) (simp diffs (D-eq _ _ _ _ (omega arith)))

nothing_of : (a b u v c : ℤ) → c ≡ a *ℤ u -ℤ b *ℤ v → a ≡ pos 0 → b ≡ pos 0 → c ≡ pos 0
nothing_of a b u v c h e f = h ∙ rw (e, f) (plain u v)
  where
    plain : (u v : ℤ) → pos 0 *ℤ u -ℤ pos 0 *ℤ v ≡ pos 0
    plain u v = rw (as_D u, as_D v) (simp diffs (D-eq _ _ _ _ (omega arith)))

along_neither : (s t g : Pair) → (by_pair s t ≡ pos 0 → ⊥) → Before g.a g.b → by_pair g t ≡ pos 0 → by_pair g s ≡ pos 0 → ⊥
along_neither s t g some o e f =
    let flat = product_zero (by_pair s t) (width g) some (nothing_of (by_pair g t) (by_pair g s) (width s) (width t) _ (across_x (width g) (g.b.y -ℤ g.a.y) (width s) (s.b.y -ℤ s.a.y) (width t) (t.b.y -ℤ t.a.y)) e f) in
    let level = product_zero (by_pair s t) (g.b.y -ℤ g.a.y) some (nothing_of (by_pair g t) (by_pair g s) (s.b.y -ℤ s.a.y) (t.b.y -ℤ t.a.y) _ (across_y (width g) (g.b.y -ℤ g.a.y) (width s) (s.b.y -ℤ s.a.y) (width t) (t.b.y -ℤ t.a.y)) e f) in
    one_point g.a.x g.a.y g.b.x g.b.y o flat level
  where
    one_point : (ax ay bx by : ℤ) → (ax <ℤ bx) ⊎ ((ax ≡ bx) × (ay <ℤ by)) → bx -ℤ ax ≡ pos 0 → by -ℤ ay ≡ pos 0 → ⊥
    one_point ax ay bx by (inl l) e f = omega (arith, ints, l, e)
    one_point ax ay bx by (inr r) e f = omega (arith, ints, r.1, f)

-- far enough along the one, no line of a list is along the way
sum_some : (n : ℕ) (t e : ℤ) → unsigned_abs e < n → (t ≡ pos 0 → e ≡ pos 0 → ⊥) → pos n *ℤ t +ℤ e ≡ pos 0 → ⊥
sum_some n t e small some sum =
    by_sign t
    (λ l. down _ (stays_negative (pos n) t e (above_none _ n small) (below_abs e n small) l) sum)
    (λ z. some z (rest (pos n *ℤ t) e (times_nothing (pos n) t z) sum))
    (λ l. up _ (stays_positive (pos n) t e (above_none _ n small) (above_abs e n small) l) sum)
  where
    above_none : (a n : ℕ) → a < n → pos 0 <ℤ pos n
    above_none a n h = omega (arith, ints, h)

    down : (z : ℤ) → z <ℤ pos 0 → z ≡ pos 0 → ⊥
    down z l e = omega (arith, ints, l, e)

    up : (z : ℤ) → pos 0 <ℤ z → z ≡ pos 0 → ⊥
    up z l e = omega (arith, ints, l, e)

    rest : (u e : ℤ) → u ≡ pos 0 → u +ℤ e ≡ pos 0 → e ≡ pos 0
    rest u e f g = omega (arith, ints, f, g)

grouped : (k u c : ℤ) → (k *ℤ u) *ℤ c ≡ k *ℤ (u *ℤ c)
grouped k u c = rw (as_D k, as_D u, as_D c) (simp diffs (D-eq _ _ _ _ (omega arith)))

-- a way with its turns from two pairs, along no line of a list
pub record IsWay (s t : Pair) (lines : List Pair) (left_of_s left_of_t : Bool) : Type 0 where
  pub step : Point
  pub s_up : left_of_s ≡ true → pos 0 <ℤ turn_by s step
  pub s_down : left_of_s ≡ false → turn_by s step <ℤ pos 0
  pub t_up : left_of_t ≡ true → pos 0 <ℤ turn_by t step
  pub t_down : left_of_t ≡ false → turn_by t step <ℤ pos 0
  pub off_lines : (g : Pair) → Has lines g → turn_by g step ≡ pos 0 → ⊥

module _ (s t : Pair) (some : by_pair s t ≡ pos 0 → ⊥) (lines : List Pair) (each : (g : Pair) → Has lines g → Before g.a g.b) (left_of_s left_of_t : Bool) where
  some_back : by_pair t s ≡ pos 0 → ⊥
  some_back e = some (plain _ _ (by_back s t) e)
    where
      plain : (a b : ℤ) → a ≡ neg_ℤ b → a ≡ pos 0 → b ≡ pos 0
      plain a b e f = omega (arith, ints, e, f)

  for_s : IsSigned (by_pair s t) left_of_s
  for_s = signed (by_pair s t) left_of_s some

  for_t : IsSigned (by_pair t s) left_of_t
  for_t = signed (by_pair t s) left_of_t some_back

  many : (n : ℕ) × ((g : Pair) → Has lines g → unsigned_abs (by_pair g s) < n)
  many = above_all (λ g. unsigned_abs (by_pair g s)) lines

  abbrev far : ℕ
  far = suc many.0

  abbrev along : Point
  along = way (pos far *ℤ for_s.unit) t for_t.unit s

  far_some : pos 0 <ℤ pos far
  far_some = plain many.0
    where
      plain : (n : ℕ) → pos 0 <ℤ pos (suc n)
      plain n = omega (arith, ints)

  turn_of : (u : Pair) → turn_by u along ≡ pos far *ℤ (for_s.unit *ℤ by_pair u t) +ℤ for_t.unit *ℤ by_pair u s
  turn_of u = turn_by_way u (pos far *ℤ for_s.unit) t for_t.unit s ∙ ap (λ (z : ℤ). z +ℤ for_t.unit *ℤ by_pair u s) (grouped (pos far) for_s.unit (by_pair u t))

  turn_of_s : turn_by s along ≡ pos far *ℤ (for_s.unit *ℤ by_pair s t)
  turn_of_s = turn_of s ∙ plain _ _ (times_nothing for_t.unit (by_pair s s) (by_itself s))
    where
      plain : (a b : ℤ) → b ≡ pos 0 → a +ℤ b ≡ a
      plain a b e = omega (arith, ints, e)

  turn_of_t : turn_by t along ≡ for_t.unit *ℤ by_pair t s
  turn_of_t = turn_of t ∙ plain _ _ (times_nothing (pos far) _ (times_nothing for_s.unit (by_pair t t) (by_itself t)))
    where
      plain : (a b : ℤ) → a ≡ pos 0 → a +ℤ b ≡ b
      plain a b e = omega (arith, ints, e)

  small : (g : Pair) → Has lines g → unsigned_abs (for_t.unit *ℤ by_pair g s) < far
  small g m = plain _ _ many.0 (unit_size for_t.unit (by_pair g s) for_t.is_unit) (many.1 g m)
    where
      plain : (a b n : ℕ) → a ≡ b → b < n → a < suc n
      plain a b n e l = omega (arith, e, l)

  pub the_way : IsWay s t lines left_of_s left_of_t
  the_way = record {
    step = along;
    s_up = λ e. subst (λ (z : ℤ). pos 0 <ℤ z) (sym turn_of_s) (mul-pos (pos far) _ far_some (for_s.up e));
    s_down = λ e. subst (λ (z : ℤ). z <ℤ pos 0) (sym turn_of_s) (mul-neg (pos far) _ far_some (for_s.down e));
    t_up = λ e. subst (λ (z : ℤ). pos 0 <ℤ z) (sym turn_of_t) (for_t.up e);
    t_down = λ e. subst (λ (z : ℤ). z <ℤ pos 0) (sym turn_of_t) (for_t.down e);
    off_lines = λ g m z. sum_some far (for_s.unit *ℤ by_pair g t) (for_t.unit *ℤ by_pair g s) (small g m)
        (λ e f. along_neither s t g some (each g m) (unit_zero for_s.unit (by_pair g t) for_s.is_unit e) (unit_zero for_t.unit (by_pair g s) for_t.is_unit f))
        (sym (turn_of g) ∙ z);
  }

-- ---- places beside two that cross

-- a place directly beside a segment of a list, on a chosen side
abbrev pub IsBeside : List WholeSegment → Pair → Bool → RationalPoint → Type 0
IsBeside xs s left p = (left ≡ true → IsTrue (is_on_top_of xs s p)) × (left ≡ false → IsTrue (is_at_bottom_of xs s p))

-- on no line of a list
abbrev pub IsOffLines : List Pair → RationalPoint → Type 0
IsOffLines lines p = (g : Pair) → Has lines g → place_turn g p ≡ pos 0 → ⊥

pub record IsBesideBoth (xs ys : List WholeSegment) (s t : Pair) (lines : List Pair) (left_of_s left_of_t : Bool) : Type 0 where
  pub place : RationalPoint
  pub some : 0 < place.bottom
  pub off_lines : IsOffLines lines place
  pub first : IsBeside xs s left_of_s place
  pub second : IsBeside ys t left_of_t place

pub record IsBesideOne (xs : List WholeSegment) (s : Pair) (lines : List Pair) (left : Bool) : Type 0 where
  pub place : RationalPoint
  pub some : 0 < place.bottom
  pub off_lines : IsOffLines lines place
  pub side : IsBeside xs s left place

pub product_some : (m n : ℕ) → 0 < m → 0 < n → 0 < (m * n)
product_some zero n h l = absurd (omega (arith, h))
product_some (suc m) zero h l = absurd (omega (arith, l))
product_some (suc m) (suc n) h l = omega arith

pub near_off_line : (g : Pair) (p : RationalPoint) (v : Point) (n : ℕ) → unsigned_abs (turn_by g v) < n → (turn_by g v ≡ pos 0 → ⊥) → place_turn g (near p v n) ≡ pos 0 → ⊥
near_off_line g p v n small some z = sum_some n (place_turn g p) (turn_by g v) small (λ e f. some f) (sym (near_turn g p v n) ∙ z)

crossing_turns : (a b p q : Point) → (b.x -ℤ a.x) *ℤ (q.y -ℤ p.y) -ℤ (b.y -ℤ a.y) *ℤ (q.x -ℤ p.x) ≡ turn a b q -ℤ turn a b p
unfolding turn
crossing_turns a b p q = rw (as_D a.x, as_D a.y, as_D b.x, as_D b.y, as_D p.x, as_D p.y, as_D q.x, as_D q.y) (simp diffs (D-eq _ _ _ _ (omega arith)))

pub crossing_some : (s t : Pair) → IsTrue (do_cross s t) → by_pair s t ≡ pos 0 → ⊥
crossing_some s t c e = plain _ _ _ (crossing_turns s.a s.b t.a t.b) e (do_cross_parts s t c).0
  where
    plain : (d f g : ℤ) → d ≡ g -ℤ f → d ≡ pos 0 → Opposite f g → ⊥
    plain d f g h e (inl o) = omega (arith, ints, h, e, o.0, o.1)
    plain d f g h e (inr o) = omega (arith, ints, h, e, o.0, o.1)

module _ (xs ys : List WholeSegment) (first : IsArranged xs) (second : IsArranged ys) (s : WholeSegment) (m : Has xs s) (t : WholeSegment) (k : Has ys t) (lines : List Pair) (each : (g : Pair) → Has lines g → Before g.a g.b) (left_of_s left_of_t : Bool) where
  ordered_s : Before s.pair.a s.pair.b
  ordered_s = point_lt-cases s.pair.a s.pair.b (first.ordered s m)

  ordered_t : Before t.pair.a t.pair.b
  ordered_t = point_lt-cases t.pair.a t.pair.b (second.ordered t k)

  module _ (inside : IsInsideBoth s.pair t.pair) (go : IsWay s.pair t.pair lines left_of_s left_of_t) where
    abbrev v : Point
    v = go.step

    for_first : (n : ℕ) × ((u : WholeSegment) → Has xs u → fineness s.pair v u.pair < n)
    for_first = above_all (λ u. fineness s.pair v u.pair) xs

    for_second : (n : ℕ) × ((u : WholeSegment) → Has ys u → fineness t.pair v u.pair < n)
    for_second = above_all (λ u. fineness t.pair v u.pair) ys

    for_lines : (n : ℕ) × ((g : Pair) → Has lines g → unsigned_abs (turn_by g v) < n)
    for_lines = above_all (λ g. unsigned_abs (turn_by g v)) lines

    abbrev parts : ℕ
    parts = for_first.0 + for_second.0 + for_lines.0

    abbrev at : RationalPoint
    at = near inside.place v parts

    less_first : (a b c f : ℕ) → f < a → f < (a + b + c)
    less_first a b c f l = omega (arith, l)

    less_second : (a b c f : ℕ) → f < b → f < (a + b + c)
    less_second a b c f l = omega (arith, l)

    less_third : (a b c f : ℕ) → f < c → f < (a + b + c)
    less_third a b c f l = omega (arith, l)

    above_some : (a n : ℕ) → a < n → 0 < n
    above_some a n l = omega (arith, l)

    parts_some : 0 < parts
    parts_some = above_some _ parts (less_first for_first.0 for_second.0 for_lines.0 _ (for_first.1 s m))

    at_some : 0 < at.bottom
    at_some = product_some parts inside.place.bottom parts_some inside.some

    beside_both : IsBesideBoth xs ys s.pair t.pair lines left_of_s left_of_t
    beside_both = record {
      place = at;
      some = at_some;
      off_lines = λ g h. near_off_line g inside.place v parts (less_third for_first.0 for_second.0 for_lines.0 _ (for_lines.1 g h)) (go.off_lines g h);
      first = (
        λ e. near_top xs first s m inside.place inside.some inside.first v parts (λ u h. fine_enough s.pair v parts u.pair (less_first for_first.0 for_second.0 for_lines.0 _ (for_first.1 u h))) at_some (go.s_up e),
        λ e. near_bottom xs first s m inside.place inside.some inside.first v parts (λ u h. fine_enough s.pair v parts u.pair (less_first for_first.0 for_second.0 for_lines.0 _ (for_first.1 u h))) at_some (go.s_down e),
      );
      second = (
        λ e. near_top ys second t k inside.place inside.some inside.second v parts (λ u h. fine_enough t.pair v parts u.pair (less_second for_first.0 for_second.0 for_lines.0 _ (for_second.1 u h))) at_some (go.t_up e),
        λ e. near_bottom ys second t k inside.place inside.some inside.second v parts (λ u h. fine_enough t.pair v parts u.pair (less_second for_first.0 for_second.0 for_lines.0 _ (for_second.1 u h))) at_some (go.t_down e),
      );
    }

  -- on whichever sides of two that cross there is a place directly beside both, on no line of a list
  pub beside_crossing : IsTrue (do_cross s.pair t.pair) → IsBesideBoth xs ys s.pair t.pair lines left_of_s left_of_t
  beside_crossing c = beside_both (inside_both s.pair t.pair ordered_s ordered_t c) (the_way s.pair t.pair (crossing_some s.pair t.pair c) lines each left_of_s left_of_t)

-- ---- places beside one

-- what is upright on a segment
abbrev pub upright_on : Pair → Pair
upright_on s = record { a = record { x = pos 0; y = pos 0 }; b = record { x = neg_ℤ (s.b.y -ℤ s.a.y); y = width s } }

pub upright_some : (s : Pair) → Before s.a s.b → by_pair s (upright_on s) ≡ pos 0 → ⊥
upright_some s o e = sum_of_squares (width s) (s.b.y -ℤ s.a.y) (sides s.a.x s.a.y s.b.x s.b.y o) (sym (plain (width s) (s.b.y -ℤ s.a.y)) ∙ e)
  where
    plain : (w h : ℤ) → w *ℤ (w -ℤ pos 0) -ℤ h *ℤ (neg_ℤ h -ℤ pos 0) ≡ w *ℤ w +ℤ h *ℤ h
    plain w h = rw (as_D w, as_D h) (simp diffs (D-eq _ _ _ _ (omega arith)))

    sides : (ax ay bx by : ℤ) → (ax <ℤ bx) ⊎ ((ax ≡ bx) × (ay <ℤ by)) → (pos 0 <ℤ (bx -ℤ ax)) ⊎ (pos 0 <ℤ (by -ℤ ay))
    sides ax ay bx by (inl l) = inl (omega (arith, ints, l))
    sides ax ay bx by (inr r) = inr (omega (arith, ints, r.1))

    square : (z : ℤ) → pos 0 ≤ℤ (z *ℤ z)
    square (pos n) = mul-nonneg (pos n) (pos n) (omega (arith, ints)) (omega (arith, ints))
    square (negsuc n) = mul-nonneg_both (negsuc n) (negsuc n) (omega (arith, ints)) (omega (arith, ints))

    above : (a b : ℤ) → pos 0 <ℤ a → pos 0 ≤ℤ b → a +ℤ b ≡ pos 0 → ⊥
    above a b l h e = omega (arith, ints, l, h, e)

    above_back : (a b : ℤ) → pos 0 ≤ℤ a → pos 0 <ℤ b → a +ℤ b ≡ pos 0 → ⊥
    above_back a b h l e = omega (arith, ints, l, h, e)

    sum_of_squares : (w h : ℤ) → (pos 0 <ℤ w) ⊎ (pos 0 <ℤ h) → w *ℤ w +ℤ h *ℤ h ≡ pos 0 → ⊥
    sum_of_squares w h (inl l) e = above _ _ (mul-pos w w l l) (square h) e
    sum_of_squares w h (inr l) e = above_back _ _ (square w) (mul-pos h h l l) e

module _ (xs : List WholeSegment) (arranged : IsArranged xs) (s : WholeSegment) (m : Has xs s) (lines : List Pair) (each : (g : Pair) → Has lines g → Before g.a g.b) (left : Bool) where
  ordered_one : Before s.pair.a s.pair.b
  ordered_one = point_lt-cases s.pair.a s.pair.b (arranged.ordered s m)

  module _ (go : IsWay s.pair (upright_on s.pair) lines left true) where
    abbrev center : RationalPoint
    center = mean_of s.pair 1 1

    is_center : IsInside s.pair center
    is_center = mean_inside s.pair 1 1 ordered_one (omega arith) (omega arith)

    for_each : (n : ℕ) × ((u : WholeSegment) → Has xs u → fineness s.pair go.step u.pair < n)
    for_each = above_all (λ u. fineness s.pair go.step u.pair) xs

    for_each_line : (n : ℕ) × ((g : Pair) → Has lines g → unsigned_abs (turn_by g go.step) < n)
    for_each_line = above_all (λ g. unsigned_abs (turn_by g go.step)) lines

    abbrev pieces : ℕ
    pieces = for_each.0 + for_each_line.0

    less_left : (a b f : ℕ) → f < a → f < (a + b)
    less_left a b f l = omega (arith, l)

    less_right : (a b f : ℕ) → f < b → f < (a + b)
    less_right a b f l = omega (arith, l)

    above_none : (a n : ℕ) → a < n → 0 < n
    above_none a n l = omega (arith, l)

    pieces_some : 0 < (near center go.step pieces).bottom
    pieces_some = product_some pieces 2 (above_none _ pieces (less_left for_each.0 for_each_line.0 _ (for_each.1 s m))) (omega arith)

    beside_center : IsBesideOne xs s.pair lines left
    beside_center = record {
      place = near center go.step pieces;
      some = pieces_some;
      off_lines = λ g h. near_off_line g center go.step pieces (less_right for_each.0 for_each_line.0 _ (for_each_line.1 g h)) (go.off_lines g h);
      side = (
        λ e. near_top xs arranged s m center (omega arith) is_center go.step pieces (λ u h. fine_enough s.pair go.step pieces u.pair (less_left for_each.0 for_each_line.0 _ (for_each.1 u h))) pieces_some (go.s_up e),
        λ e. near_bottom xs arranged s m center (omega arith) is_center go.step pieces (λ u h. fine_enough s.pair go.step pieces u.pair (less_left for_each.0 for_each_line.0 _ (for_each.1 u h))) pieces_some (go.s_down e),
      );
    }

  -- on either side of a segment there is a place directly beside it, on no line of a list
  pub beside_one : IsBesideOne xs s.pair lines left
  beside_one = beside_center (the_way s.pair (upright_on s.pair) (upright_some s.pair ordered_one) lines each left true)
