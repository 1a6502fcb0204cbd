-- A point on no segment of a balanced list has a box around it in which all points wind alike. The way from the point to another one goes
-- first straight up or down: the same segments are met below. Then it goes level: the same segments are met to the left.
use Rattle.std.proofs.Common.{◌≡◌, ap, ap₂, refl, sym, subst, ◌∙◌, arith, ℕ, ◌+◌, ◌*◌, ◌<◌, ◌≤◌, inl, inr, [], ◌∷◌}
use Rattle.std.specs.Prelude.{ℤ, pos, negsuc, ◌+ℤ◌, ◌-ℤ◌, ◌*ℤ◌, ◌<ℤ◌, ◌≤ℤ◌, int_le, int_lt, unsigned_abs, IsTrue, Bool, true, false, not, cond, ◌&&◌, ◌⊎◌, List, filter}
use Rattle.std.specs.Ordering.{int_eq}
use Rattle.std.proofs.lemmas.Int.{ints, unsigned_abs-mul}
use Rattle.std.proofs.lemmas.Bool.{and_parts, and_from, both_ways, false_from_ne_true}
use Rattle.std.proofs.Math.Nat.{mul-lt-mul_of_pos_left, mul-le-mul_left, lt_of_mul-lt-mul_left}
use Rattle.overlay_geometry.specs.Points.{Point, Pair, turn, is_ordered, is_between, is_in_box, lies_on}
use Rattle.overlay_geometry.specs.Below.{width}
use Rattle.overlay_geometry.proofs.laws.geometry.Polynomials.{as_D, diffs, D-eq}
use Rattle.overlay_geometry.proofs.laws.geometry.Points.{Before, UpTo, UpTo-same, UpTo-Before, by_order, lies_on_parts, lies_on_order, lies_on_from_order}
use Rattle.overlay_geometry.proofs.laws.integers.Tests.{by_sign, le_weak, eq-test, eq-tested, le-test, le-test_false, lt-test, lt-test_false}
use Rattle.overlay_geometry.proofs.laws.integers.Products.{zero_times, times_nothing}
use Rattle.overlay_geometry.proofs.laws.lists.Lists.{Has, list_all-at, list_all-from_Has}
use Rattle.overlay_base.specs.Balance.{IsBalanced}
use Rattle.overlay_base.specs.Places.{RationalPoint, spans, height_at, lies_below, winding_below}
use Rattle.overlay_base.specs.Rays.{place_turn, goes_through, rises_past, falls_past, rises_left_of, falls_left_of, winding_left}
use Rattle.overlay_base.specs.Segments.{WholeSegment, are_ordered, total_weight}
use Rattle.overlay_base.specs.Windings.{add, inverse}
use Rattle.overlay_base.proofs.laws.rays.Rays.{any_ray_will_do}
use Rattle.overlay_sweep.proofs.laws.columns.ColumnLines.{point_lt-cases}
use Rattle.overlay_relations.specs.Contacts.{IsCloser}
use Rattle.overlay_relations.proofs.laws.InsidePlaces.{enlarged, enlarged_pair, tops, turn_tops, times_less, Before-enlarged, IsOff}
use Rattle.overlay_relations.proofs.laws.NearPlaces.{near, turn_by, times_as, IsFine, near_left, near_right, runs_below-true, runs_below-false, no_span_beyond}
use Rattle.overlay_relations.proofs.laws.NearUprights.{off_passes, not_rising, not_falling, near_off_level, beyond_off_level, on_left_at, on_right_at, not_left_at, not_right_at}
use Rattle.overlay_relations.proofs.laws.CrossingPlaces.{above_all}
use Rattle.overlay_relations.proofs.laws.Closeness.{some_product}

-- ---- a place is on a segment, or off it

through_parts : (s : Pair) (p : RationalPoint) → goes_through s p ≡ true
    → (place_turn s p ≡ pos 0) × (is_between (s.a.x *ℤ pos p.bottom) (s.b.x *ℤ pos p.bottom) p.x ≡ true) × (is_between (s.a.y *ℤ pos p.bottom) (s.b.y *ℤ pos p.bottom) p.y ≡ true)
unfolding goes_through
through_parts s p h =
    let outer = and_parts (int_eq (place_turn s p) (pos 0) && is_between (s.a.x *ℤ pos p.bottom) (s.b.x *ℤ pos p.bottom) p.x) _ h in
    let inner = and_parts (int_eq (place_turn s p) (pos 0)) _ outer.0 in
    (eq-tested _ _ inner.0, inner.1, outer.1)

through_from : (s : Pair) (p : RationalPoint) → place_turn s p ≡ pos 0 → IsTrue (lies_on (enlarged_pair p.bottom s) (tops p)) → goes_through s p ≡ true
unfolding goes_through is_in_box
through_from s p zero h =
    let box = and_parts (is_between (s.a.x *ℤ pos p.bottom) (s.b.x *ℤ pos p.bottom) p.x) _ (lies_on_parts (enlarged_pair p.bottom s) (tops p) h).1 in
    and_from (int_eq (place_turn s p) (pos 0) && is_between (s.a.x *ℤ pos p.bottom) (s.b.x *ℤ pos p.bottom) p.x) _ (and_from (int_eq (place_turn s p) (pos 0)) _ (eq-test _ _ zero) box.0) box.1

through_lies : (s : Pair) (p : RationalPoint) → goes_through s p ≡ true → IsTrue (lies_on (enlarged_pair p.bottom s) (tops p))
unfolding lies_on is_in_box
through_lies s p h =
    let parts = through_parts s p h in
    and_from (int_eq (turn (enlarged p.bottom s.a) (enlarged p.bottom s.b) (tops p)) (pos 0)) _ (eq-test _ _ (turn_tops s p ∙ times_nothing (pos p.bottom) (place_turn s p) parts.0)) (and_from (is_between (s.a.x *ℤ pos p.bottom) (s.b.x *ℤ pos p.bottom) p.x) _ parts.1 parts.2)

-- what goes through a place has it from its start up to its end, and only that does
pub through_order : (s : Pair) (p : RationalPoint) → 0 < p.bottom → Before s.a s.b → goes_through s p ≡ true → (place_turn s p ≡ pos 0) × UpTo (enlarged p.bottom s.a) (tops p) × UpTo (tops p) (enlarged p.bottom s.b)
through_order s p some o h =
    let order = lies_on_order (enlarged_pair p.bottom s) (tops p) (Before-enlarged p.bottom s.a s.b some o) (through_lies s p h) in
    ((through_parts s p h).0, order.1, order.2)

pub through_from_order : (s : Pair) (p : RationalPoint) → 0 < p.bottom → Before s.a s.b → place_turn s p ≡ pos 0 → UpTo (enlarged p.bottom s.a) (tops p) → UpTo (tops p) (enlarged p.bottom s.b) → goes_through s p ≡ true
through_from_order s p some o zero from to =
    through_from s p zero (lies_on_from_order (enlarged_pair p.bottom s) (tops p) (Before-enlarged p.bottom s.a s.b some o) (turn_tops s p ∙ times_nothing (pos p.bottom) (place_turn s p) zero) from to)

pub off_from : (s : Pair) (p : RationalPoint) → 0 < p.bottom → Before s.a s.b → goes_through s p ≡ false → IsOff s p
off_from s p some o h =
    by_sign (place_turn s p)
    (λ l. inl l)
    (λ zero. inr (inr (zero, by_order (tops p) (enlarged p.bottom s.a) (λ l. inl l) (λ e. absurd (on zero (from_start e) (to_end_first e))) (λ l. after zero (UpTo-Before _ _ l)))))
    (λ l. inr (inl l))
  where
    on : place_turn s p ≡ pos 0 → UpTo (enlarged p.bottom s.a) (tops p) → UpTo (tops p) (enlarged p.bottom s.b) → ⊥
    on zero from to = both_ways (goes_through s p) h (through_from_order s p some o zero from to)

    from_start : tops p ≡ enlarged p.bottom s.a → UpTo (enlarged p.bottom s.a) (tops p)
    from_start e = subst (λ (q : Point). UpTo q (tops p)) e (UpTo-same (tops p))

    to_end_first : tops p ≡ enlarged p.bottom s.a → UpTo (tops p) (enlarged p.bottom s.b)
    to_end_first e = subst (λ (q : Point). UpTo q (enlarged p.bottom s.b)) (sym e) (UpTo-Before _ _ (Before-enlarged p.bottom s.a s.b some o))

    after : place_turn s p ≡ pos 0 → UpTo (enlarged p.bottom s.a) (tops p) → Before (tops p) (enlarged p.bottom s.a) ⊎ Before (enlarged p.bottom s.b) (tops p)
    after zero from = by_order (tops p) (enlarged p.bottom s.b)
        (λ l. absurd (on zero from (UpTo-Before _ _ l)))
        (λ e. absurd (on zero from (subst (λ (q : Point). UpTo (tops p) q) e (UpTo-same (tops p)))))
        (λ l. inr l)

-- ---- the same place, with another bottom

le_scaled : (a b : ℤ) (k : ℕ) → 0 < k → int_le (a *ℤ pos k) (b *ℤ pos k) ≡ int_le a b
le_scaled a b k some =
    by_sign (b -ℤ a)
    (λ (l : (b -ℤ a) <ℤ pos 0). le-test_false _ _ (times_less b a k some (below b a l)) ∙ sym (le-test_false a b (below b a l)))
    (λ (e : b -ℤ a ≡ pos 0). le-test _ _ (equal _ _ (ap (λ (z : ℤ). z *ℤ pos k) (same a b e))) ∙ sym (le-test a b (equal a b (same a b e))))
    (λ (l : pos 0 <ℤ (b -ℤ a)). le-test _ _ (le_weak _ _ (times_less a b k some (above b a l))) ∙ sym (le-test a b (le_weak _ _ (above b a l))))
  where
    below : (b a : ℤ) → (b -ℤ a) <ℤ pos 0 → b <ℤ a
    below b a l = omega (arith, ints, l)

    above : (b a : ℤ) → pos 0 <ℤ (b -ℤ a) → a <ℤ b
    above b a l = omega (arith, ints, l)

    same : (a b : ℤ) → b -ℤ a ≡ pos 0 → a ≡ b
    same a b e = omega (arith, ints, e)

    equal : (a b : ℤ) → a ≡ b → a ≤ℤ b
    equal a b e = omega (arith, ints, e)

lt_scaled : (a b : ℤ) (k : ℕ) → 0 < k → int_lt (a *ℤ pos k) (b *ℤ pos k) ≡ int_lt a b
lt_scaled a b k some =
    by_sign (b -ℤ a)
    (λ (l : (b -ℤ a) <ℤ pos 0). lt-test_false _ _ (le_weak _ _ (times_less b a k some (below b a l))) ∙ sym (lt-test_false a b (le_weak _ _ (below b a l))))
    (λ (e : b -ℤ a ≡ pos 0). lt-test_false _ _ (equal _ _ (ap (λ (z : ℤ). z *ℤ pos k) (same a b e))) ∙ sym (lt-test_false a b (equal _ _ (same a b e))))
    (λ (l : pos 0 <ℤ (b -ℤ a)). lt-test _ _ (times_less a b k some (above b a l)) ∙ sym (lt-test a b (above b a l)))
  where
    below : (b a : ℤ) → (b -ℤ a) <ℤ pos 0 → b <ℤ a
    below b a l = omega (arith, ints, l)

    above : (b a : ℤ) → pos 0 <ℤ (b -ℤ a) → a <ℤ b
    above b a l = omega (arith, ints, l)

    same : (a b : ℤ) → b -ℤ a ≡ pos 0 → b ≡ a
    same a b e = omega (arith, ints, e)

    equal : (b a : ℤ) → b ≡ a → b ≤ℤ a
    equal b a e = omega (arith, ints, e)

-- q has the numbers of p, times a number
pub record IsScaled (k : ℕ) (p q : RationalPoint) : Type 0 where
  pub some : 0 < k
  pub in_x : q.x ≡ p.x *ℤ pos k
  pub in_y : q.y ≡ p.y *ℤ pos k
  pub at_bottom : pos q.bottom ≡ pos p.bottom *ℤ pos k

module _ (k : ℕ) (p q : RationalPoint) (scaled : IsScaled k p q) where
  whole_scaled : (a : ℤ) → a *ℤ pos q.bottom ≡ (a *ℤ pos p.bottom) *ℤ pos k
  whole_scaled a = ap (λ (z : ℤ). a *ℤ z) scaled.at_bottom ∙ plain a (pos p.bottom) (pos k)
    where
      plain : (a d k : ℤ) → a *ℤ (d *ℤ k) ≡ (a *ℤ d) *ℤ k
      plain a d k = rw (as_D a, as_D d, as_D k) (simp diffs (D-eq _ _ _ _ (omega arith)))

  height_scaled : (s : Pair) → height_at s q ≡ height_at s p *ℤ pos k
  height_scaled s =
      ap₂ (λ (z x : ℤ). s.a.y *ℤ (width s *ℤ z) +ℤ (s.b.y -ℤ s.a.y) *ℤ (x -ℤ s.a.x *ℤ z)) scaled.at_bottom scaled.in_x
      ∙ plain s.a.y (width s) (s.b.y -ℤ s.a.y) s.a.x p.x (pos p.bottom) (pos k)
    where
      plain : (ay w h ax x d k : ℤ) → ay *ℤ (w *ℤ (d *ℤ k)) +ℤ h *ℤ (x *ℤ k -ℤ ax *ℤ (d *ℤ k)) ≡ (ay *ℤ (w *ℤ d) +ℤ h *ℤ (x -ℤ ax *ℤ d)) *ℤ k
      plain ay w h ax x d k = rw (as_D ay, as_D w, as_D h, as_D ax, as_D x, as_D d, as_D k) (simp diffs (D-eq _ _ _ _ (omega arith)))

  level_scaled : (s : Pair) → q.y *ℤ width s ≡ (p.y *ℤ width s) *ℤ pos k
  level_scaled s = ap (λ (z : ℤ). z *ℤ width s) scaled.in_y ∙ plain p.y (width s) (pos k)
    where
      plain : (y w k : ℤ) → (y *ℤ k) *ℤ w ≡ (y *ℤ w) *ℤ k
      plain y w k = rw (as_D y, as_D w, as_D k) (simp diffs (D-eq _ _ _ _ (omega arith)))

  below_scaled : (s : Pair) → lies_below s q ≡ lies_below s p
  below_scaled s =
      ap₂ (λ (b c : Bool). b && c)
      (ap₂ (λ (b c : Bool). b && c)
      (ap₂ int_le (whole_scaled s.a.x) scaled.in_x ∙ le_scaled (s.a.x *ℤ pos p.bottom) p.x k scaled.some)
      (ap₂ int_lt scaled.in_x (whole_scaled s.b.x) ∙ lt_scaled p.x (s.b.x *ℤ pos p.bottom) k scaled.some))
      (ap₂ int_lt (height_scaled s) (level_scaled s) ∙ lt_scaled (height_at s p) (p.y *ℤ width s) k scaled.some)

-- ---- lists that are filtered alike

filter_alike : {X : Type 0} (f g : X → Bool) (xs : List X) → ((x : X) → Has xs x → f x ≡ g x) → filter f xs ≡ filter g xs
filter_alike f g [] h = refl
filter_alike f g (x ∷ xs) h = ap₂ (λ (b : Bool) (l : List _). cond b (x ∷ l) l) (h x (inl refl)) (filter_alike f g xs (λ y m. h y (inr m)))

below_alike : (xs : List WholeSegment) (p q : RationalPoint) → ((u : WholeSegment) → Has xs u → lies_below u.pair p ≡ lies_below u.pair q) → winding_below xs p ≡ winding_below xs q
unfolding winding_below
below_alike xs p q h = ap total_weight (filter_alike (λ s. lies_below s.pair p) (λ s. lies_below s.pair q) xs h)

left_alike : (xs : List WholeSegment) (p q : RationalPoint) → ((u : WholeSegment) → Has xs u → falls_left_of u.pair p ≡ falls_left_of u.pair q) → ((u : WholeSegment) → Has xs u → rises_left_of u.pair p ≡ rises_left_of u.pair q)
    → winding_left xs p ≡ winding_left xs q
unfolding winding_left
left_alike xs p q h k =
    ap₂ (λ (a b : List WholeSegment). add (total_weight a) (inverse (total_weight b)))
    (filter_alike (λ s. falls_left_of s.pair p) (λ s. falls_left_of s.pair q) xs h)
    (filter_alike (λ s. rises_left_of s.pair p) (λ s. rises_left_of s.pair q) xs k)

scaled_alike : (k : ℕ) (p q : RationalPoint) → IsScaled k p q → (xs : List WholeSegment) → winding_below xs q ≡ winding_below xs p
scaled_alike k p q scaled xs = below_alike xs q p (λ u m. below_scaled k p q scaled u.pair)

-- ---- the way from one place to another, and its parts

-- a pair that is one point
abbrev origin : Point
origin = record { x = pos 0; y = pos 0 }

abbrev no_pair : Pair
no_pair = record { a = origin; b = origin }

-- from p to q, times both bottoms
abbrev shift : RationalPoint → RationalPoint → Point
shift p q = record { x = q.x *ℤ pos p.bottom -ℤ p.x *ℤ pos q.bottom; y = q.y *ℤ pos p.bottom -ℤ p.y *ℤ pos q.bottom }

-- of a way only what goes up
abbrev upward : Point → Point
upward v = record { x = pos 0; y = v.y }

no_turn : (v : Point) → turn_by no_pair v ≡ pos 0
no_turn v = ap₂ (λ (a b : ℤ). a -ℤ b) (zero_times v.y) (zero_times v.x)

no_turn_size : (v : Point) (w : ℤ) → unsigned_abs (turn_by no_pair v *ℤ w) ≡ 0
no_turn_size v w = ap (λ (z : ℤ). unsigned_abs (z *ℤ w)) (no_turn v) ∙ ap unsigned_abs (zero_times w)

-- how wide and high a pair is
abbrev extent : Pair → ℕ
extent u = unsigned_abs (width u) + unsigned_abs (u.b.y -ℤ u.a.y)

weighed_less : (a b g k m e : ℕ) → a + b < m → m * g < e → m * k < e → a * k + b * g < e
weighed_less a b g k m e few h l =
    let p = mul-le-mul_left a (weak _ _ l) in
    let q = mul-le-mul_left b (weak _ _ h) in
    let r = mul-lt-mul_of_pos_left few (above _ _ l) in
    lt_of_mul-lt-mul_left m (plain a b g k m e p q r)
  where
    weak : (a b : ℕ) → a < b → a ≤ b
    weak a b h = omega (arith, h)

    above : (a b : ℕ) → a < b → 0 < b
    above a b h = omega (arith, h)

    plain : (a b g k m e : ℕ) → a * (m * k) ≤ a * e → b * (m * g) ≤ b * e → e * (a + b) < e * m → m * (a * k + b * g) < m * e
    plain a b g k m e p q r = omega (arith, p, q, r)

abs_minus : (x y : ℤ) → unsigned_abs (x -ℤ y) ≤ unsigned_abs x + unsigned_abs y
abs_minus (pos a) (pos b) = omega (arith, ints)
abs_minus (pos a) (negsuc b) = omega (arith, ints)
abs_minus (negsuc a) (pos b) = omega (arith, ints)
abs_minus (negsuc a) (negsuc b) = omega (arith, ints)

turn_size : (u : Pair) (v : Point) (m e : ℕ) → extent u < m → m * unsigned_abs v.x < e → m * unsigned_abs v.y < e → unsigned_abs (turn_by u v) < e
turn_size u v m e few h k =
    plain _ _ _ _ _ e (abs_minus (width u *ℤ v.y) ((u.b.y -ℤ u.a.y) *ℤ v.x)) (unsigned_abs-mul (width u) v.y) (unsigned_abs-mul (u.b.y -ℤ u.a.y) v.x)
    (weighed_less (unsigned_abs (width u)) (unsigned_abs (u.b.y -ℤ u.a.y)) (unsigned_abs v.x) (unsigned_abs v.y) m e few h k)
  where
    plain : (t a b a' b' e : ℕ) → t ≤ a + b → a ≡ a' → b ≡ b' → a' + b' < e → t < e
    plain t a b a' b' e h i j k = omega (arith, h, i, j, k)

level_size : (u : Pair) (v : Point) (m e : ℕ) → extent u < m → m * unsigned_abs v.y < e → unsigned_abs (width u *ℤ v.y) < e
level_size u v m e few k = plain _ _ e (unsigned_abs-mul (width u) v.y) (less (unsigned_abs (width u)) (unsigned_abs (u.b.y -ℤ u.a.y)) (unsigned_abs v.y) m e few k)
  where
    plain : (a a' e : ℕ) → a ≡ a' → a' < e → a < e
    plain a a' e h k = omega (arith, h, k)

    less : (a b k m e : ℕ) → a + b < m → m * k < e → a * k < e
    less a b k m e few l = let more = weighed_less a b 0 k m e few (none m k e l) l in omega (arith, more)
      where
        none : (m k e : ℕ) → m * k < e → m * 0 < e
        none m k e l = omega (arith, l)

way_size : (a m e n : ℕ) → n < m → m * a < e → a < e
way_size a m e n few h = let more = mul-le-mul_left a (one n m few) in omega (arith, more, h)
  where
    one : (n m : ℕ) → n < m → 1 ≤ m
    one n m h = omega (arith, h)

fine_for : (u : Pair) (v : Point) (m e : ℕ) → extent u < m → m * unsigned_abs v.x < e → m * unsigned_abs v.y < e → IsFine no_pair v e u
fine_for u v m e few h k = record {
  turned = plain _ _ e (turn_size u v m e few h k) (no_turn_size v (width u));
  in_x = way_size _ m e _ few h;
  in_y = way_size _ m e _ few k;
  level = level_size u v m e few k;
}
  where
    plain : (t z e : ℕ) → t < e → z ≡ 0 → t + z < e
    plain t z e h k = omega (arith, h, k)

-- times the bottom of p, a distance from it
cancelled : (d m a e : ℕ) → (d * m) * a < d * e → m * a < e
cancelled d m a e h = lt_of_mul-lt-mul_left d (plain d m a e h)
  where
    plain : (d m a e : ℕ) → (d * m) * a < d * e → d * (m * a) < d * e
    plain d m a e h = omega (arith, h)

none_less : (m e a : ℕ) → m * a < e → m * 0 < e
none_less m e a h = omega (arith, h)

scaled_to : (p q : RationalPoint) → 0 < p.bottom → IsScaled p.bottom q (near p (shift p q) q.bottom)
scaled_to p q some = record {
  some = some;
  in_x = plain p.x q.x (pos p.bottom) (pos q.bottom);
  in_y = plain p.y q.y (pos p.bottom) (pos q.bottom);
  at_bottom = times_as q.bottom p.bottom;
}
  where
    plain : (u v d e : ℤ) → e *ℤ u +ℤ (v *ℤ d -ℤ u *ℤ e) ≡ v *ℤ d
    plain u v d e = rw (as_D u, as_D v, as_D d, as_D e) (simp diffs (D-eq _ _ _ _ (omega arith)))

scaled_from : (p : RationalPoint) (e : ℕ) → 0 < e → IsScaled e p (near p origin e)
scaled_from p e some = record {
  some = some;
  in_x = plain p.x (pos e);
  in_y = plain p.y (pos e);
  at_bottom = times_as e p.bottom ∙ turned (pos e) (pos p.bottom);
}
  where
    plain : (u e : ℤ) → e *ℤ u +ℤ pos 0 ≡ u *ℤ e
    plain u e = rw (as_D u, as_D e) (simp diffs (D-eq _ _ _ _ (omega arith)))

    turned : (d e : ℤ) → d *ℤ e ≡ e *ℤ d
    turned d e = rw (as_D d, as_D e) (simp diffs (D-eq _ _ _ _ (omega arith)))

-- ---- one segment, at two places on one level or on one upright line

module _ (u : Pair) (p : RationalPoint) (some : 0 < p.bottom) (o : Before u.a u.b) (off : IsOff u p) (v : Point) (e : ℕ) (fine : IsFine no_pair v e u) (fine_up : IsFine no_pair (upward v) e u) (fine_none : IsFine no_pair origin e u) where
  alike_and : (a b c : Bool) → b ≡ c → (a && b) ≡ (a && c)
  alike_and a b c h = ap (λ (z : Bool). a && z) h

  no_and : (a b c : Bool) → a ≡ false → (a && b) ≡ (a && c)
  no_and a b c h = rw h refl

  falls_alike : falls_left_of u (near p v e) ≡ falls_left_of u (near p (upward v) e)
  falls_alike = elim off [
    | inl l ↦ alike_and (falls_past u (near p v e)) _ _ (not_left_at u (near p v e) (le_weak _ _ (near_right no_pair v e u fine p l)) ∙ sym (not_left_at u (near p (upward v) e) (le_weak _ _ (near_right no_pair (upward v) e u fine_up p l))))
    | inr (inl l) ↦ alike_and (falls_past u (near p v e)) _ _ (on_left_at u (near p v e) (near_left no_pair v e u fine p l) ∙ sym (on_left_at u (near p (upward v) e) (near_left no_pair (upward v) e u fine_up p l)))
    | inr (inr b) ↦ no_and (falls_past u (near p v e)) _ _ (not_falling u (near p v e) (near_off_level no_pair v e u fine p (beyond_off_level u p some o b)))
  ]

  rises_alike : rises_left_of u (near p v e) ≡ rises_left_of u (near p (upward v) e)
  rises_alike = elim off [
    | inl l ↦ alike_and (rises_past u (near p v e)) _ _ (on_right_at u (near p v e) (near_right no_pair v e u fine p l) ∙ sym (on_right_at u (near p (upward v) e) (near_right no_pair (upward v) e u fine_up p l)))
    | inr (inl l) ↦ alike_and (rises_past u (near p v e)) _ _ (not_right_at u (near p v e) (le_weak _ _ (near_left no_pair v e u fine p l)) ∙ sym (not_right_at u (near p (upward v) e) (le_weak _ _ (near_left no_pair (upward v) e u fine_up p l))))
    | inr (inr b) ↦ no_and (rises_past u (near p v e)) _ _ (not_rising u (near p v e) (near_off_level no_pair v e u fine p (beyond_off_level u p some o b)))
  ]

  below_by_way : lies_below u (near p (upward v) e) ≡ lies_below u (near p origin e)
  below_by_way = elim off [
    | inl l ↦ alike_and (spans u (near p origin e)) _ _ (runs_below-false u (near p (upward v) e) (near_right no_pair (upward v) e u fine_up p l) ∙ sym (runs_below-false u (near p origin e) (near_right no_pair origin e u fine_none p l)))
    | inr (inl l) ↦ alike_and (spans u (near p origin e)) _ _ (runs_below-true u (near p (upward v) e) (near_left no_pair (upward v) e u fine_up p l) ∙ sym (runs_below-true u (near p origin e) (near_left no_pair origin e u fine_none p l)))
    | inr (inr b) ↦ no_and (spans u (near p origin e)) _ _ (false_from_ne_true _ (λ h. no_span_beyond no_pair origin e u fine_none p o b h))
  ]

-- ---- all segments

module _ (xs : List WholeSegment) (ordered : IsTrue (are_ordered xs)) (balanced : IsBalanced xs) (p : RationalPoint) (some : 0 < p.bottom) (off : (u : WholeSegment) → Has xs u → goes_through u.pair p ≡ false) where
  order_of : (u : WholeSegment) → Has xs u → Before u.pair.a u.pair.b
  order_of u m = point_lt-cases u.pair.a u.pair.b (list_all-at (λ (t : WholeSegment). is_ordered t.pair) xs u ordered m)

  off_of : (u : WholeSegment) → Has xs u → IsOff u.pair p
  off_of u m = off_from u.pair p some (order_of u m) (off u m)

  left_is_below : (v : Point) (e : ℕ) → 0 < e → ((u : WholeSegment) → Has xs u → IsFine no_pair v e u.pair) → winding_left xs (near p v e) ≡ winding_below xs (near p v e)
  left_is_below v e some_e fine =
      let here = some_product e p.bottom some_e some in
      (any_ray_will_do xs (near p v e) ordered balanced here
      (list_all-from_Has (λ t. not (goes_through t.pair (near p v e))) xs (λ u m. ap not (off_passes no_pair v e u.pair (fine u m) p some here (order_of u m) (off_of u m))))).1

  module _ (q : RationalPoint) (some_q : 0 < q.bottom) (m : ℕ) (great : (u : WholeSegment) → Has xs u → extent u.pair < m) (close : IsCloser (p.bottom * m) p q) where
    abbrev v : Point
    v = shift p q

    abbrev e : ℕ
    e = q.bottom

    small_x : m * unsigned_abs v.x < e
    small_x = cancelled p.bottom m (unsigned_abs v.x) e close.in_x

    small_y : m * unsigned_abs v.y < e
    small_y = cancelled p.bottom m (unsigned_abs v.y) e close.in_y

    fine : (u : WholeSegment) → Has xs u → IsFine no_pair v e u.pair
    fine u h = fine_for u.pair v m e (great u h) small_x small_y

    fine_up : (u : WholeSegment) → Has xs u → IsFine no_pair (upward v) e u.pair
    fine_up u h = fine_for u.pair (upward v) m e (great u h) (none_less m e _ small_x) small_y

    fine_none : (u : WholeSegment) → Has xs u → IsFine no_pair origin e u.pair
    fine_none u h = fine_for u.pair origin m e (great u h) (none_less m e _ small_x) (none_less m e _ small_x)

    level_way : winding_left xs (near p v e) ≡ winding_left xs (near p (upward v) e)
    level_way = left_alike xs (near p v e) (near p (upward v) e)
        (λ u h. falls_alike u.pair p some (order_of u h) (off_of u h) v e (fine u h) (fine_up u h) (fine_none u h))
        (λ u h. rises_alike u.pair p some (order_of u h) (off_of u h) v e (fine u h) (fine_up u h) (fine_none u h))

    upright_way : winding_below xs (near p (upward v) e) ≡ winding_below xs (near p origin e)
    upright_way = below_alike xs (near p (upward v) e) (near p origin e) (λ u h. below_by_way u.pair p some (order_of u h) (off_of u h) v e (fine u h) (fine_up u h) (fine_none u h))

    winds_alike : winding_below xs q ≡ winding_below xs p
    winds_alike =
        sym (scaled_alike p.bottom q (near p v e) (scaled_to p q some) xs)
        ∙ sym (left_is_below v e some_q fine)
        ∙ level_way
        ∙ left_is_below (upward v) e some_q fine_up
        ∙ upright_way
        ∙ scaled_alike e p (near p origin e) (scaled_from p e some_q) xs

  -- near enough all points wind as p does
  pub steady : (n : ℕ) × ((q : RationalPoint) → 0 < q.bottom → IsCloser n p q → winding_below xs q ≡ winding_below xs p)
  steady =
      let great = above_all (λ (u : WholeSegment). extent u.pair) xs in
      (p.bottom * great.0, λ q some_q close. winds_alike q some_q great.0 great.1 close)
