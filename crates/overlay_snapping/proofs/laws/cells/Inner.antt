-- Whether a point lies in the box of a segment and is no end of it, by one comparison.
use Rattle.std.proofs.Common.{◌≡◌, refl, sym, ap, ap₂, ◌∙◌, ℕ, zero, suc, ◌+◌, ◌-◌, ◌%◌, ◌<◌, ◌≤◌, ◌^◌, Bool, true, false, not, ◌&&◌, ◌||◌, nat_lt, nat_le, arith}
use Rattle.std.specs.Prelude.{ℤ, pos, ◌-ℤ◌, ◌≤ℤ◌, ◌<ℤ◌, int_le, int_lt}
use Rattle.std.specs.Ordering.{int_eq}
use Rattle.std.specs.Int.Bits.{bit_or, bit_and, or_add_and}
use Rattle.std.proofs.lemmas.Int.{ints, by_lt_z}
use Rattle.std.proofs.lemmas.Nat.{le_or_l, le_or_r, or_lt}
use Rattle.overlay_geometry.specs.Points.{Point, Pair, is_between, is_in_box, is_end, is_ordered, point_eq}
use Rattle.overlay_geometry.specs.Coordinates.{least_coordinate, greatest_coordinate, is_point_in_range}
use Rattle.overlay_snapping.specs.steps.Distances.{IsSmall, turned, distance, are_inside}
use Rattle.overlay_snapping.proofs.laws.cells.Boxes.{between_across}
use Rattle.overlay_snapping.proofs.laws.cells.NotMet.{and_false}

-- ---- the comparison

abbrev less_one : ℕ → ℕ
less_one n = (n + 18446744073709551615) % 18446744073709551616

less_one-some : (n : ℕ) → 0 < n → n < 18446744073709551616 → less_one n ≡ n - 1
less_one-some n h k = grind (arith, h, k)

less_one-inside : (n : ℕ) → n < 18446744073709551616 → nat_lt (less_one n) (2 ^ 63) ≡ (nat_lt 0 n && nat_le n (2 ^ 63))
less_one-inside zero k = refl
less_one-inside (suc n) k = let e = less_one-some (suc n) (omega arith) k in grind (arith, e)

or_inside : (m n : ℕ) → nat_lt (bit_or m n) (2 ^ 63) ≡ (nat_lt m (2 ^ 63) && nat_lt n (2 ^ 63))
or_inside m n =
    let l = le_or_l m n in
    let r = le_or_r m n in
    by (nat_lt m (2 ^ 63)) (nat_lt n (2 ^ 63)) refl refl
  where
    by : (a b : Bool) → nat_lt m (2 ^ 63) ≡ a → nat_lt n (2 ^ 63) ≡ b → nat_lt (bit_or m n) (2 ^ 63) ≡ (a && b)
    by true true p q = let small = or_lt 63 m n (grind (arith, p)) (grind (arith, q)) in grind (arith, small)
    by true false p q = let r = le_or_r m n in grind (arith, q, r)
    by false b p q = let l = le_or_l m n in grind (arith, p, l)

pub inside_by_one : (a b : ℕ) → a < 18446744073709551616 → b < 18446744073709551616 → nat_lt (bit_or (less_one a) (less_one b)) 9223372036854775808 ≡ are_inside a b
inside_by_one a b h k = or_inside (less_one a) (less_one b) ∙ ap₂ (λ (p q : Bool). p && q) (less_one-inside a h) (less_one-inside b k)

-- ---- distances

distance_up : (u v : ℤ) → IsSmall u → IsSmall v → u ≤ℤ v → pos (distance u v) ≡ v -ℤ u
distance_up u v a b h = grind (arith, ints, a, b, h)

distance_down : (u v : ℤ) → IsSmall u → IsSmall v → v <ℤ u → 2 ^ 63 < distance u v
distance_down u v a b h = grind (arith, ints, a, b, h)

distance_small : (u v : ℤ) → IsSmall u → IsSmall v → u ≤ℤ v → distance u v < 2 ^ 32
distance_small u v a b h = grind (arith, ints, a, b, h)

-- from a corner on, in both axes, and not at it
abbrev is_from : ℤ → ℤ → ℤ → ℤ → Bool
is_from u x v y = (int_le u x && int_le v y) && not (int_eq u x && int_eq v y)

both_up : (u x v y : ℤ) (p q m n : ℕ) → u ≤ℤ x → v ≤ℤ y → pos p ≡ x -ℤ u → pos q ≡ y -ℤ v → p < 2 ^ 32 → q < 2 ^ 32 → p ≤ m → q ≤ m → m + n ≡ p + q → (nat_lt 0 m && nat_le m (2 ^ 63)) ≡ is_from u x v y
both_up u x v y p q m n h k a b c d l r sum = by (int_eq u x) (int_eq v y) refl refl
  where
    by : (e f : Bool) → int_eq u x ≡ e → int_eq v y ≡ f → (nat_lt 0 m && nat_le m (2 ^ 63)) ≡ is_from u x v y
    by true true e f =
        let p_none : p ≡ 0 = grind (arith, ints, e, a) in
        let q_none : q ≡ 0 = grind (arith, ints, f, b) in
        let none : m ≡ 0 = omega (arith, p_none, q_none, sum) in
        grind (arith, ints, none, e, f, h, k)
    by false f e g =
        let some : 0 < p = grind (arith, ints, e, h, a) in
        let bound : m ≤ 2 ^ 63 = omega (arith, c, d, sum) in
        grind (arith, ints, some, bound, l, e, h, k)
    by true false e f =
        let some : 0 < q = grind (arith, ints, f, k, b) in
        let bound : m ≤ 2 ^ 63 = omega (arith, c, d, sum) in
        grind (arith, ints, some, bound, r, e, f, h, k)

down_left : (u x v y : ℤ) (p m : ℕ) → x <ℤ u → 2 ^ 63 < p → p ≤ m → (nat_lt 0 m && nat_le m (2 ^ 63)) ≡ is_from u x v y
down_left u x v y p m h far l =
    let great : nat_le m (2 ^ 63) ≡ false = grind (arith, far, l) in
    let down : int_le u x ≡ false = grind (arith, ints, h) in
    rw (great, down) (and_false (nat_lt 0 m))

down_right : (u x v y : ℤ) (p m : ℕ) → y <ℤ v → 2 ^ 63 < p → p ≤ m → (nat_lt 0 m && nat_le m (2 ^ 63)) ≡ is_from u x v y
down_right u x v y p m h far l =
    let great : nat_le m (2 ^ 63) ≡ false = grind (arith, far, l) in
    let down : int_le v y ≡ false = grind (arith, ints, h) in
    rw (great, down) (and_false (nat_lt 0 m) ∙ sym (ap (λ (b : Bool). b && not (int_eq u x && int_eq v y)) (and_false (int_le u x))))

from_by_distance : (u x v y : ℤ) → IsSmall u → IsSmall x → IsSmall v → IsSmall y →
    (nat_lt 0 (bit_or (distance u x) (distance v y)) && nat_le (bit_or (distance u x) (distance v y)) (2 ^ 63)) ≡ is_from u x v y
from_by_distance u x v y a b c d =
    let l = le_or_l (distance u x) (distance v y) in
    let r = le_or_r (distance u x) (distance v y) in
    let sum = or_add_and (distance u x) (distance v y) in
    by_lt_z x u
    (λ less. down_left u x v y (distance u x) (bit_or (distance u x) (distance v y)) less (distance_down u x a b less) l)
    (λ more. by_lt_z y v
    (λ less. down_right u x v y (distance v y) (bit_or (distance u x) (distance v y)) less (distance_down v y c d less) r)
    (λ up. both_up u x v y (distance u x) (distance v y) (bit_or (distance u x) (distance v y)) (bit_and (distance u x) (distance v y)) more up (distance_up u x a b more) (distance_up v y c d up) (distance_small u x a b more) (distance_small v y c d up) l r sum))

-- ---- the box

eq-turns : (u v : ℤ) → int_eq u v ≡ int_eq v u
eq-turns u v = grind (arith, ints)

joined : (l s e r t f : Bool) → (((l && s) && not e) && ((r && t) && not f)) ≡ (((l && r) && (s && t)) && not (e || f))
joined false s e r t f = refl
joined true false e true t f = refl
joined true false e false t f = refl
joined true true true r t f = both r t
  where
    both : (r t : Bool) → false ≡ ((r && t) && false)
    both false t = refl
    both true false = refl
    both true true = refl
joined true true false r t f = refl

between_turned : (f : Bool) (a b y : ℤ) → f ≡ int_lt b a → is_between a b y ≡ (int_le (turned f a) (turned f y) && int_le (turned f y) (turned f b))
between_turned true a b y e = grind (arith, ints, e)
between_turned false a b y e = grind (arith, ints, e)

eq-turned : (f : Bool) (a y : ℤ) → int_eq (turned f a) (turned f y) ≡ int_eq a y
eq-turned true a y = grind (arith, ints)
eq-turned false a y = refl

point_eq-either : (p q : Point) → point_eq p q ≡ (int_eq q.x p.x && int_eq q.y p.y)
point_eq-either p q = grind (arith, ints)

pub small_coordinates : (least greatest : ℤ) → least_coordinate ≤ℤ least → greatest ≤ℤ greatest_coordinate → (p : Point) → is_point_in_range least greatest p ≡ true → IsSmall p.x × IsSmall p.y
small_coordinates least greatest l g p h = (grind (arith, ints, l, g, h), grind (arith, ints, l, g, h))

pub inner_by_distances : (s : Pair) (p : Point) (f : Bool) → is_ordered s ≡ true → f ≡ int_lt s.b.y s.a.y → IsSmall s.a.x → IsSmall s.b.x → IsSmall (turned f s.a.y) → IsSmall (turned f s.b.y) → IsSmall p.x → IsSmall (turned f p.y) →
    are_inside (bit_or (distance s.a.x p.x) (distance (turned f s.a.y) (turned f p.y))) (bit_or (distance p.x s.b.x) (distance (turned f p.y) (turned f s.b.y))) ≡ (is_in_box s p && not (is_end s p))
unfolding is_in_box
inner_by_distances s p f o e a b c d g h =
    let across = between_across s o p.x in
    let up = between_turned f s.a.y s.b.y p.y e in
    let at_a : point_eq p s.a ≡ (int_eq s.a.x p.x && int_eq (turned f s.a.y) (turned f p.y)) = point_eq-either p s.a ∙ ap (λ (q : Bool). int_eq s.a.x p.x && q) (sym (eq-turned f s.a.y p.y)) in
    let at_b : point_eq p s.b ≡ (int_eq p.x s.b.x && int_eq (turned f p.y) (turned f s.b.y)) =
    point_eq-either p s.b ∙ ap₂ (λ (q r : Bool). q && r) (eq-turns s.b.x p.x) (eq-turns s.b.y p.y ∙ sym (eq-turned f p.y s.b.y)) in
    ap₂ (λ (q r : Bool). q && r) (from_by_distance s.a.x p.x (turned f s.a.y) (turned f p.y) a g c h) (from_by_distance p.x s.b.x (turned f p.y) (turned f s.b.y) g b h d)
    ∙ joined (int_le s.a.x p.x) (int_le (turned f s.a.y) (turned f p.y)) (int_eq s.a.x p.x && int_eq (turned f s.a.y) (turned f p.y)) (int_le p.x s.b.x) (int_le (turned f p.y) (turned f s.b.y)) (int_eq p.x s.b.x && int_eq (turned f p.y) (turned f s.b.y))
    ∙ ap₂ (λ (q r : Bool). q && not r) (ap₂ (λ (q r : Bool). q && r) across (sym up)) (ap₂ (λ (q r : Bool). q || r) (sym at_a) (sym at_b))
