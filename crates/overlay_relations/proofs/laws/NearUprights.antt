-- The same beside a vertical segment, to the left and to the right of it; and both kinds together.
use Rattle.std.proofs.Common.{◌≡◌, ap, refl, sym, subst, ◌∙◌, arith, ℕ, ◌<◌, inl, inr}
use Rattle.std.specs.Prelude.{ℤ, pos, ◌+ℤ◌, ◌-ℤ◌, ◌*ℤ◌, neg_ℤ, ◌<ℤ◌, ◌≤ℤ◌, int_le, int_lt, IsTrue, Bool, true, false, not, ◌&&◌, ◌||◌, ◌⊎◌, List}
use Rattle.std.specs.List.{list_all}
use Rattle.std.specs.Int.{int_min, int_max}
use Rattle.std.specs.Ordering.{int_eq}
use Rattle.std.proofs.lemmas.Int.{ints, clamps}
use Rattle.std.proofs.lemmas.Bool.{and_from, and_parts, and_left, or_left, or_right, both_ways, cases_Bool, false_from_ne_true}
use Rattle.std.proofs.lemmas.Bool.Decides.{Decides-int_eq}
use Rattle.overlay_geometry.specs.Points.{Point, Pair, pair_eq, is_vertical, is_between}
use Rattle.overlay_geometry.specs.Below.{width}
use Rattle.overlay_geometry.proofs.laws.geometry.Polynomials.{as_D, diffs, D-eq, mul-pos, mul-neg, cancel-pos, cancel-neg, difference-pos}
use Rattle.overlay_geometry.proofs.laws.geometry.Points.{Before, same_pair_by_eq}
use Rattle.overlay_geometry.proofs.laws.integers.Tests.{lt-test, lt-test_false, lt-tested, le-test_false, le-tested, le_weak, by_sign}
use Rattle.overlay_geometry.proofs.laws.integers.Products.{times_nothing}
use Rattle.overlay_geometry.proofs.laws.lists.Lists.{Has, list_all-from_Has}
use Rattle.overlay_base.specs.Segments.{WholeSegment}
use Rattle.overlay_base.specs.Places.{RationalPoint}
use Rattle.overlay_base.specs.Rays.{place_turn, goes_through, has_on_left, has_on_right, rises_past, falls_past}
use Rattle.overlay_sweep.proofs.laws.columns.Members.{IsArranged}
use Rattle.overlay_build.specs.Beside.{is_level_with, runs_left_of, runs_right_of, is_directly_left, is_directly_right, is_on_top_of, is_at_bottom_of, is_directly_above, is_directly_below, foot}
use Rattle.overlay_relations.proofs.laws.InsidePlaces.{enlarged, tops, IsInside, IsBeyondEnds, IsOff, times_less}
use Rattle.overlay_relations.proofs.laws.NearPlaces.{near, turn_by, near_turn, at_bottom, own_turn, IsFine, near_left, near_right, before_in_x, after_in_x, before_in_y, after_in_y, stays_negative, stays_positive, below_abs, above_abs, count_some, strictly_before, strictly_after, upright_zero, turn_from_b, ordered, off, is_above, is_below}

-- ---- heights beyond the ends

-- a place is lower than both ends, or higher than both, or the pair is level
abbrev pub IsOffLevel : Pair → RationalPoint → Type 0
IsOffLevel u q =
    ((q.y <ℤ (u.a.y *ℤ pos q.bottom)) × (q.y <ℤ (u.b.y *ℤ pos q.bottom)))
    ⊎ ((((u.a.y *ℤ pos q.bottom) <ℤ q.y) × ((u.b.y *ℤ pos q.bottom) <ℤ q.y)) ⊎ (u.a.y ≡ u.b.y))

no_pass : (a b y : ℤ) (e : a <ℤ b → ⊥) → (int_le a y && int_lt y b) ≡ false
no_pass a b y e = false_from_ne_true _ (λ h. let parts = and_parts (int_le a y) (int_lt y b) h in e (through a b y (le-tested _ _ parts.0) (lt-tested _ _ parts.1)))
  where
    through : (a b y : ℤ) → a ≤ℤ y → y <ℤ b → a <ℤ b
    through a b y h l = omega (arith, ints, h, l)

no_start : (a b y : ℤ) → y <ℤ a → (int_le a y && int_lt y b) ≡ false
no_start a b y l = rw (le-test_false a y l) refl

no_end : (a b y : ℤ) → b <ℤ y → (int_le a y && int_lt y b) ≡ false
no_end a b y l = false_from_ne_true _ (λ h. both_ways (int_lt y b) (lt-test_false y b (le_weak _ _ l)) (and_parts (int_le a y) (int_lt y b) h).1)

no_pass_level : (a b y : ℤ) → a ≡ b → (int_le a y && int_lt y b) ≡ false
no_pass_level a b y e = no_pass a b y (λ l. off a b l e)
  where
    off : (a b : ℤ) → a <ℤ b → a ≡ b → ⊥
    off a b l e = omega (arith, ints, l, e)

pub not_rising : (u : Pair) (q : RationalPoint) → IsOffLevel u q → rises_past u q ≡ false
not_rising u q (inl l) = no_start (u.a.y *ℤ pos q.bottom) (u.b.y *ℤ pos q.bottom) q.y l.0
not_rising u q (inr (inl l)) = no_end (u.a.y *ℤ pos q.bottom) (u.b.y *ℤ pos q.bottom) q.y l.1
not_rising u q (inr (inr e)) = no_pass_level (u.a.y *ℤ pos q.bottom) (u.b.y *ℤ pos q.bottom) q.y (ap (λ (z : ℤ). z *ℤ pos q.bottom) e)

pub not_falling : (u : Pair) (q : RationalPoint) → IsOffLevel u q → falls_past u q ≡ false
not_falling u q (inl l) = no_start (u.b.y *ℤ pos q.bottom) (u.a.y *ℤ pos q.bottom) q.y l.1
not_falling u q (inr (inl l)) = no_end (u.b.y *ℤ pos q.bottom) (u.a.y *ℤ pos q.bottom) q.y l.0
not_falling u q (inr (inr e)) = no_pass_level (u.b.y *ℤ pos q.bottom) (u.a.y *ℤ pos q.bottom) q.y (ap (λ (z : ℤ). z *ℤ pos q.bottom) (sym e))

-- on a line that rises or falls, what is left or right of a point of it is lower or higher
line_sign : (w h y x : ℤ) → w *ℤ y -ℤ h *ℤ x ≡ pos 0 → w *ℤ y ≡ h *ℤ x
line_sign w h y x e = plain (w *ℤ y) (h *ℤ x) e
  where
    plain : (a b : ℤ) → a -ℤ b ≡ pos 0 → a ≡ b
    plain a b e = omega (arith, ints, e)

pos_of : (w y z : ℤ) → pos 0 <ℤ w → w *ℤ y ≡ z → pos 0 <ℤ z → pos 0 <ℤ y
pos_of w y z h e l = cancel-pos w y h (subst (λ (v : ℤ). pos 0 <ℤ v) (sym e) l)

neg_of : (w y z : ℤ) → pos 0 <ℤ w → w *ℤ y ≡ z → z <ℤ pos 0 → y <ℤ pos 0
neg_of w y z h e l = cancel-neg w y h (subst (λ (v : ℤ). v <ℤ pos 0) (sym e) l)

neg_times : (a b : ℤ) → a <ℤ pos 0 → pos 0 <ℤ b → (a *ℤ b) <ℤ pos 0
neg_times a b h l = subst (λ (z : ℤ). z <ℤ pos 0) (turned b a) (mul-neg b a l h)
  where
    turned : (a b : ℤ) → a *ℤ b ≡ b *ℤ a
    turned a b = rw (as_D a, as_D b) (simp diffs (D-eq _ _ _ _ (omega arith)))

neg_both : (a b : ℤ) → a <ℤ pos 0 → b <ℤ pos 0 → pos 0 <ℤ (a *ℤ b)
neg_both a b h l = subst (λ (z : ℤ). pos 0 <ℤ z) (turned a b) (mul-pos (neg_ℤ a) (neg_ℤ b) (omega (arith, ints, h)) (omega (arith, ints, l)))
  where
    turned : (a b : ℤ) → neg_ℤ a *ℤ neg_ℤ b ≡ a *ℤ b
    turned a b = rw (as_D a, as_D b) (simp diffs (D-eq _ _ _ _ (omega arith)))

below_by : (a b : ℤ) → (a -ℤ b) <ℤ pos 0 → a <ℤ b
below_by a b h = omega (arith, ints, h)

above_by : (a b : ℤ) → pos 0 <ℤ (a -ℤ b) → b <ℤ a
above_by a b h = omega (arith, ints, h)

negative_by : (a b : ℤ) → a <ℤ b → (a -ℤ b) <ℤ pos 0
negative_by a b h = omega (arith, ints, h)

less_trans : (a b c : ℤ) → a <ℤ b → b <ℤ c → a <ℤ c
less_trans a b c h l = omega (arith, ints, h, l)

rising : (a b : ℤ) → pos 0 <ℤ (b -ℤ a) → a <ℤ b
rising a b h = omega (arith, ints, h)

falling : (a b : ℤ) → (b -ℤ a) <ℤ pos 0 → b <ℤ a
falling a b h = omega (arith, ints, h)

flat : (a b : ℤ) → b -ℤ a ≡ pos 0 → a ≡ b
flat a b h = omega (arith, ints, h)

module _ (u : Pair) (p : RationalPoint) (some : 0 < p.bottom) (zero : place_turn u p ≡ pos 0) where
  module _ (wide : u.a.x <ℤ u.b.x) where
    before_start : p.x <ℤ (u.a.x *ℤ pos p.bottom) → IsOffLevel u p
    before_start l =
        let line = line_sign (width u) (u.b.y -ℤ u.a.y) (p.y -ℤ u.a.y *ℤ pos p.bottom) (p.x -ℤ u.a.x *ℤ pos p.bottom) zero in
        by_sign (u.b.y -ℤ u.a.y)
        (λ (down : (u.b.y -ℤ u.a.y) <ℤ pos 0).
        let high = above_by _ _ (pos_of _ _ _ (difference-pos _ _ wide) line (neg_both _ _ down (negative_by _ _ l))) in
        inr (inl (high, less_trans _ _ _ (times_less u.b.y u.a.y p.bottom some (falling u.a.y u.b.y down)) high)))
        (λ e. inr (inr (flat u.a.y u.b.y e)))
        (λ (up : pos 0 <ℤ (u.b.y -ℤ u.a.y)).
        let low = below_by _ _ (neg_of _ _ _ (difference-pos _ _ wide) line (mul-neg _ _ up (negative_by _ _ l))) in
        inl (low, less_trans _ _ _ low (times_less u.a.y u.b.y p.bottom some (rising u.a.y u.b.y up))))

    after_end : (u.b.x *ℤ pos p.bottom) <ℤ p.x → IsOffLevel u p
    after_end l =
        let line = line_sign (width u) (u.b.y -ℤ u.a.y) (p.y -ℤ u.b.y *ℤ pos p.bottom) (p.x -ℤ u.b.x *ℤ pos p.bottom) (sym (turn_from_b u p) ∙ zero) in
        by_sign (u.b.y -ℤ u.a.y)
        (λ (down : (u.b.y -ℤ u.a.y) <ℤ pos 0).
        let low = below_by _ _ (neg_of _ _ _ (difference-pos _ _ wide) line (neg_times _ _ down (difference-pos _ _ l))) in
        inl (less_trans _ _ _ low (times_less u.b.y u.a.y p.bottom some (falling u.a.y u.b.y down)), low))
        (λ e. inr (inr (flat u.a.y u.b.y e)))
        (λ (up : pos 0 <ℤ (u.b.y -ℤ u.a.y)).
        let high = above_by _ _ (pos_of _ _ _ (difference-pos _ _ wide) line (mul-pos _ _ up (difference-pos _ _ l))) in
        inr (inl (less_trans _ _ _ (times_less u.a.y u.b.y p.bottom some (rising u.a.y u.b.y up)) high, high)))

  module _ (upright : u.a.x ≡ u.b.x) (upward : u.a.y <ℤ u.b.y) where
    not_left : (a b : ℤ) → a ≡ b → a <ℤ b → ⊥
    not_left a b e l = omega (arith, ints, e, l)

    upright_low : Before (tops p) (enlarged p.bottom u.a) → p.y <ℤ (u.a.y *ℤ pos p.bottom)
    upright_low (inl l) = absurd (not_left _ _ (upright_zero u p upright upward zero) l)
    upright_low (inr r) = r.1

    upright_high : Before (enlarged p.bottom u.b) (tops p) → (u.b.y *ℤ pos p.bottom) <ℤ p.y
    upright_high (inl l) = absurd (not_left _ _ (sym (ap (λ (z : ℤ). z *ℤ pos p.bottom) upright) ∙ sym (upright_zero u p upright upward zero)) l)
    upright_high (inr r) = r.1

    upright_off : Before (tops p) (enlarged p.bottom u.a) ⊎ Before (enlarged p.bottom u.b) (tops p) → IsOffLevel u p
    upright_off (inl l) = let low = upright_low l in inl (low, less_trans _ _ _ low (times_less u.a.y u.b.y p.bottom some upward))
    upright_off (inr l) = let high = upright_high l in inr (inl (less_trans _ _ _ (times_less u.a.y u.b.y p.bottom some upward) high, high))

-- what is beyond its ends is off level at the place, and near it
pub beyond_off_level : (u : Pair) (p : RationalPoint) → 0 < p.bottom → Before u.a u.b → IsBeyondEnds u p → IsOffLevel u p
beyond_off_level u p some (inl wide) (zero, inl l) = before_start u p some zero wide (strictly_before u p wide zero l)
beyond_off_level u p some (inl wide) (zero, inr l) = after_end u p some zero wide (strictly_after u p wide zero l)
beyond_off_level u p some (inr r) (zero, where_it_is) = upright_off u p some zero r.0 r.1 where_it_is

pub near_off_level : (s : Pair) (v : Point) (n : ℕ) (u : Pair) → IsFine s v n u → (p : RationalPoint) → IsOffLevel u p → IsOffLevel u (near p v n)
near_off_level s v n u fine p (inl l) = inl (before_in_y s v n u fine p u.a.y l.0, before_in_y s v n u fine p u.b.y l.1)
near_off_level s v n u fine p (inr (inl l)) = inr (inl (after_in_y s v n u fine p u.a.y l.0, after_in_y s v n u fine p u.b.y l.1))
near_off_level s v n u fine p (inr (inr e)) = inr (inr e)

-- ---- nothing goes through the place

pub outside_low : (a b z : ℤ) → z <ℤ a → z <ℤ b → is_between a b z ≡ false
outside_low a b z h l = rw (le-test_false (int_min a b) z (omega (arith, ints, clamps, h, l))) refl

outside_high : (a b z : ℤ) → a <ℤ z → b <ℤ z → is_between a b z ≡ false
outside_high a b z h l = false_from_ne_true _ (λ t. off a b z h l (le-tested z (int_max a b) (and_parts (int_le (int_min a b) z) (int_le z (int_max a b)) t).1))
  where
    off : (a b z : ℤ) → a <ℤ z → b <ℤ z → z ≤ℤ int_max a b → ⊥
    off a b z h l k = omega (arith, ints, clamps, h, l, k)

pub passes_by_turn : (u : Pair) (q : RationalPoint) → (place_turn u q ≡ pos 0 → ⊥) → goes_through u q ≡ false
unfolding goes_through
passes_by_turn u q h =
    and_left (int_eq (place_turn u q) (pos 0) && is_between (u.a.x *ℤ pos q.bottom) (u.b.x *ℤ pos q.bottom) q.x) (is_between (u.a.y *ℤ pos q.bottom) (u.b.y *ℤ pos q.bottom) q.y)
    (and_left (int_eq (place_turn u q) (pos 0)) (is_between (u.a.x *ℤ pos q.bottom) (u.b.x *ℤ pos q.bottom) q.x) (false_from_ne_true _ (λ f. h ((Decides-int_eq (place_turn u q) (pos 0)).0 f))))

pub passes_in_x : (u : Pair) (q : RationalPoint) → is_between (u.a.x *ℤ pos q.bottom) (u.b.x *ℤ pos q.bottom) q.x ≡ false → goes_through u q ≡ false
unfolding goes_through
passes_in_x u q h = false_from_ne_true _ (λ t. both_ways _ h (and_parts (int_eq (place_turn u q) (pos 0)) _ (and_parts _ (is_between (u.a.y *ℤ pos q.bottom) (u.b.y *ℤ pos q.bottom) q.y) t).0).1)

passes_in_y : (u : Pair) (q : RationalPoint) → is_between (u.a.y *ℤ pos q.bottom) (u.b.y *ℤ pos q.bottom) q.y ≡ false → goes_through u q ≡ false
unfolding goes_through
passes_in_y u q h = false_from_ne_true _ (λ t. both_ways _ h (and_parts (int_eq (place_turn u q) (pos 0) && is_between (u.a.x *ℤ pos q.bottom) (u.b.x *ℤ pos q.bottom) q.x) (is_between (u.a.y *ℤ pos q.bottom) (u.b.y *ℤ pos q.bottom) q.y) t).1)

not_zero_up : (z : ℤ) → pos 0 <ℤ z → z ≡ pos 0 → ⊥
not_zero_up z l e = omega (arith, ints, l, e)

not_zero_down : (z : ℤ) → z <ℤ pos 0 → z ≡ pos 0 → ⊥
not_zero_down z l e = omega (arith, ints, l, e)

module _ (s : Pair) (v : Point) (n : ℕ) (u : Pair) (fine : IsFine s v n u) (p : RationalPoint) (some : 0 < p.bottom) (some_here : 0 < (near p v n).bottom) (in_order : Before u.a u.b) where
  beyond_passes : IsBeyondEnds u p → goes_through u (near p v n) ≡ false
  beyond_passes (zero, where_it_is) = elim in_order [
    | inl wide ↦ elim where_it_is [
      | inl l ↦
          let low = before_in_x s v n u fine p u.a.x (strictly_before u p wide zero l) in
          passes_in_x u (near p v n) (outside_low _ _ _ low (less_trans _ _ _ low (times_less u.a.x u.b.x (near p v n).bottom some_here wide)))
      | inr l ↦
          let high = after_in_x s v n u fine p u.b.x (strictly_after u p wide zero l) in
          passes_in_x u (near p v n) (outside_high _ _ _ (less_trans _ _ _ (times_less u.a.x u.b.x (near p v n).bottom some_here wide) high) high)
    ]
    | inr r ↦ elim where_it_is [
      | inl l ↦
          let low = before_in_y s v n u fine p u.a.y (upright_low u p some zero r.0 r.1 l) in
          passes_in_y u (near p v n) (outside_low _ _ _ low (less_trans _ _ _ low (times_less u.a.y u.b.y (near p v n).bottom some_here r.1)))
      | inr l ↦
          let high = after_in_y s v n u fine p u.b.y (upright_high u p some zero r.0 r.1 l) in
          passes_in_y u (near p v n) (outside_high _ _ _ (less_trans _ _ _ (times_less u.a.y u.b.y (near p v n).bottom some_here r.1) high) high)
    ]
  ]

  pub off_passes : IsOff u p → goes_through u (near p v n) ≡ false
  off_passes (inl l) = passes_by_turn u (near p v n) (not_zero_down _ (near_right s v n u fine p l))
  off_passes (inr (inl l)) = passes_by_turn u (near p v n) (not_zero_up _ (near_left s v n u fine p l))
  off_passes (inr (inr b)) = beyond_passes b

-- ---- the foot of the place

foot_turn : (s : Pair) (v : Point) (n : ℕ) (p : RationalPoint) (u : Pair) → p.x ≡ s.a.x *ℤ pos p.bottom → place_turn u (foot s (near p v n)) ≡ pos n *ℤ place_turn u p +ℤ width u *ℤ v.y
foot_turn s v n p u e =
    ap (λ (z : ℤ). width u *ℤ ((near p v n).y -ℤ u.a.y *ℤ pos (near p v n).bottom) -ℤ (u.b.y -ℤ u.a.y) *ℤ (z -ℤ u.a.x *ℤ pos (near p v n).bottom)) (at_bottom s.a.x n p.bottom ∙ plain (pos n) _ _ e)
    ∙ near_turn u p (record { x = pos 0; y = v.y }) n ∙ rest (pos n *ℤ place_turn u p) (width u *ℤ v.y) (u.b.y -ℤ u.a.y)
  where
    plain : (n a x : ℤ) → x ≡ a → n *ℤ a ≡ n *ℤ x +ℤ pos 0
    plain n a x e = ap (λ (z : ℤ). n *ℤ z) (sym e) ∙ zero (n *ℤ x)
      where
        zero : (a : ℤ) → a ≡ a +ℤ pos 0
        zero a = omega (arith, ints)

    rest : (a b h : ℤ) → a +ℤ (b -ℤ h *ℤ pos 0) ≡ a +ℤ b
    rest a b h = let none : h *ℤ pos 0 ≡ pos 0 = omega (arith, ints) in omega (arith, ints, none)

same_side : (rises falls here there near off : Bool) → (here ≡ true → near ≡ true) → (there ≡ true → off ≡ true) → (not (rises && here || falls && there) || (rises && near || falls && off)) ≡ true
same_side false false here there near off f g = refl
same_side false true here true near off f g = rw (g refl) refl
same_side false true here false near off f g = refl
same_side true false true there near off f g = rw (f refl) refl
same_side true true true there near off f g = rw (f refl) refl
same_side true false false there near off f g = refl
same_side true true false true near off f g = rw (g refl) (or_right near true refl)
same_side true true false false near off f g = refl

no_side : (rises falls here there near off : Bool) → rises ≡ false → falls ≡ false → (not (rises && here || falls && there) || (rises && near || falls && off)) ≡ true
no_side rises falls here there near off e f = rw (e, f) refl

pub on_left_at : (u : Pair) (q : RationalPoint) → pos 0 <ℤ place_turn u q → has_on_left u q ≡ true
on_left_at u q l = lt-test _ _ l

pub on_right_at : (u : Pair) (q : RationalPoint) → place_turn u q <ℤ pos 0 → has_on_right u q ≡ true
on_right_at u q l = lt-test _ _ l

pub not_left_at : (u : Pair) (q : RationalPoint) → place_turn u q ≤ℤ pos 0 → has_on_left u q ≡ false
not_left_at u q l = lt-test_false _ _ l

pub not_right_at : (u : Pair) (q : RationalPoint) → pos 0 ≤ℤ place_turn u q → has_on_right u q ≡ false
not_right_at u q l = lt-test_false _ _ l

from_false : (b c : Bool) → b ≡ false → b ≡ true → c ≡ true
from_false b c e f = absurd (both_ways b e f)

module _ (s : Pair) (v : Point) (n : ℕ) (u : Pair) (fine : IsFine s v n u) (p : RationalPoint) (some : 0 < p.bottom) (here : p.x ≡ s.a.x *ℤ pos p.bottom) (in_order : Before u.a u.b) where
  foot_left : pos 0 <ℤ place_turn u p → pos 0 <ℤ place_turn u (foot s (near p v n))
  foot_left l = subst (λ (z : ℤ). pos 0 <ℤ z) (sym (foot_turn s v n p u here)) (stays_positive (pos n) (place_turn u p) (width u *ℤ v.y) (count_some s v n u fine p) (above_abs _ n fine.level) l)

  foot_right : place_turn u p <ℤ pos 0 → place_turn u (foot s (near p v n)) <ℤ pos 0
  foot_right l = subst (λ (z : ℤ). z <ℤ pos 0) (sym (foot_turn s v n p u here)) (stays_negative (pos n) (place_turn u p) (width u *ℤ v.y) (count_some s v n u fine p) (below_abs _ n fine.level) l)

  -- what runs to the left of the foot runs to the left of the place
  stays_left : IsOff u p → (not (runs_left_of u (foot s (near p v n))) || runs_left_of u (near p v n)) ≡ true
  stays_left (inl l) =
      same_side (rises_past u (near p v n)) (falls_past u (near p v n)) (has_on_right u (foot s (near p v n))) (has_on_left u (foot s (near p v n))) (has_on_right u (near p v n)) (has_on_left u (near p v n))
      (λ _. on_right_at u (near p v n) (near_right s v n u fine p l)) (from_false _ _ (not_left_at u (foot s (near p v n)) (le_weak _ _ (foot_right l))))
  stays_left (inr (inl l)) =
      same_side (rises_past u (near p v n)) (falls_past u (near p v n)) (has_on_right u (foot s (near p v n))) (has_on_left u (foot s (near p v n))) (has_on_right u (near p v n)) (has_on_left u (near p v n))
      (from_false _ _ (not_right_at u (foot s (near p v n)) (le_weak _ _ (foot_left l)))) (λ _. on_left_at u (near p v n) (near_left s v n u fine p l))
  stays_left (inr (inr b)) =
      let level = near_off_level s v n u fine p (beyond_off_level u p some in_order b) in
      no_side (rises_past u (near p v n)) (falls_past u (near p v n)) (has_on_right u (foot s (near p v n))) (has_on_left u (foot s (near p v n))) (has_on_right u (near p v n)) (has_on_left u (near p v n))
      (not_rising u (near p v n) level) (not_falling u (near p v n) level)

  stays_right : IsOff u p → (not (runs_right_of u (foot s (near p v n))) || runs_right_of u (near p v n)) ≡ true
  stays_right (inl l) =
      same_side (rises_past u (near p v n)) (falls_past u (near p v n)) (has_on_left u (foot s (near p v n))) (has_on_right u (foot s (near p v n))) (has_on_left u (near p v n)) (has_on_right u (near p v n))
      (from_false _ _ (not_left_at u (foot s (near p v n)) (le_weak _ _ (foot_right l)))) (λ _. on_right_at u (near p v n) (near_right s v n u fine p l))
  stays_right (inr (inl l)) =
      same_side (rises_past u (near p v n)) (falls_past u (near p v n)) (has_on_left u (foot s (near p v n))) (has_on_right u (foot s (near p v n))) (has_on_left u (near p v n)) (has_on_right u (near p v n))
      (λ _. on_left_at u (near p v n) (near_left s v n u fine p l)) (from_false _ _ (not_right_at u (foot s (near p v n)) (le_weak _ _ (foot_left l))))
  stays_right (inr (inr b)) =
      let level = near_off_level s v n u fine p (beyond_off_level u p some in_order b) in
      no_side (rises_past u (near p v n)) (falls_past u (near p v n)) (has_on_left u (foot s (near p v n))) (has_on_right u (foot s (near p v n))) (has_on_left u (near p v n)) (has_on_right u (near p v n))
      (not_rising u (near p v n) level) (not_falling u (near p v n) level)

-- ---- a vertical segment

no_turn : (n z w y : ℤ) → z ≡ pos 0 → w ≡ pos 0 → n *ℤ z +ℤ w *ℤ y ≡ pos 0
no_turn n z w y e f = rw (e, f) (plain n y)
  where
    plain : (n y : ℤ) → n *ℤ pos 0 +ℤ pos 0 *ℤ y ≡ pos 0
    plain n y = rw (as_D n, as_D y) (simp diffs (D-eq _ _ _ _ (omega arith)))

left_way : (w h y x : ℤ) → w ≡ pos 0 → pos 0 <ℤ h → pos 0 <ℤ (w *ℤ y -ℤ h *ℤ x) → x <ℤ pos 0
left_way w h y x e up l = by_sign x (λ k. k) (λ f. absurd (still y h x f (subst (λ (z : ℤ). pos 0 <ℤ (z *ℤ y -ℤ h *ℤ x)) e l))) (λ k. absurd (back y (h *ℤ x) (mul-pos h x up k) (subst (λ (z : ℤ). pos 0 <ℤ (z *ℤ y -ℤ h *ℤ x)) e l)))
  where
    still : (y h x : ℤ) → x ≡ pos 0 → pos 0 <ℤ (pos 0 *ℤ y -ℤ h *ℤ x) → ⊥
    still y h x f l = let none = times_nothing h x f in let also : pos 0 *ℤ y ≡ pos 0 = omega (arith, ints) in omega (arith, ints, none, also, l)

    back : (y z : ℤ) → pos 0 <ℤ z → pos 0 <ℤ (pos 0 *ℤ y -ℤ z) → ⊥
    back y z k l = let also : pos 0 *ℤ y ≡ pos 0 = omega (arith, ints) in omega (arith, ints, also, k, l)

right_way : (w h y x : ℤ) → w ≡ pos 0 → pos 0 <ℤ h → (w *ℤ y -ℤ h *ℤ x) <ℤ pos 0 → pos 0 <ℤ x
right_way w h y x e up l = by_sign x (λ k. absurd (back y (h *ℤ x) (mul-neg h x up k) (subst (λ (z : ℤ). (z *ℤ y -ℤ h *ℤ x) <ℤ pos 0) e l))) (λ f. absurd (still y h x f (subst (λ (z : ℤ). (z *ℤ y -ℤ h *ℤ x) <ℤ pos 0) e l))) (λ k. k)
  where
    still : (y h x : ℤ) → x ≡ pos 0 → (pos 0 *ℤ y -ℤ h *ℤ x) <ℤ pos 0 → ⊥
    still y h x f l = let none = times_nothing h x f in let also : pos 0 *ℤ y ≡ pos 0 = omega (arith, ints) in omega (arith, ints, none, also, l)

    back : (y z : ℤ) → z <ℤ pos 0 → (pos 0 *ℤ y -ℤ z) <ℤ pos 0 → ⊥
    back y z k l = let also : pos 0 *ℤ y ≡ pos 0 = omega (arith, ints) in omega (arith, ints, also, k, l)

no_width : (a b : ℤ) → a ≡ b → b -ℤ a ≡ pos 0
no_width a b e = omega (arith, ints, e)

module _ (xs : List WholeSegment) (arranged : IsArranged xs) (s : WholeSegment) (m : Has xs s) (p : RationalPoint) (some : 0 < p.bottom) (i : IsInside s.pair p)
    (v : Point) (n : ℕ) (fine : (u : WholeSegment) → Has xs u → IsFine s.pair v n u.pair) (some_here : 0 < (near p v n).bottom) where
  before_of : (u : WholeSegment) → Has xs u → Before u.pair.a u.pair.b
  before_of = ordered xs arranged s m p some i v n fine

  off_of : (u : WholeSegment) → Has xs u → pair_eq u.pair s.pair ≡ false → IsOff u.pair p
  off_of = off xs arranged s m p some i v n fine

  module _ (upright : s.pair.a.x ≡ s.pair.b.x) (upward : s.pair.a.y <ℤ s.pair.b.y) where
    on_upright : p.x ≡ s.pair.a.x *ℤ pos p.bottom
    on_upright = upright_zero s.pair p upright upward i.on_line

    own_vertical : is_vertical s.pair ≡ true
    own_vertical = (Decides-int_eq s.pair.a.x s.pair.b.x).1 upright

    not_off : (a b : ℤ) → a ≡ b → a <ℤ b → ⊥
    not_off a b e l = omega (arith, ints, e, l)

    over_start : Before (enlarged p.bottom s.pair.a) (tops p) → (s.pair.a.y *ℤ pos p.bottom) <ℤ p.y
    over_start (inl l) = absurd (not_off _ _ (sym on_upright) l)
    over_start (inr r) = r.1

    under_end : Before (tops p) (enlarged p.bottom s.pair.b) → p.y <ℤ (s.pair.b.y *ℤ pos p.bottom)
    under_end (inl l) = absurd (not_off _ _ (on_upright ∙ ap (λ (z : ℤ). z *ℤ pos p.bottom) upright) l)
    under_end (inr r) = r.1

    is_level : is_level_with s.pair (near p v n) ≡ true
    is_level =
        let q = near p v n in
        and_from (int_lt (s.pair.a.y *ℤ pos q.bottom) q.y) (int_lt q.y (s.pair.b.y *ℤ pos q.bottom))
        (lt-test _ _ (after_in_y s.pair v n s.pair (fine s m) p s.pair.a.y (over_start i.after_a)))
        (lt-test _ _ (before_in_y s.pair v n s.pair (fine s m) p s.pair.b.y (under_end i.before_b)))

    at_x : (s.pair.a.x *ℤ pos (near p v n).bottom) ≡ pos n *ℤ p.x
    at_x = at_bottom s.pair.a.x n p.bottom ∙ ap (λ (z : ℤ). pos n *ℤ z) (sym on_upright)

    left_of_it : v.x <ℤ pos 0 → (near p v n).x <ℤ (s.pair.a.x *ℤ pos (near p v n).bottom)
    left_of_it l = plain _ _ v.x at_x l
      where
        plain : (a b e : ℤ) → a ≡ b → e <ℤ pos 0 → (b +ℤ e) <ℤ a
        plain a b e h l = omega (arith, ints, h, l)

    right_of_it : pos 0 <ℤ v.x → (s.pair.a.x *ℤ pos (near p v n).bottom) <ℤ (near p v n).x
    right_of_it l = plain _ _ v.x at_x l
      where
        plain : (a b e : ℤ) → a ≡ b → pos 0 <ℤ e → a <ℤ (b +ℤ e)
        plain a b e h l = omega (arith, ints, h, l)

    -- s itself has its foot on it
    own_foot : place_turn s.pair (foot s.pair (near p v n)) ≡ pos 0
    own_foot = foot_turn s.pair v n p s.pair on_upright ∙ no_turn (pos n) (place_turn s.pair p) (width s.pair) v.y i.on_line (no_width _ _ upright)

    zero_both : (z : ℤ) → z ≡ pos 0 → (z ≤ℤ pos 0) × (pos 0 ≤ℤ z)
    zero_both z e = (omega (arith, ints, e), omega (arith, ints, e))

    own_left : (not (runs_left_of s.pair (foot s.pair (near p v n))) || runs_left_of s.pair (near p v n)) ≡ true
    own_left =
        let both = zero_both _ own_foot in
        same_side (rises_past s.pair (near p v n)) (falls_past s.pair (near p v n)) (has_on_right s.pair (foot s.pair (near p v n))) (has_on_left s.pair (foot s.pair (near p v n))) (has_on_right s.pair (near p v n)) (has_on_left s.pair (near p v n))
        (from_false _ _ (not_right_at s.pair (foot s.pair (near p v n)) both.1)) (from_false _ _ (not_left_at s.pair (foot s.pair (near p v n)) both.0))

    own_right : (not (runs_right_of s.pair (foot s.pair (near p v n))) || runs_right_of s.pair (near p v n)) ≡ true
    own_right =
        let both = zero_both _ own_foot in
        same_side (rises_past s.pair (near p v n)) (falls_past s.pair (near p v n)) (has_on_left s.pair (foot s.pair (near p v n))) (has_on_right s.pair (foot s.pair (near p v n))) (has_on_left s.pair (near p v n)) (has_on_right s.pair (near p v n))
        (from_false _ _ (not_left_at s.pair (foot s.pair (near p v n)) both.0)) (from_false _ _ (not_right_at s.pair (foot s.pair (near p v n)) both.1))

    each_left : (u : WholeSegment) → Has xs u → (not (runs_left_of u.pair (foot s.pair (near p v n))) || runs_left_of u.pair (near p v n)) ≡ true
    each_left u h = elim (cases_Bool (pair_eq u.pair s.pair)) [
      | inl e ↦ subst (λ (r : Pair). (not (runs_left_of r (foot s.pair (near p v n))) || runs_left_of r (near p v n)) ≡ true) (sym (same_pair_by_eq u.pair s.pair e)) own_left
      | inr e ↦ stays_left s.pair v n u.pair (fine u h) p some on_upright (before_of u h) (off_of u h e)
    ]

    each_right : (u : WholeSegment) → Has xs u → (not (runs_right_of u.pair (foot s.pair (near p v n))) || runs_right_of u.pair (near p v n)) ≡ true
    each_right u h = elim (cases_Bool (pair_eq u.pair s.pair)) [
      | inl e ↦ subst (λ (r : Pair). (not (runs_right_of r (foot s.pair (near p v n))) || runs_right_of r (near p v n)) ≡ true) (sym (same_pair_by_eq u.pair s.pair e)) own_right
      | inr e ↦ stays_right s.pair v n u.pair (fine u h) p some on_upright (before_of u h) (off_of u h e)
    ]

    each_passes : (turn_by s.pair v ≡ pos 0 → ⊥) → (u : WholeSegment) → Has xs u → not (goes_through u.pair (near p v n)) ≡ true
    each_passes turned u h = ap not (elim (cases_Bool (pair_eq u.pair s.pair)) [
      | inl e ↦ subst (λ (r : Pair). goes_through r (near p v n) ≡ false) (sym (same_pair_by_eq u.pair s.pair e)) (passes_by_turn s.pair (near p v n) (λ z. turned (sym (own_turn s.pair v n p i) ∙ z)))
      | inr e ↦ off_passes s.pair v n u.pair (fine u h) p some some_here (before_of u h) (off_of u h e)
    ])

    is_left : pos 0 <ℤ turn_by s.pair v → IsTrue (is_directly_left xs s.pair (near p v n))
    unfolding is_directly_left
    is_left l =
        let q = near p v n in
        and_from (is_vertical s.pair && is_level_with s.pair q && int_lt q.x (s.pair.a.x *ℤ pos q.bottom) && list_all (λ t. not (goes_through t.pair q)) xs) _
        (and_from (is_vertical s.pair && is_level_with s.pair q && int_lt q.x (s.pair.a.x *ℤ pos q.bottom)) _
        (and_from (is_vertical s.pair && is_level_with s.pair q) _ (and_from (is_vertical s.pair) (is_level_with s.pair q) own_vertical is_level) (lt-test _ _ (left_of_it (left_way (width s.pair) (s.pair.b.y -ℤ s.pair.a.y) v.y v.x (no_width _ _ upright) (difference-pos _ _ upward) l))))
        (list_all-from_Has (λ t. not (goes_through t.pair q)) xs (each_passes (not_zero_up _ l))))
        (list_all-from_Has (λ t. not (runs_left_of t.pair (foot s.pair q)) || runs_left_of t.pair q) xs each_left)

    is_right : turn_by s.pair v <ℤ pos 0 → IsTrue (is_directly_right xs s.pair (near p v n))
    unfolding is_directly_right
    is_right l =
        let q = near p v n in
        and_from (is_vertical s.pair && is_level_with s.pair q && int_lt (s.pair.a.x *ℤ pos q.bottom) q.x && list_all (λ t. not (goes_through t.pair q)) xs) _
        (and_from (is_vertical s.pair && is_level_with s.pair q && int_lt (s.pair.a.x *ℤ pos q.bottom) q.x) _
        (and_from (is_vertical s.pair && is_level_with s.pair q) _ (and_from (is_vertical s.pair) (is_level_with s.pair q) own_vertical is_level) (lt-test _ _ (right_of_it (right_way (width s.pair) (s.pair.b.y -ℤ s.pair.a.y) v.y v.x (no_width _ _ upright) (difference-pos _ _ upward) l))))
        (list_all-from_Has (λ t. not (goes_through t.pair q)) xs (each_passes (not_zero_down _ l))))
        (list_all-from_Has (λ t. not (runs_right_of t.pair (foot s.pair q)) || runs_right_of t.pair q) xs each_right)

  -- ---- any segment

  pub near_top : pos 0 <ℤ turn_by s.pair v → IsTrue (is_on_top_of xs s.pair (near p v n))
  near_top l = elim (before_of s m) [
    | inl wide ↦ or_left (is_directly_above xs s.pair (near p v n)) (is_directly_left xs s.pair (near p v n)) (is_above xs arranged s m p some i v n fine wide l)
    | inr r ↦ or_right (is_directly_above xs s.pair (near p v n)) (is_directly_left xs s.pair (near p v n)) (is_left r.0 r.1 l)
  ]

  pub near_bottom : turn_by s.pair v <ℤ pos 0 → IsTrue (is_at_bottom_of xs s.pair (near p v n))
  near_bottom l = elim (before_of s m) [
    | inl wide ↦ or_left (is_directly_below xs s.pair (near p v n)) (is_directly_right xs s.pair (near p v n)) (is_below xs arranged s m p some i v n fine wide l)
    | inr r ↦ or_right (is_directly_below xs s.pair (near p v n)) (is_directly_right xs s.pair (near p v n)) (is_right r.0 r.1 l)
  ]
