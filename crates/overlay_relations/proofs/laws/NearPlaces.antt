-- Places near a place strictly inside a segment of an arrangement, in a given direction from it. All but finitely many parts of
-- that way lie directly beside the segment: whatever has the place on one side keeps it there, and what ends before the line
-- through it does so still.
use Rattle.std.proofs.Common.{◌≡◌, ap, refl, sym, subst, ◌∙◌, arith, ℕ, ◌+◌, ◌*◌, ◌<◌, inl, inr}
use Rattle.std.specs.Prelude.{ℤ, pos, negsuc, ◌+ℤ◌, ◌-ℤ◌, ◌*ℤ◌, neg_ℤ, ◌<ℤ◌, ◌≤ℤ◌, int_le, int_lt, unsigned_abs, IsTrue, Bool, true, false, not, ◌&&◌, ◌||◌, ◌⊎◌, List}
use Rattle.std.proofs.lemmas.Int.{ints}
use Rattle.std.proofs.lemmas.Bool.{and_from, and_parts, or_left, or_right, both_ways}
use Rattle.overlay_geometry.specs.Points.{Point, Pair, pair_eq}
use Rattle.overlay_geometry.specs.Below.{width}
use Rattle.overlay_geometry.proofs.laws.geometry.Polynomials.{as_D, diffs, D-eq, mul-nonneg, mul-nonpos, cancel-zero, difference-pos}
use Rattle.overlay_geometry.proofs.laws.geometry.Points.{Before, pair_eq_same}
use Rattle.overlay_geometry.proofs.laws.integers.Tests.{lt-test, lt-test_false, lt-tested, le-test, le-test_false, le-tested, le_weak}
use Rattle.overlay_geometry.proofs.laws.integers.Products.{times_nothing}
use Rattle.overlay_geometry.proofs.laws.lists.Lists.{Has, list_all-from_Has}
use Rattle.overlay_base.specs.Segments.{WholeSegment}
use Rattle.overlay_base.specs.Places.{RationalPoint, spans, height_at, runs_below, lies_below}
use Rattle.overlay_base.specs.Rays.{lies_above, place_turn}
use Rattle.overlay_sweep.proofs.laws.columns.ColumnLines.{point_lt-cases}
use Rattle.overlay_sweep.proofs.laws.columns.ColumnOrder.{is_apart}
use Rattle.overlay_sweep.proofs.laws.columns.Members.{IsArranged}
use Rattle.overlay_build.specs.Beside.{is_lower_at, is_directly_above, is_directly_below}
use Rattle.overlay_relations.proofs.laws.InsidePlaces.{enlarged, tops, IsInside, IsBeyondEnds, IsOff, off_others}

-- ---- numbers

pub below_abs : (z : ℤ) (n : ℕ) → unsigned_abs z < n → z <ℤ pos n
below_abs (pos k) n h = omega (arith, ints, h)
below_abs (negsuc k) n h = omega (arith, ints, h)

pub above_abs : (z : ℤ) (n : ℕ) → unsigned_abs z < n → neg_ℤ (pos n) <ℤ z
above_abs (pos k) n h = omega (arith, ints, h)
above_abs (negsuc k) n h = omega (arith, ints, h)

pub times_as : (k n : ℕ) → pos (k * n) ≡ pos k *ℤ pos n
times_as k n = simp diffs (D-eq _ _ _ _ (omega arith))

-- a number that is not 0, times n, keeps its sign where less than n is added
pub stays_negative : (n t e : ℤ) → pos 0 <ℤ n → e <ℤ n → t <ℤ pos 0 → (n *ℤ t +ℤ e) <ℤ pos 0
stays_negative n t e some small l = plain _ _ n e (more n t) (mul-nonpos n (t +ℤ pos 1) (le_weak _ _ some) (omega (arith, ints, l))) small
  where
    more : (n t : ℤ) → n *ℤ (t +ℤ pos 1) ≡ n *ℤ t +ℤ n
    more n t = rw (as_D n, as_D t) (simp diffs (D-eq _ _ _ _ (omega arith)))

    plain : (u v n e : ℤ) → v ≡ u +ℤ n → v ≤ℤ pos 0 → e <ℤ n → (u +ℤ e) <ℤ pos 0
    plain u v n e f h l = omega (arith, ints, f, h, l)

pub stays_positive : (n t e : ℤ) → pos 0 <ℤ n → neg_ℤ n <ℤ e → pos 0 <ℤ t → pos 0 <ℤ (n *ℤ t +ℤ e)
stays_positive n t e some great l = plain _ _ n e (less n t (pos 1)) (mul-nonneg n (t -ℤ pos 1) (le_weak _ _ some) (omega (arith, ints, l))) great
  where
    less : (n t one : ℤ) → n *ℤ (t -ℤ one) ≡ n *ℤ t -ℤ one *ℤ n
    less n t one = rw (as_D n, as_D t, as_D one) (simp diffs (D-eq _ _ _ _ (omega arith)))

    plain : (u v n e : ℤ) → v ≡ u -ℤ pos 1 *ℤ n → pos 0 ≤ℤ v → neg_ℤ n <ℤ e → pos 0 <ℤ (u +ℤ e)
    plain u v n e f h l = omega (arith, ints, f, h, l)

-- so an order is kept
stays_less : (n x a e : ℤ) → pos 0 <ℤ n → e <ℤ n → x <ℤ a → (n *ℤ x +ℤ e) <ℤ (n *ℤ a)
stays_less n x a e some small l = plain _ _ _ e (split n x a) (stays_negative n (x -ℤ a) e some small (omega (arith, ints, l)))
  where
    split : (n x a : ℤ) → n *ℤ (x -ℤ a) ≡ n *ℤ x -ℤ n *ℤ a
    split n x a = rw (as_D n, as_D x, as_D a) (simp diffs (D-eq _ _ _ _ (omega arith)))

    plain : (u v w e : ℤ) → u ≡ v -ℤ w → (u +ℤ e) <ℤ pos 0 → (v +ℤ e) <ℤ w
    plain u v w e f l = omega (arith, ints, f, l)

stays_more : (n x a e : ℤ) → pos 0 <ℤ n → neg_ℤ n <ℤ e → a <ℤ x → (n *ℤ a) <ℤ (n *ℤ x +ℤ e)
stays_more n x a e some great l = plain _ _ _ e (split n x a) (stays_positive n (x -ℤ a) e some great (omega (arith, ints, l)))
  where
    split : (n x a : ℤ) → n *ℤ (x -ℤ a) ≡ n *ℤ x -ℤ n *ℤ a
    split n x a = rw (as_D n, as_D x, as_D a) (simp diffs (D-eq _ _ _ _ (omega arith)))

    plain : (u v w e : ℤ) → u ≡ v -ℤ w → pos 0 <ℤ (u +ℤ e) → w <ℤ (v +ℤ e)
    plain u v w e f l = omega (arith, ints, f, l)

-- ---- a part of the way

-- one part of n of the way from p by v
abbrev pub near : RationalPoint → Point → ℕ → RationalPoint
near p v n = record { x = pos n *ℤ p.x +ℤ v.x; y = pos n *ℤ p.y +ℤ v.y; bottom = n * p.bottom }

-- how the turn of a pair to a place changes by a way
abbrev pub turn_by : Pair → Point → ℤ
turn_by u v = width u *ℤ v.y -ℤ (u.b.y -ℤ u.a.y) *ℤ v.x

-- a whole number at the bottom of that place
pub at_bottom : (a : ℤ) (n d : ℕ) → a *ℤ pos (n * d) ≡ pos n *ℤ (a *ℤ pos d)
at_bottom a n d = ap (λ (z : ℤ). a *ℤ z) (times_as n d) ∙ plain a (pos n) (pos d)
  where
    plain : (a n d : ℤ) → a *ℤ (n *ℤ d) ≡ n *ℤ (a *ℤ d)
    plain a n d = rw (as_D a, as_D n, as_D d) (simp diffs (D-eq _ _ _ _ (omega arith)))

from_whole : (a x e : ℤ) (n d : ℕ) → (pos n *ℤ x +ℤ e) -ℤ a *ℤ pos (n * d) ≡ pos n *ℤ (x -ℤ a *ℤ pos d) +ℤ e
from_whole a x e n d = plain (pos n) x (a *ℤ pos d) e _ (at_bottom a n d)
  where
    split : (n x b e : ℤ) → (n *ℤ x +ℤ e) -ℤ n *ℤ b ≡ n *ℤ (x -ℤ b) +ℤ e
    split n x b e = rw (as_D n, as_D x, as_D b, as_D e) (simp diffs (D-eq _ _ _ _ (omega arith)))

    plain : (n x b e c : ℤ) → c ≡ n *ℤ b → (n *ℤ x +ℤ e) -ℤ c ≡ n *ℤ (x -ℤ b) +ℤ e
    plain n x b e c h = rw h (split n x b e)

pub near_turn : (u : Pair) (p : RationalPoint) (v : Point) (n : ℕ) → place_turn u (near p v n) ≡ pos n *ℤ place_turn u p +ℤ turn_by u v
near_turn u p v n =
    plain (width u) (u.b.y -ℤ u.a.y) (p.y -ℤ u.a.y *ℤ pos p.bottom) (p.x -ℤ u.a.x *ℤ pos p.bottom) v.x v.y (pos n) _ _
    (from_whole u.a.y p.y v.y n p.bottom) (from_whole u.a.x p.x v.x n p.bottom)
  where
    split : (w h y x e f n : ℤ) → w *ℤ (n *ℤ y +ℤ f) -ℤ h *ℤ (n *ℤ x +ℤ e) ≡ n *ℤ (w *ℤ y -ℤ h *ℤ x) +ℤ (w *ℤ f -ℤ h *ℤ e)
    split w h y x e f n = rw (as_D w, as_D h, as_D y, as_D x, as_D e, as_D f, as_D n) (simp diffs (D-eq _ _ _ _ (omega arith)))

    plain : (w h y x e f n y' x' : ℤ) → y' ≡ n *ℤ y +ℤ f → x' ≡ n *ℤ x +ℤ e → w *ℤ y' -ℤ h *ℤ x' ≡ n *ℤ (w *ℤ y -ℤ h *ℤ x) +ℤ (w *ℤ f -ℤ h *ℤ e)
    plain w h y x e f n y' x' i j = rw (i, j) (split w h y x e f n)

turn_is_height : (s : Pair) (p : RationalPoint) → place_turn s p ≡ p.y *ℤ width s -ℤ height_at s p
turn_is_height s p = plain s.a.y s.a.x (width s) (s.b.y -ℤ s.a.y) p.x p.y (pos p.bottom)
  where
    plain : (ay ax w h x y d : ℤ) → w *ℤ (y -ℤ ay *ℤ d) -ℤ h *ℤ (x -ℤ ax *ℤ d) ≡ y *ℤ w -ℤ (ay *ℤ (w *ℤ d) +ℤ h *ℤ (x -ℤ ax *ℤ d))
    plain ay ax w h x y d = rw (as_D ay, as_D ax, as_D w, as_D h, as_D x, as_D y, as_D d) (simp diffs (D-eq _ _ _ _ (omega arith)))

pub runs_below-true : (s : Pair) (p : RationalPoint) → pos 0 <ℤ place_turn s p → runs_below s p ≡ true
runs_below-true s p l = lt-test (height_at s p) (p.y *ℤ width s) (plain (place_turn s p) (p.y *ℤ width s) (height_at s p) (turn_is_height s p) l)
  where
    plain : (t y h : ℤ) → t ≡ y -ℤ h → pos 0 <ℤ t → h <ℤ y
    plain t y h e l = omega (arith, ints, e, l)

pub runs_below-false : (s : Pair) (p : RationalPoint) → place_turn s p <ℤ pos 0 → runs_below s p ≡ false
runs_below-false s p l = lt-test_false (height_at s p) (p.y *ℤ width s) (plain (place_turn s p) (p.y *ℤ width s) (height_at s p) (turn_is_height s p) l)
  where
    plain : (t y h : ℤ) → t ≡ y -ℤ h → t <ℤ pos 0 → y ≤ℤ h
    plain t y h e l = omega (arith, ints, e, l)

runs_above : (s : Pair) (p : RationalPoint) → place_turn s p <ℤ pos 0 → int_lt (p.y *ℤ width s) (height_at s p) ≡ true
runs_above s p l = lt-test (p.y *ℤ width s) (height_at s p) (plain (place_turn s p) (p.y *ℤ width s) (height_at s p) (turn_is_height s p) l)
  where
    plain : (t y h : ℤ) → t ≡ y -ℤ h → t <ℤ pos 0 → y <ℤ h
    plain t y h e l = omega (arith, ints, e, l)

-- u is lower than s where its turn, times the width of s, is more
lower_by_turns : (p : RationalPoint) (u s : Pair) → (place_turn s p *ℤ width u) <ℤ (place_turn u p *ℤ width s) → is_lower_at p u s ≡ true
lower_by_turns p u s l = lt-test _ _ (plain (height_at u p) (height_at s p) (width u) (width s) p.y _ _ (turn_is_height u p) (turn_is_height s p) l)
  where
    ring : (hu hs wu ws y : ℤ) → (y *ℤ wu -ℤ hu) *ℤ ws -ℤ (y *ℤ ws -ℤ hs) *ℤ wu ≡ hs *ℤ wu -ℤ hu *ℤ ws
    ring hu hs wu ws y = rw (as_D hu, as_D hs, as_D wu, as_D ws, as_D y) (simp diffs (D-eq _ _ _ _ (omega arith)))

    order : (a b c d : ℤ) → a -ℤ b ≡ c -ℤ d → b <ℤ a → d <ℤ c
    order a b c d e l = omega (arith, ints, e, l)

    plain : (hu hs wu ws y tu ts : ℤ) → tu ≡ y *ℤ wu -ℤ hu → ts ≡ y *ℤ ws -ℤ hs → (ts *ℤ wu) <ℤ (tu *ℤ ws) → (hu *ℤ ws) <ℤ (hs *ℤ wu)
    plain hu hs wu ws y tu ts e f l = order (tu *ℤ ws) (ts *ℤ wu) _ _ (rw (e, f) (ring hu hs wu ws y)) l

-- ---- how small parts have to be

pub record IsFine (s : Pair) (v : Point) (n : ℕ) (u : Pair) : Type 0 where
  pub turned : unsigned_abs (turn_by u v) + unsigned_abs (turn_by s v *ℤ width u) < n
  pub in_x : unsigned_abs v.x < n
  pub in_y : unsigned_abs v.y < n
  pub level : unsigned_abs (width u *ℤ v.y) < n

abbrev pub fineness : Pair → Point → Pair → ℕ
fineness s v u = unsigned_abs (turn_by u v) + unsigned_abs (turn_by s v *ℤ width u) + unsigned_abs v.x + unsigned_abs v.y + unsigned_abs (width u *ℤ v.y)

pub fine_enough : (s : Pair) (v : Point) (n : ℕ) (u : Pair) → fineness s v u < n → IsFine s v n u
fine_enough s v n u h = record {
  turned = first _ _ _ _ _ n h;
  in_x = second _ _ _ _ _ n h;
  in_y = third _ _ _ _ _ n h;
  level = fourth _ _ _ _ _ n h;
}
  where
    first : (a b c d e n : ℕ) → a + b + c + d + e < n → a + b < n
    first a b c d e n h = omega (arith, h)

    second : (a b c d e n : ℕ) → a + b + c + d + e < n → c < n
    second a b c d e n h = omega (arith, h)

    third : (a b c d e n : ℕ) → a + b + c + d + e < n → d < n
    third a b c d e n h = omega (arith, h)

    fourth : (a b c d e n : ℕ) → a + b + c + d + e < n → e < n
    fourth a b c d e n h = omega (arith, h)

-- ---- one other segment

pub first_less : (a b n : ℕ) → a + b < n → a < n
first_less a b n h = omega (arith, h)

module _ (s : Pair) (v : Point) (n : ℕ) (u : Pair) (fine : IsFine s v n u) (p : RationalPoint) where
  pub count_some : pos 0 <ℤ pos n
  count_some = plain _ n fine.in_x
    where
      plain : (a n : ℕ) → a < n → pos 0 <ℤ pos n
      plain a n h = omega (arith, ints, h)

  turn_small : unsigned_abs (turn_by u v) < n
  turn_small = first_less _ _ n fine.turned

  pub near_left : pos 0 <ℤ place_turn u p → pos 0 <ℤ place_turn u (near p v n)
  near_left l = subst (λ (z : ℤ). pos 0 <ℤ z) (sym (near_turn u p v n)) (stays_positive (pos n) (place_turn u p) (turn_by u v) count_some (above_abs _ n turn_small) l)

  pub near_right : place_turn u p <ℤ pos 0 → place_turn u (near p v n) <ℤ pos 0
  near_right l = subst (λ (z : ℤ). z <ℤ pos 0) (sym (near_turn u p v n)) (stays_negative (pos n) (place_turn u p) (turn_by u v) count_some (below_abs _ n turn_small) l)

  -- ---- in x

  pub before_in_x : (a : ℤ) → p.x <ℤ (a *ℤ pos p.bottom) → (near p v n).x <ℤ (a *ℤ pos (near p v n).bottom)
  before_in_x a l = subst (λ (z : ℤ). (near p v n).x <ℤ z) (sym (at_bottom a n p.bottom)) (stays_less (pos n) p.x (a *ℤ pos p.bottom) v.x count_some (below_abs _ n fine.in_x) l)

  pub after_in_x : (a : ℤ) → (a *ℤ pos p.bottom) <ℤ p.x → (a *ℤ pos (near p v n).bottom) <ℤ (near p v n).x
  after_in_x a l = subst (λ (z : ℤ). z <ℤ (near p v n).x) (sym (at_bottom a n p.bottom)) (stays_more (pos n) p.x (a *ℤ pos p.bottom) v.x count_some (above_abs _ n fine.in_x) l)

  pub before_in_y : (a : ℤ) → p.y <ℤ (a *ℤ pos p.bottom) → (near p v n).y <ℤ (a *ℤ pos (near p v n).bottom)
  before_in_y a l = subst (λ (z : ℤ). (near p v n).y <ℤ z) (sym (at_bottom a n p.bottom)) (stays_less (pos n) p.y (a *ℤ pos p.bottom) v.y count_some (below_abs _ n fine.in_y) l)

  pub after_in_y : (a : ℤ) → (a *ℤ pos p.bottom) <ℤ p.y → (a *ℤ pos (near p v n).bottom) <ℤ (near p v n).y
  after_in_y a l = subst (λ (z : ℤ). z <ℤ (near p v n).y) (sym (at_bottom a n p.bottom)) (stays_more (pos n) p.y (a *ℤ pos p.bottom) v.y count_some (above_abs _ n fine.in_y) l)

-- ---- a line through a place, at the x of an end

-- on the line of a pair that is not vertical, at the x of its start, a place has the height of the start
turn_at_start : (w h y x : ℤ) → x ≡ pos 0 → w *ℤ y -ℤ h *ℤ x ≡ pos 0 → w *ℤ y ≡ pos 0
turn_at_start w h y x e t = let none = times_nothing h x e in omega (arith, ints, none, t)

at_start_level : (u : Pair) (p : RationalPoint) → u.a.x <ℤ u.b.x → place_turn u p ≡ pos 0 → p.x ≡ u.a.x *ℤ pos p.bottom → p.y ≡ u.a.y *ℤ pos p.bottom
at_start_level u p wide zero e =
    same _ _ (cancel-zero (width u) (p.y -ℤ u.a.y *ℤ pos p.bottom) (difference-pos _ _ wide) (turn_at_start (width u) (u.b.y -ℤ u.a.y) (p.y -ℤ u.a.y *ℤ pos p.bottom) (p.x -ℤ u.a.x *ℤ pos p.bottom) (none _ _ e) zero))
  where
    same : (a b : ℤ) → a -ℤ b ≡ pos 0 → a ≡ b
    same a b h = omega (arith, ints, h)

    none : (a b : ℤ) → a ≡ b → a -ℤ b ≡ pos 0
    none a b h = omega (arith, ints, h)

-- the same turn, seen from the other end
pub turn_from_b : (u : Pair) (p : RationalPoint) → place_turn u p ≡ width u *ℤ (p.y -ℤ u.b.y *ℤ pos p.bottom) -ℤ (u.b.y -ℤ u.a.y) *ℤ (p.x -ℤ u.b.x *ℤ pos p.bottom)
turn_from_b u p = plain u.a.x u.a.y u.b.x u.b.y p.x p.y (pos p.bottom)
  where
    plain : (ax ay bx by x y d : ℤ) → (bx -ℤ ax) *ℤ (y -ℤ ay *ℤ d) -ℤ (by -ℤ ay) *ℤ (x -ℤ ax *ℤ d) ≡ (bx -ℤ ax) *ℤ (y -ℤ by *ℤ d) -ℤ (by -ℤ ay) *ℤ (x -ℤ bx *ℤ d)
    plain ax ay bx by x y d = rw (as_D ax, as_D ay, as_D bx, as_D by, as_D x, as_D y, as_D d) (simp diffs (D-eq _ _ _ _ (omega arith)))

at_end_level : (u : Pair) (p : RationalPoint) → u.a.x <ℤ u.b.x → place_turn u p ≡ pos 0 → p.x ≡ u.b.x *ℤ pos p.bottom → p.y ≡ u.b.y *ℤ pos p.bottom
at_end_level u p wide zero e =
    same _ _ (cancel-zero (width u) (p.y -ℤ u.b.y *ℤ pos p.bottom) (difference-pos _ _ wide) (turn_at_start (width u) (u.b.y -ℤ u.a.y) (p.y -ℤ u.b.y *ℤ pos p.bottom) (p.x -ℤ u.b.x *ℤ pos p.bottom) (none _ _ e) (sym (turn_from_b u p) ∙ zero)))
  where
    same : (a b : ℤ) → a -ℤ b ≡ pos 0 → a ≡ b
    same a b h = omega (arith, ints, h)

    none : (a b : ℤ) → a ≡ b → a -ℤ b ≡ pos 0
    none a b h = omega (arith, ints, h)

-- so what comes before the start does so in x
pub strictly_before : (u : Pair) (p : RationalPoint) → u.a.x <ℤ u.b.x → place_turn u p ≡ pos 0 → Before (tops p) (enlarged p.bottom u.a) → p.x <ℤ (u.a.x *ℤ pos p.bottom)
strictly_before u p wide zero (inl l) = l
strictly_before u p wide zero (inr (e, l)) = absurd (off _ _ l (at_start_level u p wide zero e))
  where
    off : (a b : ℤ) → a <ℤ b → a ≡ b → ⊥
    off a b l e = omega (arith, ints, l, e)

pub strictly_after : (u : Pair) (p : RationalPoint) → u.a.x <ℤ u.b.x → place_turn u p ≡ pos 0 → Before (enlarged p.bottom u.b) (tops p) → (u.b.x *ℤ pos p.bottom) <ℤ p.x
strictly_after u p wide zero (inl l) = l
strictly_after u p wide zero (inr (e, l)) = absurd (off _ _ l (at_end_level u p wide zero (sym e)))
  where
    off : (a b : ℤ) → a <ℤ b → b ≡ a → ⊥
    off a b l e = omega (arith, ints, l, e)

-- and what lies inside lies inside in x
pub inside_after : (s : Pair) (p : RationalPoint) → s.a.x <ℤ s.b.x → IsInside s p → (s.a.x *ℤ pos p.bottom) <ℤ p.x
inside_after s p wide i = elim i.after_a [ inl l ↦ l | inr r ↦ absurd (off _ _ r.1 (at_start_level s p wide i.on_line (sym r.0))) ]
  where
    off : (a b : ℤ) → a <ℤ b → b ≡ a → ⊥
    off a b l e = omega (arith, ints, l, e)

pub inside_before : (s : Pair) (p : RationalPoint) → s.a.x <ℤ s.b.x → IsInside s p → p.x <ℤ (s.b.x *ℤ pos p.bottom)
inside_before s p wide i = elim i.before_b [ inl l ↦ l | inr r ↦ absurd (off _ _ r.1 (at_end_level s p wide i.on_line r.0)) ]
  where
    off : (a b : ℤ) → a <ℤ b → a ≡ b → ⊥
    off a b l e = omega (arith, ints, l, e)

pub upright_zero : (u : Pair) (p : RationalPoint) → u.a.x ≡ u.b.x → u.a.y <ℤ u.b.y → place_turn u p ≡ pos 0 → p.x ≡ u.a.x *ℤ pos p.bottom
upright_zero u p e up zero =
    same _ _ (cancel-zero (u.b.y -ℤ u.a.y) (p.x -ℤ u.a.x *ℤ pos p.bottom) (difference-pos _ _ up) (alone (width u) (u.b.y -ℤ u.a.y) (p.y -ℤ u.a.y *ℤ pos p.bottom) (p.x -ℤ u.a.x *ℤ pos p.bottom) (none _ _ e) zero))
  where
    same : (a b : ℤ) → a -ℤ b ≡ pos 0 → a ≡ b
    same a b h = omega (arith, ints, h)

    none : (a b : ℤ) → a ≡ b → b -ℤ a ≡ pos 0
    none a b h = omega (arith, ints, h)

    alone : (w h y x : ℤ) → w ≡ pos 0 → w *ℤ y -ℤ h *ℤ x ≡ pos 0 → h *ℤ x ≡ pos 0
    alone w h y x e t = let z : pos 0 *ℤ y -ℤ h *ℤ x ≡ pos 0 = rw e at t in omega (arith, ints, z)

-- ---- nothing that is beyond its ends spans the place near by

no_span_before : (u : Pair) (q : RationalPoint) → q.x <ℤ (u.a.x *ℤ pos q.bottom) → spans u q ≡ true → ⊥
no_span_before u q l h = both_ways _ (le-test_false _ _ l) (and_parts (int_le (u.a.x *ℤ pos q.bottom) q.x) (int_lt q.x (u.b.x *ℤ pos q.bottom)) h).0

no_span_after : (u : Pair) (q : RationalPoint) → (u.b.x *ℤ pos q.bottom) <ℤ q.x → spans u q ≡ true → ⊥
no_span_after u q l h = both_ways _ (lt-test_false _ _ (le_weak _ _ l)) (and_parts (int_le (u.a.x *ℤ pos q.bottom) q.x) (int_lt q.x (u.b.x *ℤ pos q.bottom)) h).1

no_span_upright : (u : Pair) (q : RationalPoint) → u.a.x ≡ u.b.x → spans u q ≡ true → ⊥
no_span_upright u q e h =
    let parts = and_parts (int_le (u.a.x *ℤ pos q.bottom) q.x) (int_lt q.x (u.b.x *ℤ pos q.bottom)) h in
    off _ _ _ (le-tested _ _ parts.0) (lt-tested _ _ parts.1) (ap (λ (z : ℤ). z *ℤ pos q.bottom) e)
  where
    off : (a b x : ℤ) → a ≤ℤ x → x <ℤ b → a ≡ b → ⊥
    off a b x h l e = omega (arith, ints, h, l, e)

module _ (s : Pair) (v : Point) (n : ℕ) (u : Pair) (fine : IsFine s v n u) (p : RationalPoint) (ordered : Before u.a u.b) where
  pub no_span_beyond : IsBeyondEnds u p → spans u (near p v n) ≡ true → ⊥
  no_span_beyond (zero, where_it_is) = elim ordered [
    | inl wide ↦ elim where_it_is [
      | inl l ↦ no_span_before u (near p v n) (before_in_x s v n u fine p u.a.x (strictly_before u p wide zero l))
      | inr l ↦ no_span_after u (near p v n) (after_in_x s v n u fine p u.b.x (strictly_after u p wide zero l))
    ]
    | inr r ↦ no_span_upright u (near p v n) r.0
  ]

-- ---- lower and higher

-- a number beyond another by more than its size, times a number above 0
times_beyond : (z w e : ℤ) → pos 0 <ℤ w → pos 0 <ℤ z → e <ℤ z → e <ℤ (z *ℤ w)
times_beyond z w e hw hz l = plain _ z _ e (split z w (pos 1)) (mul-nonneg z (w -ℤ pos 1) (le_weak _ _ hz) (omega (arith, ints, hw))) l
  where
    split : (z w one : ℤ) → z *ℤ (w -ℤ one) ≡ z *ℤ w -ℤ one *ℤ z
    split z w one = rw (as_D z, as_D w, as_D one) (simp diffs (D-eq _ _ _ _ (omega arith)))

    plain : (a z b e : ℤ) → a ≡ b -ℤ pos 1 *ℤ z → pos 0 ≤ℤ a → e <ℤ z → e <ℤ b
    plain a z b e f h l = omega (arith, ints, f, h, l)

times_beyond_back : (z w e : ℤ) → pos 0 <ℤ w → z <ℤ pos 0 → z <ℤ e → (z *ℤ w) <ℤ e
times_beyond_back z w e hw hz l = plain _ z _ e (split z w (pos 1)) (mul-nonpos_here z (w -ℤ pos 1) (omega (arith, ints, hw)) (le_weak _ _ hz)) l
  where
    split : (z w one : ℤ) → z *ℤ (w -ℤ one) ≡ z *ℤ w -ℤ one *ℤ z
    split z w one = rw (as_D z, as_D w, as_D one) (simp diffs (D-eq _ _ _ _ (omega arith)))

    turned : (a b : ℤ) → a *ℤ b ≡ b *ℤ a
    turned a b = rw (as_D a, as_D b) (simp diffs (D-eq _ _ _ _ (omega arith)))

    mul-nonpos_here : (a b : ℤ) → pos 0 ≤ℤ b → a ≤ℤ pos 0 → (a *ℤ b) ≤ℤ pos 0
    mul-nonpos_here a b h k = subst (λ (z : ℤ). z ≤ℤ pos 0) (turned b a) (mul-nonpos b a h k)

    plain : (a z b e : ℤ) → a ≡ b -ℤ pos 1 *ℤ z → a ≤ℤ pos 0 → z <ℤ e → b <ℤ e
    plain a z b e f h l = omega (arith, ints, f, h, l)

-- a turn that is not 0, times n, with what is added, exceeds what s has
exceeds : (n : ℕ) (t e f : ℤ) → unsigned_abs e + unsigned_abs f < n → pos 0 <ℤ t → f <ℤ (pos n *ℤ t +ℤ e)
exceeds n t e f h l = plain n e f _ (up n t l) (sizes e f n h)
  where
    up : (n : ℕ) (t : ℤ) → pos 0 <ℤ t → pos n ≤ℤ (pos n *ℤ t)
    up n t l = rest (pos n *ℤ (t -ℤ pos 1)) (pos n *ℤ t) (pos n) (split (pos n) t (pos 1)) (mul-nonneg (pos n) (t -ℤ pos 1) (omega (arith, ints)) (omega (arith, ints, l)))
      where
        split : (n t one : ℤ) → n *ℤ (t -ℤ one) ≡ n *ℤ t -ℤ one *ℤ n
        split n t one = rw (as_D n, as_D t, as_D one) (simp diffs (D-eq _ _ _ _ (omega arith)))

        rest : (a b n : ℤ) → a ≡ b -ℤ pos 1 *ℤ n → pos 0 ≤ℤ a → n ≤ℤ b
        rest a b n e h = omega (arith, ints, e, h)

    sizes : (e f : ℤ) (n : ℕ) → unsigned_abs e + unsigned_abs f < n → (f -ℤ e) <ℤ pos n
    sizes (pos a) (pos b) n h = omega (arith, ints, h)
    sizes (pos a) (negsuc b) n h = omega (arith, ints, h)
    sizes (negsuc a) (pos b) n h = omega (arith, ints, h)
    sizes (negsuc a) (negsuc b) n h = omega (arith, ints, h)

    plain : (n : ℕ) (e f z : ℤ) → pos n ≤ℤ z → (f -ℤ e) <ℤ pos n → f <ℤ (z +ℤ e)
    plain n e f z h l = omega (arith, ints, h, l)

falls_short : (n : ℕ) (t e f : ℤ) → unsigned_abs e + unsigned_abs f < n → t <ℤ pos 0 → (pos n *ℤ t +ℤ e) <ℤ f
falls_short n t e f h l = plain n e f _ (down n t l) (sizes e f n h)
  where
    down : (n : ℕ) (t : ℤ) → t <ℤ pos 0 → (pos n *ℤ t) ≤ℤ neg_ℤ (pos n)
    down n t l = rest (pos n *ℤ (t +ℤ pos 1)) (pos n *ℤ t) (pos n) (split (pos n) t (pos 1)) (mul-nonpos (pos n) (t +ℤ pos 1) (omega (arith, ints)) (omega (arith, ints, l)))
      where
        split : (n t one : ℤ) → n *ℤ (t +ℤ one) ≡ n *ℤ t +ℤ one *ℤ n
        split n t one = rw (as_D n, as_D t, as_D one) (simp diffs (D-eq _ _ _ _ (omega arith)))

        rest : (a b n : ℤ) → a ≡ b +ℤ pos 1 *ℤ n → a ≤ℤ pos 0 → b ≤ℤ neg_ℤ n
        rest a b n e h = omega (arith, ints, e, h)

    sizes : (e f : ℤ) (n : ℕ) → unsigned_abs e + unsigned_abs f < n → (e -ℤ f) <ℤ pos n
    sizes (pos a) (pos b) n h = omega (arith, ints, h)
    sizes (pos a) (negsuc b) n h = omega (arith, ints, h)
    sizes (negsuc a) (pos b) n h = omega (arith, ints, h)
    sizes (negsuc a) (negsuc b) n h = omega (arith, ints, h)

    plain : (n : ℕ) (e f z : ℤ) → z ≤ℤ neg_ℤ (pos n) → (e -ℤ f) <ℤ pos n → (z +ℤ e) <ℤ f
    plain n e f z h l = omega (arith, ints, h, l)

pub own_turn : (s : Pair) (v : Point) (n : ℕ) (p : RationalPoint) → IsInside s p → place_turn s (near p v n) ≡ turn_by s v
own_turn s v n p i = near_turn s p v n ∙ plain _ _ (times_nothing (pos n) (place_turn s p) i.on_line)
  where
    plain : (z e : ℤ) → z ≡ pos 0 → z +ℤ e ≡ e
    plain z e h = omega (arith, ints, h)

module _ (s : Pair) (v : Point) (n : ℕ) (u : Pair) (fine : IsFine s v n u) (p : RationalPoint) (i : IsInside s p) (wide : s.a.x <ℤ s.b.x) where
  near_is_lower : pos 0 <ℤ place_turn u p → is_lower_at (near p v n) u s ≡ true
  near_is_lower l =
      lower_by_turns (near p v n) u s
      (subst (λ (z : ℤ). (z *ℤ width u) <ℤ (place_turn u (near p v n) *ℤ width s)) (sym (own_turn s v n p i))
      (times_beyond (place_turn u (near p v n)) (width s) (turn_by s v *ℤ width u) (difference-pos _ _ wide) (near_left s v n u fine p l)
      (subst (λ (z : ℤ). (turn_by s v *ℤ width u) <ℤ z) (sym (near_turn u p v n)) (exceeds n (place_turn u p) (turn_by u v) (turn_by s v *ℤ width u) fine.turned l))))

  near_is_higher : place_turn u p <ℤ pos 0 → is_lower_at (near p v n) s u ≡ true
  near_is_higher l =
      lower_by_turns (near p v n) s u
      (subst (λ (z : ℤ). (place_turn u (near p v n) *ℤ width s) <ℤ (z *ℤ width u)) (sym (own_turn s v n p i))
      (times_beyond_back (place_turn u (near p v n)) (width s) (turn_by s v *ℤ width u) (difference-pos _ _ wide) (near_right s v n u fine p l)
      (subst (λ (z : ℤ). z <ℤ (turn_by s v *ℤ width u)) (sym (near_turn u p v n)) (falls_short n (place_turn u p) (turn_by u v) (turn_by s v *ℤ width u) fine.turned l))))

-- ---- directly above and below, of a segment that is not vertical

above_test : (same there low lower : Bool) → (same ≡ false → there ≡ true → (low ≡ false) ⊎ (lower ≡ true)) → (same || not (there && low) || lower) ≡ true
above_test true there low lower h = refl
above_test false false low lower h = refl
above_test false true low lower h = elim (h refl refl) [ inl e ↦ rw e refl | inr e ↦ or_right (not low) lower e ]

below_test : (same there low lower : Bool) → (same ≡ false → there ≡ true → (low ≡ true) ⊎ (lower ≡ true)) → (same || not there || low || lower) ≡ true
below_test true there low lower h = refl
below_test false false low lower h = refl
below_test false true low lower h = elim (h refl refl) [ inl e ↦ or_left low lower e | inr e ↦ or_right low lower e ]

module _ (xs : List WholeSegment) (arranged : IsArranged xs) (s : WholeSegment) (m : Has xs s) (p : RationalPoint) (some : 0 < p.bottom) (i : IsInside s.pair p)
    (v : Point) (n : ℕ) (fine : (u : WholeSegment) → Has xs u → IsFine s.pair v n u.pair) where
  pub ordered : (u : WholeSegment) → Has xs u → Before u.pair.a u.pair.b
  ordered u h = point_lt-cases u.pair.a u.pair.b (arranged.ordered u h)

  pub another : (u : Pair) → pair_eq u s.pair ≡ false → s.pair ≡ u → ⊥
  another u e q = both_ways _ e (ap (λ (r : Pair). pair_eq r s.pair) (sym q) ∙ pair_eq_same s.pair)

  pub off : (u : WholeSegment) → Has xs u → pair_eq u.pair s.pair ≡ false → IsOff u.pair p
  off u h e = off_others s.pair u.pair p some (ordered s m) (ordered u h) i (is_apart s.pair u.pair (arranged.apart s u m h)) (another u.pair e)

  module _ (wide : s.pair.a.x <ℤ s.pair.b.x) where
    own_spanned : spans s.pair (near p v n) ≡ true
    own_spanned =
        let q = near p v n in
        and_from (int_le (s.pair.a.x *ℤ pos q.bottom) q.x) (int_lt q.x (s.pair.b.x *ℤ pos q.bottom))
        (le-test _ _ (le_weak _ _ (after_in_x s.pair v n s.pair (fine s m) p s.pair.a.x (inside_after s.pair p wide i))))
        (lt-test _ _ (before_in_x s.pair v n s.pair (fine s m) p s.pair.b.x (inside_before s.pair p wide i)))

    above_parts : (u : WholeSegment) → Has xs u → pair_eq u.pair s.pair ≡ false → spans u.pair (near p v n) ≡ true → (runs_below u.pair (near p v n) ≡ false) ⊎ (is_lower_at (near p v n) u.pair s.pair ≡ true)
    above_parts u h e spanned = elim (off u h e) [
      | inl l ↦ inl (runs_below-false u.pair (near p v n) (near_right s.pair v n u.pair (fine u h) p l))
      | inr (inl l) ↦ inr (near_is_lower s.pair v n u.pair (fine u h) p i wide l)
      | inr (inr b) ↦ absurd (no_span_beyond s.pair v n u.pair (fine u h) p (ordered u h) b spanned)
    ]

    below_parts : (u : WholeSegment) → Has xs u → pair_eq u.pair s.pair ≡ false → spans u.pair (near p v n) ≡ true → (runs_below u.pair (near p v n) ≡ true) ⊎ (is_lower_at (near p v n) s.pair u.pair ≡ true)
    below_parts u h e spanned = elim (off u h e) [
      | inl l ↦ inr (near_is_higher s.pair v n u.pair (fine u h) p i wide l)
      | inr (inl l) ↦ inl (runs_below-true u.pair (near p v n) (near_left s.pair v n u.pair (fine u h) p l))
      | inr (inr b) ↦ absurd (no_span_beyond s.pair v n u.pair (fine u h) p (ordered u h) b spanned)
    ]

    pub is_above : pos 0 <ℤ turn_by s.pair v → IsTrue (is_directly_above xs s.pair (near p v n))
    unfolding is_directly_above
    is_above l =
        let q = near p v n in
        and_from (lies_below s.pair q) _
        (and_from (spans s.pair q) (runs_below s.pair q) own_spanned (runs_below-true s.pair q (subst (λ (z : ℤ). pos 0 <ℤ z) (sym (own_turn s.pair v n p i)) l)))
        (list_all-from_Has (λ t. pair_eq t.pair s.pair || not (lies_below t.pair q) || is_lower_at q t.pair s.pair) xs
        (λ u h. above_test (pair_eq u.pair s.pair) (spans u.pair q) (runs_below u.pair q) (is_lower_at q u.pair s.pair) (above_parts u h)))

    pub is_below : turn_by s.pair v <ℤ pos 0 → IsTrue (is_directly_below xs s.pair (near p v n))
    unfolding is_directly_below
    is_below l =
        let q = near p v n in
        and_from (lies_above s.pair q) _
        (and_from (spans s.pair q) (int_lt (q.y *ℤ width s.pair) (height_at s.pair q)) own_spanned (runs_above s.pair q (subst (λ (z : ℤ). z <ℤ pos 0) (sym (own_turn s.pair v n p i)) l)))
        (list_all-from_Has (λ t. pair_eq t.pair s.pair || not (spans t.pair q) || runs_below t.pair q || is_lower_at q s.pair t.pair) xs
        (λ u h. below_test (pair_eq u.pair s.pair) (spans u.pair q) (runs_below u.pair q) (is_lower_at q s.pair u.pair) (below_parts u h)))
