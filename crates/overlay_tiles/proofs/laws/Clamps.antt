-- A step that lies in a tile, or on one side of it, winds around the points of the tile as before when its ends are clamped.
use Rattle.std.proofs.Common.{◌≡◌, refl, sym, ap, ap₂, ◌∙◌, ℕ, Bool, true, false, ◌&&◌, arith}
use Rattle.std.specs.Prelude.{ℤ, pos, negsuc, ◌+ℤ◌, ◌-ℤ◌, ◌*ℤ◌, ◌≤ℤ◌, ◌<ℤ◌, int_le, int_lt, if◌then◌else◌, IsTrue}
use Rattle.std.proofs.lemmas.Int.{ints, by_lt_z}
use Rattle.std.proofs.lemmas.Bool.{and_parts}
use Rattle.overlay_geometry.specs.Points.{Point, Pair}
use Rattle.overlay_geometry.specs.Ranges.{Rect}
use Rattle.overlay_geometry.specs.Below.{width}
use Rattle.overlay_geometry.proofs.laws.geometry.Polynomials.{as_D, diffs, D-eq, mul-le_left, mul-lt_left}
use Rattle.overlay_geometry.proofs.laws.integers.Tests.{le-test, le-test_false, lt-test, lt-test_false, le-tested, lt-tested, le_itself, le_through, lt_through}
use Rattle.overlay_geometry.proofs.laws.integers.Products.{plus_le, scaled_le}
use Rattle.overlay_base.specs.Places.{RationalPoint, spans, height_at, runs_below, lies_below}
use Rattle.overlay_contours.specs.Contours.{turned, step_winding}
use Rattle.overlay_tiles.specs.Tiles.{IsTile, BelongsToTile, clamped, clamp}

-- both ends of a pair, clamped
abbrev pub clamp_pair : Rect → Pair → Pair
clamp_pair tile s = record { a = clamp tile s.a; b = clamp tile s.b }

-- ---- a clamped number

pub clamped_low : (l g z : ℤ) → l ≤ℤ g → z ≤ℤ l → clamped l g z ≡ l
clamped_low l g z le h =
    by_lt_z z l
    (λ (less : z <ℤ l). rw (lt-test z l less) refl)
    (λ (more : l ≤ℤ z). let e : z ≡ l = omega (arith, ints, h, more) in rw (e, lt-test_false l l (le_itself l), lt-test_false g l le) refl)

pub clamped_high : (l g z : ℤ) → l ≤ℤ g → g ≤ℤ z → clamped l g z ≡ g
clamped_high l g z le h =
    by_lt_z g z
    (λ (less : g <ℤ z). rw (lt-test_false z l (omega (arith, ints, le, less)), lt-test g z less) refl)
    (λ (more : z ≤ℤ g). let e : z ≡ g = omega (arith, ints, h, more) in rw (e, lt-test_false g l le, lt-test_false g g (le_itself g)) refl)

pub clamped_amid : (l g z : ℤ) → l ≤ℤ z → z ≤ℤ g → clamped l g z ≡ z
clamped_amid l g z h k = rw (lt-test_false z l h, lt-test_false g z k) refl

-- it lies in the range
pub clamped_in_range : (l g z : ℤ) → l ≤ℤ g → (l ≤ℤ clamped l g z) × (clamped l g z ≤ℤ g)
clamped_in_range l g z le =
    by_lt_z z l
    (λ (less : z <ℤ l). rw (lt-test z l less) (le_itself l, le))
    (λ (from : l ≤ℤ z). by_lt_z g z
    (λ (more : g <ℤ z). rw (lt-test_false z l from, lt-test g z more) (le, le_itself g))
    (λ (to : z ≤ℤ g). rw (lt-test_false z l from, lt-test_false g z to) (from, to)))

-- it is to the left of a point of the tile, or to its right, where the number is
starts_alike : (l g z x : ℤ) (n : ℕ) → l ≤ℤ g → (l *ℤ pos n) ≤ℤ x → x <ℤ (g *ℤ pos n) → int_le (clamped l g z *ℤ pos n) x ≡ int_le (z *ℤ pos n) x
starts_alike l g z x n le low high =
    by_lt_z z l
    (λ (less : z <ℤ l). let to : z ≤ℤ l = omega (arith, ints, less) in
    rw (clamped_low l g z le to, le-test (l *ℤ pos n) x low, le-test (z *ℤ pos n) x (le_through _ _ _ (scaled_le z l n to) low)) refl)
    (λ (from : l ≤ℤ z). by_lt_z g z
    (λ (more : g <ℤ z). let to : g ≤ℤ z = omega (arith, ints, more) in
    rw (clamped_high l g z le to, le-test_false (g *ℤ pos n) x high, le-test_false (z *ℤ pos n) x (lt_through _ _ _ high (scaled_le g z n to))) refl)
    (λ (to : z ≤ℤ g). ap (λ (w : ℤ). int_le (w *ℤ pos n) x) (clamped_amid l g z from to)))

ends_alike : (l g z x : ℤ) (n : ℕ) → l ≤ℤ g → (l *ℤ pos n) ≤ℤ x → x <ℤ (g *ℤ pos n) → int_lt x (clamped l g z *ℤ pos n) ≡ int_lt x (z *ℤ pos n)
ends_alike l g z x n le low high =
    by_lt_z z l
    (λ (less : z <ℤ l). let to : z ≤ℤ l = omega (arith, ints, less) in
    rw (clamped_low l g z le to, lt-test_false x (l *ℤ pos n) low, lt-test_false x (z *ℤ pos n) (le_through _ _ _ (scaled_le z l n to) low)) refl)
    (λ (from : l ≤ℤ z). by_lt_z g z
    (λ (more : g <ℤ z). let to : g ≤ℤ z = omega (arith, ints, more) in
    rw (clamped_high l g z le to, lt-test x (g *ℤ pos n) high, lt-test x (z *ℤ pos n) (lt_through _ _ _ high (scaled_le g z n to))) refl)
    (λ (to : z ≤ℤ g). ap (λ (w : ℤ). int_lt x (w *ℤ pos n)) (clamped_amid l g z from to)))

-- so the vertical line through a point of the tile meets a clamped pair exactly where it meets the pair
pub spans_alike : (tile : Rect) (s : Pair) (p : RationalPoint) → IsTile tile → BelongsToTile tile p → spans (clamp_pair tile s) p ≡ spans s p
spans_alike tile s p is at =
    let le : tile.min_x ≤ℤ tile.max_x = weak tile.min_x tile.max_x is.wide in
    ap₂ (λ (u v : Bool). u && v) (starts_alike tile.min_x tile.max_x s.a.x p.x p.bottom le at.from_left at.to_right) (ends_alike tile.min_x tile.max_x s.b.x p.x p.bottom le at.from_left at.to_right)
  where
    weak : (u v : ℤ) → u <ℤ v → u ≤ℤ v
    weak u v h = omega (arith, ints, h)

-- ---- heights

-- the line meets s to the right of its start, and to the left of its end
is_wide : (a b x : ℤ) (n : ℕ) → (a *ℤ pos n) ≤ℤ x → x <ℤ (b *ℤ pos n) → a <ℤ b
is_wide a b x n h k = by_lt_z a b (λ (less : a <ℤ b). less) (λ (more : b ≤ℤ a). absurd (let back = scaled_le b a n more in omega (arith, ints, back, h, k)))

-- the height as a mean of those of the two ends
as_mean : (c d a b x : ℤ) (n : ℕ) → c *ℤ ((b -ℤ a) *ℤ pos n) +ℤ (d -ℤ c) *ℤ (x -ℤ a *ℤ pos n) ≡ (b *ℤ pos n -ℤ x) *ℤ c +ℤ (x -ℤ a *ℤ pos n) *ℤ d
as_mean c d a b x n = rw (as_D c, as_D d, as_D a, as_D b, as_D x) (simp diffs (D-eq _ _ _ _ (omega arith)))

of_one : (m a b x : ℤ) (n : ℕ) → (b *ℤ pos n -ℤ x) *ℤ m +ℤ (x -ℤ a *ℤ pos n) *ℤ m ≡ (b -ℤ a) *ℤ (m *ℤ pos n)
of_one m a b x n = rw (as_D m, as_D a, as_D b, as_D x) (simp diffs (D-eq _ _ _ _ (omega arith)))

before_end : (x e : ℤ) → x <ℤ e → pos 0 ≤ℤ (e -ℤ x)
before_end x e h = omega (arith, ints, h)

after_start : (x e : ℤ) → e ≤ℤ x → pos 0 ≤ℤ (x -ℤ e)
after_start x e h = omega (arith, ints, h)

positive : (a b : ℤ) → a <ℤ b → pos 0 <ℤ (b -ℤ a)
positive a b h = omega (arith, ints, h)

times_turned : (u v : ℤ) → u *ℤ v ≡ v *ℤ u
times_turned u v = omega (arith, ints)

-- below a line along the axis that is below the point
pub below_level : (m : ℤ) (s : Pair) (p : RationalPoint) → s.a.y ≤ℤ m → s.b.y ≤ℤ m → (m *ℤ pos p.bottom) <ℤ p.y → IsTrue (spans s p) → runs_below s p ≡ true
below_level m s p start end above met =
    let parts = and_parts (int_le (s.a.x *ℤ pos p.bottom) p.x) (int_lt p.x (s.b.x *ℤ pos p.bottom)) met in
    let from = le-tested (s.a.x *ℤ pos p.bottom) p.x parts.0 in
    let to = lt-tested p.x (s.b.x *ℤ pos p.bottom) parts.1 in
    let wide = is_wide s.a.x s.b.x p.x p.bottom from to in
    let first = mul-le_left (s.b.x *ℤ pos p.bottom -ℤ p.x) s.a.y m (before_end p.x _ to) start in
    let second = mul-le_left (p.x -ℤ s.a.x *ℤ pos p.bottom) s.b.y m (after_start p.x _ from) end in
    let together = plus_le _ _ _ _ first second in
    let under = mul-lt_left (s.b.x -ℤ s.a.x) (m *ℤ pos p.bottom) p.y (positive s.a.x s.b.x wide) above in
    lt-test (height_at s p) (p.y *ℤ width s)
    (rw (as_mean s.a.y s.b.y s.a.x s.b.x p.x p.bottom, times_turned p.y (width s)) (lt_of _ _ _ (rw (of_one m s.a.x s.b.x p.x p.bottom) at together) under))
  where
    lt_of : (u v w : ℤ) → u ≤ℤ v → v <ℤ w → u <ℤ w
    lt_of u v w h k = omega (arith, ints, h, k)

-- not below where it is above
pub above_level : (m : ℤ) (s : Pair) (p : RationalPoint) → m ≤ℤ s.a.y → m ≤ℤ s.b.y → p.y ≤ℤ (m *ℤ pos p.bottom) → IsTrue (spans s p) → runs_below s p ≡ false
above_level m s p start end below met =
    let parts = and_parts (int_le (s.a.x *ℤ pos p.bottom) p.x) (int_lt p.x (s.b.x *ℤ pos p.bottom)) met in
    let from = le-tested (s.a.x *ℤ pos p.bottom) p.x parts.0 in
    let to = lt-tested p.x (s.b.x *ℤ pos p.bottom) parts.1 in
    let wide = is_wide s.a.x s.b.x p.x p.bottom from to in
    let first = mul-le_left (s.b.x *ℤ pos p.bottom -ℤ p.x) m s.a.y (before_end p.x _ to) start in
    let second = mul-le_left (p.x -ℤ s.a.x *ℤ pos p.bottom) m s.b.y (after_start p.x _ from) end in
    let together = plus_le _ _ _ _ first second in
    let over = mul-le_left (s.b.x -ℤ s.a.x) p.y (m *ℤ pos p.bottom) (nonneg s.a.x s.b.x wide) below in
    lt-test_false (height_at s p) (p.y *ℤ width s)
    (rw (as_mean s.a.y s.b.y s.a.x s.b.x p.x p.bottom, times_turned p.y (width s)) (le_through _ _ _ over (rw (of_one m s.a.x s.b.x p.x p.bottom) at together)))
  where
    nonneg : (a b : ℤ) → a <ℤ b → pos 0 ≤ℤ (b -ℤ a)
    nonneg a b h = omega (arith, ints, h)

-- ---- pairs in a tile, and beside it

-- Both points lie in the tile, or both to the left of it, to the right, below or above, its border included.
pub data IsBeside (tile : Rect) (u v : Point) : Type 0 where
  inside : (tile.min_x ≤ℤ u.x) × (u.x ≤ℤ tile.max_x) × (tile.min_y ≤ℤ u.y) × (u.y ≤ℤ tile.max_y) → (tile.min_x ≤ℤ v.x) × (v.x ≤ℤ tile.max_x) × (tile.min_y ≤ℤ v.y) × (v.y ≤ℤ tile.max_y) → IsBeside tile u v
  on_left : u.x ≤ℤ tile.min_x → v.x ≤ℤ tile.min_x → IsBeside tile u v
  on_right : tile.max_x ≤ℤ u.x → tile.max_x ≤ℤ v.x → IsBeside tile u v
  under : u.y ≤ℤ tile.min_y → v.y ≤ℤ tile.min_y → IsBeside tile u v
  over : tile.max_y ≤ℤ u.y → tile.max_y ≤ℤ v.y → IsBeside tile u v

turned_beside : (tile : Rect) (u v : Point) → IsBeside tile u v → IsBeside tile v u
turned_beside tile u v (inside h k) = inside k h
turned_beside tile u v (on_left h k) = on_left k h
turned_beside tile u v (on_right h k) = on_right k h
turned_beside tile u v (under h k) = under k h
turned_beside tile u v (over h k) = over k h

pub and_false : (b : Bool) → (b && false) ≡ false
and_false true = refl
and_false false = refl

-- what the line through p does not meet does not lie below p
not_met : (s : Pair) (p : RationalPoint) → spans s p ≡ false → lies_below s p ≡ false
not_met s p e = ap (λ (b : Bool). b && runs_below s p) e

pub both_met : (s : Pair) (p : RationalPoint) (b : Bool) → (IsTrue (spans s p) → runs_below s p ≡ b) → lies_below s p ≡ (spans s p && b)
both_met s p b h = by (spans s p) refl
  where
    by : (c : Bool) → spans s p ≡ c → (spans s p && runs_below s p) ≡ (spans s p && b)
    by true e = ap (λ (d : Bool). spans s p && d) (h e)
    by false e = not_met s p e ∙ sym (ap (λ (d : Bool). d && b) e)

pub below_alike : (tile : Rect) (s : Pair) (p : RationalPoint) → IsTile tile → BelongsToTile tile p → IsBeside tile s.a s.b → lies_below (clamp_pair tile s) p ≡ lies_below s p
below_alike tile s p is at (inside h k) = ap (λ (t : Pair). lies_below t p) stays
  where
    at_x : (u : Point) → (tile.min_x ≤ℤ u.x) × (u.x ≤ℤ tile.max_x) × (tile.min_y ≤ℤ u.y) × (u.y ≤ℤ tile.max_y) → clamp tile u ≡ u
    at_x u l = let ex = clamped_amid tile.min_x tile.max_x u.x l.0 l.1 in let ey = clamped_amid tile.min_y tile.max_y u.y l.2 l.3 in λ i. record { x = ex i; y = ey i }

    stays : clamp_pair tile s ≡ s
    stays = let ea = at_x s.a h in let eb = at_x s.b k in λ i. record { a = ea i; b = eb i }
below_alike tile s p is at (on_left h k) = not_met (clamp_pair tile s) p (spans_alike tile s p is at ∙ apart) ∙ sym (not_met s p apart)
  where
    apart : spans s p ≡ false
    apart = ap (λ (b : Bool). int_le (s.a.x *ℤ pos p.bottom) p.x && b) (lt-test_false p.x (s.b.x *ℤ pos p.bottom) (le_through _ _ _ (scaled_le s.b.x tile.min_x p.bottom k) at.from_left)) ∙ and_false _
below_alike tile s p is at (on_right h k) = not_met (clamp_pair tile s) p (spans_alike tile s p is at ∙ apart) ∙ sym (not_met s p apart)
  where
    apart : spans s p ≡ false
    apart = ap (λ (b : Bool). b && int_lt p.x (s.b.x *ℤ pos p.bottom)) (le-test_false (s.a.x *ℤ pos p.bottom) p.x (lt_through _ _ _ at.to_right (scaled_le tile.max_x s.a.x p.bottom h)))
below_alike tile s p is at (under h k) =
    both_met (clamp_pair tile s) p true (below_level tile.min_y (clamp_pair tile s) p (low s.a.y h) (low s.b.y k) at.from_below)
    ∙ ap (λ (b : Bool). b && true) (spans_alike tile s p is at)
    ∙ sym (both_met s p true (below_level tile.min_y s p h k at.from_below))
  where
    le_of : (u v : ℤ) → u <ℤ v → u ≤ℤ v
    le_of u v h = omega (arith, ints, h)

    equal : (u v : ℤ) → u ≡ v → u ≤ℤ v
    equal u v e = omega (arith, ints, e)

    low : (z : ℤ) → z ≤ℤ tile.min_y → clamped tile.min_y tile.max_y z ≤ℤ tile.min_y
    low z l = equal _ _ (clamped_low tile.min_y tile.max_y z (le_of _ _ is.high) l)
below_alike tile s p is at (over h k) =
    both_met (clamp_pair tile s) p false (above_level tile.max_y (clamp_pair tile s) p (high s.a.y h) (high s.b.y k) at.to_top)
    ∙ ap (λ (b : Bool). b && false) (spans_alike tile s p is at)
    ∙ sym (both_met s p false (above_level tile.max_y s p h k at.to_top))
  where
    le_of : (u v : ℤ) → u <ℤ v → u ≤ℤ v
    le_of u v h = omega (arith, ints, h)

    equal : (u v : ℤ) → u ≡ v → v ≤ℤ u
    equal u v e = omega (arith, ints, e)

    high : (z : ℤ) → tile.max_y ≤ℤ z → tile.max_y ≤ℤ clamped tile.min_y tile.max_y z
    high z l = equal _ _ (clamped_high tile.min_y tile.max_y z (le_of _ _ is.high) l)

-- so a step winds as before
pub step_winds_alike : (tile : Rect) (s : Pair) (p : RationalPoint) → IsTile tile → BelongsToTile tile p → IsBeside tile s.a s.b → step_winding p (clamp_pair tile s) ≡ step_winding p s
step_winds_alike tile s p is at beside =
    ap₂ (λ (u v : Bool). if u then pos 1 else (if v then negsuc 0 else pos 0)) (below_alike tile s p is at beside) (below_alike tile (turned s) p is at (turned_beside tile s.a s.b beside))
