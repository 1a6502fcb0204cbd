-- The column in which a place lies: what spans it meets the line through the place, and what is below in it is lower there.
use Rattle.std.proofs.Common.{◌≡◌, ap, ap₂, sym, subst, ◌∙◌, arith, ℕ, zero, suc, ◌<◌}
use Rattle.std.specs.Prelude.{ℤ, pos, negsuc, ◌+ℤ◌, ◌-ℤ◌, ◌*ℤ◌, ◌≤ℤ◌, ◌<ℤ◌, int_le, int_lt, ◌&&◌}
use Rattle.std.proofs.lemmas.Int.{ints, by_lt_z}
use Rattle.overlay_geometry.specs.Points.{Pair}
use Rattle.overlay_geometry.specs.Below.{width, scaled_height}
use Rattle.overlay_geometry.proofs.laws.geometry.Polynomials.{as_D, diffs, D-eq, mul-lt_left, mul-nonneg, cancel-lt, difference-nonneg}
use Rattle.overlay_base.specs.Places.{RationalPoint, spans, height_at}
use Rattle.overlay_sweep.specs.ColumnWindings.{spans_column}
use Rattle.overlay_sweep.proofs.laws.columns.Heights.{gap, slope}
use Rattle.overlay_sweep.proofs.laws.columns.ColumnOrder.{gap_step}
use Rattle.overlay_geometry.proofs.laws.integers.Tests.{le-test, le-test_false, lt-test, lt-test_false, le_through, lt_through}
use Rattle.overlay_geometry.proofs.laws.integers.Products.{plus_nonneg, times_comm, minus_times, scaled_le}

-- ---- the column

-- z / d lies from the column's left border, included, to its right one
pub record IsInColumn (z : ℤ) (d : ℕ) (column : ℤ) : Type 0 where
  pub low : (column *ℤ pos d) ≤ℤ z
  pub high : z <ℤ ((column +ℤ pos 1) *ℤ pos d)

pub one_more : (c : ℤ) (d : ℕ) → (c +ℤ pos 1) *ℤ pos d ≡ c *ℤ pos d +ℤ pos d
one_more c d = rw (as_D c) (simp diffs (D-eq _ _ _ _ (omega arith)))

one_less : (c : ℤ) (d : ℕ) → (c -ℤ pos 1) *ℤ pos d ≡ c *ℤ pos d -ℤ pos d
one_less c d = minus_times c (pos 1) (pos d) ∙ ap (λ (z : ℤ). c *ℤ pos d -ℤ z) (single d)
  where
    single : (d : ℕ) → pos 1 *ℤ pos d ≡ pos d
    single d = omega (arith, ints)

abbrev HasColumn : ℤ → ℕ → Type 0
HasColumn z d = (c : ℤ) × IsInColumn z d c

next_column : (z : ℤ) (d : ℕ) → 0 < d → HasColumn z d → HasColumn (z +ℤ pos 1) d
next_column z d some (c, at) =
    by_lt_z (z +ℤ pos 1) ((c +ℤ pos 1) *ℤ pos d)
    (λ (less : (z +ℤ pos 1) <ℤ ((c +ℤ pos 1) *ℤ pos d)). (c, record { low = step_low (c *ℤ pos d) z at.low; high = less }))
    (λ (more : ((c +ℤ pos 1) *ℤ pos d) ≤ℤ (z +ℤ pos 1)). (c +ℤ pos 1, record { low = more; high = step_high ((c +ℤ pos 1) *ℤ pos d) z d _ (one_more (c +ℤ pos 1) d) some at.high }))
  where
    step_low : (u z : ℤ) → u ≤ℤ z → u ≤ℤ (z +ℤ pos 1)
    step_low u z l = omega (arith, ints, l)

    step_high : (u z : ℤ) (d : ℕ) (v : ℤ) → v ≡ u +ℤ pos d → 0 < d → z <ℤ u → (z +ℤ pos 1) <ℤ v
    step_high u z d v e p l = omega (arith, ints, e, p, l)

previous_column : (z : ℤ) (d : ℕ) → 0 < d → HasColumn z d → HasColumn (z -ℤ pos 1) d
previous_column z d some (c, at) =
    by_lt_z (z -ℤ pos 1) (c *ℤ pos d)
    (λ (less : (z -ℤ pos 1) <ℤ (c *ℤ pos d)). (c -ℤ pos 1, record { low = step_low (c *ℤ pos d) z d _ (one_less c d) some at.low; high = step_high (c *ℤ pos d) z d _ _ (one_less c d) (one_more (c -ℤ pos 1) d) less }))
    (λ (more : (c *ℤ pos d) ≤ℤ (z -ℤ pos 1)). (c, record { low = more; high = stay_high ((c +ℤ pos 1) *ℤ pos d) z at.high }))
  where
    step_low : (u z : ℤ) (d : ℕ) (v : ℤ) → v ≡ u -ℤ pos d → 0 < d → u ≤ℤ z → v ≤ℤ (z -ℤ pos 1)
    step_low u z d v e p l = omega (arith, ints, e, p, l)

    step_high : (u z : ℤ) (d : ℕ) (v w : ℤ) → v ≡ u -ℤ pos d → w ≡ v +ℤ pos d → (z -ℤ pos 1) <ℤ u → (z -ℤ pos 1) <ℤ w
    step_high u z d v w e f l = omega (arith, ints, e, f, l)

    stay_high : (u z : ℤ) → z <ℤ u → (z -ℤ pos 1) <ℤ u
    stay_high u z l = omega (arith, ints, l)

column_up : (d : ℕ) → 0 < d → (n : ℕ) → HasColumn (pos n) d
column_up d some zero = (pos 0, record { low = omega (arith, ints); high = omega (arith, ints, some) })
column_up d some (suc n) = subst (λ (z : ℤ). HasColumn z d) (up n) (next_column (pos n) d some (column_up d some n))
  where
    up : (n : ℕ) → pos n +ℤ pos 1 ≡ pos (suc n)
    up n = omega (arith, ints)

column_down : (d : ℕ) → 0 < d → (n : ℕ) → HasColumn (negsuc n) d
column_down d some zero = subst (λ (z : ℤ). HasColumn z d) first (previous_column (pos 0) d some (column_up d some 0))
  where
    first : pos 0 -ℤ pos 1 ≡ negsuc 0
    first = omega (arith, ints)
column_down d some (suc n) = subst (λ (z : ℤ). HasColumn z d) (down n) (previous_column (negsuc n) d some (column_down d some n))
  where
    down : (n : ℕ) → negsuc n -ℤ pos 1 ≡ negsuc (suc n)
    down n = omega (arith, ints)

-- every rational number lies in a column
pub column_of : (z : ℤ) (d : ℕ) → 0 < d → (c : ℤ) × IsInColumn z d c
column_of (pos n) d some = column_up d some n
column_of (negsuc n) d some = column_down d some n

-- ---- what spans it

starts_alike : (a z : ℤ) (d : ℕ) (c : ℤ) → IsInColumn z d c → int_le (a *ℤ pos d) z ≡ int_le a c
starts_alike a z d c at =
    by_lt_z c a
    (λ (later : c <ℤ a). le-test_false (a *ℤ pos d) z (lt_through _ _ _ at.high (scaled_le (c +ℤ pos 1) a d (omega (arith, ints, later)))) ∙ sym (le-test_false a c later))
    (λ (earlier : a ≤ℤ c). le-test (a *ℤ pos d) z (le_through _ _ _ (scaled_le a c d earlier) at.low) ∙ sym (le-test a c earlier))

ends_alike : (b z : ℤ) (d : ℕ) (c : ℤ) → IsInColumn z d c → int_lt z (b *ℤ pos d) ≡ int_le (c +ℤ pos 1) b
ends_alike b z d c at =
    by_lt_z b (c +ℤ pos 1)
    (λ (earlier : b <ℤ (c +ℤ pos 1)). lt-test_false z (b *ℤ pos d) (le_through _ _ _ (scaled_le b c d (omega (arith, ints, earlier))) at.low) ∙ sym (le-test_false (c +ℤ pos 1) b earlier))
    (λ (later : (c +ℤ pos 1) ≤ℤ b). lt-test z (b *ℤ pos d) (lt_through _ _ _ at.high (scaled_le (c +ℤ pos 1) b d later)) ∙ sym (le-test (c +ℤ pos 1) b later))

-- a segment meets the line through p where it spans the column of p
pub spans_alike : (p : RationalPoint) (c : ℤ) (s : Pair) → IsInColumn p.x p.bottom c → spans s p ≡ spans_column c s
spans_alike p c s at = ap₂ (λ a b. a && b) (starts_alike s.a.x p.x p.bottom c at) (ends_alike s.b.x p.x p.bottom c at)

-- ---- heights

pub height_from : (c : ℤ) (s : Pair) (p : RationalPoint) → height_at s p ≡ pos p.bottom *ℤ scaled_height s c +ℤ (p.x -ℤ c *ℤ pos p.bottom) *ℤ (s.b.y -ℤ s.a.y)
unfolding scaled_height
height_from c s p = plain s.a.y s.a.x (width s) (s.b.y -ℤ s.a.y) p.x c (pos p.bottom)
  where
    plain : (ay ax w dy x c d : ℤ) → ay *ℤ (w *ℤ d) +ℤ dy *ℤ (x -ℤ ax *ℤ d) ≡ d *ℤ (ay *ℤ w +ℤ (c -ℤ ax) *ℤ dy) +ℤ (x -ℤ c *ℤ d) *ℤ dy
    plain ay ax w dy x c d = rw (as_D ay, as_D ax, as_D w, as_D dy, as_D x, as_D c, as_D d) (simp diffs (D-eq _ _ _ _ (omega arith)))

-- the difference of heights at p by that at the left border
pub gap_at : (c : ℤ) (u s : Pair) (p : RationalPoint) → height_at s p *ℤ width u -ℤ height_at u p *ℤ width s ≡ pos p.bottom *ℤ gap c u s +ℤ (p.x -ℤ c *ℤ pos p.bottom) *ℤ slope u s
unfolding gap slope
gap_at c u s p =
    ap₂ (λ (h k : ℤ). h *ℤ width u -ℤ k *ℤ width s) (height_from c s p) (height_from c u p)
    ∙ plain (pos p.bottom) (p.x -ℤ c *ℤ pos p.bottom) (scaled_height s c) (scaled_height u c) (s.b.y -ℤ s.a.y) (u.b.y -ℤ u.a.y) (width u) (width s)
  where
    plain : (d e hs hu ds du wu ws : ℤ) → (d *ℤ hs +ℤ e *ℤ ds) *ℤ wu -ℤ (d *ℤ hu +ℤ e *ℤ du) *ℤ ws ≡ d *ℤ (hs *ℤ wu -ℤ hu *ℤ ws) +ℤ e *ℤ (ds *ℤ wu -ℤ du *ℤ ws)
    plain d e hs hu ds du wu ws = rw (as_D d, as_D e, as_D hs, as_D hu, as_D ds, as_D du, as_D wu, as_D ws) (simp diffs (D-eq _ _ _ _ (omega arith)))

-- u is at most as high as s at both borders, so at p
pub not_higher_in_column : (p : RationalPoint) (c : ℤ) (u s : Pair) → IsInColumn p.x p.bottom c → pos 0 ≤ℤ gap c u s → pos 0 ≤ℤ gap (c +ℤ pos 1) u s →
    (height_at u p *ℤ width s) ≤ℤ (height_at s p *ℤ width u)
not_higher_in_column p c u s at left right =
    let e = p.x -ℤ c *ℤ pos p.bottom in
    let more = mul-nonneg e (gap (c +ℤ pos 1) u s) (difference-nonneg _ _ at.low) right in
    let less = mul-nonneg (pos p.bottom -ℤ e) (gap c u s) (short p.x (c *ℤ pos p.bottom) p.bottom _ (one_more c p.bottom) at.high) left in
    compare _ _ _ (gap_at c u s p) (weigh (pos p.bottom) e (gap c u s) (slope u s) (gap (c +ℤ pos 1) u s) (gap_step c u s) less more)
  where
    short : (x u : ℤ) (d : ℕ) (v : ℤ) → v ≡ u +ℤ pos d → x <ℤ v → pos 0 ≤ℤ (pos d -ℤ (x -ℤ u))
    short x u d v e l = omega (arith, ints, e, l)

    weigh : (d e g k h : ℤ) → h ≡ g +ℤ k → pos 0 ≤ℤ ((d -ℤ e) *ℤ g) → pos 0 ≤ℤ (e *ℤ h) → pos 0 ≤ℤ (d *ℤ g +ℤ e *ℤ k)
    weigh d e g k h f l m = subst (λ (z : ℤ). pos 0 ≤ℤ z) (apart d e g k) (plus_nonneg _ _ l (subst (λ (z : ℤ). pos 0 ≤ℤ (e *ℤ z)) f m))
      where
        apart : (d e g k : ℤ) → (d -ℤ e) *ℤ g +ℤ e *ℤ (g +ℤ k) ≡ d *ℤ g +ℤ e *ℤ k
        apart d e g k = rw (as_D d, as_D e, as_D g, as_D k) (simp diffs (D-eq _ _ _ _ (omega arith)))

    compare : (x y z : ℤ) → x -ℤ y ≡ z → pos 0 ≤ℤ z → y ≤ℤ x
    compare x y z e l = omega (arith, ints, e, l)

-- where s is lower than p there, u is
pub lower_in_column : (p : RationalPoint) (c : ℤ) (u s : Pair) → IsInColumn p.x p.bottom c → pos 0 <ℤ width u → pos 0 <ℤ width s → pos 0 ≤ℤ gap c u s → pos 0 ≤ℤ gap (c +ℤ pos 1) u s →
    (height_at s p) <ℤ (p.y *ℤ width s) → (height_at u p) <ℤ (p.y *ℤ width u)
lower_in_column p c u s at wu ws left right low =
    cancel-lt (width s) (height_at u p) (p.y *ℤ width u) ws (through (height_at u p) (height_at s p) (width s) (width u) p.y (not_higher_in_column p c u s at left right) (mul-lt_left (width u) (height_at s p) (p.y *ℤ width s) wu low))
  where
    through : (hu hs ws wu y : ℤ) → (hu *ℤ ws) ≤ℤ (hs *ℤ wu) → (wu *ℤ hs) <ℤ (wu *ℤ (y *ℤ ws)) → (ws *ℤ hu) <ℤ (ws *ℤ (y *ℤ wu))
    through hu hs ws wu y l k = rw (around wu y ws) at (both (hu *ℤ ws) (hs *ℤ wu) (ws *ℤ hu) (wu *ℤ hs) (wu *ℤ (y *ℤ ws)) (times_comm hu ws) (times_comm hs wu) l k)
      where
        around : (u y s : ℤ) → u *ℤ (y *ℤ s) ≡ s *ℤ (y *ℤ u)
        around u y s = rw (as_D u, as_D y, as_D s) (simp diffs (D-eq _ _ _ _ (omega arith)))

        both : (a b c d e : ℤ) → a ≡ c → b ≡ d → a ≤ℤ b → d <ℤ e → c <ℤ e
        both a b c d e p q l k = omega (arith, ints, p, q, l, k)
