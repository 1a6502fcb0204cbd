-- Heights of segments at one x: which is lower there, and how that changes along the two segments.
use Rattle.std.proofs.Common.{◌≡◌, refl, sym, ◌∙◌, arith}
use Rattle.std.specs.Prelude.{ℤ, pos, ◌+ℤ◌, ◌-ℤ◌, ◌*ℤ◌, neg_ℤ, int_le, int_lt, ◌&&◌, ◌||◌}
use Rattle.std.specs.Ordering.{int_cmp, is_lt, is_le}
use Rattle.std.proofs.lemmas.Int.{ints}
use Rattle.overlay_geometry.specs.Points.{Pair, turn}
use Rattle.overlay_geometry.specs.Below.{width, scaled_height, height_cmp}
use Rattle.overlay_sweep.specs.ColumnWindings.{is_below_in_column}
use Rattle.overlay_geometry.proofs.laws.geometry.Polynomials.{as_D, diffs, D-eq}
use Rattle.overlay_geometry.proofs.laws.integers.Products.{minus_itself, minus_turned, neg_swap}

-- how far t is above s at x, times both widths
unfoldable pub gap : ℤ → Pair → Pair → ℤ
gap x s t = scaled_height t x *ℤ width s -ℤ scaled_height s x *ℤ width t

-- by how much that grows from x to x + 1
unfoldable pub slope : Pair → Pair → ℤ
slope s t = (t.b.y -ℤ t.a.y) *ℤ width s -ℤ (s.b.y -ℤ s.a.y) *ℤ width t

pub gap_back : (x : ℤ) (s t : Pair) → gap x s t ≡ neg_ℤ (gap x t s)
unfolding gap
gap_back x s t = minus_turned (scaled_height t x *ℤ width s) (scaled_height s x *ℤ width t)

pub gap_same : (x : ℤ) (s : Pair) → gap x s s ≡ pos 0
unfolding gap
gap_same x s = minus_itself (scaled_height s x *ℤ width s)

along_plain : (hs ht ws wt sx tx ds dt x z : ℤ) → (ht +ℤ (z -ℤ tx) *ℤ dt) *ℤ ws -ℤ (hs +ℤ (z -ℤ sx) *ℤ ds) *ℤ wt ≡ ((ht +ℤ (x -ℤ tx) *ℤ dt) *ℤ ws -ℤ (hs +ℤ (x -ℤ sx) *ℤ ds) *ℤ wt) +ℤ (z -ℤ x) *ℤ (dt *ℤ ws -ℤ ds *ℤ wt)
along_plain hs ht ws wt sx tx ds dt x z = rw (as_D hs, as_D ht, as_D ws, as_D wt, as_D sx, as_D tx, as_D ds, as_D dt, as_D x, as_D z) (simp diffs (D-eq _ _ _ _ (omega arith)))

-- the gap is linear in x
pub gap_along : (x z : ℤ) (s t : Pair) → gap z s t ≡ gap x s t +ℤ (z -ℤ x) *ℤ slope s t
unfolding gap slope scaled_height
gap_along x z s t = along_plain (s.a.y *ℤ width s) (t.a.y *ℤ width t) (width s) (width t) s.a.x t.a.x (s.b.y -ℤ s.a.y) (t.b.y -ℤ t.a.y) x z

start_plain : (ay x ws ds cy cx wt dt : ℤ) → (cy *ℤ wt +ℤ (x -ℤ cx) *ℤ dt) *ℤ ws -ℤ (ay *ℤ ws +ℤ (x -ℤ x) *ℤ ds) *ℤ wt ≡ neg_ℤ (ws *ℤ (wt *ℤ (ay -ℤ cy) -ℤ dt *ℤ (x -ℤ cx)))
start_plain ay x ws ds cy cx wt dt = rw (as_D ay, as_D x, as_D ws, as_D ds, as_D cy, as_D cx, as_D wt, as_D dt) (simp diffs (D-eq _ _ _ _ (omega arith)))

end_plain : (ay by x ws cy cx wt dt : ℤ) → (cy *ℤ wt +ℤ (x -ℤ cx) *ℤ dt) *ℤ ws -ℤ (ay *ℤ ws +ℤ ws *ℤ (by -ℤ ay)) *ℤ wt ≡ neg_ℤ (ws *ℤ (wt *ℤ (by -ℤ cy) -ℤ dt *ℤ (x -ℤ cx)))
end_plain ay by x ws cy cx wt dt = rw (as_D ay, as_D by, as_D x, as_D ws, as_D cy, as_D cx, as_D wt, as_D dt) (simp diffs (D-eq _ _ _ _ (omega arith)))

-- at an end of one segment the gap is the turn of that end at the other
pub gap_at_start : (s t : Pair) → gap s.a.x s t ≡ neg_ℤ (width s *ℤ turn t.a t.b s.a)
unfolding gap scaled_height turn
gap_at_start s t = start_plain s.a.y s.a.x (width s) (s.b.y -ℤ s.a.y) t.a.y t.a.x (width t) (t.b.y -ℤ t.a.y)

pub gap_at_end : (s t : Pair) → gap s.b.x s t ≡ neg_ℤ (width s *ℤ turn t.a t.b s.b)
unfolding gap scaled_height turn
gap_at_end s t = end_plain s.a.y s.b.y s.b.x (width s) t.a.y t.a.x (width t) (t.b.y -ℤ t.a.y)

pub gap_at_other_start : (s t : Pair) → gap t.a.x s t ≡ width t *ℤ turn s.a s.b t.a
gap_at_other_start s t = gap_back t.a.x s t ∙ sym (neg_swap _ _ (gap_at_start t s))

pub gap_at_other_end : (s t : Pair) → gap t.b.x s t ≡ width t *ℤ turn s.a s.b t.b
gap_at_other_end s t = gap_back t.b.x s t ∙ sym (neg_swap _ _ (gap_at_end t s))

-- ---- the tests of heights are tests of the gap

pub is_lt-cmp : (a b : ℤ) → is_lt (int_cmp a b) ≡ int_lt a b
is_lt-cmp a b = grind (arith, ints)

pub is_le-cmp : (a b : ℤ) → is_le (int_cmp a b) ≡ int_le a b
is_le-cmp a b = grind (arith, ints)

lt-difference : (a b : ℤ) → int_lt a b ≡ int_lt (pos 0) (b -ℤ a)
lt-difference a b = grind (arith, ints)

le-difference : (a b : ℤ) → int_le a b ≡ int_le (pos 0) (b -ℤ a)
le-difference a b = grind (arith, ints)

pub is_lt-height_cmp : (x : ℤ) (s t : Pair) → is_lt (height_cmp x s t) ≡ int_lt (pos 0) (gap x s t)
unfolding height_cmp gap
is_lt-height_cmp x s t = is_lt-cmp (scaled_height s x *ℤ width t) (scaled_height t x *ℤ width s) ∙ lt-difference (scaled_height s x *ℤ width t) (scaled_height t x *ℤ width s)

pub is_le-height_cmp : (x : ℤ) (s t : Pair) → is_le (height_cmp x s t) ≡ int_le (pos 0) (gap x s t)
unfolding height_cmp gap
is_le-height_cmp x s t = is_le-cmp (scaled_height s x *ℤ width t) (scaled_height t x *ℤ width s) ∙ le-difference (scaled_height s x *ℤ width t) (scaled_height t x *ℤ width s)

pub is_below_is : (x : ℤ) (s t : Pair) → is_below_in_column x s t ≡ (int_le (pos 0) (gap x s t) && int_le (pos 0) (gap (x +ℤ pos 1) s t) && (int_lt (pos 0) (gap x s t) || int_lt (pos 0) (gap (x +ℤ pos 1) s t)))
unfolding is_below_in_column
is_below_is x s t = rw (is_le-height_cmp x s t, is_le-height_cmp (x +ℤ pos 1) s t, is_lt-height_cmp x s t, is_lt-height_cmp (x +ℤ pos 1) s t) refl
