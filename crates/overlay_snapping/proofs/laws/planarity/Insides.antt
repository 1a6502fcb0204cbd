-- No point through which chains go lies inside a piece: its segment meets the pixel of the point, between the ends of the piece.
use Rattle.std.proofs.Common.{◌≡◌, ◌∙◌, sym, ap, arith, ◌⊎◌, ℕ, ◌+◌, ◌*◌, ◌<◌, ◌≤◌, IsTrue, IsFalse, List}
use Rattle.std.specs.Prelude.{ℤ, pos, ◌+ℤ◌, ◌-ℤ◌, ◌*ℤ◌, ◌≤ℤ◌, ◌<ℤ◌, neg_ℤ}
use Rattle.std.specs.Ordering.{int_eq}
use Rattle.std.proofs.lemmas.Int.{ints}
use Rattle.std.proofs.lemmas.Bool.{and_parts, and_from}
use Rattle.overlay_geometry.specs.Points.{Point, Pair, step, turn, is_ordered, is_in_box, lies_on}
use Rattle.overlay_geometry.proofs.laws.geometry.Points.{lies_on_parts}
use Rattle.overlay_geometry.proofs.laws.geometry.Polynomials.{as_D, diffs, D-eq, mul-le_left, mul-neg_right, cancel-zero}
use Rattle.overlay_geometry.proofs.laws.integers.Tests.{eq-test}
use Rattle.overlay_cuts.specs.Nearness.{Fraction, point_along}
use Rattle.overlay_snapping.specs.Pixels.{IsInPixel, is_narrow, meets_pixel}
use Rattle.overlay_snapping.specs.Chains.{IsChainPoint, IsCutAt, moving, staying, comes_before, IsPiece}
use Rattle.overlay_snapping.proofs.laws.pixels.Inequality.{inequality_is_meant}
use Rattle.overlay_snapping.proofs.laws.pixels.Orders.{pixels_are_met_in_order}
use Rattle.overlay_snapping.proofs.laws.planarity.Stops.{along_by, Stop, FourStops, four_stops}
use Rattle.overlay_snapping.proofs.laws.planarity.Clearings.{fraction_of, pixel_of, later_stop}
use Rattle.overlay_snapping.proofs.laws.planarity.Pieces.{at_an_end, stop_at_cut}

-- e is k / w of the way from c to c'
pub record IsOnWay (c c' e : Point) : Type 0 where
  pub part : ℕ
  pub rest : ℕ
  pub some : 0 < rest + part
  pub at_x : c.x *ℤ pos rest +ℤ c'.x *ℤ pos part ≡ e.x *ℤ pos (rest + part)
  pub at_y : c.y *ℤ pos rest +ℤ c'.y *ℤ pos part ≡ e.y *ℤ pos (rest + part)

pub turned_way : (c c' e : Point) → IsOnWay c c' e → IsOnWay c' c e
turned_way c c' e h = record {
  part = h.rest;
  rest = h.part;
  some = let s = h.some in omega (arith, s);
  at_x = plain (c.x *ℤ pos h.rest) (c'.x *ℤ pos h.part) e.x h.rest h.part h.at_x;
  at_y = plain (c.y *ℤ pos h.rest) (c'.y *ℤ pos h.part) e.y h.rest h.part h.at_y;
}
  where
    turn_sum : (m n : ℕ) → m + n ≡ n + m
    turn_sum m n = omega arith

    plain : (u v z : ℤ) (m n : ℕ) → u +ℤ v ≡ z *ℤ pos (m + n) → v +ℤ u ≡ z *ℤ pos (n + m)
    plain u v z m n h = plus_turned u v ∙ h ∙ ap (λ (k : ℕ). z *ℤ pos k) (turn_sum m n)
      where
        plus_turned : (u v : ℤ) → v +ℤ u ≡ u +ℤ v
        plus_turned u v = omega (arith, ints)

-- ---- the point of the segment

-- the place along s: between two stops, as e lies between their points
mixed_way : (a d : ℤ) (m n k rest part : ℕ) → a *ℤ pos (m * (rest + part)) +ℤ d *ℤ pos (n * rest + k * part) ≡ (a *ℤ pos m +ℤ d *ℤ pos n) *ℤ pos rest +ℤ (a *ℤ pos m +ℤ d *ℤ pos k) *ℤ pos part
mixed_way a d m n k rest part = rw (as_D a, as_D d) (simp diffs (D-eq _ _ _ _ (omega arith)))

mixed_offset : (u v c c' e : ℤ) (m rest part : ℕ) → c *ℤ pos rest +ℤ c' *ℤ pos part ≡ e *ℤ pos (rest + part) →
    pos 2 *ℤ ((u *ℤ pos rest +ℤ v *ℤ pos part) -ℤ e *ℤ pos (m * (rest + part))) ≡ pos rest *ℤ (pos 2 *ℤ (u -ℤ c *ℤ pos m)) +ℤ pos part *ℤ (pos 2 *ℤ (v -ℤ c' *ℤ pos m))
mixed_offset u v c c' e m rest part h =
    ap (λ (z : ℤ). pos 2 *ℤ ((u *ℤ pos rest +ℤ v *ℤ pos part) -ℤ z)) (scaled e m (rest + part) ∙ ap (λ (z : ℤ). z *ℤ pos m) (sym h)) ∙ spread u v c c' (pos m) (pos rest) (pos part)
  where
    scaled : (e : ℤ) (m w : ℕ) → e *ℤ pos (m * w) ≡ (e *ℤ pos w) *ℤ pos m
    scaled e m w = rw (as_D e) (simp diffs (D-eq _ _ _ _ (omega arith)))

    spread : (u v c c' m rest part : ℤ) → pos 2 *ℤ ((u *ℤ rest +ℤ v *ℤ part) -ℤ (c *ℤ rest +ℤ c' *ℤ part) *ℤ m) ≡ rest *ℤ (pos 2 *ℤ (u -ℤ c *ℤ m)) +ℤ part *ℤ (pos 2 *ℤ (v -ℤ c' *ℤ m))
    spread u v c c' m rest part = rw (as_D u, as_D v, as_D c, as_D c', as_D m, as_D rest, as_D part) (simp diffs (D-eq _ _ _ _ (omega arith)))

low_mixed : (p q : ℤ) (m rest part : ℕ) → neg_ℤ (pos m) ≤ℤ p → neg_ℤ (pos m) ≤ℤ q → neg_ℤ (pos (m * (rest + part))) ≤ℤ (pos rest *ℤ p +ℤ pos part *ℤ q)
low_mixed p q m rest part h k =
    let i = mul-le_left (pos rest) (neg_ℤ (pos m)) p (omega (arith, ints)) h in
    let j = mul-le_left (pos part) (neg_ℤ (pos m)) q (omega (arith, ints)) k in
    plain _ _ _ _ _ (spread m rest part) i j
  where
    spread : (m rest part : ℕ) → neg_ℤ (pos (m * (rest + part))) ≡ pos rest *ℤ neg_ℤ (pos m) +ℤ pos part *ℤ neg_ℤ (pos m)
    spread m rest part = rw (mul-neg_right (pos rest) (pos m), mul-neg_right (pos part) (pos m)) (omega (arith, ints))

    plain : (z a b u v : ℤ) → z ≡ a +ℤ b → a ≤ℤ u → b ≤ℤ v → z ≤ℤ (u +ℤ v)
    plain z a b u v e h k = omega (arith, ints, e, h, k)

high_mixed : (p q : ℤ) (m rest part : ℕ) → 0 < rest + part → p <ℤ pos m → q <ℤ pos m → (pos rest *ℤ p +ℤ pos part *ℤ q) <ℤ pos (m * (rest + part))
high_mixed p q m rest part some h k =
    let i = mul-le_left (pos rest) (p +ℤ pos 1) (pos m) (omega (arith, ints)) (omega (arith, ints, h)) in
    let j = mul-le_left (pos part) (q +ℤ pos 1) (pos m) (omega (arith, ints)) (omega (arith, ints, k)) in
    plain _ _ _ _ (pos rest) (pos part) _ _ _ (spread m rest part) i j (one_more (pos rest) p) (one_more (pos part) q) (omega (arith, ints, some))
  where
    spread : (m rest part : ℕ) → pos (m * (rest + part)) ≡ pos rest *ℤ pos m +ℤ pos part *ℤ pos m
    spread m rest part = omega (arith, ints)

    one_more : (r p : ℤ) → r *ℤ (p +ℤ pos 1) ≡ r *ℤ p +ℤ r
    one_more r p = rw (as_D r, as_D p) (simp diffs (D-eq _ _ _ _ (omega arith)))

    plain : (u v u1 v1 r s z a b : ℤ) → z ≡ a +ℤ b → u1 ≤ℤ a → v1 ≤ℤ b → u1 ≡ u +ℤ r → v1 ≡ v +ℤ s → pos 0 <ℤ (r +ℤ s) → (u +ℤ v) <ℤ z
    plain u v u1 v1 r s z a b e h k f g l = omega (arith, ints, e, h, k, f, g, l)

times_le : (n m k : ℕ) → n ≤ m → n * k ≤ m * k
times_le n m k h = grind (arith)

record Between (m : ℕ) (s : Pair) (n k : ℕ) (e : Point) : Type 0 where
  part : ℕ
  whole : ℕ
  positive : 0 < whole
  at_most : part ≤ whole
  in_pixel : IsInPixel (point_along s (record { part = part; whole = whole; positive = positive; at_most_one = at_most })) e
  past_first : n * whole ≤ part * m
  before_last : part * m ≤ k * whole

between : (m : ℕ) (s : Pair) (c c' e : Point) → 0 < m → (i : Stop m s c) (j : Stop m s c') → i.part < j.part → IsOnWay c c' e → Between m s i.part j.part e
between m s c c' e some i j less h = record {
  part = i.part * h.rest + j.part * h.part;
  whole = m * (h.rest + h.part);
  positive = some_whole m (h.rest + h.part) some h.some;
  at_most = most i.part j.part m h.rest h.part (times_le i.part m h.rest i.at_most) (times_le j.part m h.part j.at_most);
  in_pixel = record {
    from_left = rw (same_x, mixed_offset (along_by m s i.part).x (along_by m s j.part).x c.x c'.x e.x m h.rest h.part h.at_x) (low_mixed _ _ m h.rest h.part i.in_cell.from_left j.in_cell.from_left);
    to_right = rw (same_x, mixed_offset (along_by m s i.part).x (along_by m s j.part).x c.x c'.x e.x m h.rest h.part h.at_x) (high_mixed _ _ m h.rest h.part h.some i.in_cell.to_right j.in_cell.to_right);
    from_below = rw (same_y, mixed_offset (along_by m s i.part).y (along_by m s j.part).y c.y c'.y e.y m h.rest h.part h.at_y) (low_mixed _ _ m h.rest h.part i.in_cell.from_below j.in_cell.from_below);
    to_top = rw (same_y, mixed_offset (along_by m s i.part).y (along_by m s j.part).y c.y c'.y e.y m h.rest h.part h.at_y) (high_mixed _ _ m h.rest h.part h.some i.in_cell.to_top j.in_cell.to_top);
  };
  past_first = past i.part j.part m h.rest h.part (times_le (i.part * h.part) (j.part * h.part) m (times_le i.part j.part h.part (omega (arith, less))));
  before_last = last i.part j.part m h.rest h.part (times_le (i.part * h.rest) (j.part * h.rest) m (times_le i.part j.part h.rest (omega (arith, less))));
}
  where
    some_whole : (m k : ℕ) → 0 < m → 0 < k → 0 < m * k
    some_whole m k h l = grind (arith)

    most : (n k m rest part : ℕ) → n * rest ≤ m * rest → k * part ≤ m * part → n * rest + k * part ≤ m * (rest + part)
    most n k m rest part h l = omega (arith, h, l)

    past : (n k m rest part : ℕ) → (n * part) * m ≤ (k * part) * m → n * (m * (rest + part)) ≤ (n * rest + k * part) * m
    past n k m rest part h = omega (arith, h)

    last : (n k m rest part : ℕ) → (n * rest) * m ≤ (k * rest) * m → (n * rest + k * part) * m ≤ k * (m * (rest + part))
    last n k m rest part h = omega (arith, h)

    same_x : s.a.x *ℤ pos (m * (h.rest + h.part)) +ℤ (s.b.x -ℤ s.a.x) *ℤ pos (i.part * h.rest + j.part * h.part) ≡ (along_by m s i.part).x *ℤ pos h.rest +ℤ (along_by m s j.part).x *ℤ pos h.part
    same_x = mixed_way s.a.x (s.b.x -ℤ s.a.x) m i.part j.part h.rest h.part

    same_y : s.a.y *ℤ pos (m * (h.rest + h.part)) +ℤ (s.b.y -ℤ s.a.y) *ℤ pos (i.part * h.rest + j.part * h.part) ≡ (along_by m s i.part).y *ℤ pos h.rest +ℤ (along_by m s j.part).y *ℤ pos h.part
    same_y = mixed_way s.a.y (s.b.y -ℤ s.a.y) m i.part j.part h.rest h.part

-- ---- the point is not inside

on_line_between : (s : Pair) (c c' e : Point) → IsOnWay c c' e → turn s.a s.b c ≡ pos 0 → turn s.a s.b c' ≡ pos 0 → turn s.a s.b e ≡ pos 0
unfolding turn
on_line_between s c c' e h zero zero' =
    cancel-zero (pos (h.rest + h.part)) _ (some_int (h.rest + h.part) h.some)
    (spread (s.b.x -ℤ s.a.x) (s.b.y -ℤ s.a.y) s.a.x s.a.y e.x e.y (pos (h.rest + h.part))
    ∙ (λ i. (s.b.x -ℤ s.a.x) *ℤ (sym h.at_y i -ℤ s.a.y *ℤ pos (h.rest + h.part)) -ℤ (s.b.y -ℤ s.a.y) *ℤ (sym h.at_x i -ℤ s.a.x *ℤ pos (h.rest + h.part)))
    ∙ gather (s.b.x -ℤ s.a.x) (s.b.y -ℤ s.a.y) s.a.x s.a.y c.x c.y c'.x c'.y h.rest h.part
    ∙ none _ _ (pos h.rest) (pos h.part) zero zero')
  where
    some_int : (n : ℕ) → 0 < n → pos 0 <ℤ pos n
    some_int n h = omega (arith, ints, h)

    spread : (d f ax ay ex ey w : ℤ) → w *ℤ (d *ℤ (ey -ℤ ay) -ℤ f *ℤ (ex -ℤ ax)) ≡ d *ℤ (ey *ℤ w -ℤ ay *ℤ w) -ℤ f *ℤ (ex *ℤ w -ℤ ax *ℤ w)
    spread d f ax ay ex ey w = rw (as_D d, as_D f, as_D ax, as_D ay, as_D ex, as_D ey, as_D w) (simp diffs (D-eq _ _ _ _ (omega arith)))

    two : (r p : ℕ) → pos (r + p) ≡ pos r +ℤ pos p
    two r p = omega (arith, ints)

    gather : (d f ax ay cx cy c'x c'y : ℤ) (r p : ℕ) →
        d *ℤ ((cy *ℤ pos r +ℤ c'y *ℤ pos p) -ℤ ay *ℤ pos (r + p)) -ℤ f *ℤ ((cx *ℤ pos r +ℤ c'x *ℤ pos p) -ℤ ax *ℤ pos (r + p))
        ≡ pos r *ℤ (d *ℤ (cy -ℤ ay) -ℤ f *ℤ (cx -ℤ ax)) +ℤ pos p *ℤ (d *ℤ (c'y -ℤ ay) -ℤ f *ℤ (c'x -ℤ ax))
    gather d f ax ay cx cy c'x c'y r p = rw (two r p) (plain d f ax ay cx cy c'x c'y (pos r) (pos p))
      where
        plain : (d f ax ay cx cy c'x c'y r p : ℤ) → d *ℤ ((cy *ℤ r +ℤ c'y *ℤ p) -ℤ ay *ℤ (r +ℤ p)) -ℤ f *ℤ ((cx *ℤ r +ℤ c'x *ℤ p) -ℤ ax *ℤ (r +ℤ p)) ≡ r *ℤ (d *ℤ (cy -ℤ ay) -ℤ f *ℤ (cx -ℤ ax)) +ℤ p *ℤ (d *ℤ (c'y -ℤ ay) -ℤ f *ℤ (c'x -ℤ ax))
        plain d f ax ay cx cy c'x c'y r p = rw (as_D d, as_D f, as_D ax, as_D ay, as_D cx, as_D cy, as_D c'x, as_D c'y, as_D r, as_D p) (simp diffs (D-eq _ _ _ _ (omega arith)))

    none : (u v r p : ℤ) → u ≡ pos 0 → v ≡ pos 0 → r *ℤ u +ℤ p *ℤ v ≡ pos 0
    none u v r p e f = rw (e, f) (omega (arith, ints))

met_in_box : (s : Pair) (e : Point) → IsTrue (meets_pixel s e) → IsTrue (is_in_box s e)
unfolding meets_pixel
met_in_box s e h = (and_parts (is_in_box s e) (is_narrow (step s.a s.b) (turn s.a s.b e)) h).0

-- a point on the way between the ends of a piece, through which chains go, is one of the ends
pub on_way_is_end : (segments : List Pair) (s : Pair) (c c' e : Point) → IsTrue (is_ordered s) → IsPiece segments s c c' → IsChainPoint segments e → IsOnWay c c' e → (e ≡ c) ⊎ (e ≡ c')
unfolding fraction_of lies_on
on_way_is_end segments s c c' e o piece point h = at_an_end segments s c c' e piece (cut piece.first piece.last) not_before not_after
  where
    stops : FourStops s s c c' c c'
    stops = four_stops s s c c' c c' (stop_at_cut segments s c o piece.first) (stop_at_cut segments s c' o piece.last) (stop_at_cut segments s c o piece.first) (stop_at_cut segments s c' o piece.last)

    place : Between stops.whole s stops.at_c.part stops.at_c'.part e
    place = between stops.whole s c c' e stops.some stops.at_c stops.at_c' (later_stop stops.whole s c c' stops.some o stops.at_c stops.at_c' piece.in_order) h

    at : Fraction
    at = record { part = place.part; whole = place.whole; positive = place.positive; at_most_one = place.at_most }

    meets : IsTrue (meets_pixel s e)
    meets = (inequality_is_meant s e o).1 (record { part = place.part; whole = place.whole; positive = place.positive; at_most_one = place.at_most }, place.in_pixel)

    in_box : IsTrue (is_in_box s e)
    in_box = met_in_box s e meets

    on : IsTrue (lies_on s c) → IsTrue (lies_on s c') → IsTrue (lies_on s e)
    on k l = and_from (int_eq (turn s.a s.b e) (pos 0)) (is_in_box s e) (eq-test (turn s.a s.b e) (pos 0) (on_line_between s c c' e h (lies_on_parts s c k).0 (lies_on_parts s c' l).0)) in_box

    cut : IsCutAt segments s c → IsCutAt segments s c' → IsCutAt segments s e
    cut (moving m p k) f = moving m point meets
    cut (staying n p k) (moving m q l) = absurd (n m)
    cut (staying n p k) (staying m q l) = staying n point (on k l)

    not_before : IsFalse (comes_before s e c)
    not_before = pixels_are_met_in_order s (fraction_of stops.whole s c stops.some stops.at_c) (record { part = place.part; whole = place.whole; positive = place.positive; at_most_one = place.at_most }) c e o place.past_first (pixel_of stops.whole s c stops.some stops.at_c) place.in_pixel

    not_after : IsFalse (comes_before s c' e)
    not_after = pixels_are_met_in_order s (record { part = place.part; whole = place.whole; positive = place.positive; at_most_one = place.at_most }) (fraction_of stops.whole s c' stops.some stops.at_c') e c' o place.before_last place.in_pixel (pixel_of stops.whole s c' stops.some stops.at_c')
