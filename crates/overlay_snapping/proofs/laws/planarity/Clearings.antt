-- An end of a piece is clear of each piece of another chain with which it shares no end.
use Rattle.std.proofs.Common.{◌≡◌, ap, arith, ◌⊎◌, ⊎_elim, inl, inr, ℕ, ◌*◌, ◌<◌, ◌≤◌, true, false, IsTrue, IsFalse, List, ◌&&◌, not}
use Rattle.std.specs.Prelude.{ℤ, pos, ◌+ℤ◌, ◌-ℤ◌, ◌*ℤ◌, ◌≤ℤ◌, ◌<ℤ◌, neg_ℤ, Contains}
use Rattle.std.specs.Ordering.{int_eq}
use Rattle.std.proofs.lemmas.Int.{ints, by_lt_z}
use Rattle.std.proofs.lemmas.Bool.{cases_Bool, both_ways, and_parts, and_from}
use Rattle.overlay_geometry.specs.Points.{Point, Pair, step, turn, is_ordered, is_between, is_in_box, lies_on}
use Rattle.overlay_geometry.proofs.laws.geometry.Points.{ordered_x, lies_on_parts}
use Rattle.overlay_geometry.proofs.laws.geometry.Polynomials.{mul-le_left, as_D, diffs, D-eq}
use Rattle.overlay_geometry.proofs.laws.integers.Tests.{lt-test, lt-test_false, eq-test}
use Rattle.overlay_cuts.specs.Nearness.{Fraction, point_along}
use Rattle.overlay_snapping.specs.Pixels.{IsInPixel, is_narrow, meets_pixel}
use Rattle.overlay_snapping.specs.Chains.{given_points, passes_by, IsHot, passed, Moves, passes, IsChainPoint, IsCutAt, moving, staying, comes_before, IsPiece}
use Rattle.overlay_snapping.proofs.laws.pixels.Inequality.{narrow_zero, leads}
use Rattle.overlay_snapping.proofs.laws.pixels.Orders.{not_before_up, not_before_down, pixels_are_met_in_order}
use Rattle.overlay_snapping.proofs.laws.planarity.Directions.{IsClear, to_right, to_left, above, below, beside, in_place, in_order, some_extent}
use Rattle.overlay_snapping.proofs.laws.planarity.Stops.{along_by, Stop}

-- ---- stops as fractions

unfoldable pub fraction_of : (m : ℕ) (s : Pair) (c : Point) → 0 < m → Stop m s c → Fraction
fraction_of m s c some h = record { part = h.part; whole = m; positive = some; at_most_one = h.at_most }

pub pixel_of : (m : ℕ) (s : Pair) (c : Point) (some : 0 < m) (h : Stop m s c) → IsInPixel (point_along s (fraction_of m s c some h)) c
unfolding fraction_of
pixel_of m s c some h = record { from_left = h.in_cell.from_left; to_right = h.in_cell.to_right; from_below = h.in_cell.from_below; to_top = h.in_cell.to_top }

-- the stop of the later point is farther along
pub later_stop : (m : ℕ) (s : Pair) (c d : Point) → 0 < m → IsTrue (is_ordered s) → (i : Stop m s c) (j : Stop m s d) → IsTrue (comes_before s c d) → i.part < j.part
unfolding fraction_of
later_stop m s c d some o i j h = by (le_or i.part j.part)
  where
    le_or : (n k : ℕ) → (n < k) ⊎ (k ≤ n)
    le_or n k = by_lt_z (pos n) (pos k) (λ (l : pos n <ℤ pos k). inl (omega (arith, ints, l))) (λ (l : pos k ≤ℤ pos n). inr (omega (arith, ints, l)))

    by : (i.part < j.part) ⊎ (j.part ≤ i.part) → i.part < j.part
    by (inl l) = l
    by (inr l) = absurd (both_ways (comes_before s c d) (pixels_are_met_in_order s (fraction_of m s d some j) (fraction_of m s c some i) d c o (times_le j.part i.part m l) (pixel_of m s d some j) (pixel_of m s c some i)) h)
      where
        times_le : (n k m : ℕ) → n ≤ k → n * m ≤ k * m
        times_le n k m h = grind (arith)

-- ---- coordinates along a segment

way_up : (a b : ℤ) (m n k : ℕ) → a ≤ℤ b → n < k → (a *ℤ pos m +ℤ (b -ℤ a) *ℤ pos n) ≤ℤ (a *ℤ pos m +ℤ (b -ℤ a) *ℤ pos k)
way_up a b m n k up less = let p = mul-le_left (b -ℤ a) (pos n) (pos k) (omega (arith, ints, up)) (omega (arith, ints, less)) in plus_le (a *ℤ pos m) _ _ p
  where
    plus_le : (u v w : ℤ) → v ≤ℤ w → (u +ℤ v) ≤ℤ (u +ℤ w)
    plus_le u v w h = omega (arith, ints, h)

way_down : (a b : ℤ) (m n k : ℕ) → b ≤ℤ a → n < k → (a *ℤ pos m +ℤ (b -ℤ a) *ℤ pos k) ≤ℤ (a *ℤ pos m +ℤ (b -ℤ a) *ℤ pos n)
way_down a b m n k down less =
    let p = mul-le_left (a -ℤ b) (pos n) (pos k) (omega (arith, ints, down)) (omega (arith, ints, less)) in
    plus_le (a *ℤ pos m) _ _ _ _ p (turned (pos n)) (turned (pos k))
  where
    turned : (z : ℤ) → (b -ℤ a) *ℤ z ≡ neg_ℤ ((a -ℤ b) *ℤ z)
    turned z = rw (as_D a, as_D b, as_D z) (simp diffs (D-eq _ _ _ _ (omega arith)))

    plus_le : (u v w v' w' : ℤ) → v ≤ℤ w → v' ≡ neg_ℤ v → w' ≡ neg_ℤ w → (u +ℤ w') ≤ℤ (u +ℤ v')
    plus_le u v w v' w' h e f = omega (arith, ints, h, e, f)

not_less : (m : ℕ) (c d v w : ℤ) → 0 < m → v ≤ℤ w → neg_ℤ (pos m) ≤ℤ (pos 2 *ℤ (v -ℤ c *ℤ pos m)) → (pos 2 *ℤ (w -ℤ d *ℤ pos m)) <ℤ pos m → c ≤ℤ d
not_less m c d v w some le low high = by_lt_z d c (λ (less : d <ℤ c). absurd (let k = in_order m c d v w some less low high in omega (arith, ints, k, le))) (λ h. h)

module _ (segments : List Pair) (m : ℕ) (some : 0 < m) (s t : Pair) (t_in : Contains segments t) (t_ordered : IsTrue (is_ordered t)) (c d d' : Point)
    (cut : IsCutAt segments s c) (piece : IsPiece segments t d d') (not_d : (c ≡ d) → ⊥) (not_d' : (c ≡ d') → ⊥) (at_c : Stop m s c) (at_d : Stop m t d) (at_d' : Stop m t d') where
  later : at_d.part < at_d'.part
  later = later_stop m t d d' some t_ordered at_d at_d' piece.in_order

  in_x : d.x ≤ℤ d'.x
  in_x = not_less m d.x d'.x (along_by m t at_d.part).x (along_by m t at_d'.part).x some (way_up t.a.x t.b.x m at_d.part at_d'.part (ordered_x t t_ordered) later) at_d.in_cell.from_left at_d'.in_cell.to_right

  in_y_up : t.a.y ≤ℤ t.b.y → d.y ≤ℤ d'.y
  in_y_up up = not_less m d.y d'.y (along_by m t at_d.part).y (along_by m t at_d'.part).y some (way_up t.a.y t.b.y m at_d.part at_d'.part up later) at_d.in_cell.from_below at_d'.in_cell.to_top

  in_y_down : t.b.y ≤ℤ t.a.y → d'.y ≤ℤ d.y
  in_y_down down = not_less m d'.y d.y (along_by m t at_d'.part).y (along_by m t at_d.part).y some (way_down t.a.y t.b.y m at_d.part at_d'.part down later) at_d'.in_cell.from_below at_d.in_cell.to_top

  -- ---- what a cut says

  cut_in_box : (e : Point) → IsCutAt segments t e → IsTrue (is_in_box t e)
  unfolding meets_pixel
  cut_in_box e (moving n p h) = (and_parts (is_in_box t e) (is_narrow (step t.a t.b) (turn t.a t.b e)) h).0
  cut_in_box e (staying n p h) = (lies_on_parts t e h).1

  cut_is_narrow : (e : Point) → IsCutAt segments t e → is_narrow (step t.a t.b) (turn t.a t.b e) ≡ true
  unfolding meets_pixel
  cut_is_narrow e (moving n p h) = (and_parts (is_in_box t e) (is_narrow (step t.a t.b) (turn t.a t.b e)) h).1
  cut_is_narrow e (staying n p h) = narrow_zero (step t.a t.b) (turn t.a t.b e) (some_extent t (leads t t_ordered)) (lies_on_parts t e h).0

  cut_point : (u : Pair) (e : Point) → IsCutAt segments u e → IsChainPoint segments e
  cut_point u e (moving n p h) = p
  cut_point u e (staying n p h) = p

  abbrev pub Clear : Type 0
  Clear = IsClear m t c d d' (along_by m s at_c.part) (along_by m t at_d.part) (along_by m t at_d'.part)

  -- ---- in the box of the piece

  -- c is neither before nor after the piece
  record IsAmid : Type 0 where
    not_before : IsFalse (comes_before t c d)
    not_after : IsFalse (comes_before t d' c)
    box : IsTrue (is_in_box t c)

  -- so t is not cut there
  not_cut : IsAmid → IsCutAt segments t c → ⊥
  not_cut amid h = by (piece.none_between c h)
    where
      by : IsTrue (comes_before t c d) ⊎ (c ≡ d) ⊎ (c ≡ d') ⊎ IsTrue (comes_before t d' c) → ⊥
      by (inl k) = both_ways (comes_before t c d) amid.not_before k
      by (inr (inl e)) = not_d e
      by (inr (inr (inl e))) = not_d' e
      by (inr (inr (inr k))) = both_ways (comes_before t d' c) amid.not_after k

  -- a point by which t passes, and which does not move it, lies on s
  lies_on_first : (Moves segments t → ⊥) → IsTrue (passes_by t c) → IsTrue (lies_on s c)
  lies_on_first stays by_t = of cut
    where
      cold : IsHot segments c → ⊥
      cold h = stays (passes t_in h by_t)

      of_given : Moves segments s → Contains (given_points segments) c → IsTrue (meets_pixel s c) → (lies_on s c ≡ true) ⊎ (lies_on s c ≡ false) → IsTrue (lies_on s c)
      of_given n g h (inl on) = on
      of_given n g h (inr off) = absurd (cold (passed g n (and_from (meets_pixel s c) (not (lies_on s c)) h (ap not off))))

      of : IsCutAt segments s c → IsTrue (lies_on s c)
      of (moving n (inl hot) h) = absurd (cold hot)
      of (moving n (inr given) h) = of_given n given h (cases_Bool (lies_on s c))
      of (staying n p on) = on

  stays_in_place : (Moves segments t → ⊥) → (e : Point) → IsCutAt segments t e → IsTrue (lies_on t e)
  stays_in_place stays e (moving n p h) = absurd (stays n)
  stays_in_place stays e (staying n p on) = on

  off_turn : IsTrue (is_in_box t c) → lies_on t c ≡ false → (turn t.a t.b c ≡ pos 0) → ⊥
  unfolding lies_on
  off_turn box off none = both_ways (int_eq (turn t.a t.b c) (pos 0) && is_in_box t c) off (and_from (int_eq (turn t.a t.b c) (pos 0)) (is_in_box t c) (eq-test (turn t.a t.b c) (pos 0) none) box)

  met_clear : IsAmid → IsTrue (meets_pixel t c) → Clear
  met_clear amid met = by piece.first (cases_Bool (lies_on t c))
    where
      by : IsCutAt segments t d → (lies_on t c ≡ true) ⊎ (lies_on t c ≡ false) → Clear
      by (moving n p h) k = absurd (not_cut amid (moving n (cut_point s c cut) met))
      by (staying stays p h) (inl on) = absurd (not_cut amid (staying stays (cut_point s c cut) on))
      by (staying stays p h) (inr off) =
          let by_t : IsTrue (passes_by t c) = and_from (meets_pixel t c) (not (lies_on t c)) met (ap not off) in
          let on' = stays_in_place stays d' piece.last in
          in_place (at_c.in_place (lies_on_first stays by_t)) (at_d.in_place h) (at_d'.in_place on') (off_turn amid.box off) (lies_on_parts t d h).0 (lies_on_parts t d' on').0

  amid_clear : IsAmid → Clear
  unfolding meets_pixel
  amid_clear amid =
      ⊎_elim
      (λ narrow. met_clear amid (and_from (is_in_box t c) (is_narrow (step t.a t.b) (turn t.a t.b c)) amid.box narrow))
      (λ wide. beside wide (cut_is_narrow d piece.first) (cut_is_narrow d' piece.last))
      (cases_Bool (is_narrow (step t.a t.b) (turn t.a t.b c)))

  -- ---- where c is

  between_both : (a b p q z : ℤ) → is_between a b p ≡ true → is_between a b q ≡ true → p ≤ℤ z → z ≤ℤ q → is_between a b z ≡ true
  between_both a b p q z h k l n = grind (arith, ints)

  in_box : (x0 : d.x ≤ℤ c.x) → c.x ≤ℤ d'.x → (p q : Point) → IsTrue (is_in_box t p) → IsTrue (is_in_box t q) → p.y ≤ℤ c.y → c.y ≤ℤ q.y → IsTrue (is_in_box t c)
  unfolding is_in_box
  in_box x0 x1 p q h k y0 y1 =
      let box = and_parts (is_between t.a.x t.b.x d.x) (is_between t.a.y t.b.y d.y) (cut_in_box d piece.first) in
      let box' = and_parts (is_between t.a.x t.b.x d'.x) (is_between t.a.y t.b.y d'.y) (cut_in_box d' piece.last) in
      let box_p = and_parts (is_between t.a.x t.b.x p.x) (is_between t.a.y t.b.y p.y) h in
      let box_q = and_parts (is_between t.a.x t.b.x q.x) (is_between t.a.y t.b.y q.y) k in
      and_from (is_between t.a.x t.b.x c.x) (is_between t.a.y t.b.y c.y) (between_both t.a.x t.b.x d.x d'.x c.x box.0 box'.0 x0 x1) (between_both t.a.y t.b.y p.y q.y c.y box_p.1 box_q.1 y0 y1)

  rising : t.a.y ≤ℤ t.b.y → d.x ≤ℤ c.x → c.x ≤ℤ d'.x → Clear
  rising up x0 x1 =
      by_lt_z c.y d.y
      (λ (lower : c.y <ℤ d.y). let k = in_y_up up in below lower (omega (arith, ints, lower, k)))
      (λ (y0 : d.y ≤ℤ c.y).
      by_lt_z d'.y c.y
      (λ (higher : d'.y <ℤ c.y). let k = in_y_up up in above (omega (arith, ints, higher, k)) higher)
      (λ (y1 : c.y ≤ℤ d'.y).
      let test = lt-test_false t.b.y t.a.y up in
      amid_clear (record {
        not_before = not_before_up t d c test x0 y0;
        not_after = not_before_up t c d' test x1 y1;
        box = in_box x0 x1 d d' (cut_in_box d piece.first) (cut_in_box d' piece.last) y0 y1;
      })))

  falling : t.b.y <ℤ t.a.y → d.x ≤ℤ c.x → c.x ≤ℤ d'.x → Clear
  falling down x0 x1 =
      by_lt_z c.y d'.y
      (λ (lower : c.y <ℤ d'.y). let k = in_y_down (omega (arith, ints, down)) in below (omega (arith, ints, lower, k)) lower)
      (λ (y0 : d'.y ≤ℤ c.y).
      by_lt_z d.y c.y
      (λ (higher : d.y <ℤ c.y). let k = in_y_down (omega (arith, ints, down)) in above higher (omega (arith, ints, higher, k)))
      (λ (y1 : c.y ≤ℤ d.y).
      let test = lt-test t.b.y t.a.y down in
      amid_clear (record {
        not_before = not_before_down t d c test x0 y1;
        not_after = not_before_down t c d' test x1 y0;
        box = in_box x0 x1 d' d (cut_in_box d' piece.last) (cut_in_box d piece.first) y0 y1;
      })))

  pub is_clear : Clear
  is_clear =
      by_lt_z c.x d.x
      (λ (left : c.x <ℤ d.x). let k = in_x in to_left left (omega (arith, ints, left, k)))
      (λ (x0 : d.x ≤ℤ c.x).
      by_lt_z d'.x c.x
      (λ (right : d'.x <ℤ c.x). let k = in_x in to_right (omega (arith, ints, right, k)) right)
      (λ (x1 : c.x ≤ℤ d'.x).
      by_lt_z t.b.y t.a.y (λ (down : t.b.y <ℤ t.a.y). falling down x0 x1) (λ (up : t.a.y ≤ℤ t.b.y). rising up x0 x1)))
