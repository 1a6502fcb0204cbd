-- Where segments are cut: for each such point a point of the segment in its pixel, the point itself where it lies on the segment. Those of
-- several cuts have one denominator.
use Rattle.std.proofs.Common.{◌≡◌, ◌∙◌, ap, subst, arith, ◌⊎◌, ⊎_elim, ℕ, ◌*◌, ◌<◌, ◌≤◌, true, false, IsTrue}
use Rattle.std.specs.Prelude.{ℤ, pos, negsuc, ◌+ℤ◌, ◌-ℤ◌, ◌*ℤ◌, ◌≤ℤ◌, ◌<ℤ◌, neg_ℤ}
use Rattle.std.proofs.lemmas.Int.{ints}
use Rattle.std.proofs.lemmas.Bool.{cases_Bool, both_ways}
use Rattle.overlay_geometry.specs.Points.{Point, Pair, is_ordered, lies_on}
use Rattle.overlay_geometry.proofs.laws.geometry.Polynomials.{as_D, diffs, D-eq, mul-le_left, mul-lt_left, mul-neg_right}
use Rattle.overlay_geometry.proofs.laws.integers.Products.{times_comm}
use Rattle.overlay_intersections.proofs.laws.marks.Marks.{lies_along}
use Rattle.overlay_snapping.specs.Pixels.{meets_pixel}
use Rattle.overlay_snapping.proofs.laws.pixels.Inequality.{meets_pixel-to}
use Rattle.overlay_snapping.proofs.laws.planarity.Motions.{multiple}
use Rattle.overlay_snapping.proofs.laws.planarity.Directions.{IsInCell}

-- m times the point n / m of the way along s
abbrev pub along_by : ℕ → Pair → ℕ → Point
along_by m s n = record { x = s.a.x *ℤ pos m +ℤ (s.b.x -ℤ s.a.x) *ℤ pos n; y = s.a.y *ℤ pos m +ℤ (s.b.y -ℤ s.a.y) *ℤ pos n }

-- a point of s in the pixel of c
pub record Stop (m : ℕ) (s : Pair) (c : Point) : Type 0 where
  pub part : ℕ
  pub at_most : part ≤ m
  pub in_cell : IsInCell m (along_by m s part) c
  pub in_place : lies_on s c ≡ true → along_by m s part ≡ multiple m c

-- ---- one cut

none_left : (u v : ℤ) (m : ℕ) → u ≡ v → neg_ℤ (pos m) ≤ℤ (pos 2 *ℤ (u -ℤ v))
none_left u v m e = omega (arith, ints, e)

none_right : (u v : ℤ) (m : ℕ) → 0 < m → u ≡ v → (pos 2 *ℤ (u -ℤ v)) <ℤ pos m
none_right u v m some e = omega (arith, ints, e, some)

at_point : (s : Pair) (c : Point) (n : ℤ) (m : ℕ) → 0 < m → pos 0 ≤ℤ n → n ≤ℤ pos m → s.a.x *ℤ pos m +ℤ (s.b.x -ℤ s.a.x) *ℤ n ≡ c.x *ℤ pos m → s.a.y *ℤ pos m +ℤ (s.b.y -ℤ s.a.y) *ℤ n ≡ c.y *ℤ pos m → Stop m s c
at_point s c (negsuc n) m some low high is_x is_y = absurd (omega (arith, ints, low))
at_point s c (pos n) m some low high is_x is_y = record {
  part = n;
  at_most = omega (arith, ints, high);
  in_cell = record { from_left = none_left _ _ m is_x; to_right = none_right _ _ m some is_x; from_below = none_left _ _ m is_y; to_top = none_right _ _ m some is_y };
  in_place = λ _. λ i. record { x = (is_x ∙ times_comm c.x (pos m)) i; y = (is_y ∙ times_comm c.y (pos m)) i };
}

-- a cut with some denominator
pub record SomeStop (s : Pair) (c : Point) : Type 0 where
  pub whole : ℕ
  pub some : 0 < whole
  pub stop : Stop whole s c

pub stop_of : (s : Pair) (c : Point) → IsTrue (is_ordered s) → (lies_on s c ≡ true) ⊎ (meets_pixel s c ≡ true) → SomeStop s c
stop_of s c o h = ⊎_elim on (λ off. ⊎_elim on (met off) h) (cases_Bool (lies_on s c))
  where
    on : lies_on s c ≡ true → SomeStop s c
    on k = let along = lies_along s c o k in record { whole = along.whole; some = along.is_part.some; stop = at_point s c along.part along.whole along.is_part.some along.is_part.low along.is_part.high along.at_x along.at_y }

    met : lies_on s c ≡ false → meets_pixel s c ≡ true → SomeStop s c
    met off k =
        let m = meets_pixel-to s c o k in
        record {
          whole = m.0.whole;
          some = m.0.positive;
          stop = record {
            part = m.0.part;
            at_most = m.0.at_most_one;
            in_cell = record { from_left = m.1.from_left; to_right = m.1.to_right; from_below = m.1.from_below; to_top = m.1.to_top };
            in_place = λ e. absurd (both_ways (lies_on s c) off e);
          };
        }

-- ---- another denominator

scaled_way : (a d : ℤ) (n m k : ℕ) → a *ℤ pos (m * k) +ℤ d *ℤ pos (n * k) ≡ pos k *ℤ (a *ℤ pos m +ℤ d *ℤ pos n)
scaled_way a d n m k = rw (as_D a, as_D d) (simp diffs (D-eq _ _ _ _ (omega arith)))

scaled_offset : (u c : ℤ) (m k : ℕ) → pos 2 *ℤ (pos k *ℤ u -ℤ c *ℤ pos (m * k)) ≡ pos k *ℤ (pos 2 *ℤ (u -ℤ c *ℤ pos m))
scaled_offset u c m k = rw (as_D u, as_D c) (simp diffs (D-eq _ _ _ _ (omega arith)))

low_scaled : (z : ℤ) (m k : ℕ) → neg_ℤ (pos m) ≤ℤ z → neg_ℤ (pos (m * k)) ≤ℤ (pos k *ℤ z)
low_scaled z m k h = let p = mul-le_left (pos k) (neg_ℤ (pos m)) z (omega (arith, ints)) h in omega (arith, ints, p, mul-neg_right (pos k) (pos m), product m k)
  where
    product : (m k : ℕ) → pos k *ℤ pos m ≡ pos (m * k)
    product m k = omega (arith, ints)

high_scaled : (z : ℤ) (m k : ℕ) → 0 < k → z <ℤ pos m → (pos k *ℤ z) <ℤ pos (m * k)
high_scaled z m k some h = let p = mul-lt_left (pos k) z (pos m) (omega (arith, ints, some)) h in omega (arith, ints, p, product m k)
  where
    product : (m k : ℕ) → pos k *ℤ pos m ≡ pos (m * k)
    product m k = omega (arith, ints)

scaled_multiple : (m k : ℕ) (z : ℤ) → pos k *ℤ (pos m *ℤ z) ≡ pos (m * k) *ℤ z
scaled_multiple m k z = rw (as_D z) (simp diffs (D-eq _ _ _ _ (omega arith)))

pub scale_stop : (m k : ℕ) (s : Pair) (c : Point) → 0 < k → Stop m s c → Stop (m * k) s c
scale_stop m k s c some h = record {
  part = h.part * k;
  at_most = times_most h.part m k h.at_most;
  in_cell = record {
    from_left = rw (scaled_way s.a.x (s.b.x -ℤ s.a.x) h.part m k, scaled_offset (along_by m s h.part).x c.x m k) (low_scaled _ m k h.in_cell.from_left);
    to_right = rw (scaled_way s.a.x (s.b.x -ℤ s.a.x) h.part m k, scaled_offset (along_by m s h.part).x c.x m k) (high_scaled _ m k some h.in_cell.to_right);
    from_below = rw (scaled_way s.a.y (s.b.y -ℤ s.a.y) h.part m k, scaled_offset (along_by m s h.part).y c.y m k) (low_scaled _ m k h.in_cell.from_below);
    to_top = rw (scaled_way s.a.y (s.b.y -ℤ s.a.y) h.part m k, scaled_offset (along_by m s h.part).y c.y m k) (high_scaled _ m k some h.in_cell.to_top);
  };
  in_place = λ e. λ i. record {
    x = (scaled_way s.a.x (s.b.x -ℤ s.a.x) h.part m k ∙ ap (λ (p : Point). pos k *ℤ p.x) (h.in_place e) ∙ scaled_multiple m k c.x) i;
    y = (scaled_way s.a.y (s.b.y -ℤ s.a.y) h.part m k ∙ ap (λ (p : Point). pos k *ℤ p.y) (h.in_place e) ∙ scaled_multiple m k c.y) i;
  };
}
  where
    times_most : (n m k : ℕ) → n ≤ m → n * k ≤ m * k
    times_most n m k h = omega (arith, ap_le n m k h)
      where
        ap_le : (n m k : ℕ) → n ≤ m → n * k ≤ m * k
        ap_le n m k h = grind (arith)

-- ---- one denominator for four

times_some : (m k : ℕ) → 0 < m → 0 < k → 0 < m * k
times_some m k h l = grind (arith)

turned : (m k : ℕ) → m * k ≡ k * m
turned m k = omega arith

pub record FourStops (s t : Pair) (c c' d d' : Point) : Type 0 where
  pub whole : ℕ
  pub some : 0 < whole
  pub at_c : Stop whole s c
  pub at_c' : Stop whole s c'
  pub at_d : Stop whole t d
  pub at_d' : Stop whole t d'

pub four_stops : (s t : Pair) (c c' d d' : Point) → SomeStop s c → SomeStop s c' → SomeStop t d → SomeStop t d' → FourStops s t c c' d d'
four_stops s t c c' d d' i j k l =
    let two = i.whole * j.whole in
    let three = two * k.whole in
    let some_two = times_some i.whole j.whole i.some j.some in
    let some_three = times_some two k.whole some_two k.some in
    record {
      whole = three * l.whole;
      some = times_some three l.whole some_three l.some;
      at_c = scale_stop three l.whole s c l.some (scale_stop two k.whole s c k.some (scale_stop i.whole j.whole s c j.some i.stop));
      at_c' = scale_stop three l.whole s c' l.some (scale_stop two k.whole s c' k.some (subst (λ w. Stop w s c') (turned j.whole i.whole) (scale_stop j.whole i.whole s c' i.some j.stop)));
      at_d = scale_stop three l.whole t d l.some (subst (λ w. Stop w t d) (turned k.whole two) (scale_stop k.whole two t d some_two k.stop));
      at_d' = subst (λ w. Stop w t d') (turned l.whole three) (scale_stop l.whole three t d' some_three l.stop);
    }
