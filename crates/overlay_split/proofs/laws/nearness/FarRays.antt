-- A place that is far from segments lies on none of them: where a segment goes through a place, the place is a point along it. So any ray from there gives the winding.
use Rattle.std.proofs.Common.{◌≡◌, ap, sym, ◌∙◌, arith, ℕ, ◌*◌, ◌<◌, ◌≤◌, inl, inr}
use Rattle.std.specs.Prelude.{ℤ, pos, ◌+ℤ◌, ◌-ℤ◌, ◌*ℤ◌, ◌≤ℤ◌, ◌<ℤ◌, unsigned_abs, true, not, ◌&&◌}
use Rattle.std.specs.Ordering.{int_eq}
use Rattle.std.proofs.lemmas.Int.{ints}
use Rattle.std.proofs.lemmas.Bool.{and_parts, false_from_ne_true, not_from_false}
use Rattle.std.proofs.lemmas.Bool.Decides.{Decides-int_eq}
use Rattle.overlay_geometry.specs.Points.{Pair, is_ordered, is_between}
use Rattle.overlay_geometry.specs.Below.{width}
use Rattle.overlay_base.specs.Segments.{WholeSegment, pairs}
use Rattle.overlay_base.specs.Places.{RationalPoint}
use Rattle.overlay_base.specs.Rays.{place_turn, goes_through}
use Rattle.overlay_geometry.proofs.laws.geometry.Polynomials.{as_D, diffs, D-eq, mul-pos, mul-le_left, difference-nonneg}
use Rattle.overlay_geometry.proofs.laws.geometry.Points.{before}
use Rattle.overlay_geometry.proofs.laws.lists.Lists.{list_all-at, list_all-from_Has}
use Rattle.overlay_base.proofs.laws.rays.Rays.{any_ray_will_do}
use Rattle.overlay_cuts.specs.Nearness.{Fraction, IsNear, reach_of_run}
use Rattle.overlay_split.specs.Laws.{FarLiesOnNone, RunKeepsRays}
use Rattle.overlay_split.proofs.laws.nearness.Places.{IsFar-nearer, run_keeps_winding}
use Rattle.overlay_cuts.proofs.laws.nearness.Places.{far_from}
use Rattle.overlay_geometry.proofs.laws.integers.Tests.{le_equal, le_weak}
use Rattle.overlay_geometry.proofs.laws.integers.Products.{abs_nonneg}

-- ---- a place on a segment is a point along it

no_distance : (u v : ℤ) (n : ℕ) → u ≡ v → 2 * unsigned_abs (u -ℤ v) ≤ n
no_distance u v n e = omega (arith, ints, e)

between_parts : (a b z : ℤ) → a ≤ℤ b → is_between a b z ≡ true → (a ≤ℤ z) × (z ≤ℤ b)
between_parts a b z h k = grind (arith, ints)

-- i / m of the way along s
at_fraction : (s : Pair) (p : RationalPoint) (i m : ℤ) → pos 0 ≤ℤ i → i ≤ℤ m → pos 0 <ℤ m →
    p.x *ℤ m ≡ (s.a.x *ℤ m +ℤ (s.b.x -ℤ s.a.x) *ℤ i) *ℤ pos p.bottom → p.y *ℤ m ≡ (s.a.y *ℤ m +ℤ (s.b.y -ℤ s.a.y) *ℤ i) *ℤ pos p.bottom → IsNear 0 p s
at_fraction s p i m some_i within some_m in_x in_y =
    let is_i = abs_nonneg i some_i in
    let is_m = abs_nonneg m (weakly m some_m) in
    let f : Fraction = record { part = unsigned_abs i; whole = unsigned_abs m; positive = positive m some_m; at_most_one = at_most i m some_i within } in
    let along_x : p.x *ℤ pos (unsigned_abs m) ≡ (s.a.x *ℤ pos (unsigned_abs m) +ℤ (s.b.x -ℤ s.a.x) *ℤ pos (unsigned_abs i)) *ℤ pos p.bottom = rw (is_m, is_i) in_x in
    let along_y : p.y *ℤ pos (unsigned_abs m) ≡ (s.a.y *ℤ pos (unsigned_abs m) +ℤ (s.b.y -ℤ s.a.y) *ℤ pos (unsigned_abs i)) *ℤ pos p.bottom = rw (is_m, is_i) in_y in
    (f, record { in_x = no_distance _ _ (0 * (p.bottom * unsigned_abs m)) along_x; in_y = no_distance _ _ (0 * (p.bottom * unsigned_abs m)) along_y })
  where
    weakly : (m : ℤ) → pos 0 <ℤ m → pos 0 ≤ℤ m
    weakly m h = omega (arith, ints, h)

    positive : (m : ℤ) → pos 0 <ℤ m → 0 < unsigned_abs m
    positive m h = omega (arith, ints, h)

    at_most : (i m : ℤ) → pos 0 ≤ℤ i → i ≤ℤ m → unsigned_abs i ≤ unsigned_abs m
    at_most i m h k = omega (arith, ints, h, k)

module _ (s : Pair) (p : RationalPoint) (some : 0 < p.bottom) (zero : place_turn s p ≡ pos 0)
    (in_x : is_between (s.a.x *ℤ pos p.bottom) (s.b.x *ℤ pos p.bottom) p.x ≡ true) (in_y : is_between (s.a.y *ℤ pos p.bottom) (s.b.y *ℤ pos p.bottom) p.y ≡ true) where
  scaled_le : (a b : ℤ) → a ≤ℤ b → (a *ℤ pos p.bottom) ≤ℤ (b *ℤ pos p.bottom)
  scaled_le a b h = let n = mul-le_left (pos p.bottom) a b (omega (arith, ints)) h in omega (arith, ints, n)

  stretch : (a b : ℤ) → (b -ℤ a) *ℤ pos p.bottom ≡ b *ℤ pos p.bottom -ℤ a *ℤ pos p.bottom
  stretch a b = rw (as_D a, as_D b) (simp diffs (D-eq _ _ _ _ (omega arith)))

  to_end : (u v w z : ℤ) → w ≡ v -ℤ u → z ≤ℤ v → (z -ℤ u) ≤ℤ w
  to_end u v w z e h = omega (arith, ints, e, h)

  some_stretch : (a b : ℤ) → a <ℤ b → pos 0 <ℤ ((b -ℤ a) *ℤ pos p.bottom)
  some_stretch a b h = mul-pos (b -ℤ a) (pos p.bottom) (omega (arith, ints, h)) (omega (arith, ints, some))

  sloped : s.a.x <ℤ s.b.x → IsNear 0 p s
  sloped w =
      let across = between_parts (s.a.x *ℤ pos p.bottom) (s.b.x *ℤ pos p.bottom) p.x (scaled_le s.a.x s.b.x (le_weak s.a.x s.b.x w)) in_x in
      at_fraction s p (p.x -ℤ s.a.x *ℤ pos p.bottom) ((s.b.x -ℤ s.a.x) *ℤ pos p.bottom) (difference-nonneg _ _ across.0) (to_end _ _ _ _ (stretch s.a.x s.b.x) across.1) (some_stretch s.a.x s.b.x w)
      (run s.a.x (s.b.x -ℤ s.a.x) p.x (pos p.bottom))
      (rise s.a.x s.a.y (width s) (s.b.y -ℤ s.a.y) p.x p.y (pos p.bottom) zero)
    where
      run : (a w x d : ℤ) → x *ℤ (w *ℤ d) ≡ (a *ℤ (w *ℤ d) +ℤ w *ℤ (x -ℤ a *ℤ d)) *ℤ d
      run a w x d = rw (as_D a, as_D w, as_D x, as_D d) (simp diffs (D-eq _ _ _ _ (omega arith)))

      rise : (ax ay w h x y d : ℤ) → w *ℤ (y -ℤ ay *ℤ d) -ℤ h *ℤ (x -ℤ ax *ℤ d) ≡ pos 0 → y *ℤ (w *ℤ d) ≡ (ay *ℤ (w *ℤ d) +ℤ h *ℤ (x -ℤ ax *ℤ d)) *ℤ d
      rise ax ay w h x y d e = plain ax ay w h x y d ∙ ap (λ (z : ℤ). (ay *ℤ (w *ℤ d) +ℤ h *ℤ (x -ℤ ax *ℤ d)) *ℤ d +ℤ d *ℤ z) e ∙ no_more _ d
        where
          plain : (ax ay w h x y d : ℤ) → y *ℤ (w *ℤ d) ≡ (ay *ℤ (w *ℤ d) +ℤ h *ℤ (x -ℤ ax *ℤ d)) *ℤ d +ℤ d *ℤ (w *ℤ (y -ℤ ay *ℤ d) -ℤ h *ℤ (x -ℤ ax *ℤ d))
          plain ax ay w h x y d = rw (as_D ax, as_D ay, as_D w, as_D h, as_D x, as_D y, as_D d) (simp diffs (D-eq _ _ _ _ (omega arith)))

          no_more : (u d : ℤ) → u +ℤ d *ℤ pos 0 ≡ u
          no_more u d = omega (arith, ints)

  upright : s.a.x ≡ s.b.x → s.a.y <ℤ s.b.y → IsNear 0 p s
  upright e h =
      let across = between_parts (s.a.x *ℤ pos p.bottom) (s.b.x *ℤ pos p.bottom) p.x (scaled_le s.a.x s.b.x (le_equal s.a.x s.b.x e)) in_x in
      let upward = between_parts (s.a.y *ℤ pos p.bottom) (s.b.y *ℤ pos p.bottom) p.y (scaled_le s.a.y s.b.y (le_weak s.a.y s.b.y h)) in_y in
      at_fraction s p (p.y -ℤ s.a.y *ℤ pos p.bottom) ((s.b.y -ℤ s.a.y) *ℤ pos p.bottom) (difference-nonneg _ _ upward.0) (to_end _ _ _ _ (stretch s.a.y s.b.y) upward.1) (some_stretch s.a.y s.b.y h)
      (level s.a.x s.b.x p.x (pos p.bottom) ((s.b.y -ℤ s.a.y) *ℤ pos p.bottom) (p.y -ℤ s.a.y *ℤ pos p.bottom) e (both _ _ _ (ap (λ (z : ℤ). z *ℤ pos p.bottom) e) across.0 across.1))
      (run s.a.y (s.b.y -ℤ s.a.y) p.y (pos p.bottom))
    where
      both : (u v z : ℤ) → u ≡ v → u ≤ℤ z → z ≤ℤ v → z ≡ u
      both u v z e h k = omega (arith, ints, e, h, k)

      level : (a b x d m i : ℤ) → a ≡ b → x ≡ a *ℤ d → x *ℤ m ≡ (a *ℤ m +ℤ (b -ℤ a) *ℤ i) *ℤ d
      level a b x d m i e f = rw (f, e) (plain b d m i)
        where
          plain : (b d m i : ℤ) → (b *ℤ d) *ℤ m ≡ (b *ℤ m +ℤ (b -ℤ b) *ℤ i) *ℤ d
          plain b d m i = rw (as_D b, as_D d, as_D m, as_D i) (simp diffs (D-eq _ _ _ _ (omega arith)))

      run : (a w y d : ℤ) → y *ℤ (w *ℤ d) ≡ (a *ℤ (w *ℤ d) +ℤ w *ℤ (y -ℤ a *ℤ d)) *ℤ d
      run a w y d = rw (as_D a, as_D w, as_D y, as_D d) (simp diffs (D-eq _ _ _ _ (omega arith)))

goes_through-near : (s : Pair) (p : RationalPoint) → is_ordered s ≡ true → 0 < p.bottom → goes_through s p ≡ true → IsNear 0 p s
unfolding goes_through
goes_through-near s p ordered some h =
    let outer = and_parts (int_eq (place_turn s p) (pos 0) && is_between (s.a.x *ℤ pos p.bottom) (s.b.x *ℤ pos p.bottom) p.x) _ h in
    let inner = and_parts (int_eq (place_turn s p) (pos 0)) _ outer.0 in
    let zero = (Decides-int_eq (place_turn s p) (pos 0)).0 inner.0 in
    elim (before s.a s.b ordered) [
      | inl w ↦ sloped s p some zero inner.1 outer.1 w
      | inr w ↦ upright s p some zero inner.1 outer.1 w.0 w.1
    ]

-- ---- far places

pub far_lies_on_none : FarLiesOnNone
far_lies_on_none segments p ordered some far =
    list_all-from_Has (λ s. not (goes_through s.pair p)) segments
    (λ s m. not_from_false _ (false_from_ne_true _ (λ h. far_from 0 p segments far s m (goes_through-near s.pair p (list_all-at (λ (t : WholeSegment). is_ordered t.pair) segments s ordered m) some h))))

pub run_keeps_rays : RunKeepsRays
run_keeps_rays settings given k p ordered balanced some far =
    let off = far_lies_on_none given p ordered some (IsFar-nearer 0 (reach_of_run settings given k) p (pairs given) (omega arith) far) in
    let rays = any_ray_will_do given p ordered balanced some off in
    let kept = run_keeps_winding settings given k ordered p far in
    (kept ∙ sym rays.0, kept ∙ sym rays.1, kept ∙ sym rays.2)
