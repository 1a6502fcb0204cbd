-- Segments that lie in a half plane do not wind around a place on or beyond its border.
use Rattle.std.proofs.Common.{◌≡◌, ap, refl, sym, ◌∙◌, arith, ◌<◌, inl, inr, cond, [], ◌∷◌, filter, List}
use Rattle.std.specs.Prelude.{ℤ, pos, ◌+ℤ◌, ◌-ℤ◌, ◌*ℤ◌, ◌≤ℤ◌, ◌<ℤ◌, int_lt, int_le, Bool, true, false, IsTrue, ◌&&◌}
use Rattle.std.proofs.lemmas.Int.{ints}
use Rattle.std.proofs.lemmas.Bool.{and_parts, cases_Bool, false_from_ne_true}
use Rattle.overlay_geometry.specs.Below.{width}
use Rattle.overlay_geometry.specs.Points.{Pair}
use Rattle.overlay_geometry.proofs.laws.geometry.Polynomials.{as_D, diffs, D-eq, mul-nonneg, mul-le_left, difference-nonneg}
use Rattle.overlay_geometry.proofs.laws.integers.Products.{scaled_le, plus_nonneg, times_comm}
use Rattle.overlay_geometry.proofs.laws.integers.Tests.{lt-tested, le-tested}
use Rattle.overlay_geometry.proofs.laws.lists.Lists.{Has}
use Rattle.overlay_base.specs.Balance.{IsBalanced}
use Rattle.overlay_base.specs.Places.{RationalPoint, spans, height_at, runs_below, lies_below, winding_below}
use Rattle.overlay_base.specs.Rays.{is_on_none, lies_above, winding_above}
use Rattle.overlay_base.specs.Segments.{WholeSegment, are_ordered, total_weight}
use Rattle.overlay_base.specs.Windings.{empty, inverse, total}
use Rattle.overlay_base.proofs.laws.rays.Rays.{any_ray_will_do}

-- ---- tests that no segment passes

pub none_kept : (test : WholeSegment → Bool) (bag : List WholeSegment) → ((s : WholeSegment) → Has bag s → test s ≡ false) → filter test bag ≡ []
none_kept test [] none = refl
none_kept test (x ∷ xs) none = ap (λ (b : Bool). cond b (x ∷ filter test xs) (filter test xs)) (none x (inl refl)) ∙ none_kept test xs (λ s m. none s (inr m))

pub nothing_below : (bag : List WholeSegment) (p : RationalPoint) → ((s : WholeSegment) → Has bag s → lies_below s.pair p ≡ false) → winding_below bag p ≡ empty
unfolding winding_below total_weight total
nothing_below bag p none = ap total_weight (none_kept (λ s. lies_below s.pair p) bag none)

pub nothing_above : (bag : List WholeSegment) (p : RationalPoint) → ((s : WholeSegment) → Has bag s → lies_above s.pair p ≡ false) → winding_above bag p ≡ empty
unfolding winding_above total_weight total
nothing_above bag p none = ap (λ (l : List WholeSegment). inverse (total_weight l)) (none_kept (λ s. lies_above s.pair p) bag none)

-- ---- one segment

module _ (s : Pair) (p : RationalPoint) (u : ℤ) where
  spans_parts : spans s p ≡ true → ((s.a.x *ℤ pos p.bottom) ≤ℤ p.x) × (p.x <ℤ (s.b.x *ℤ pos p.bottom))
  spans_parts h = let parts = and_parts (int_le (s.a.x *ℤ pos p.bottom) p.x) (int_lt p.x (s.b.x *ℤ pos p.bottom)) h in (le-tested _ _ parts.0, lt-tested _ _ parts.1)

  pub off_left : s.b.x ≤ℤ u → (u *ℤ pos p.bottom) ≤ℤ p.x → spans s p ≡ false
  off_left h k = false_from_ne_true _ (λ t. let parts = spans_parts t in absurd (plain _ _ _ (scaled_le s.b.x u p.bottom h) k parts.1))
    where
      plain : (b u x : ℤ) → b ≤ℤ u → u ≤ℤ x → x <ℤ b → ⊥
      plain b u x h k l = omega (arith, ints, h, k, l)

  pub off_right : u ≤ℤ s.a.x → p.x <ℤ (u *ℤ pos p.bottom) → spans s p ≡ false
  off_right h k = false_from_ne_true _ (λ t. let parts = spans_parts t in absurd (plain _ _ _ (scaled_le u s.a.x p.bottom h) k parts.0))
    where
      plain : (a u x : ℤ) → u ≤ℤ a → x <ℤ u → a ≤ℤ x → ⊥
      plain a u x h k l = omega (arith, ints, h, k, l)

-- the height of a line between two heights, where it spans a place
mixed : (a c w t u : ℤ) → a *ℤ w +ℤ (c -ℤ a) *ℤ t -ℤ u *ℤ w ≡ (a -ℤ u) *ℤ (w -ℤ t) +ℤ (c -ℤ u) *ℤ t
mixed a c w t u = rw (as_D a, as_D c, as_D w, as_D t, as_D u) (simp diffs (D-eq _ _ _ _ (omega arith)))

mixed_least : (a c w t u : ℤ) → u ≤ℤ a → u ≤ℤ c → pos 0 ≤ℤ t → t ≤ℤ w → (u *ℤ w) ≤ℤ (a *ℤ w +ℤ (c -ℤ a) *ℤ t)
mixed_least a c w t u h k l m =
    plain _ _ _ (mixed a c w t u) (plus_nonneg _ _ (mul-nonneg (a -ℤ u) (w -ℤ t) (difference-nonneg u a h) (difference-nonneg t w m)) (mul-nonneg (c -ℤ u) t (difference-nonneg u c k) l))
  where
    plain : (z y r : ℤ) → z -ℤ y ≡ r → pos 0 ≤ℤ r → y ≤ℤ z
    plain z y r e h = omega (arith, ints, e, h)

mixed_greatest : (a c w t u : ℤ) → a ≤ℤ u → c ≤ℤ u → pos 0 ≤ℤ t → t ≤ℤ w → (a *ℤ w +ℤ (c -ℤ a) *ℤ t) ≤ℤ (u *ℤ w)
mixed_greatest a c w t u h k l m =
    plain _ _ _ (turned a c w t u) (plus_nonneg _ _ (mul-nonneg (u -ℤ a) (w -ℤ t) (difference-nonneg a u h) (difference-nonneg t w m)) (mul-nonneg (u -ℤ c) t (difference-nonneg c u k) l))
  where
    turned : (a c w t u : ℤ) → u *ℤ w -ℤ (a *ℤ w +ℤ (c -ℤ a) *ℤ t) ≡ (u -ℤ a) *ℤ (w -ℤ t) +ℤ (u -ℤ c) *ℤ t
    turned a c w t u = rw (as_D a, as_D c, as_D w, as_D t, as_D u) (simp diffs (D-eq _ _ _ _ (omega arith)))

    plain : (z y r : ℤ) → z -ℤ y ≡ r → pos 0 ≤ℤ r → y ≤ℤ z
    plain z y r e h = omega (arith, ints, e, h)

module _ (s : Pair) (p : RationalPoint) (u : ℤ) where
  abbrev span : ℤ
  span = width s *ℤ pos p.bottom

  abbrev along : ℤ
  along = p.x -ℤ s.a.x *ℤ pos p.bottom

  along_some : (s.a.x *ℤ pos p.bottom) ≤ℤ p.x → pos 0 ≤ℤ along
  along_some h = difference-nonneg _ _ h

  along_less : p.x <ℤ (s.b.x *ℤ pos p.bottom) → along ≤ℤ span
  along_less h = plain p.x s.a.x s.b.x (pos p.bottom) h (spread s.a.x s.b.x (pos p.bottom))
    where
      spread : (a b d : ℤ) → (b -ℤ a) *ℤ d ≡ b *ℤ d -ℤ a *ℤ d
      spread a b d = rw (as_D a, as_D b, as_D d) (simp diffs (D-eq _ _ _ _ (omega arith)))

      plain : (x a b d : ℤ) → x <ℤ (b *ℤ d) → (b -ℤ a) *ℤ d ≡ b *ℤ d -ℤ a *ℤ d → (x -ℤ a *ℤ d) ≤ℤ ((b -ℤ a) *ℤ d)
      plain x a b d h e = rw e (last x (b *ℤ d) (a *ℤ d) h)
        where
          last : (x m n : ℤ) → x <ℤ m → (x -ℤ n) ≤ℤ (m -ℤ n)
          last x m n h = omega (arith, ints, h)

  width_some : (s.a.x *ℤ pos p.bottom) ≤ℤ p.x → p.x <ℤ (s.b.x *ℤ pos p.bottom) → pos 0 ≤ℤ width s
  width_some h k = elim (cases_Bool (int_le (pos 0) (width s))) [
    | inl e ↦ le-tested _ _ e
    | inr e ↦ absurd (plain _ _ _ h k (scaled_le s.b.x s.a.x p.bottom (backward s.a.x s.b.x e)))
  ]
    where
      backward : (a b : ℤ) → int_le (pos 0) (b -ℤ a) ≡ false → b ≤ℤ a
      backward a b e = grind (arith, ints, e)

      plain : (a x b : ℤ) → a ≤ℤ x → x <ℤ b → b ≤ℤ a → ⊥
      plain a x b h k l = omega (arith, ints, h, k, l)

  rescaled : (u w d : ℤ) → w *ℤ (u *ℤ d) ≡ u *ℤ (w *ℤ d)
  rescaled u w d = rw (as_D u, as_D w, as_D d) (simp diffs (D-eq _ _ _ _ (omega arith)))

  pub not_below : u ≤ℤ s.a.y → u ≤ℤ s.b.y → p.y ≤ℤ (u *ℤ pos p.bottom) → lies_below s p ≡ false
  not_below h k l = false_from_ne_true _ (λ t.
      let both = and_parts (spans s p) (runs_below s p) t in
      let parts = spans_parts s p u both.0 in
      let least = mixed_least s.a.y s.b.y span along u h k (along_some parts.0) (along_less parts.1) in
      let most = mul-le_left (width s) p.y (u *ℤ pos p.bottom) (width_some parts.0 parts.1) l in
      absurd (plain _ _ _ _ _ least most (rescaled u (width s) (pos p.bottom)) (times_comm p.y (width s)) (lt-tested _ _ both.1)))
    where
      plain : (low height y most right : ℤ) → low ≤ℤ height → y ≤ℤ most → most ≡ low → right ≡ y → height <ℤ right → ⊥
      plain low height y most right h k e f l = omega (arith, ints, h, k, e, f, l)

  pub not_above : s.a.y ≤ℤ u → s.b.y ≤ℤ u → (u *ℤ pos p.bottom) ≤ℤ p.y → lies_above s p ≡ false
  not_above h k l = false_from_ne_true _ (λ t.
      let both = and_parts (spans s p) (int_lt (p.y *ℤ width s) (height_at s p)) t in
      let parts = spans_parts s p u both.0 in
      let greatest = mixed_greatest s.a.y s.b.y span along u h k (along_some parts.0) (along_less parts.1) in
      let least = mul-le_left (width s) (u *ℤ pos p.bottom) p.y (width_some parts.0 parts.1) l in
      absurd (plain _ _ _ _ _ greatest least (rescaled u (width s) (pos p.bottom)) (times_comm p.y (width s)) (lt-tested _ _ both.1)))
    where
      plain : (height high most y left : ℤ) → height ≤ℤ high → most ≤ℤ y → most ≡ high → left ≡ y → left <ℤ height → ⊥
      plain height high most y left h k e f l = omega (arith, ints, h, k, e, f, l)

-- ---- all segments of a list

and_false : (a b : Bool) → a ≡ false → (a && b) ≡ false
and_false true b e = absurd (cc)
and_false false b e = refl

module _ (bag : List WholeSegment) (p : RationalPoint) (u : ℤ) where
  pub beyond_right : ((s : WholeSegment) → Has bag s → s.pair.b.x ≤ℤ u) → (u *ℤ pos p.bottom) ≤ℤ p.x → winding_below bag p ≡ empty
  beyond_right each h = nothing_below bag p (λ s m. and_false (spans s.pair p) (runs_below s.pair p) (off_left s.pair p u (each s m) h))

  pub beyond_left : ((s : WholeSegment) → Has bag s → u ≤ℤ s.pair.a.x) → p.x <ℤ (u *ℤ pos p.bottom) → winding_below bag p ≡ empty
  beyond_left each h = nothing_below bag p (λ s m. and_false (spans s.pair p) (runs_below s.pair p) (off_right s.pair p u (each s m) h))

  pub beyond_bottom : ((s : WholeSegment) → Has bag s → (u ≤ℤ s.pair.a.y) × (u ≤ℤ s.pair.b.y)) → p.y ≤ℤ (u *ℤ pos p.bottom) → winding_below bag p ≡ empty
  beyond_bottom each h = nothing_below bag p (λ s m. not_below s.pair p u (each s m).0 (each s m).1 h)

  -- above all of them the ray straight up meets none
  pub beyond_top : IsTrue (are_ordered bag) → IsBalanced bag → 0 < p.bottom → IsTrue (is_on_none bag p) → ((s : WholeSegment) → Has bag s → (s.pair.a.y ≤ℤ u) × (s.pair.b.y ≤ℤ u)) → (u *ℤ pos p.bottom) ≤ℤ p.y → winding_below bag p ≡ empty
  beyond_top ordered balanced some off each h = sym (any_ray_will_do bag p ordered balanced some off).0 ∙ nothing_above bag p (λ s m. not_above s.pair p u (each s m).0 (each s m).1 h)
