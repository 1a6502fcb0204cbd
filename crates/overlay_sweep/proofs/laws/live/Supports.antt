-- The support of a segment: in the column to the right of its start it is the highest of the segments below it.
use Rattle.std.proofs.Common.{◌≡◌, ap, refl, sym, ◌∙◌, arith, inl, inr}
use Rattle.std.specs.Prelude.{ℤ, pos, ◌+ℤ◌, ◌-ℤ◌, ◌*ℤ◌, ◌<ℤ◌, ◌≤ℤ◌, neg_ℤ, int_le, int_lt, Bool, true, false, ◌&&◌, ◌||◌, ◌⊎◌}
use Rattle.std.specs.Ordering.{is_lt, is_le, ordering_then}
use Rattle.std.proofs.Common.{Less, Equal, Greater}
use Rattle.std.specs.declared.cmp.Ordering.{Ordering}
use Rattle.std.proofs.lemmas.Int.{ints, by_lt_z}
use Rattle.std.proofs.lemmas.Bool.{and_parts, and_from, and_left, and_right, or_left, or_right, or_from, or_cases, both_ways, cases_Bool}
use Rattle.overlay_geometry.specs.Points.{Point, Pair, turn, point_eq, point_lt, is_ordered}
use Rattle.overlay_geometry.specs.Below.{width, scaled_height, height_cmp, angle_cmp}
use Rattle.overlay_sweep.specs.ColumnWindings.{spans_column, is_below_in_column}
use Rattle.overlay_base.specs.Rules.{differ}
use Rattle.overlay_geometry.proofs.laws.geometry.Polynomials.{as_D, diffs, D-eq, mul-pos, mul-neg, mul-nonneg, cancel-pos, cancel-neg, cancel-nonpos, cancel-nonneg, mul-nonpos}
use Rattle.overlay_geometry.proofs.laws.geometry.Points.{same_point, same_by_eq, point_eq_same, from_not_same, at_a, inside_from_order, turn_same_outer, from_before, point_lt-trans, point_lt-irreflexive}
use Rattle.overlay_sweep.proofs.laws.columns.ColumnLines.{spans_column_parts, spans_column-true, point_lt-cases, turn_over_start, is_under, is_up_to}
use Rattle.overlay_sweep.proofs.laws.columns.Heights.{gap, slope, gap_back, gap_same, gap_at_other_start, is_below_is, is_lt-cmp, is_lt-height_cmp, is_le-height_cmp}
use Rattle.overlay_sweep.proofs.laws.columns.ColumnOrder.{IsApart, apart_back, gap_step, crosses_in_column, is_low, low-left, low-right, low-first, low-level, low-second, low_parts, one_is_below, is_below-trans}
use Rattle.overlay_sweep.proofs.laws.columns.AlongSegments.{slope_back}
use Rattle.overlay_geometry.proofs.laws.integers.Tests.{le-test, le-test_false, lt-test, lt-test_false, le-tested, lt-tested, by_sign}
use Rattle.overlay_geometry.proofs.laws.integers.Products.{minus_itself, times_zero}

-- ---- angles are slopes

angle_plain : (a b c d : ℤ) → a *ℤ b -ℤ c *ℤ d ≡ b *ℤ a -ℤ c *ℤ d
angle_plain a b c d = rw (as_D a, as_D b, as_D c, as_D d) (simp diffs (D-eq _ _ _ _ (omega arith)))

pub is_lt-angle_cmp : (s t : Pair) → is_lt (angle_cmp s t) ≡ int_lt (pos 0) (slope s t)
unfolding angle_cmp slope
is_lt-angle_cmp s t = is_lt-cmp (pos 0) ((s.b.x -ℤ s.a.x) *ℤ (t.b.y -ℤ t.a.y) -ℤ (s.b.y -ℤ s.a.y) *ℤ (t.b.x -ℤ t.a.x)) ∙ ap (λ (z : ℤ). int_lt (pos 0) z) (angle_plain (s.b.x -ℤ s.a.x) (t.b.y -ℤ t.a.y) (s.b.y -ℤ s.a.y) (t.b.x -ℤ t.a.x))

upright_plain : (h d w a : ℤ) → h *ℤ w -ℤ d *ℤ (a -ℤ a) ≡ h *ℤ w
upright_plain h d w a = rw (as_D h, as_D d, as_D w, as_D a) (simp diffs (D-eq _ _ _ _ (omega arith)))

-- an upright segment has the greatest angle
pub slope_upright : (u s : Pair) → pos 0 <ℤ width u → s.a.x ≡ s.b.x → s.a.y <ℤ s.b.y → pos 0 <ℤ slope u s
unfolding slope
slope_upright u s w e h = rw (← e, upright_plain (s.b.y -ℤ s.a.y) (u.b.y -ℤ u.a.y) (width u) s.a.x) (mul-pos (s.b.y -ℤ s.a.y) (width u) (omega (arith, ints)) w)

low_from_level : (u v k : ℤ) → u ≡ pos 0 → v ≡ u +ℤ k → is_low u v ≡ int_lt (pos 0) k
low_from_level u v k e f =
    by_sign k
    (λ (down : k <ℤ pos 0). low-right u v (omega (arith, ints)) ∙ sym (lt-test_false (pos 0) k (omega (arith, ints))))
    (λ (zero : k ≡ pos 0). low-level u v e (omega (arith, ints)) ∙ sym (lt-test_false (pos 0) k (omega (arith, ints))))
    (λ (up : pos 0 <ℤ k). low-second u v (omega (arith, ints)) (omega (arith, ints)) ∙ sym (lt-test (pos 0) k up))

ap_turn : (u s : Pair) → u.a ≡ s.a → turn u.a u.b s.a <ℤ pos 0 → turn u.a u.b u.a <ℤ pos 0
ap_turn u s e h = let same : turn u.a u.b u.a ≡ turn u.a u.b s.a = ap (turn u.a u.b) e in omega (arith, ints)

mean_plain : (dx dy dz wx wy wz : ℤ) → wy *ℤ (dz *ℤ wx -ℤ dx *ℤ wz) ≡ wz *ℤ (dy *ℤ wx -ℤ dx *ℤ wy) +ℤ wx *ℤ (dz *ℤ wy -ℤ dy *ℤ wz)
mean_plain dx dy dz wx wy wz = rw (as_D dx, as_D dy, as_D dz, as_D wx, as_D wy, as_D wz) (simp diffs (D-eq _ _ _ _ (omega arith)))

-- gaps and slopes over three segments
pub slope_mean : (r s t : Pair) → width s *ℤ slope r t ≡ width t *ℤ slope r s +ℤ width r *ℤ slope s t
unfolding slope
slope_mean r s t = mean_plain (r.b.y -ℤ r.a.y) (s.b.y -ℤ s.a.y) (t.b.y -ℤ t.a.y) (width r) (width s) (width t)

pub gap_mean : (x : ℤ) (r s t : Pair) → width s *ℤ gap x r t ≡ width t *ℤ gap x r s +ℤ width r *ℤ gap x s t
unfolding gap
gap_mean x r s t = mean_plain (scaled_height r x) (scaled_height s x) (scaled_height t x) (width r) (width s) (width t)

pub slope_same : (s : Pair) → slope s s ≡ pos 0
unfolding slope
slope_same s = minus_itself ((s.b.y -ℤ s.a.y) *ℤ width s)

-- ---- what lies below s at its start

-- strictly under its start, or with its start and a smaller angle
abbrev pub is_beneath : Pair → Pair → Bool
is_beneath s u = is_under s.a u || (point_eq u.a s.a && is_lt (angle_cmp u s))

pub not_beneath : (s u : Pair) → turn u.a u.b s.a <ℤ pos 0 → is_beneath s u ≡ false
not_beneath s u h =
    or_from _ _ (lt-test_false (pos 0) (turn u.a u.b s.a) (omega (arith, ints)))
    (and_left _ _ (from_not_same u.a s.a (λ e. let z = turn_same_outer u.a u.b in let k : turn u.a u.b u.a <ℤ pos 0 = ap_turn u s e h in omega (arith, ints))))

module _ (s u : Pair) (hu : spans_column s.a.x u ≡ true) (apart : IsApart s u) where
  u_parts : (u.a.x ≤ℤ s.a.x) × (s.a.x <ℤ u.b.x)
  u_parts = spans_column_parts s.a.x u hu

  -- what runs through the start of s starts there
  pub shares_start : turn u.a u.b s.a ≡ pos 0 → u.a ≡ s.a
  shares_start e =
      let p = u_parts in
      by_lt_z u.a.x s.a.x
      (λ (l : u.a.x <ℤ s.a.x). absurd (apart.a_around (inside_from_order u s.a (inl (omega (arith, ints))) e (inl l) (inl p.1))))
      (λ (g : s.a.x ≤ℤ u.a.x). let x : s.a.x ≡ u.a.x = omega (arith, ints) in same_point u.a s.a (sym x) (sym (at_a u.a u.b s.a (omega (arith, ints)) e x)))

  beneath_at_start : turn u.a u.b s.a ≡ pos 0 → is_beneath s u ≡ int_lt (pos 0) (slope u s)
  beneath_at_start e =
      let same = shares_start e in
      let eq : point_eq u.a s.a ≡ true = ap (λ (p : Point). point_eq p s.a) same ∙ point_eq_same s.a in
      rw (lt-test_false (pos 0) (turn u.a u.b s.a) (omega (arith, ints)), eq) (is_lt-angle_cmp u s)

  -- beneath a segment that is not vertical is what is below it in its first column
  pub below_is_beneath : s.a.x <ℤ s.b.x → is_below_in_column s.a.x u s ≡ is_beneath s u
  below_is_beneath ws =
      let p = u_parts in
      let wide : pos 0 <ℤ width s = omega (arith, ints) in
      let hs : spans_column s.a.x s ≡ true = spans_column-true s.a.x s (omega (arith, ints)) ws in
      let g = gap_at_other_start u s in
      is_below_is s.a.x u s ∙
      by_sign (turn u.a u.b s.a)
      (λ (down : turn u.a u.b s.a <ℤ pos 0). let m = mul-neg (width s) (turn u.a u.b s.a) wide down in low-left (gap s.a.x u s) (gap (s.a.x +ℤ pos 1) u s) (omega (arith, ints, g)) ∙ sym (not_beneath s u down))
      (λ (zero : turn u.a u.b s.a ≡ pos 0).
      let none : gap s.a.x u s ≡ pos 0 = g ∙ (rw zero (times_zero (width s))) in
      let step = gap_step s.a.x u s in
      low_from_level (gap s.a.x u s) (gap (s.a.x +ℤ pos 1) u s) (slope u s) none step ∙ sym (beneath_at_start zero))
      (λ (up : pos 0 <ℤ turn u.a u.b s.a).
      let m = mul-pos (width s) (turn u.a u.b s.a) wide up in
      let first : pos 0 <ℤ gap s.a.x u s = omega (arith, ints, g) in
      low-first _ _ first (by_lt_z (gap (s.a.x +ℤ pos 1) u s) (pos 0) (λ (q : gap (s.a.x +ℤ pos 1) u s <ℤ pos 0). absurd ((apart_back s u apart).cross (crosses_in_column s.a.x u s hu hs first q))) (λ (q : pos 0 ≤ℤ gap (s.a.x +ℤ pos 1) u s). q))
      ∙ sym (or_left _ _ (lt-test (pos 0) (turn u.a u.b s.a) up)))

  -- beneath a vertical one is what is at most as high as its start
  pub up_to_is_beneath : s.a.x ≡ s.b.x → s.a.y <ℤ s.b.y → is_up_to s.a u ≡ is_beneath s u
  up_to_is_beneath e h =
      let p = u_parts in
      by_sign (turn u.a u.b s.a)
      (λ (down : turn u.a u.b s.a <ℤ pos 0). le-test_false (pos 0) _ down ∙ sym (not_beneath s u down))
      (λ (zero : turn u.a u.b s.a ≡ pos 0). le-test (pos 0) (turn u.a u.b s.a) (omega (arith, ints)) ∙ sym (beneath_at_start zero ∙ lt-test (pos 0) (slope u s) (slope_upright u s (omega (arith, ints)) e h)))
      (λ (up : pos 0 <ℤ turn u.a u.b s.a). le-test (pos 0) (turn u.a u.b s.a) (omega (arith, ints)) ∙ sym (or_left _ _ (lt-test (pos 0) (turn u.a u.b s.a) up)))

-- ---- what is below something beneath s is beneath s

-- the level line through a point
abbrev level_at : Point → Pair
level_at p = record { a = p; b = record { x = p.x +ℤ pos 1; y = p.y } }

level_turn : (w m g : ℤ) → g ≡ w *ℤ m → w ≡ pos 1 → g ≡ m
level_turn w m g e h = let f : g ≡ pos 1 *ℤ m = rw h at e in omega (arith, ints)

gap_level_at : (u : Pair) (p : Point) → gap p.x u (level_at p) ≡ turn u.a u.b p
gap_level_at u p = level_turn (width (level_at p)) (turn u.a u.b p) _ (gap_at_other_start u (level_at p)) (omega (arith, ints))

mean_up : (w v z g h k : ℤ) → pos 0 <ℤ w → pos 0 <ℤ v → pos 0 <ℤ z → w *ℤ g ≡ v *ℤ h +ℤ z *ℤ k → pos 0 ≤ℤ h → pos 0 ≤ℤ k → pos 0 ≤ℤ g
mean_up w v z g h k pw pv pz e a b = let m = mul-nonneg v h (omega (arith, ints)) a in let n = mul-nonneg z k (omega (arith, ints)) b in cancel-nonneg w g pw (omega (arith, ints))

mean_down : (w v z g h k : ℤ) → pos 0 <ℤ w → pos 0 <ℤ v → pos 0 <ℤ z → w *ℤ g ≡ v *ℤ h +ℤ z *ℤ k → h ≤ℤ pos 0 → k ≤ℤ pos 0 → g ≤ℤ pos 0
mean_down w v z g h k pw pv pz e a b = let m = mul-nonpos v h (omega (arith, ints)) a in let n = mul-nonpos z k (omega (arith, ints)) b in cancel-nonpos w g pw (omega (arith, ints))

mean_down_first : (w v z g h k : ℤ) → pos 0 <ℤ w → pos 0 <ℤ v → pos 0 <ℤ z → w *ℤ g ≡ v *ℤ h +ℤ z *ℤ k → h <ℤ pos 0 → k ≤ℤ pos 0 → g <ℤ pos 0
mean_down_first w v z g h k pw pv pz e a b = let m = mul-neg v h pv a in let n = mul-nonpos z k (omega (arith, ints)) b in cancel-neg w g pw (omega (arith, ints))

mean_down_second : (w v z g h k : ℤ) → pos 0 <ℤ w → pos 0 <ℤ v → pos 0 <ℤ z → w *ℤ g ≡ v *ℤ h +ℤ z *ℤ k → h ≤ℤ pos 0 → k <ℤ pos 0 → g <ℤ pos 0
mean_down_second w v z g h k pw pv pz e a b = let m = mul-nonpos v h (omega (arith, ints)) a in let n = mul-neg z k pz b in cancel-neg w g pw (omega (arith, ints))

-- at most as high as t, which is at most as high as p
up_to_below : (p : Point) (u t : Pair) → pos 0 <ℤ width u → pos 0 <ℤ width t → pos 0 ≤ℤ gap p.x u t → pos 0 ≤ℤ turn t.a t.b p → pos 0 ≤ℤ turn u.a u.b p
up_to_below p u t wu wt h k =
    let e = gap_level_at u p in
    let f = gap_level_at t p in
    let one : pos 0 <ℤ width (level_at p) = omega (arith, ints) in
    let m = mean_up (width t) (width (level_at p)) (width u) (gap p.x u (level_at p)) (gap p.x u t) (gap p.x t (level_at p)) wt one wu (gap_mean p.x u t (level_at p)) h (omega (arith, ints)) in
    omega (arith, ints)

pub beneath-below : (s t u : Pair) → (s.a.x <ℤ s.b.x) ⊎ ((s.a.x ≡ s.b.x) × (s.a.y <ℤ s.b.y)) → spans_column s.a.x t ≡ true → spans_column s.a.x u ≡ true → IsApart s t → IsApart s u →
    is_beneath s t ≡ true → is_below_in_column s.a.x u t ≡ true → is_beneath s u ≡ true
beneath-below s t u (inl ws) ht hu at au q h =
    sym (below_is_beneath s u hu au ws) ∙ is_below-trans s.a.x u t s hu ht (spans_column-true s.a.x s (omega (arith, ints)) ws) h (below_is_beneath s t ht at ws ∙ q)
beneath-below s t u (inr up) ht hu at au q h =
    let low = low_parts (gap s.a.x u t) (gap (s.a.x +ℤ pos 1) u t) (sym (is_below_is s.a.x u t) ∙ h) in
    let tp = spans_column_parts s.a.x t ht in
    let wp = spans_column_parts s.a.x u hu in
    let k = le-tested (pos 0) (turn t.a t.b s.a) (up_to_is_beneath s t ht at up.0 up.1 ∙ q) in
    sym (up_to_is_beneath s u hu au up.0 up.1) ∙ le-test (pos 0) (turn u.a u.b s.a) (up_to_below s.a u t (omega (arith, ints)) (omega (arith, ints)) low.0 k)

-- ---- the highest beneath s

not_both : (a b : Bool) → differ a b ≡ true → b ≡ false → a ≡ true
not_both true b e f = refl
not_both false b e f = absurd (both_ways b f e)

-- t shares the start of s, and no segment between t and s by angle does
pub below_neighbor : (s t u : Pair) → spans_column s.a.x t ≡ true → spans_column s.a.x u ≡ true → IsApart t u → (t ≡ u → ⊥) → t.a ≡ s.a → is_beneath s u ≡ true →
    (u.a ≡ s.a → is_lt (angle_cmp t u) ≡ false) → is_below_in_column s.a.x u t ≡ true
below_neighbor s t u ht hu atu other same q none =
    let tp = spans_column_parts s.a.x t ht in
    let x : t.a.x ≡ s.a.x = ap (λ (p : Point). p.x) same in
    elim (or_cases (is_under s.a u) _ q) [
      | inl h ↦
          (let under : is_under t.a u ≡ true = ap (λ (p : Point). is_under p u) same ∙ h in
          ap (λ (z : ℤ). is_below_in_column z u t) (sym x) ∙ below_is_beneath t u (ap (λ (z : ℤ). spans_column z u) x ∙ hu) atu (omega (arith, ints)) ∙ or_left _ _ under)
      | inr h ↦
          (let ua : u.a ≡ s.a = same_by_eq u.a s.a (and_parts (point_eq u.a s.a) _ h).0 in
          let wu = spans_column_parts s.a.x u hu in
          let y : u.a.x ≡ s.a.x = ap (λ (p : Point). p.x) ua in
          let on : turn t.a t.b u.a ≡ pos 0 = ap (turn t.a t.b) (ua ∙ sym same) ∙ turn_same_outer t.a t.b in
          let not_under : is_under u.a t ≡ false = lt-test_false (pos 0) (turn t.a t.b u.a) (omega (arith, ints)) in
          let not_there : is_beneath u t ≡ false = or_from _ _ not_under (and_right _ _ (none ua)) in
          let above : is_below_in_column s.a.x t u ≡ false = ap (λ (z : ℤ). is_below_in_column z t u) (sym y) ∙ below_is_beneath u t (ap (λ (z : ℤ). spans_column z t) y ∙ ht) (apart_back t u atu) (omega (arith, ints)) ∙ not_there in
          not_both _ _ (one_is_below s.a.x u t hu ht (apart_back t u atu) (λ e. other (sym e))) above)
    ]

-- by height, then by angle
abbrev is_first : ℤ → ℤ → Bool
is_first g k = int_lt (pos 0) g || (int_le (pos 0) g && int_lt (pos 0) k)

is_lt-then : (o r : Ordering) → is_lt (ordering_then o r) ≡ (is_lt o || (is_le o && is_lt r))
is_lt-then Less r = refl
is_lt-then Equal r = refl
is_lt-then Greater r = refl

first_is : (x : ℤ) (t u : Pair) → is_lt (ordering_then (height_cmp x t u) (angle_cmp t u)) ≡ is_first (gap x t u) (slope t u)
first_is x t u = is_lt-then (height_cmp x t u) (angle_cmp t u) ∙ rw (is_lt-height_cmp x t u, is_le-height_cmp x t u, is_lt-angle_cmp t u) refl

abbrev NotFirst : ℤ → ℤ → Type 0
NotFirst g k = (g <ℤ pos 0) ⊎ ((g ≡ pos 0) × (k ≤ℤ pos 0))

not_first : (g k : ℤ) → is_first g k ≡ false → NotFirst g k
not_first g k h =
    by_sign g
    (λ (down : g <ℤ pos 0). inl down)
    (λ (zero : g ≡ pos 0). inr (zero, by_lt_z (pos 0) k (λ (up : pos 0 <ℤ k). absurd (both_ways (is_first g k) h (or_right _ _ (and_from _ _ (le-test (pos 0) g (omega (arith, ints))) (lt-test (pos 0) k up))))) (λ (q : k ≤ℤ pos 0). q)))
    (λ (up : pos 0 <ℤ g). absurd (both_ways (is_first g k) h (or_left _ _ (lt-test (pos 0) g up))))

from_not_first : (g k : ℤ) → NotFirst g k → is_first g k ≡ false
from_not_first g k (inl h) = or_from _ _ (lt-test_false (pos 0) g (omega (arith, ints))) (and_left _ _ (le-test_false (pos 0) g h))
from_not_first g k (inr h) = let a = h.0 in let b = h.1 in or_from _ _ (lt-test_false (pos 0) g (omega (arith, ints))) (and_right _ _ (lt-test_false (pos 0) k b))

not_low : (g k v : ℤ) → NotFirst g k → v ≡ g +ℤ k → is_low g v ≡ false
not_low g k v (inl h) e = low-left g v h
not_low g k v (inr h) e = let a = h.0 in let b = h.1 in by_sign v (λ (down : v <ℤ pos 0). low-right g v down) (λ (zero : v ≡ pos 0). low-level g v a zero) (λ (up : pos 0 <ℤ v). absurd (omega (arith, ints)))

-- t is the highest of those strictly under the start of s
pub below_highest : (x : ℤ) (t u : Pair) → spans_column x t ≡ true → spans_column x u ≡ true → IsApart t u → (t ≡ u → ⊥) → is_lt (ordering_then (height_cmp x t u) (angle_cmp t u)) ≡ false → is_below_in_column x u t ≡ true
below_highest x t u ht hu atu other last =
    let f = not_first (gap x t u) (slope t u) (sym (first_is x t u) ∙ last) in
    let above : is_below_in_column x t u ≡ false = is_below_is x t u ∙ not_low (gap x t u) (slope t u) (gap (x +ℤ pos 1) t u) f (gap_step x t u) in
    not_both _ _ (one_is_below x u t hu ht (apart_back t u atu) (λ e. other (sym e))) above

-- ---- both orders are orders, where no segment is upright

pub angle_same : (s : Pair) → is_lt (angle_cmp s s) ≡ false
angle_same s = is_lt-angle_cmp s s ∙ lt-test_false (pos 0) (slope s s) (let e = slope_same s in omega (arith, ints))

pub angle_asymmetric : (s t : Pair) → is_lt (angle_cmp s t) ≡ true → is_lt (angle_cmp t s) ≡ false
angle_asymmetric s t h =
    let up = lt-tested (pos 0) (slope s t) (sym (is_lt-angle_cmp s t) ∙ h) in
    let e = slope_back t s in
    is_lt-angle_cmp t s ∙ lt-test_false (pos 0) (slope t s) (omega (arith, ints))

angle_up_to : (s t : Pair) → is_lt (angle_cmp s t) ≡ false → slope s t ≤ℤ pos 0
angle_up_to s t h = by_lt_z (pos 0) (slope s t) (λ (up : pos 0 <ℤ slope s t). absurd (both_ways _ h (is_lt-angle_cmp s t ∙ lt-test (pos 0) (slope s t) up))) (λ (q : slope s t ≤ℤ pos 0). q)

module _ (r s t : Pair) (wr : pos 0 <ℤ width r) (ws : pos 0 <ℤ width s) (wt : pos 0 <ℤ width t) where
  slope_down : slope r s ≤ℤ pos 0 → slope s t ≤ℤ pos 0 → slope r t ≤ℤ pos 0
  slope_down h k = mean_down (width s) (width t) (width r) (slope r t) (slope r s) (slope s t) ws wt wr (slope_mean r s t) h k

  pub angle-trans : is_lt (angle_cmp r s) ≡ false → is_lt (angle_cmp s t) ≡ false → is_lt (angle_cmp r t) ≡ false
  angle-trans h k = is_lt-angle_cmp r t ∙ lt-test_false (pos 0) (slope r t) (slope_down (angle_up_to r s h) (angle_up_to s t k))

  gap_down_first : (x : ℤ) → gap x r s <ℤ pos 0 → gap x s t ≤ℤ pos 0 → gap x r t <ℤ pos 0
  gap_down_first x h k = mean_down_first (width s) (width t) (width r) (gap x r t) (gap x r s) (gap x s t) ws wt wr (gap_mean x r s t) h k

  gap_down_second : (x : ℤ) → gap x r s ≤ℤ pos 0 → gap x s t <ℤ pos 0 → gap x r t <ℤ pos 0
  gap_down_second x h k = mean_down_second (width s) (width t) (width r) (gap x r t) (gap x r s) (gap x s t) ws wt wr (gap_mean x r s t) h k

  gap_down : (x : ℤ) → gap x r s ≤ℤ pos 0 → gap x s t ≤ℤ pos 0 → gap x r t ≤ℤ pos 0
  gap_down x h k = mean_down (width s) (width t) (width r) (gap x r t) (gap x r s) (gap x s t) ws wt wr (gap_mean x r s t) h k

  gap_level_up : (x : ℤ) → pos 0 ≤ℤ gap x r s → pos 0 ≤ℤ gap x s t → pos 0 ≤ℤ gap x r t
  gap_level_up x h k = mean_up (width s) (width t) (width r) (gap x r t) (gap x r s) (gap x s t) ws wt wr (gap_mean x r s t) h k

  not_first-trans : (x : ℤ) → NotFirst (gap x r s) (slope r s) → NotFirst (gap x s t) (slope s t) → NotFirst (gap x r t) (slope r t)
  not_first-trans x (inl h) (inl k) = inl (gap_down_first x h (omega (arith, ints)))
  not_first-trans x (inl h) (inr k) = let a = k.0 in inl (gap_down_first x h (omega (arith, ints)))
  not_first-trans x (inr h) (inl k) = let a = h.0 in inl (gap_down_second x (omega (arith, ints)) k)
  not_first-trans x (inr h) (inr k) =
      let a = h.0 in let b = k.0 in
      let down = gap_down x (omega (arith, ints)) (omega (arith, ints)) in
      let up = gap_level_up x (omega (arith, ints)) (omega (arith, ints)) in
      inr (omega (arith, ints), slope_down h.1 k.1)

  pub first-trans : (x : ℤ) → is_lt (ordering_then (height_cmp x r s) (angle_cmp r s)) ≡ false → is_lt (ordering_then (height_cmp x s t) (angle_cmp s t)) ≡ false → is_lt (ordering_then (height_cmp x r t) (angle_cmp r t)) ≡ false
  first-trans x h k = first_is x r t ∙ from_not_first (gap x r t) (slope r t) (not_first-trans x (not_first (gap x r s) (slope r s) (sym (first_is x r s) ∙ h)) (not_first (gap x s t) (slope s t) (sym (first_is x s t) ∙ k)))

first_back : (g k g' k' : ℤ) → g' ≡ neg_ℤ g → k' ≡ neg_ℤ k → is_first g k ≡ true → NotFirst g' k'
first_back g k g' k' eg ek h =
    by_sign g
    (λ (down : g <ℤ pos 0). absurd (both_ways (is_first g k) (from_not_first g k (inl down)) h))
    (λ (zero : g ≡ pos 0). by_lt_z (pos 0) k (λ (up : pos 0 <ℤ k). inr (omega (arith, ints), omega (arith, ints))) (λ (q : k ≤ℤ pos 0). absurd (both_ways (is_first g k) (from_not_first g k (inr (zero, q))) h)))
    (λ (up : pos 0 <ℤ g). inl (omega (arith, ints)))

pub first_same : (x : ℤ) (s : Pair) → is_lt (ordering_then (height_cmp x s s) (angle_cmp s s)) ≡ false
first_same x s = let e = slope_same s in first_is x s s ∙ from_not_first (gap x s s) (slope s s) (inr (gap_same x s, omega (arith, ints)))

pub first_asymmetric : (x : ℤ) (s t : Pair) → is_lt (ordering_then (height_cmp x s t) (angle_cmp s t)) ≡ true → is_lt (ordering_then (height_cmp x t s) (angle_cmp t s)) ≡ false
first_asymmetric x s t h = first_is x t s ∙ from_not_first (gap x t s) (slope t s) (first_back (gap x s t) (slope s t) (gap x t s) (slope t s) (gap_back x t s) (slope_back t s) (sym (first_is x s t) ∙ h))

-- ---- earlier by start, then by angle

abbrev pub is_earlier : Pair → Pair → Bool
is_earlier u s = point_lt u.a s.a || (point_eq u.a s.a && is_lt (angle_cmp u s))

leaning_plain : (ds du wu ws : ℤ) → wu ≡ pos 0 → pos 0 ≤ℤ (du *ℤ ws) → (ds *ℤ wu -ℤ du *ℤ ws) ≤ℤ pos 0
leaning_plain ds du wu ws e h = let z : ds *ℤ wu ≡ pos 0 = rw e (times_zero ds) in omega (arith, ints)

-- an upright segment has no smaller angle than another
leaning : (u s : Pair) → u.a.x ≡ u.b.x → u.a.y <ℤ u.b.y → pos 0 ≤ℤ width s → slope u s ≤ℤ pos 0
unfolding slope
leaning u s e h w = leaning_plain (s.b.y -ℤ s.a.y) (u.b.y -ℤ u.a.y) (width u) (width s) (omega (arith, ints)) (mul-nonneg (u.b.y -ℤ u.a.y) (width s) (omega (arith, ints)) w)

width_nonneg : (s : Pair) → is_ordered s ≡ true → pos 0 ≤ℤ width s
width_nonneg s o = elim (point_lt-cases s.a s.b o) [ inl h ↦ omega (arith, ints) | inr h ↦ (let e = h.0 in omega (arith, ints)) ]

slope_above : (u s : Pair) → is_lt (angle_cmp u s) ≡ true → pos 0 <ℤ slope u s
slope_above u s h = lt-tested (pos 0) (slope u s) (sym (is_lt-angle_cmp u s) ∙ h)

-- what has a smaller angle than another is not upright
pub wide_from_angle : (u s : Pair) → is_ordered u ≡ true → is_ordered s ≡ true → is_lt (angle_cmp u s) ≡ true → u.a.x <ℤ u.b.x
wide_from_angle u s o p h = elim (point_lt-cases u.a u.b o) [ inl w ↦ w | inr up ↦ absurd (let k = slope_above u s h in let l = leaning u s up.0 up.1 (width_nonneg s p) in omega (arith, ints)) ]

mean_up_strict : (w v z g h k : ℤ) → pos 0 <ℤ w → pos 0 ≤ℤ v → pos 0 <ℤ z → w *ℤ g ≡ v *ℤ h +ℤ z *ℤ k → pos 0 ≤ℤ h → pos 0 <ℤ k → pos 0 <ℤ g
mean_up_strict w v z g h k pw pv pz e a b = let m = mul-nonneg v h pv a in let n = mul-pos z k pz b in cancel-pos w g pw (omega (arith, ints))

angle_less-trans : (u t s : Pair) → is_ordered u ≡ true → is_ordered t ≡ true → is_ordered s ≡ true → is_lt (angle_cmp u t) ≡ true → is_lt (angle_cmp t s) ≡ true → is_lt (angle_cmp u s) ≡ true
angle_less-trans u t s ou ot os h k =
    let wu = wide_from_angle u t ou ot h in
    let wt = wide_from_angle t s ot os k in
    let a = slope_above u t h in
    let b = slope_above t s k in
    is_lt-angle_cmp u s ∙ lt-test (pos 0) (slope u s) (mean_up_strict (width t) (width s) (width u) (slope u s) (slope u t) (slope t s) (omega (arith, ints)) (width_nonneg s os) (omega (arith, ints)) (slope_mean u t s) (omega (arith, ints)) b)

-- the same where neither is less, upright segments and all
pub angle-chain : (r s t : Pair) → is_ordered r ≡ true → is_ordered s ≡ true → is_ordered t ≡ true → is_lt (angle_cmp r s) ≡ false → is_lt (angle_cmp s t) ≡ false → is_lt (angle_cmp r t) ≡ false
angle-chain r s t or os ot h k =
    let a = angle_up_to r s h in
    let b = angle_up_to s t k in
    elim (cases_Bool (is_lt (angle_cmp r t))) [
      | inr e ↦ e
      | inl e ↦ absurd (
          let wr : pos 0 <ℤ width r = (let w = wide_from_angle r t or ot e in omega (arith, ints)) in
          let c = slope_above r t e in
          elim (point_lt-cases s.a s.b os) [
            | inl w ↦
                let ws : pos 0 <ℤ width s = omega (arith, ints) in
                let m = mul-nonpos (width t) (slope r s) (width_nonneg t ot) a in
                let n = mul-nonpos (width r) (slope s t) (omega (arith, ints)) b in
                let mean = slope_mean r s t in
                let d = cancel-nonpos (width s) (slope r t) ws (omega (arith, ints)) in
                omega (arith, ints)
            | inr up ↦ let d = slope_upright r s wr up.0 up.1 in omega (arith, ints)
          ])
    ]

-- the two ways to be earlier
pub earlier-cases : (u s : Pair) → is_earlier u s ≡ true → (point_lt u.a s.a ≡ true) ⊎ ((u.a ≡ s.a) × (is_lt (angle_cmp u s) ≡ true))
earlier-cases u s h = elim (or_cases (point_lt u.a s.a) _ h) [ inl e ↦ inl e | inr e ↦ (let parts = and_parts (point_eq u.a s.a) _ e in inr (same_by_eq u.a s.a parts.0, parts.1)) ]

pub earlier_at_start : (u s : Pair) → u.a ≡ s.a → is_lt (angle_cmp u s) ≡ true → is_earlier u s ≡ true
earlier_at_start u s e h = or_right (point_lt u.a s.a) _ (and_from _ _ (ap (λ (p : Point). point_eq p s.a) e ∙ point_eq_same s.a) h)

pub earlier-trans : (u t s : Pair) → is_ordered u ≡ true → is_ordered t ≡ true → is_ordered s ≡ true → is_earlier u t ≡ true → is_earlier t s ≡ true → is_earlier u s ≡ true
earlier-trans u t s ou ot os h k = by (earlier-cases u t h) (earlier-cases t s k)
  where
    by : (point_lt u.a t.a ≡ true) ⊎ ((u.a ≡ t.a) × (is_lt (angle_cmp u t) ≡ true)) → (point_lt t.a s.a ≡ true) ⊎ ((t.a ≡ s.a) × (is_lt (angle_cmp t s) ≡ true)) → is_earlier u s ≡ true
    by (inl a) (inl b) = or_left _ _ (point_lt-trans u.a t.a s.a a b)
    by (inl a) (inr b) = or_left _ _ (ap (λ (p : Point). point_lt u.a p) (sym b.0) ∙ a)
    by (inr a) (inl b) = or_left _ _ (ap (λ (p : Point). point_lt p s.a) a.0 ∙ b)
    by (inr a) (inr b) = earlier_at_start u s (a.0 ∙ b.0) (angle_less-trans u t s ou ot os a.1 b.1)

pub earlier_itself : (s : Pair) → is_earlier s s ≡ false
earlier_itself s = or_from _ _ (point_lt-irreflexive s.a) (and_right _ _ (angle_same s))

above_zero : (w m g : ℤ) → pos 0 <ℤ w → g ≡ w *ℤ m → pos 0 <ℤ g → pos 0 <ℤ m
above_zero w m g h e p = cancel-pos w m h (omega (arith, ints))

-- what is beneath s began earlier
pub earlier_beneath : (s u : Pair) → spans_column s.a.x u ≡ true → is_beneath s u ≡ true → is_earlier u s ≡ true
earlier_beneath s u hu h =
    let p = spans_column_parts s.a.x u hu in
    elim (or_cases (is_under s.a u) _ h) [
      | inl e ↦ or_left _ _ (by_lt_z u.a.x s.a.x
          (λ (l : u.a.x <ℤ s.a.x). from_before u.a s.a (inl l))
          (λ (g : s.a.x ≤ℤ u.a.x).
          let x : u.a.x ≡ s.a.x = omega (arith, ints) in
          let up = above_zero (u.b.x -ℤ u.a.x) (s.a.y -ℤ u.a.y) (turn u.a u.b s.a) (omega (arith, ints)) (turn_over_start u s.a x) (lt-tested (pos 0) (turn u.a u.b s.a) e) in
          from_before u.a s.a (inr (x, omega (arith, ints)))))
      | inr e ↦ or_right _ _ e
    ]
