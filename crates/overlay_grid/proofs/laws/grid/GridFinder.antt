-- The grid compares every two pairs where one marks the other.
use Rattle.std.proofs.Common.{◌≡◌, refl, sym, ap, subst, ℕ, zero, suc, ◌+◌, ◌-◌, ◌<◌, ◌≤◌, ◌∙◌, ◌⊎◌, inl, inr, arith, IsTrue, map}
use Rattle.std.specs.Prelude.{ℤ, pos, ◌+ℤ◌, ◌-ℤ◌, ◌*ℤ◌, ◌≤ℤ◌, ◌<ℤ◌, neg_ℤ}
use Rattle.std.specs.Int.{int_min, int_max}
use Rattle.std.specs.List.{range_with_len}
use Rattle.std.proofs.Math.Nat.{eq-zero-or-pos}
use Rattle.overlay_geometry.proofs.laws.lists.Lists.{Has}
use Rattle.std.proofs.lemmas.Int.{ints, by_lt_z, clamps}
use Rattle.overlay_geometry.specs.Points.{Point, Pair, is_ordered, turn, is_strictly_inside}
use Rattle.overlay_geometry.specs.Below.{width, scaled_height}
use Rattle.overlay_geometry.specs.Meeting.{do_cross}
use Rattle.overlay_grid.specs.Grid.{Layout, column_index, pos_of, Fragment, rect_between, fragment_in, fragments}
use Rattle.overlay_geometry.specs.Ranges.{Rect}
use Rattle.overlay_grid.specs.GridLooks.{is_on_border}
use Rattle.overlay_geometry.proofs.laws.geometry.Polynomials.{as_D, diffs, D-eq, mul-pos, mul-nonneg, mul-le_left, cancel-le, cancel-eq, mul-nonpos}
use Rattle.overlay_geometry.proofs.laws.geometry.Points.{turn_same_outer, turn_same_last}
use Rattle.overlay_grid.proofs.laws.grid.GridColumns.{pos_of-column_index, pos_of-column_index_next, column_index-monotone, column_index-positive, column_index-left_of_border, pos_of-next, then_less, less_to}
use Rattle.overlay_grid.proofs.laws.grid.GridFragments.{RunsRight, Holds, Enters, enters, Enters-wider, left_in, right_in, left_in-right_in, fragment_in-min_x, fragment_in-max_x, border, clip_low, clip_high, fragment_in-holds, fragment_in-column, RunsUp, runs, RunsUp-vertical, upright_fragment, fragments_upright, fragments_flat, column_count, column_count-end, RunsRight-not_vertical, Enters-first, Enters-last}
use Rattle.overlay_intersections.proofs.laws.marks.MarkBoxes.{join_tests, Inside, inside, RisesThrough, crossing_rises, crossing_turns, crossing_mean_x, means_apart_first, means_apart_last, zero_times}
use Rattle.overlay_geometry.proofs.laws.integers.Tests.{eq-test, nat_lt-test, le_itself, le_weak, le_through}

-- ---- where two pairs are looked at

-- f is a fragment of s
abbrev pub IsFragmentOf : Layout → Pair → Fragment → Type 0
IsFragmentOf l s f = Has (fragments l s) f

-- s is vertical on a border, t ends strictly inside it and has a fragment in the column to its left
pub record TouchesOnBorder (l : Layout) (s t : Pair) : Type 0 where
  pub on_border : IsTrue (is_on_border l s)
  pub inside : IsTrue (is_strictly_inside s t.b)
  pub f : Fragment
  pub f_of : IsFragmentOf l t f
  pub column : f.column + 1 ≡ column_index l s.a.x

-- fragments of two pairs in one column, whose rectangles meet
pub record Together (l : Layout) (s t : Pair) : Type 0 where
  pub f : Fragment
  pub g : Fragment
  pub f_of : IsFragmentOf l s f
  pub g_of : IsFragmentOf l t g
  pub one_column : f.column ≡ g.column
  pub low : f.rect.min_y ≤ℤ g.rect.max_y
  pub high : g.rect.min_y ≤ℤ f.rect.max_y
  pub left : f.rect.min_x ≤ℤ g.rect.max_x
  pub right : g.rect.min_x ≤ℤ f.rect.max_x

together_swap : (l : Layout) (s t : Pair) → Together l s t → Together l t s
together_swap l s t m = record { f = m.g; g = m.f; f_of = m.g_of; g_of = m.f_of; one_column = sym m.one_column; low = m.high; high = m.low; left = m.right; right = m.left }

-- ---- heights compared by products

-- at x, s is not above t
pub record NotAbove (s t : Pair) (x : ℤ) : Type 0 where
  pub heights : (scaled_height s x *ℤ width t) ≤ℤ (scaled_height t x *ℤ width s)

not_above_total : (s t : Pair) (x : ℤ) → NotAbove s t x ⊎ NotAbove t s x
not_above_total s t x = by_lt_z (scaled_height t x *ℤ width s) (scaled_height s x *ℤ width t) (λ less. inr (record { heights = omega (arith, ints) })) (λ more. inl (record { heights = more }))

-- a number below the one height and a number above the other
reach : (p q u v h k : ℤ) → pos 0 <ℤ u → pos 0 <ℤ v → (p *ℤ u) ≤ℤ h → (h *ℤ v) ≤ℤ (k *ℤ u) → k ≤ℤ (q *ℤ v) → p ≤ℤ q
reach p q u v h k hu hv a b c =
    let first = mul-le_left v (p *ℤ u) h (omega (arith, ints)) a in
    let last = mul-le_left u k (q *ℤ v) (omega (arith, ints)) c in
    let e1 : v *ℤ (p *ℤ u) ≡ (u *ℤ v) *ℤ p = rw (as_D p, as_D u, as_D v) (simp diffs (D-eq _ _ _ _ (omega arith))) in
    let e2 : u *ℤ (q *ℤ v) ≡ (u *ℤ v) *ℤ q = rw (as_D q, as_D u, as_D v) (simp diffs (D-eq _ _ _ _ (omega arith))) in
    cancel-le (u *ℤ v) p q (mul-pos u v hu hv) (omega (arith, ints))

-- the height at an end, and at a point by its turn
height_at_a : (s : Pair) → scaled_height s s.a.x ≡ s.a.y *ℤ width s
unfolding scaled_height
height_at_a s = rw (as_D s.a.x, as_D s.a.y, as_D s.b.x, as_D s.b.y) (simp diffs (D-eq _ _ _ _ (omega arith)))

height_at_b : (s : Pair) → scaled_height s s.b.x ≡ s.b.y *ℤ width s
unfolding scaled_height
height_at_b s = rw (as_D s.a.x, as_D s.a.y, as_D s.b.x, as_D s.b.y) (simp diffs (D-eq _ _ _ _ (omega arith)))

pub turn_height : (s : Pair) (p : Point) → turn s.a s.b p ≡ p.y *ℤ width s -ℤ scaled_height s p.x
unfolding turn scaled_height
turn_height s p = rw (as_D s.a.x, as_D s.a.y, as_D s.b.x, as_D s.b.y, as_D p.x, as_D p.y) (simp diffs (D-eq _ _ _ _ (omega arith)))

-- at a point of t that lies on s or to its right t is not above s, and at one on s or to its left s is not above t
below_at : (u v y h k : ℤ) → pos 0 ≤ℤ u → pos 0 ≤ℤ v → k ≡ y *ℤ v → (y *ℤ u) ≤ℤ h → (k *ℤ u) ≤ℤ (h *ℤ v)
below_at u v y h k hu hv e a =
    let m = mul-le_left v (y *ℤ u) h hv a in
    let f : (y *ℤ v) *ℤ u ≡ v *ℤ (y *ℤ u) = rw (as_D y, as_D u, as_D v) (simp diffs (D-eq _ _ _ _ (omega arith))) in
    rw (e, f) (omega (arith, ints))

above_at : (u v y h k : ℤ) → pos 0 ≤ℤ u → pos 0 ≤ℤ v → k ≡ y *ℤ v → h ≤ℤ (y *ℤ u) → (h *ℤ v) ≤ℤ (k *ℤ u)
above_at u v y h k hu hv e a =
    let m = mul-le_left v h (y *ℤ u) hv a in
    let f : (y *ℤ v) *ℤ u ≡ v *ℤ (y *ℤ u) = rw (as_D y, as_D u, as_D v) (simp diffs (D-eq _ _ _ _ (omega arith))) in
    rw (e, f) (omega (arith, ints))

at_or_below : (s t : Pair) (p : Point) → RunsRight s → RunsRight t → scaled_height t p.x ≡ p.y *ℤ width t → turn s.a s.b p ≤ℤ pos 0 → NotAbove t s p.x
at_or_below s t p r q e h = let f = turn_height s p in let a = r.forward in let b = q.forward in record { heights = below_at (width s) (width t) p.y (scaled_height s p.x) (scaled_height t p.x) (omega (arith, ints)) (omega (arith, ints)) e (omega (arith, ints)) }

at_or_above : (s t : Pair) (p : Point) → RunsRight s → RunsRight t → scaled_height t p.x ≡ p.y *ℤ width t → pos 0 ≤ℤ turn s.a s.b p → NotAbove s t p.x
at_or_above s t p r q e h = let f = turn_height s p in let a = r.forward in let b = q.forward in record { heights = above_at (width s) (width t) p.y (scaled_height s p.x) (scaled_height t p.x) (omega (arith, ints)) (omega (arith, ints)) e (omega (arith, ints)) }

-- ---- the column in which two change places

-- the first of two tests at the start, the second at the end: neighbors with the first and then the second
change : (P Q : ℕ → Type 0) → ((i : ℕ) → P i ⊎ Q i) → (a n : ℕ) → P a → Q (a + n + 1) → (i : ℕ) × (a ≤ i) × (i ≤ a + n) × P i × Q (i + 1)
change P Q total a zero p q = (a, omega arith, omega arith, p, subst Q (omega arith) q)
change P Q total a (suc n) p q = elim (total (a + 1)) [
  | inl p' ↦ (let (i, h, k, p'', q'') = change P Q total (a + 1) n p' (subst Q (omega arith) q) in (i, omega arith, omega arith, p'', q''))
  | inr q' ↦ (a, omega arith, omega arith, p, q')
]

-- ---- two pairs that are not vertical

-- a range within another, and the borders of a column
clip_left_low : (a b u v p q : ℤ) → a ≤ℤ u → u <ℤ v → v ≤ℤ b → p <ℤ q → p <ℤ v → u <ℤ q → int_max a p ≤ℤ int_max u (int_min v p)
clip_left_low a b u v p q h k l m n o = omega (arith, ints, clamps)

clip_left_high : (a b u v p q : ℤ) → a ≤ℤ u → u <ℤ v → v ≤ℤ b → p <ℤ q → p <ℤ v → u <ℤ q → int_max u (int_min v p) ≤ℤ int_min b q
clip_left_high a b u v p q h k l m n o = omega (arith, ints, clamps)

clip_right_low : (a b u v p q : ℤ) → a ≤ℤ u → u <ℤ v → v ≤ℤ b → p <ℤ q → p <ℤ v → u <ℤ q → int_max a p ≤ℤ int_max u (int_min v q)
clip_right_low a b u v p q h k l m n o = omega (arith, ints, clamps)

clip_right_high : (a b u v p q : ℤ) → a ≤ℤ u → u <ℤ v → v ≤ℤ b → p <ℤ q → p <ℤ v → u <ℤ q → int_max u (int_min v q) ≤ℤ int_min b q
clip_right_high a b u v p q h k l m n o = omega (arith, ints, clamps)

-- u..v is a range of x, not empty, within that of s
pub record Spans (s : Pair) (u v : ℤ) : Type 0 where
  pub from_u : s.a.x ≤ℤ u
  pub wide : u <ℤ v
  pub to_v : v ≤ℤ s.b.x

Spans-RunsRight : (s : Pair) (u v : ℤ) → Spans s u v → RunsRight s
Spans-RunsRight s u v h = let a = h.from_u in let b = h.wide in let c = h.to_v in record { forward = omega (arith, ints) }

holds_left : (l : Layout) (s : Pair) (u v : ℤ) (i : ℕ) → Spans s u v → Enters l u v i → Holds s (fragment_in l s i).rect (border l u v i)
holds_left l s u v i h e = fragment_in-holds l s i (border l u v i) (Spans-RunsRight s u v h)
    (clip_left_low s.a.x s.b.x u v (pos_of l i) (pos_of l (i + 1)) h.from_u h.wide h.to_v (pos_of-next l i) e.begins e.ends)
    (clip_left_high s.a.x s.b.x u v (pos_of l i) (pos_of l (i + 1)) h.from_u h.wide h.to_v (pos_of-next l i) e.begins e.ends)

holds_right : (l : Layout) (s : Pair) (u v : ℤ) (i : ℕ) → Spans s u v → Enters l u v i → Holds s (fragment_in l s i).rect (border l u v (i + 1))
holds_right l s u v i h e = fragment_in-holds l s i (border l u v (i + 1)) (Spans-RunsRight s u v h)
    (clip_right_low s.a.x s.b.x u v (pos_of l i) (pos_of l (i + 1)) h.from_u h.wide h.to_v (pos_of-next l i) e.begins e.ends)
    (clip_right_high s.a.x s.b.x u v (pos_of l i) (pos_of l (i + 1)) h.from_u h.wide h.to_v (pos_of-next l i) e.begins e.ends)

pub Has-range : {X : Type 0} (f : ℕ → X) (a n i : ℕ) → a ≤ i → i < a + n → Has (map f (range_with_len a n)) (f i)
Has-range f a zero i h k = absurd (omega arith)
Has-range f a (suc n) i h k = elim (eq-zero-or-pos (i - a)) [
  | inl e ↦ inl (ap f (omega arith))
  | inr more ↦ inr (Has-range f (a + 1) n i (omega arith) (omega arith))
]

within_count : (a n e i : ℕ) → a + n ≡ e + 1 → i ≤ e → i < a + n
within_count a n e i h k = omega arith

fragment_of : (l : Layout) (s : Pair) (i : ℕ) → RunsRight s → l.min_x ≤ℤ s.a.x → Enters l s.a.x s.b.x i → IsFragmentOf l s (fragment_in l s i)
fragment_of l s i r h e =
    rw (fragments_flat l s (RunsRight-not_vertical s r))
    (Has-range (λ i. fragment_in l s i) (column_index l s.a.x) (column_count l s) i (Enters-first l s.a.x s.b.x i h e) (within_count _ _ _ _ (column_count-end l s r h) (Enters-last l s.a.x s.b.x i e)))

wide_pos : (s : Pair) → RunsRight s → pos 0 <ℤ width s
wide_pos s r = let f = r.forward in omega (arith, ints)

below_reaches : (s t : Pair) (f g : Rect) (x : ℤ) → RunsRight s → RunsRight t → NotAbove s t x → Holds s f x → Holds t g x → f.min_y ≤ℤ g.max_y
below_reaches s t f g x r q n a b = reach f.min_y g.max_y (width s) (width t) (scaled_height s x) (scaled_height t x) (wide_pos s r) (wide_pos t q) a.low n.heights b.high

-- the rectangle of a fragment reaches over the x between its borders
over_left : (l : Layout) (s : Pair) (u v : ℤ) (i : ℕ) → Spans s u v → Enters l u v i → RunsRight s → Enters l s.a.x s.b.x i →
    ((fragment_in l s i).rect.min_x ≤ℤ border l u v i) × (border l u v i ≤ℤ (fragment_in l s i).rect.max_x)
over_left l s u v i h e r e' =
    let order = left_in-right_in l s i r e' in
    let n = pos_of-next l i in
    rw (fragment_in-min_x l s i order, fragment_in-max_x l s i order) (
      clip_left_low s.a.x s.b.x u v (pos_of l i) (pos_of l (i + 1)) h.from_u h.wide h.to_v n e.begins e.ends,
      clip_left_high s.a.x s.b.x u v (pos_of l i) (pos_of l (i + 1)) h.from_u h.wide h.to_v n e.begins e.ends,
    )

-- where s is not above t at one border of a column and not below it at the other, their fragments there meet
together_in : (l : Layout) (s t : Pair) (u v : ℤ) (i : ℕ) → l.min_x ≤ℤ s.a.x → l.min_x ≤ℤ t.a.x → Spans s u v → Spans t u v → Enters l u v i →
    NotAbove s t (border l u v i) → NotAbove t s (border l u v (i + 1)) → Together l s t
together_in l s t u v i hs ht a b e p q =
    let r = Spans-RunsRight s u v a in
    let r' = Spans-RunsRight t u v b in
    let enter_s = Enters-wider l u v s.a.x s.b.x i a.from_u a.to_v e in
    let enter_t = Enters-wider l u v t.a.x t.b.x i b.from_u b.to_v e in
    let over_s = over_left l s u v i a e r enter_s in
    let over_t = over_left l t u v i b e r' enter_t in
    record {
      f = fragment_in l s i;
      g = fragment_in l t i;
      f_of = fragment_of l s i r hs enter_s;
      g_of = fragment_of l t i r' ht enter_t;
      left = le_through _ _ _ over_s.0 over_t.1;
      right = le_through _ _ _ over_t.0 over_s.1;
      one_column = fragment_in-column l s i ∙ sym (fragment_in-column l t i);
      low = below_reaches s t _ _ (border l u v i) r r' p (holds_left l s u v i a e) (holds_left l t u v i b e);
      high = below_reaches t s _ _ (border l u v (i + 1)) r' r q (holds_right l t u v i b e) (holds_right l s u v i a e);
    }

rest_of : (m n : ℕ) → m ≤ n → m + (n - m) + 1 ≡ n + 1
rest_of m n h = omega arith

up_to_rest : (i m n : ℕ) → m ≤ n → i ≤ m + (n - m) → i ≤ n
up_to_rest i m n h k = omega arith

-- Two pairs that change places over a range of x have fragments in one column whose heights meet.
pub together_where_changed : (l : Layout) (s t : Pair) (u v : ℤ) → l.min_x ≤ℤ s.a.x → l.min_x ≤ℤ t.a.x → Spans s u v → Spans t u v → NotAbove s t u → NotAbove t s v → Together l s t
together_where_changed l s t u v hs ht a b p q =
    let first : ℕ = column_index l u in
    let last : ℕ = column_index l (v -ℤ pos 1) in
    let hu : l.min_x ≤ℤ u = le_through _ _ _ hs a.from_u in
    let m : first ≤ last = column_index-monotone l u (v -ℤ pos 1) hu (less_to u u v (le_itself u) a.wide) in
    let eu : border l u v first ≡ u = clip_low u v (pos_of l first) (pos_of-column_index l u hu) a.wide in
    let ev : border l u v (last + 1) ≡ v = clip_high u v (pos_of l (last + 1)) (pos_of-column_index_next l (v -ℤ pos 1) (less_to _ u v hu a.wide)) a.wide in
    let ew : border l u v (first + (last - first) + 1) ≡ v = ap (border l u v) (rest_of first last m) ∙ ev in
    let (i, h, k, p', q') = change (λ (i : ℕ). NotAbove s t (border l u v i)) (λ (i : ℕ). NotAbove t s (border l u v i)) (λ i. not_above_total s t (border l u v i)) first (last - first)
    (subst (NotAbove s t) (sym eu) p) (subst (NotAbove t s) (sym ew) q) in
    together_in l s t u v i hs ht a b (enters l u v i hu a.wide h (up_to_rest i first last m k)) p' q'

-- ---- crossings of two pairs that are not vertical

-- of two that cross, each begins left of the other's right end
rises_reach_right : (s t : Pair) → RunsRight s → RunsRight t → RisesThrough s t → s.a.x <ℤ t.b.x
rises_reach_right s t a b r = by_lt_z s.a.x t.b.x (λ less. less)
    (λ (more : t.b.x ≤ℤ s.a.x). absurd (
    let k : ℤ = turn s.a s.b t.b in
    let l : ℤ = neg_ℤ (turn s.a s.b t.a) in
    let m : ℤ = turn t.a t.b s.a in
    let n : ℤ = neg_ℤ (turn t.a t.b s.b) in
    let e = crossing_turns s t in
    let f = a.forward in
    let g = b.forward in
    let hk : pos 0 <ℤ k = r.end_above in
    let hl : pos 0 <ℤ l = let h = r.start_below in omega (arith, ints) in
    let hm : pos 0 <ℤ m = r.left_above in
    let hn : pos 0 <ℤ n = let h = r.right_below in omega (arith, ints) in
    let sum : m +ℤ n ≡ k +ℤ l = omega (arith, ints) in
    means_apart_first m n k l (s.b.x -ℤ s.a.x) (pos 0) (t.a.x -ℤ s.a.x) (t.b.x -ℤ s.a.x) (t.b.x -ℤ s.a.x) hm hn hk hl sum (sym (crossing_mean_x s t))
    (omega (arith, ints)) (omega (arith, ints)) (omega (arith, ints)) (omega (arith, ints))))

rises_reach_left : (s t : Pair) → RunsRight s → RunsRight t → RisesThrough s t → t.a.x <ℤ s.b.x
rises_reach_left s t a b r = by_lt_z t.a.x s.b.x (λ less. less)
    (λ (more : s.b.x ≤ℤ t.a.x). absurd (
    let k : ℤ = turn s.a s.b t.b in
    let l : ℤ = neg_ℤ (turn s.a s.b t.a) in
    let m : ℤ = turn t.a t.b s.a in
    let n : ℤ = neg_ℤ (turn t.a t.b s.b) in
    let e = crossing_turns s t in
    let f = a.forward in
    let g = b.forward in
    let hk : pos 0 <ℤ k = r.end_above in
    let hl : pos 0 <ℤ l = let h = r.start_below in omega (arith, ints) in
    let hm : pos 0 <ℤ m = r.left_above in
    let hn : pos 0 <ℤ n = let h = r.right_below in omega (arith, ints) in
    let sum : k +ℤ l ≡ m +ℤ n = omega (arith, ints) in
    means_apart_last k l m n (t.a.x -ℤ s.a.x) (t.b.x -ℤ s.a.x) (s.b.x -ℤ s.a.x) (pos 0) (s.b.x -ℤ s.a.x) hk hl hm hn sum (crossing_mean_x s t)
    (omega (arith, ints)) (omega (arith, ints)) (omega (arith, ints)) (omega (arith, ints))))

-- the common range of x
abbrev pub common_left : Pair → Pair → ℤ
common_left s t = int_max s.a.x t.a.x

abbrev pub common_right : Pair → Pair → ℤ
common_right s t = int_min s.b.x t.b.x

max_is : (u v : ℤ) → (int_max u v ≡ u) ⊎ (int_max u v ≡ v)
max_is u v = by_lt_z u v (λ less. inr (omega (arith, ints, clamps))) (λ more. inl (omega (arith, ints, clamps)))

min_is : (u v : ℤ) → (int_min u v ≡ u) ⊎ (int_min u v ≡ v)
min_is u v = by_lt_z u v (λ less. inl (omega (arith, ints, clamps))) (λ more. inr (omega (arith, ints, clamps)))

-- where t rises through s it is not above s at the left, and not below at the right
rises_left : (s t : Pair) → RunsRight s → RunsRight t → RisesThrough s t → NotAbove t s (common_left s t)
rises_left s t a b r = elim (max_is s.a.x t.a.x) [
  | inl e ↦ subst (NotAbove t s) (sym e) (at_or_above t s s.a b a (height_at_a s) (le_weak _ _ r.left_above))
  | inr e ↦ subst (NotAbove t s) (sym e) (at_or_below s t t.a a b (height_at_a t) (le_weak _ _ r.start_below))
]

rises_right : (s t : Pair) → RunsRight s → RunsRight t → RisesThrough s t → NotAbove s t (common_right s t)
rises_right s t a b r = elim (min_is s.b.x t.b.x) [
  | inl e ↦ subst (NotAbove s t) (sym e) (at_or_below t s s.b b a (height_at_b s) (le_weak _ _ r.right_below))
  | inr e ↦ subst (NotAbove s t) (sym e) (at_or_above s t t.b a b (height_at_b t) (le_weak _ _ r.end_above))
]

spans_first : (s t : Pair) → RunsRight s → RunsRight t → s.a.x <ℤ t.b.x → t.a.x <ℤ s.b.x → Spans s (common_left s t) (common_right s t)
spans_first s t a b h k = let f = a.forward in let g = b.forward in record { from_u = omega (arith, ints, clamps); wide = omega (arith, ints, clamps); to_v = omega (arith, ints, clamps) }

spans_second : (s t : Pair) → RunsRight s → RunsRight t → s.a.x <ℤ t.b.x → t.a.x <ℤ s.b.x → Spans t (common_left s t) (common_right s t)
spans_second s t a b h k = let f = a.forward in let g = b.forward in record { from_u = omega (arith, ints, clamps); wide = omega (arith, ints, clamps); to_v = omega (arith, ints, clamps) }

pub together_where_risen : (l : Layout) (s t : Pair) → RunsRight s → RunsRight t → l.min_x ≤ℤ s.a.x → l.min_x ≤ℤ t.a.x → RisesThrough s t → Together l s t
together_where_risen l s t a b hs ht r =
    let p = rises_reach_right s t a b r in
    let q = rises_reach_left s t a b r in
    together_swap l t s (together_where_changed l t s (common_left s t) (common_right s t) ht hs (spans_second s t a b p q) (spans_first s t a b p q) (rises_left s t a b r) (rises_right s t a b r))

-- ---- touches of two pairs that are not vertical

-- on a pair that is not vertical a point of its line is given by its x
same_x_same_y : (s : Pair) (p q : Point) → RunsRight s → turn s.a s.b p ≡ pos 0 → turn s.a s.b q ≡ pos 0 → p.x ≡ q.x → p.y ≡ q.y
same_x_same_y s p q r e f g =
    let hp = turn_height s p in
    let hq = turn_height s q in
    let h : scaled_height s p.x ≡ scaled_height s q.x = ap (scaled_height s) g in
    cancel-eq (width s) p.y q.y (wide_pos s r) (omega (arith, ints))

strictly_within : (a x b : ℤ) → int_min a b ≤ℤ x → x ≤ℤ int_max a b → a <ℤ b → (x ≡ a → ⊥) → (x ≡ b → ⊥) → (a <ℤ x) × (x <ℤ b)
strictly_within a x b h k l f g = (by_lt_z a x (λ less. less) (λ more. absurd (f (omega (arith, ints, clamps)))), by_lt_z x b (λ less. less) (λ more. absurd (g (omega (arith, ints, clamps)))))

pub inside_strictly : (s : Pair) (p : Point) → RunsRight s → Inside s p → (s.a.x <ℤ p.x) × (p.x <ℤ s.b.x)
inside_strictly s p r i = strictly_within s.a.x p.x s.b.x i.left i.right r.forward
    (λ e. i.not_a e (same_x_same_y s p s.a r i.on_line (turn_same_outer s.a s.b) e))
    (λ e. i.not_b e (same_x_same_y s p s.b r i.on_line (turn_same_last s.a s.b) e))

zero_le : (z : ℤ) → z ≡ pos 0 → (z ≤ℤ pos 0) × (pos 0 ≤ℤ z)
zero_le z e = (omega (arith, ints), omega (arith, ints))

pub together_where_a_touches : (l : Layout) (s t : Pair) → RunsRight s → RunsRight t → l.min_x ≤ℤ s.a.x → l.min_x ≤ℤ t.a.x → Inside s t.a → Together l s t
together_where_a_touches l s t a b hs ht i =
    let (h, k) = inside_strictly s t.a a i in
    let (z, z') = zero_le _ i.on_line in
    let f = a.forward in
    let g = b.forward in
    let v : ℤ = common_right s t in
    let sp : Spans s t.a.x v = record { from_u = omega (arith, ints); wide = omega (arith, ints, clamps); to_v = omega (arith, ints, clamps) } in
    let tp : Spans t t.a.x v = record { from_u = omega (arith, ints); wide = omega (arith, ints, clamps); to_v = omega (arith, ints, clamps) } in
    elim (not_above_total s t v) [
      | inl n ↦ together_swap l t s (together_where_changed l t s t.a.x v ht hs tp sp (at_or_below s t t.a a b (height_at_a t) z) n)
      | inr n ↦ together_where_changed l s t t.a.x v hs ht sp tp (at_or_above s t t.a a b (height_at_a t) z') n
    ]

pub together_where_b_touches : (l : Layout) (s t : Pair) → RunsRight s → RunsRight t → l.min_x ≤ℤ s.a.x → l.min_x ≤ℤ t.a.x → Inside s t.b → Together l s t
together_where_b_touches l s t a b hs ht i =
    let (h, k) = inside_strictly s t.b a i in
    let (z, z') = zero_le _ i.on_line in
    let f = a.forward in
    let g = b.forward in
    let u : ℤ = common_left s t in
    let sp : Spans s u t.b.x = record { from_u = omega (arith, ints, clamps); wide = omega (arith, ints, clamps); to_v = omega (arith, ints) } in
    let tp : Spans t u t.b.x = record { from_u = omega (arith, ints, clamps); wide = omega (arith, ints, clamps); to_v = omega (arith, ints) } in
    elim (not_above_total s t u) [
      | inl n ↦ together_where_changed l s t u t.b.x hs ht sp tp n (at_or_below s t t.b a b (height_at_b t) z)
      | inr n ↦ together_swap l t s (together_where_changed l t s u t.b.x ht hs tp sp n (at_or_above s t t.b a b (height_at_b t) z'))
    ]

-- ---- vertical pairs

upright_fragment_of : (l : Layout) (s : Pair) → RunsUp s → IsFragmentOf l s (upright_fragment l s)
upright_fragment_of l s u = rw (fragments_upright l s u) (inl refl)

-- a pair has a fragment in a column that reaches over x, and from p or below to q or above
pub record Reaches (l : Layout) (s : Pair) (i : ℕ) (x p q : ℤ) : Type 0 where
  pub f : Fragment
  pub f_of : IsFragmentOf l s f
  pub column : f.column ≡ i
  pub left : f.rect.min_x ≤ℤ x
  pub right : x ≤ℤ f.rect.max_x
  pub low : f.rect.min_y ≤ℤ p
  pub high : q ≤ℤ f.rect.max_y

together_by_reach : (l : Layout) (s t : Pair) (i : ℕ) (x p q p' q' : ℤ) → Reaches l s i x p q → Reaches l t i x p' q' → p ≤ℤ q' → p' ≤ℤ q → Together l s t
together_by_reach l s t i x p q p' q' a b h k =
    let a1 = a.low in let a2 = a.high in let b1 = b.low in let b2 = b.high in
    record { f = a.f; g = b.f; f_of = a.f_of; g_of = b.f_of; one_column = a.column ∙ sym b.column; low = omega (arith, ints); high = omega (arith, ints); left = le_through _ _ _ a.left b.right; right = le_through _ _ _ b.left a.right }

upright_reaches : (l : Layout) (s : Pair) → RunsUp s → Reaches l s (column_index l s.a.x) s.a.x s.a.y s.b.y
unfolding upright_fragment rect_between
upright_reaches l s u =
    let h = u.upward in
    record { f = upright_fragment l s; f_of = upright_fragment_of l s u; column = refl; left = omega (arith, ints, clamps); right = omega (arith, ints, clamps); low = omega (arith, ints, clamps); high = omega (arith, ints, clamps) }

-- a pair that is not vertical, in the column of an x, reaches to whole heights that bound its own from both sides
right_reaches : (l : Layout) (s : Pair) (i : ℕ) (x p q : ℤ) → RunsRight s → l.min_x ≤ℤ s.a.x → Enters l s.a.x s.b.x i → left_in l s i ≤ℤ x → x ≤ℤ right_in l s i →
    scaled_height s x ≤ℤ (p *ℤ width s) → (q *ℤ width s) ≤ℤ scaled_height s x → Reaches l s i x p q
right_reaches l s i x p q r hs e h k a b =
    let d = fragment_in-holds l s i x r h k in
    let d1 = d.low in
    let d2 = d.high in
    let w = wide_pos s r in
    record {
      f = fragment_in l s i;
      f_of = fragment_of l s i r hs e;
      column = fragment_in-column l s i;
      left = rw (fragment_in-min_x l s i (left_in-right_in l s i r e)) h;
      right = rw (fragment_in-max_x l s i (left_in-right_in l s i r e)) k;
      low = cancel-le (width s) (fragment_in l s i).rect.min_y p w (omega (arith, ints));
      high = cancel-le (width s) q (fragment_in l s i).rect.max_y w (omega (arith, ints));
    }

-- in the column of an x strictly between the ends
enters_at : (l : Layout) (s : Pair) (x : ℤ) → l.min_x ≤ℤ s.a.x → s.a.x ≤ℤ x → x <ℤ s.b.x → Enters l s.a.x s.b.x (column_index l x)
enters_at l s x hs h k =
    let hx : l.min_x ≤ℤ x = le_through _ _ _ hs h in
    let low = pos_of-column_index l x hx in
    let high = pos_of-column_index_next l x hx in
    record { begins = then_less _ _ _ low k; ends = then_less _ _ _ h high }

max_below : (u v x : ℤ) → u ≤ℤ x → v ≤ℤ x → int_max u v ≤ℤ x
max_below u v x h k = omega (arith, ints, clamps)

min_above : (u v x : ℤ) → x ≤ℤ u → x ≤ℤ v → x ≤ℤ int_min u v
min_above u v x h k = omega (arith, ints, clamps)

reaches_at : (l : Layout) (s : Pair) (x p q : ℤ) → RunsRight s → l.min_x ≤ℤ s.a.x → s.a.x ≤ℤ x → x <ℤ s.b.x →
    scaled_height s x ≤ℤ (p *ℤ width s) → (q *ℤ width s) ≤ℤ scaled_height s x → Reaches l s (column_index l x) x p q
reaches_at l s x p q r hs h k a b =
    let hx : l.min_x ≤ℤ x = le_through _ _ _ hs h in
    right_reaches l s (column_index l x) x p q r hs (enters_at l s x hs h k)
    (max_below _ _ _ h (pos_of-column_index l x hx))
    (min_above _ _ _ (le_weak _ _ k) (le_weak _ _ (pos_of-column_index_next l x hx))) a b

-- of a vertical pair the turn gives the side
turn_sides : (s : Pair) (p : Point) → turn s.a s.b p ≡ (s.b.x -ℤ s.a.x) *ℤ (p.y -ℤ s.a.y) +ℤ (s.b.y -ℤ s.a.y) *ℤ (s.a.x -ℤ p.x)
unfolding turn
turn_sides s p = rw (as_D s.a.x, as_D s.a.y, as_D s.b.x, as_D s.b.y, as_D p.x, as_D p.y) (simp diffs (D-eq _ _ _ _ (omega arith)))

pub turn_upright : (s : Pair) (p : Point) → RunsUp s → turn s.a s.b p ≡ (s.b.y -ℤ s.a.y) *ℤ (s.a.x -ℤ p.x)
turn_upright s p u =
    let e = u.upright in
    let z = zero_times (s.b.x -ℤ s.a.x) (p.y -ℤ s.a.y) (omega (arith, ints)) in
    let f = turn_sides s p in
    omega (arith, ints)

right_of_upright : (s : Pair) (p : Point) → RunsUp s → turn s.a s.b p <ℤ pos 0 → s.a.x <ℤ p.x
right_of_upright s p u h = by_lt_z s.a.x p.x (λ less. less) (λ (more : p.x ≤ℤ s.a.x). absurd (
    let e = turn_upright s p u in
    let g = u.upward in
    let m = mul-nonneg (s.b.y -ℤ s.a.y) (s.a.x -ℤ p.x) (omega (arith, ints)) (omega (arith, ints)) in
    omega (arith, ints)))

left_of_upright : (s : Pair) (p : Point) → RunsUp s → pos 0 <ℤ turn s.a s.b p → p.x <ℤ s.a.x
left_of_upright s p u h = by_lt_z p.x s.a.x (λ less. less) (λ (more : s.a.x ≤ℤ p.x). absurd (
    let e = turn_upright s p u in
    let g = u.upward in
    let m = mul-nonpos (s.b.y -ℤ s.a.y) (s.a.x -ℤ p.x) (omega (arith, ints)) (omega (arith, ints)) in
    omega (arith, ints)))

-- nothing that runs rightward rises through a vertical pair
upright_not_risen : (s t : Pair) → RunsUp s → t.a.x ≤ℤ t.b.x → RisesThrough s t → ⊥
upright_not_risen s t u h r =
    let a = right_of_upright s t.a u r.start_below in
    let b = left_of_upright s t.b u r.end_above in
    omega (arith, ints)

same_x_turn : (s : Pair) (p : Point) (x : ℤ) → p.x ≡ x → turn s.a s.b p ≡ p.y *ℤ width s -ℤ scaled_height s x
same_x_turn s p x e = turn_height s p ∙ ap (λ (z : ℤ). p.y *ℤ width s -ℤ scaled_height s z) e

together_where_upright_rises : (l : Layout) (s t : Pair) → RunsRight s → RunsUp t → l.min_x ≤ℤ s.a.x → RisesThrough s t → Together l s t
together_where_upright_rises l s t r u hs c =
    let x1 = left_of_upright t s.a u c.left_above in
    let x2 = right_of_upright t s.b u c.right_below in
    let ea = same_x_turn s t.a t.a.x refl in
    let eb = same_x_turn s t.b t.a.x (sym u.upright) in
    let ta = c.start_below in
    let tb = c.end_above in
    together_by_reach l s t (column_index l t.a.x) t.a.x t.b.y t.a.y t.a.y t.b.y
    (reaches_at l s t.a.x t.b.y t.a.y r hs (le_weak _ _ x1) x2 (omega (arith, ints)) (omega (arith, ints)))
    (upright_reaches l t u) (omega (arith, ints)) (omega (arith, ints))

right_to_right : (t : Pair) → RunsUp t ⊎ RunsRight t → t.a.x ≤ℤ t.b.x
right_to_right t (inl u) = let e = u.upright in omega (arith, ints)
right_to_right t (inr r) = let f = r.forward in omega (arith, ints)

-- Two pairs that cross have fragments in one column whose heights meet.
pub together_where_rises : (l : Layout) (s t : Pair) → IsTrue (is_ordered s) → IsTrue (is_ordered t) → l.min_x ≤ℤ s.a.x → l.min_x ≤ℤ t.a.x → RisesThrough s t → Together l s t
together_where_rises l s t os ot hs ht c = elim (runs s os) [
  | inl u ↦ absurd (upright_not_risen s t u (right_to_right t (runs t ot)) c)
  | inr r ↦ elim (runs t ot) [
    | inl u ↦ together_where_upright_rises l s t r u hs c
    | inr r' ↦ together_where_risen l s t r r' hs ht c
  ]
]

pub together_where_crossing : (l : Layout) (s t : Pair) → IsTrue (is_ordered s) → IsTrue (is_ordered t) → l.min_x ≤ℤ s.a.x → l.min_x ≤ℤ t.a.x → IsTrue (do_cross s t) → Together l s t
together_where_crossing l s t os ot hs ht c = elim (crossing_rises s t c) [
  | inl r ↦ together_where_rises l s t os ot hs ht r
  | inr r ↦ together_swap l t s (together_where_rises l t s ot os ht hs r)
]

-- ---- touches and overlaps with a vertical pair

-- a point inside a vertical pair
pub upright_inside : (s : Pair) (p : Point) → RunsUp s → Inside s p → (p.x ≡ s.a.x) × (s.a.y ≤ℤ p.y) × (p.y ≤ℤ s.b.y)
upright_inside s p u i =
    let e = u.upright in
    let f = u.upward in
    let h1 = i.left in
    let h2 = i.right in
    let h3 = i.low in
    let h4 = i.high in
    (omega (arith, ints, clamps), omega (arith, ints, clamps), omega (arith, ints, clamps))

-- one vertical pair has an end on another
together_upright : (l : Layout) (s t : Pair) (p : Point) → RunsUp s → RunsUp t → Inside s p → p.x ≡ t.a.x → t.a.y ≤ℤ p.y → p.y ≤ℤ t.b.y → Together l s t
together_upright l s t p u v i e h k =
    let (x, y1, y2) = upright_inside s p u i in
    let c : t.a.x ≡ s.a.x = sym e ∙ x in
    together_by_reach l s t (column_index l s.a.x) s.a.x s.a.y s.b.y t.a.y t.b.y (upright_reaches l s u) (subst (λ (z : ℤ). Reaches l t (column_index l z) z t.a.y t.b.y) c (upright_reaches l t v)) (omega (arith, ints)) (omega (arith, ints))

-- a vertical pair has an end on one that is not vertical
together_upright_end : (l : Layout) (s t : Pair) (p : Point) → RunsRight s → RunsUp t → l.min_x ≤ℤ s.a.x → Inside s p → p.x ≡ t.a.x → t.a.y ≤ℤ p.y → p.y ≤ℤ t.b.y → Together l s t
together_upright_end l s t p r v hs i e h k =
    let (x1, x2) = inside_strictly s p r i in
    let z = i.on_line in
    let f = turn_height s p in
    let c : t.a.x ≡ p.x = sym e in
    together_by_reach l s t (column_index l p.x) p.x p.y p.y t.a.y t.b.y
    (reaches_at l s p.x p.y p.y r hs (le_weak _ _ x1) x2 (omega (arith, ints)) (omega (arith, ints)))
    (subst (λ (z : ℤ). Reaches l t (column_index l z) z t.a.y t.b.y) c (upright_reaches l t v)) k h

-- one that is not vertical begins on a vertical pair
together_begins_on : (l : Layout) (s t : Pair) → RunsUp s → RunsRight t → l.min_x ≤ℤ t.a.x → Inside s t.a → Together l s t
together_begins_on l s t u r ht i =
    let (x, y1, y2) = upright_inside s t.a u i in
    let f = r.forward in
    let g = height_at_a t in
    let c : s.a.x ≡ t.a.x = sym x in
    together_by_reach l s t (column_index l t.a.x) t.a.x s.a.y s.b.y t.a.y t.a.y
    (subst (λ (z : ℤ). Reaches l s (column_index l z) z s.a.y s.b.y) c (upright_reaches l s u))
    (reaches_at l t t.a.x t.a.y t.a.y r ht (le_itself t.a.x) f (omega (arith, ints)) (omega (arith, ints))) y1 y2

-- one that is not vertical ends on a vertical pair: within the column, or on its left border
together_ends_within : (l : Layout) (s t : Pair) → RunsUp s → RunsRight t → l.min_x ≤ℤ t.a.x → Inside s t.b → pos_of l (column_index l t.b.x) <ℤ t.b.x → Together l s t
together_ends_within l s t u r ht i w =
    let (x, y1, y2) = upright_inside s t.b u i in
    let f = r.forward in
    let g = height_at_b t in
    let hx : l.min_x ≤ℤ t.b.x = le_through _ _ _ ht (le_weak _ _ f) in
    let next = pos_of-column_index_next l t.b.x hx in
    let c : s.a.x ≡ t.b.x = sym x in
    let enter : Enters l t.a.x t.b.x (column_index l t.b.x) = record { begins = w; ends = then_less _ _ _ (le_weak _ _ f) next } in
    together_by_reach l s t (column_index l t.b.x) t.b.x s.a.y s.b.y t.b.y t.b.y
    (subst (λ (z : ℤ). Reaches l s (column_index l z) z s.a.y s.b.y) c (upright_reaches l s u))
    (right_reaches l t (column_index l t.b.x) t.b.x t.b.y t.b.y r ht enter (max_below _ _ _ (le_weak _ _ f) (le_weak _ _ w)) (min_above _ _ _ (le_itself t.b.x) (le_weak _ _ next)) (omega (arith, ints)) (omega (arith, ints))) y1 y2

is_on_border-from : (l : Layout) (s : Pair) → RunsUp s → 0 < column_index l s.a.x → s.a.x ≡ pos_of l (column_index l s.a.x) → IsTrue (is_on_border l s)
unfolding is_on_border
is_on_border-from l s u h e = join_tests _ _ (join_tests _ _ (RunsUp-vertical s u) (nat_lt-test _ _ h)) (eq-test _ _ e)

ends_on_border : (l : Layout) (s t : Pair) → RunsUp s → RunsRight t → l.min_x ≤ℤ t.a.x → IsTrue (is_strictly_inside s t.b) → pos_of l (column_index l t.b.x) ≡ t.b.x → TouchesOnBorder l s t
ends_on_border l s t u r ht i e =
    let (x, y1, y2) = upright_inside s t.b u (inside s t.b i) in
    let f = r.forward in
    let more = column_index-positive l t.b.x (then_less _ _ _ ht f) e in
    let j : ℕ = column_index l (t.b.x -ℤ pos 1) in
    let enter : Enters l t.a.x t.b.x j = enters l t.a.x t.b.x j ht f (column_index-monotone l t.a.x (t.b.x -ℤ pos 1) ht (less_to _ _ _ (le_itself t.a.x) f)) (omega arith) in
    let left : j + 1 ≡ column_index l t.b.x = column_index-left_of_border l t.b.x (then_less _ _ _ ht f) e in
    let more' : 0 < column_index l s.a.x = subst (λ (z : ℤ). 0 < column_index l z) x more in
    let border' : s.a.x ≡ pos_of l (column_index l s.a.x) = subst (λ (z : ℤ). z ≡ pos_of l (column_index l z)) x (sym e) in
    record {
      on_border = is_on_border-from l s u more' border';
      inside = i;
      f = fragment_in l t j;
      f_of = fragment_of l t j r ht enter;
      column = ap (λ (n : ℕ). n + 1) (fragment_in-column l t j) ∙ left ∙ ap (column_index l) x;
    }

at_or_after : (u v : ℤ) → u ≤ℤ v → (u <ℤ v) ⊎ (u ≡ v)
at_or_after u v h = by_lt_z u v (λ less. inl less) (λ more. inr (omega (arith, ints)))

-- ---- what the grid finds

pub found_by_a : (l : Layout) (s t : Pair) → IsTrue (is_ordered s) → IsTrue (is_ordered t) → l.min_x ≤ℤ s.a.x → l.min_x ≤ℤ t.a.x → IsTrue (is_strictly_inside s t.a) → Together l s t
found_by_a l s t os ot hs ht i =
    let p = inside s t.a i in
    elim (runs s os) [
      | inl u ↦ elim (runs t ot) [
        | inl v ↦ together_upright l s t t.a u v p refl (le_itself t.a.y) (le_weak _ _ v.upward)
        | inr r ↦ together_begins_on l s t u r ht p
      ]
      | inr r ↦ elim (runs t ot) [
        | inl v ↦ together_upright_end l s t t.a r v hs p refl (le_itself t.a.y) (le_weak _ _ v.upward)
        | inr r' ↦ together_where_a_touches l s t r r' hs ht p
      ]
    ]

pub found_by_b : (l : Layout) (s t : Pair) → IsTrue (is_ordered s) → IsTrue (is_ordered t) → l.min_x ≤ℤ s.a.x → l.min_x ≤ℤ t.a.x → IsTrue (is_strictly_inside s t.b) → Together l s t ⊎ TouchesOnBorder l s t
found_by_b l s t os ot hs ht i =
    let p = inside s t.b i in
    elim (runs s os) [
      | inl u ↦ elim (runs t ot) [
        | inl v ↦ inl (together_upright l s t t.b u v p (sym v.upright) (le_weak _ _ v.upward) (le_itself t.b.y))
        | inr r ↦ elim (at_or_after _ _ (pos_of-column_index l t.b.x (le_through _ _ _ ht (le_weak _ _ r.forward)))) [
          | inl within ↦ inl (together_ends_within l s t u r ht p within)
          | inr on ↦ inr (ends_on_border l s t u r ht i on)
        ]
      ]
      | inr r ↦ elim (runs t ot) [
        | inl v ↦ inl (together_upright_end l s t t.b r v hs p (sym v.upright) (le_weak _ _ v.upward) (le_itself t.b.y))
        | inr r' ↦ inl (together_where_b_touches l s t r r' hs ht p)
      ]
    ]
