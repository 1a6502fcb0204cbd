-- Four ends on one line: which lie strictly inside the other segment, by the signs of dot products.
use Rattle.std.proofs.Common.{◌≡◌, refl, sym, ◌+◌, ◌∙◌, ◌≢◌, arith, ◌*◌, Bool, true, false, IsTrue, zero, suc}
use Rattle.std.specs.Prelude.{ℤ, pos, negsuc, ◌+ℤ◌, ◌-ℤ◌, ◌*ℤ◌, neg_ℤ, if◌then◌else◌}
use Rattle.std.specs.Int.{from_bool}
use Rattle.std.proofs.lemmas.Int.{ints}
use Rattle.std.proofs.lemmas.Bool.{false_from_ne_true}
use Rattle.overlay_geometry.specs.Points.{Point, Pair, step, cross_product, turn, is_strictly_inside}
use Rattle.overlay_geometry.specs.Meeting.{are_collinear, have_opposite_signs}
use Rattle.overlay_intersections.specs.steps.Along.{along}
use Rattle.overlay_intersections.specs.CrossAnswer.{ends_mask}
use Rattle.overlay_geometry.proofs.laws.geometry.Polynomials.{as_D, diffs, D-eq}
use Rattle.overlay_geometry.proofs.laws.geometry.Points.{collinear_apart, turn_same_outer, turn_same_last}
use Rattle.overlay_intersections.proofs.laws.crossings.Lines.{same_by_steps, by_zero, cancel_factor, inside_by_weights, inside_parts}
use Rattle.overlay_intersections.proofs.laws.crossings.AnswerMarks.{collinear_parts, line_back}
use Rattle.overlay_geometry.proofs.laws.integers.Products.{minus_turned}

-- ---- distances along a line

-- with v the direction, and the way from two points to c
weighed_x : (vx vy px py qx qy : ℤ) → (px *ℤ vx +ℤ py *ℤ vy) *ℤ neg_ℤ qx ≡ (qx *ℤ vx +ℤ qy *ℤ vy) *ℤ neg_ℤ px +ℤ vy *ℤ (px *ℤ qy -ℤ py *ℤ qx)
weighed_x vx vy px py qx qy = rw (as_D vx, as_D vy, as_D px, as_D py, as_D qx, as_D qy) (simp diffs (D-eq _ _ _ _ (omega arith)))

weighed_y : (vx vy px py qx qy : ℤ) → (px *ℤ vx +ℤ py *ℤ vy) *ℤ neg_ℤ qy ≡ (qx *ℤ vx +ℤ qy *ℤ vy) *ℤ neg_ℤ py +ℤ neg_ℤ vx *ℤ (px *ℤ qy -ℤ py *ℤ qx)
weighed_y vx vy px py qx qy = rw (as_D vx, as_D vy, as_D px, as_D py, as_D qx, as_D qy) (simp diffs (D-eq _ _ _ _ (omega arith)))

last_gone : (x y k z : ℤ) → x ≡ y +ℤ k *ℤ z → z ≡ pos 0 → x ≡ y
last_gone x y k z e h = let f = rw h at e in omega (arith, ints, f)

turn_from_c : (s : Pair) (c : Point) → turn s.a s.b c ≡ (c.x -ℤ s.a.x) *ℤ (c.y -ℤ s.b.y) -ℤ (c.y -ℤ s.a.y) *ℤ (c.x -ℤ s.b.x)
unfolding turn
turn_from_c s c = rw (as_D s.a.x, as_D s.a.y, as_D s.b.x, as_D s.b.y, as_D c.x, as_D c.y) (simp diffs (D-eq _ _ _ _ (omega arith)))

-- a vector with no part along v and none across it is 0
length_x : (vx vy px py : ℤ) → (vx *ℤ vx +ℤ vy *ℤ vy) *ℤ px ≡ vx *ℤ (px *ℤ vx +ℤ py *ℤ vy) -ℤ vy *ℤ (vx *ℤ py -ℤ vy *ℤ px)
length_x vx vy px py = rw (as_D vx, as_D vy, as_D px, as_D py) (simp diffs (D-eq _ _ _ _ (omega arith)))

length_y : (vx vy px py : ℤ) → (vx *ℤ vx +ℤ vy *ℤ vy) *ℤ py ≡ vy *ℤ (px *ℤ vx +ℤ py *ℤ vy) +ℤ vx *ℤ (vx *ℤ py -ℤ vy *ℤ px)
length_y vx vy px py = rw (as_D vx, as_D vy, as_D px, as_D py) (simp diffs (D-eq _ _ _ _ (omega arith)))

squares_zero : (a b : ℤ) → a *ℤ a +ℤ b *ℤ b ≡ pos 0 → (a ≡ pos 0) × (b ≡ pos 0)
squares_zero (pos zero) (pos zero) e = (refl, refl)
squares_zero (pos zero) (pos (suc b)) e = absurd (omega (arith, ints))
squares_zero (pos zero) (negsuc b) e = absurd (omega (arith, ints))
squares_zero (pos (suc a)) (pos zero) e = absurd (omega (arith, ints))
squares_zero (pos (suc a)) (pos (suc b)) e = absurd (omega (arith, ints))
squares_zero (pos (suc a)) (negsuc b) e = absurd (omega (arith, ints))
squares_zero (negsuc a) (pos zero) e = absurd (omega (arith, ints))
squares_zero (negsuc a) (pos (suc b)) e = absurd (omega (arith, ints))
squares_zero (negsuc a) (negsuc b) e = absurd (omega (arith, ints))

length_not_zero : (u w : Point) → u ≢ w → (w.x -ℤ u.x) *ℤ (w.x -ℤ u.x) +ℤ (w.y -ℤ u.y) *ℤ (w.y -ℤ u.y) ≢ pos 0
length_not_zero u w apart e =
    let z = squares_zero (w.x -ℤ u.x) (w.y -ℤ u.y) e in
    apart (same_by_steps u w z.0 z.1)

across : (u w p q : Point) → cross_product (step u w) (step p q) ≡ turn u w q -ℤ turn u w p
unfolding turn
across u w p q = rw (as_D u.x, as_D u.y, as_D w.x, as_D w.y, as_D p.x, as_D p.y, as_D q.x, as_D q.y) (simp diffs (D-eq _ _ _ _ (omega arith)))

both_gone : (x k l y z : ℤ) → x ≡ k *ℤ y -ℤ l *ℤ z → y ≡ pos 0 → z ≡ pos 0 → x ≡ pos 0
both_gone x k l y z e h i = let f = rw (h, i) at e in omega (arith, ints, f)

both_gone_plus : (x k l y z : ℤ) → x ≡ k *ℤ y +ℤ l *ℤ z → y ≡ pos 0 → z ≡ pos 0 → x ≡ pos 0
both_gone_plus x k l y z e h i = let f = rw (h, i) at e in omega (arith, ints, f)

none_left : (a b : ℤ) → a ≡ pos 0 → b ≡ pos 0 → a -ℤ b ≡ pos 0
none_left a b h k = omega (arith, ints)

-- two points of the line from u to w that are equally far along it are one
pub same_along : (u w p q : Point) → u ≢ w → turn u w p ≡ pos 0 → turn u w q ≡ pos 0 → along u w p q ≡ pos 0 → p ≡ q
same_along u w p q apart hp hq h =
    let c : cross_product (step u w) (step p q) ≡ pos 0 = across u w p q ∙ none_left _ _ hq hp in
    let l = length_not_zero u w apart in
    same_by_steps p q
    (cancel_factor _ (q.x -ℤ p.x) l (both_gone _ _ _ _ _ (length_x (w.x -ℤ u.x) (w.y -ℤ u.y) (q.x -ℤ p.x) (q.y -ℤ p.y)) h c))
    (cancel_factor _ (q.y -ℤ p.y) l (both_gone_plus _ _ _ _ _ (length_y (w.x -ℤ u.x) (w.y -ℤ u.y) (q.x -ℤ p.x) (q.y -ℤ p.y)) h c))

pub opposite_zero_left : (m n : ℤ) → m ≡ pos 0 → have_opposite_signs m n ≡ false
opposite_zero_left m n h = grind (arith, ints)

pub opposite_zero_right : (m n : ℤ) → n ≡ pos 0 → have_opposite_signs m n ≡ false
opposite_zero_right m n h = grind (arith, ints)

-- c and the ends of s on the line from u to w: c lies strictly inside s where it lies ahead of one end and behind the other
pub inside_by_dots : (u w : Point) (s : Pair) (c : Point) → u ≢ w → s.a ≢ s.b → turn u w s.a ≡ pos 0 → turn u w s.b ≡ pos 0 → turn u w c ≡ pos 0 → is_strictly_inside s c ≡ have_opposite_signs (along u w s.a c) (along u w s.b c)
inside_by_dots u w s c apart ends ha hb hc =
    let on : turn s.a s.b c ≡ pos 0 = collinear_apart u w s.a s.b c apart ha hb hc in
    let z = sym (turn_from_c s c) ∙ on in
    by_zero (along u w s.a c)
    (λ m. false_from_ne_true _ (λ k. (inside_parts s c k).3 (sym (same_along u w s.a c apart ha hc m))) ∙ sym (opposite_zero_left (along u w s.a c) (along u w s.b c) m))
    (λ nm. by_zero (along u w s.b c)
    (λ n. false_from_ne_true _ (λ k. (inside_parts s c k).4 (sym (same_along u w s.b c apart hb hc n))) ∙ sym (opposite_zero_right (along u w s.a c) (along u w s.b c) n))
    (λ nn. inside_by_weights s c (along u w s.a c) (along u w s.b c) ends on nm nn
    (rw (minus_turned s.b.x c.x, minus_turned s.a.x c.x) (last_gone _ _ _ _ (weighed_x (w.x -ℤ u.x) (w.y -ℤ u.y) (c.x -ℤ s.a.x) (c.y -ℤ s.a.y) (c.x -ℤ s.b.x) (c.y -ℤ s.b.y)) z))
    (rw (minus_turned s.b.y c.y, minus_turned s.a.y c.y) (last_gone _ _ _ _ (weighed_y (w.x -ℤ u.x) (w.y -ℤ u.y) (c.x -ℤ s.a.x) (c.y -ℤ s.a.y) (c.x -ℤ s.b.x) (c.y -ℤ s.b.y)) z))))

-- ---- the four ends

along_back : (u w p q : Point) → along u w p q ≡ neg_ℤ (along u w q p)
along_back u w p q = rw (as_D u.x, as_D u.y, as_D w.x, as_D w.y, as_D p.x, as_D p.y, as_D q.x, as_D q.y) (simp diffs (D-eq _ _ _ _ (omega arith)))

opposite_back : (m n u v : ℤ) → u ≡ neg_ℤ m → v ≡ neg_ℤ n → have_opposite_signs u v ≡ have_opposite_signs m n
opposite_back m n u v e f = grind (arith, ints)

-- which ends lie strictly inside, from four numbers: how far along the other the target's a lies past the other's a and past its b, and the target's b past the two
pub record InsideByDots (target other : Pair) (aa ab ba bb : ℤ) : Type 0 where
  pub target_a : is_strictly_inside other target.a ≡ have_opposite_signs aa ab
  pub target_b : is_strictly_inside other target.b ≡ have_opposite_signs ba bb
  pub other_a : is_strictly_inside target other.a ≡ have_opposite_signs aa ba
  pub other_b : is_strictly_inside target other.b ≡ have_opposite_signs ab bb

at_ends : (s t : Pair) → s.a ≢ s.b → t.a ≢ t.b → IsTrue (are_collinear s t) → InsideByDots s t (along t.a t.b t.a s.a) (along t.a t.b t.b s.a) (along t.a t.b t.a s.b) (along t.a t.b t.b s.b)
at_ends s t hs ht line =
    let p = collinear_parts s t line in
    let l = line_back t.a t.b s.a s.b hs p.0 p.1 in
    let za = turn_same_outer t.a t.b in
    let zb = turn_same_last t.a t.b in
    record {
      target_a = inside_by_dots t.a t.b t s.a ht ht za zb l.0;
      target_b = inside_by_dots t.a t.b t s.b ht ht za zb l.1;
      other_a = inside_by_dots t.a t.b s t.a ht hs l.0 l.1 za ∙ opposite_back _ _ _ _ (along_back t.a t.b s.a t.a) (along_back t.a t.b s.b t.a);
      other_b = inside_by_dots t.a t.b s t.b ht hs l.0 l.1 zb ∙ opposite_back _ _ _ _ (along_back t.a t.b s.a t.b) (along_back t.a t.b s.b t.b);
    }

pub inside_by_four : (target other : Pair) (aa ab ba bb : ℤ) → target.a ≢ target.b → other.a ≢ other.b → IsTrue (are_collinear target other)
    → aa ≡ along other.a other.b other.a target.a → ab ≡ along other.a other.b other.b target.a → ba ≡ along other.a other.b other.a target.b → bb ≡ along other.a other.b other.b target.b
    → InsideByDots target other aa ab ba bb
inside_by_four s t aa ab ba bb hs ht line eaa eab eba ebb = rw (eaa, eab, eba, ebb) (at_ends s t hs ht line)

-- the mask is the sum of the four bits
pub mask_of_bits : (target other : Pair) (ta tb oa ob : Bool) → ta ≡ is_strictly_inside other target.a → tb ≡ is_strictly_inside other target.b → oa ≡ is_strictly_inside target other.a → ob ≡ is_strictly_inside target other.b
    → from_bool ta + 2 * from_bool tb + 4 * from_bool oa + 8 * from_bool ob ≡ ends_mask target other
unfolding ends_mask
mask_of_bits s t ta tb oa ob ea eb fa fb = rw (← ea, ← eb, ← fa, ← fb) (sums ta tb oa ob)
  where
    sums : (ta tb oa ob : Bool) → from_bool ta + 2 * from_bool tb + 4 * from_bool oa + 8 * from_bool ob ≡ (if ta then 1 else 0) + (if tb then 2 else 0) + (if oa then 4 else 0) + (if ob then 8 else 0)
    sums true true true true = refl
    sums true true true false = refl
    sums true true false true = refl
    sums true true false false = refl
    sums true false true true = refl
    sums true false true false = refl
    sums true false false true = refl
    sums true false false false = refl
    sums false true true true = refl
    sums false true true false = refl
    sums false true false true = refl
    sums false true false false = refl
    sums false false true true = refl
    sums false false true false = refl
    sums false false false true = refl
    sums false false false false = refl
