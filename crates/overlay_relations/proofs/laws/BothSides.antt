-- Near a point on a segment of a boundary, its ends included, are points inside and points outside, however near. From the point some way
-- toward the middle of the segment, and from there to a side of it.
use Rattle.std.proofs.Common.{◌≡◌, ap, ap₂, sym, subst, ◌∙◌, arith, ℕ, suc, zero, ◌+◌, ◌*◌, ◌<◌, ◌≤◌, inl, inr, List}
use Rattle.std.specs.Prelude.{ℤ, pos, ◌+ℤ◌, ◌-ℤ◌, ◌*ℤ◌, ◌<ℤ◌, ◌≤ℤ◌, unsigned_abs, IsTrue, Bool, true}
use Rattle.std.specs.List.{list_all}
use Rattle.std.proofs.lemmas.Int.{ints}
use Rattle.std.proofs.Math.Nat.{mul-le-mul_left}
use Rattle.overlay_geometry.specs.Points.{Point, Pair}
use Rattle.overlay_geometry.specs.Meeting.{are_apart}
use Rattle.overlay_geometry.proofs.laws.geometry.Polynomials.{as_D, diffs, D-eq, from_difference-pos, mul-pos, mul-nonneg}
use Rattle.overlay_geometry.proofs.laws.geometry.Points.{Before, UpTo, UpTo-x}
use Rattle.overlay_geometry.proofs.laws.integers.Products.{times_nothing}
use Rattle.overlay_geometry.proofs.laws.lists.Lists.{Has}
use Rattle.overlay_base.specs.Places.{RationalPoint}
use Rattle.overlay_base.specs.Rays.{goes_through}
use Rattle.overlay_base.specs.Segments.{WholeSegment}
use Rattle.overlay_base.specs.declared.segm.shape_type.ShapeType.{ShapeType}
use Rattle.overlay_build.specs.Boundary.{truth}
use Rattle.overlay_contours.specs.Contours.{edges, winding_number}
use Rattle.overlay_sweep.proofs.laws.columns.ColumnLines.{point_lt-cases}
use Rattle.overlay_relations.specs.Contacts.{IsCloser}
use Rattle.overlay_relations.proofs.laws.InsidePlaces.{pos_some, IsInside}
use Rattle.overlay_relations.proofs.laws.NearPlaces.{near, turn_by, fineness, fine_enough}
use Rattle.overlay_relations.proofs.laws.NearUprights.{near_top, near_bottom}
use Rattle.overlay_relations.proofs.laws.CrossingPlaces.{above_all, IsWay, the_way, upright_on, upright_some, IsBeside, IsOffLines, near_off_line}
use Rattle.overlay_relations.proofs.laws.Boundaries.{arc, arranged, side_with}
use Rattle.overlay_relations.proofs.laws.Closeness.{abs_times, some_product, close_through, near_close}
use Rattle.overlay_relations.proofs.laws.SteadyWindings.{through_order}

-- ---- from a point toward the middle of a segment

-- twice k times p, and the ends of s, in the mean
abbrev toward : RationalPoint → Pair → ℕ → RationalPoint
toward p s k = record {
  x = (pos k +ℤ pos k) *ℤ p.x +ℤ (s.a.x +ℤ s.b.x) *ℤ pos p.bottom;
  y = (pos k +ℤ pos k) *ℤ p.y +ℤ (s.a.y +ℤ s.b.y) *ℤ pos p.bottom;
  bottom = (k + k + 2) * p.bottom;
}

bottom_toward : (k d : ℕ) → pos ((k + k + 2) * d) ≡ (pos k +ℤ pos k) *ℤ pos d +ℤ (pos d +ℤ pos d)
bottom_toward k d = simp diffs (D-eq _ _ _ _ (omega arith))

on_the_line : (ax ay bx by x y d k b : ℤ) → b ≡ (k +ℤ k) *ℤ d +ℤ (d +ℤ d) → (bx -ℤ ax) *ℤ (y -ℤ ay *ℤ d) -ℤ (by -ℤ ay) *ℤ (x -ℤ ax *ℤ d) ≡ pos 0
    → (bx -ℤ ax) *ℤ (((k +ℤ k) *ℤ y +ℤ (ay +ℤ by) *ℤ d) -ℤ ay *ℤ b) -ℤ (by -ℤ ay) *ℤ (((k +ℤ k) *ℤ x +ℤ (ax +ℤ bx) *ℤ d) -ℤ ax *ℤ b) ≡ pos 0
on_the_line ax ay bx by x y d k b h flat = rw h (plain ax ay bx by x y d k) ∙ times_nothing (k +ℤ k) _ flat
  where
    plain : (ax ay bx by x y d k : ℤ) → (bx -ℤ ax) *ℤ (((k +ℤ k) *ℤ y +ℤ (ay +ℤ by) *ℤ d) -ℤ ay *ℤ ((k +ℤ k) *ℤ d +ℤ (d +ℤ d))) -ℤ (by -ℤ ay) *ℤ (((k +ℤ k) *ℤ x +ℤ (ax +ℤ bx) *ℤ d) -ℤ ax *ℤ ((k +ℤ k) *ℤ d +ℤ (d +ℤ d)))
        ≡ (k +ℤ k) *ℤ ((bx -ℤ ax) *ℤ (y -ℤ ay *ℤ d) -ℤ (by -ℤ ay) *ℤ (x -ℤ ax *ℤ d))
    plain ax ay bx by x y d k = rw (as_D ax, as_D ay, as_D bx, as_D by, as_D x, as_D y, as_D d, as_D k) (simp diffs (D-eq _ _ _ _ (omega arith)))

less_gap : (u v : ℤ) → u ≤ℤ v → pos 0 ≤ℤ (v -ℤ u)
less_gap u v h = omega (arith, ints, h)

more_gap : (u v : ℤ) → u <ℤ v → pos 0 <ℤ (v -ℤ u)
more_gap u v h = omega (arith, ints, h)

sum_some : (u v : ℤ) → pos 0 ≤ℤ u → pos 0 <ℤ v → pos 0 <ℤ (u +ℤ v)
sum_some u v h l = omega (arith, ints, h, l)

twice_nonneg : (k z : ℤ) → pos 0 ≤ℤ k → pos 0 ≤ℤ z → pos 0 ≤ℤ ((k +ℤ k) *ℤ z)
twice_nonneg k z h l = mul-nonneg (k +ℤ k) z (twice k h) l
  where
    twice : (k : ℤ) → pos 0 ≤ℤ k → pos 0 ≤ℤ (k +ℤ k)
    twice k h = omega (arith, ints, h)

-- a number from a d up to b d, moved toward the mean of these, lies between them
after_first : (a b z d k e : ℤ) → e ≡ (k +ℤ k) *ℤ d +ℤ (d +ℤ d) → pos 0 ≤ℤ k → pos 0 <ℤ d → a <ℤ b → (a *ℤ d) ≤ℤ z → (a *ℤ e) <ℤ ((k +ℤ k) *ℤ z +ℤ (a +ℤ b) *ℤ d)
after_first a b z d k e h hk hd l from =
    from_difference-pos _ _ (subst (λ (v : ℤ). pos 0 <ℤ v) (sym (rw h (plain a b z d k))) (sum_some _ _ (twice_nonneg k (z -ℤ a *ℤ d) hk (less_gap _ _ from)) (mul-pos (b -ℤ a) d (more_gap a b l) hd)))
  where
    plain : (a b z d k : ℤ) → ((k +ℤ k) *ℤ z +ℤ (a +ℤ b) *ℤ d) -ℤ a *ℤ ((k +ℤ k) *ℤ d +ℤ (d +ℤ d)) ≡ (k +ℤ k) *ℤ (z -ℤ a *ℤ d) +ℤ (b -ℤ a) *ℤ d
    plain a b z d k = rw (as_D a, as_D b, as_D z, as_D d, as_D k) (simp diffs (D-eq _ _ _ _ (omega arith)))

before_second : (a b z d k e : ℤ) → e ≡ (k +ℤ k) *ℤ d +ℤ (d +ℤ d) → pos 0 ≤ℤ k → pos 0 <ℤ d → a <ℤ b → z ≤ℤ (b *ℤ d) → ((k +ℤ k) *ℤ z +ℤ (a +ℤ b) *ℤ d) <ℤ (b *ℤ e)
before_second a b z d k e h hk hd l to =
    from_difference-pos _ _ (subst (λ (v : ℤ). pos 0 <ℤ v) (sym (rw h (plain a b z d k))) (sum_some _ _ (twice_nonneg k (b *ℤ d -ℤ z) hk (less_gap _ _ to)) (mul-pos (b -ℤ a) d (more_gap a b l) hd)))
  where
    plain : (a b z d k : ℤ) → b *ℤ ((k +ℤ k) *ℤ d +ℤ (d +ℤ d)) -ℤ ((k +ℤ k) *ℤ z +ℤ (a +ℤ b) *ℤ d) ≡ (k +ℤ k) *ℤ (b *ℤ d -ℤ z) +ℤ (b -ℤ a) *ℤ d
    plain a b z d k = rw (as_D a, as_D b, as_D z, as_D d, as_D k) (simp diffs (D-eq _ _ _ _ (omega arith)))

on_level : (a b z d k e : ℤ) → e ≡ (k +ℤ k) *ℤ d +ℤ (d +ℤ d) → a ≡ b → a *ℤ d ≡ z → a *ℤ e ≡ (k +ℤ k) *ℤ z +ℤ (a +ℤ b) *ℤ d
on_level a b z d k e h same here =
    ap (λ (v : ℤ). a *ℤ v) h ∙ plain a d k ∙ ap₂ (λ (v w : ℤ). (k +ℤ k) *ℤ v +ℤ (a +ℤ w) *ℤ d) here same
  where
    plain : (a d k : ℤ) → a *ℤ ((k +ℤ k) *ℤ d +ℤ (d +ℤ d)) ≡ (k +ℤ k) *ℤ (a *ℤ d) +ℤ (a +ℤ a) *ℤ d
    plain a d k = rw (as_D a, as_D d, as_D k) (simp diffs (D-eq _ _ _ _ (omega arith)))

nonneg_pos : (k : ℕ) → pos 0 ≤ℤ pos k
nonneg_pos k = omega (arith, ints)

-- what lies on a segment, moved so, lies strictly inside it
pub toward_inside : (p : RationalPoint) (s : Pair) (k : ℕ) → 0 < p.bottom → Before s.a s.b → goes_through s p ≡ true → IsInside s (toward p s k)
toward_inside p s k some o on =
    let order = through_order s p some o on in
    let e = bottom_toward k p.bottom in
    let some_d = pos_some p.bottom some in
    let line = on_the_line s.a.x s.a.y s.b.x s.b.y p.x p.y (pos p.bottom) (pos k) _ e order.0 in
    elim o [
      | inl l ↦ record {
        on_line = line;
        after_a = inl (after_first s.a.x s.b.x p.x (pos p.bottom) (pos k) _ e (nonneg_pos k) some_d l (UpTo-x _ _ order.1));
        before_b = inl (before_second s.a.x s.b.x p.x (pos p.bottom) (pos k) _ e (nonneg_pos k) some_d l (UpTo-x _ _ order.2));
      }
      | inr r ↦
          let same = ap (λ (z : ℤ). z *ℤ pos p.bottom) r.0 in
          let here = between _ _ _ same (UpTo-x _ _ order.1) (UpTo-x _ _ order.2) in
          let level = on_level s.a.x s.b.x p.x (pos p.bottom) (pos k) _ e r.0 here in
          record {
            on_line = line;
            after_a = inr (level, after_first s.a.y s.b.y p.y (pos p.bottom) (pos k) _ e (nonneg_pos k) some_d r.1 (up_y _ _ order.1 here));
            before_b = inr (sym level ∙ ap (λ (z : ℤ). z *ℤ pos (toward p s k).bottom) r.0, before_second s.a.y s.b.y p.y (pos p.bottom) (pos k) _ e (nonneg_pos k) some_d r.1 (up_y _ _ order.2 (sym here ∙ same)));
          }
    ]
  where
    between : (u v z : ℤ) → u ≡ v → u ≤ℤ z → z ≤ℤ v → u ≡ z
    between u v z e h l = omega (arith, ints, e, h, l)

    up_y : (u v : Point) → UpTo u v → u.x ≡ v.x → u.y ≤ℤ v.y
    up_y u v (inl l) e = absurd (off _ _ l e)
      where
        off : (a b : ℤ) → a <ℤ b → a ≡ b → ⊥
        off a b l e = omega (arith, ints, l, e)
    up_y u v (inr r) e = r.1

-- ---- how near that is

gap_of : RationalPoint → Pair → ℕ
gap_of p s = unsigned_abs ((s.a.x +ℤ s.b.x) *ℤ pos p.bottom -ℤ (p.x +ℤ p.x)) + unsigned_abs ((s.a.y +ℤ s.b.y) *ℤ pos p.bottom -ℤ (p.y +ℤ p.y))

toward_gap : (n : ℕ) (u c : ℤ) (d k : ℕ) → 0 < d → n * unsigned_abs (c *ℤ pos d -ℤ (u +ℤ u)) ≤ k → n * unsigned_abs (((pos k +ℤ pos k) *ℤ u +ℤ c *ℤ pos d) *ℤ pos d -ℤ u *ℤ pos ((k + k + 2) * d)) < d * ((k + k + 2) * d)
toward_gap n u c d k some h =
    let gap = gap_is u c (pos d) (pos k) _ (bottom_toward k d) in
    rw (gap, abs_times (c *ℤ pos d -ℤ (u +ℤ u)) d) (plain n (unsigned_abs (c *ℤ pos d -ℤ (u +ℤ u))) k d some h)
  where
    gap_is : (u c d k b : ℤ) → b ≡ (k +ℤ k) *ℤ d +ℤ (d +ℤ d) → ((k +ℤ k) *ℤ u +ℤ c *ℤ d) *ℤ d -ℤ u *ℤ b ≡ (c *ℤ d -ℤ (u +ℤ u)) *ℤ d
    gap_is u c d k b h = rw h (rw (as_D u, as_D c, as_D d, as_D k) (simp diffs (D-eq _ _ _ _ (omega arith))))

    plain : (n a k d : ℕ) → 0 < d → n * a ≤ k → n * (a * d) < d * ((k + k + 2) * d)
    plain n a k zero some h = absurd (omega (arith, some))
    plain n a k (suc d) some h =
        let p = mul-le-mul_left (suc d) h in
        last n a k d p (longer k d)
      where
        longer : (k d : ℕ) → suc d * k < suc d * ((k + k + 2) * suc d)
        longer k d = omega arith

        last : (n a k d : ℕ) → suc d * (n * a) ≤ suc d * k → suc d * k < suc d * ((k + k + 2) * suc d)
            → n * (a * suc d) < suc d * ((k + k + 2) * suc d)
        last n a k d p q = omega (arith, p, q)

part_left : (n a b : ℕ) → n * a ≤ n * (a + b)
part_left n a b = omega arith

part_right : (n a b : ℕ) → n * b ≤ n * (a + b)
part_right n a b = omega arith

toward_close : (n : ℕ) (p : RationalPoint) (s : Pair) → 0 < p.bottom → IsCloser n p (toward p s (n * gap_of p s))
unfolding gap_of
toward_close n p s some = record {
  in_x = toward_gap n p.x (s.a.x +ℤ s.b.x) p.bottom (n * gap_of p s) some (part_left n _ _);
  in_y = toward_gap n p.y (s.a.y +ℤ s.b.y) p.bottom (n * gap_of p s) some (part_right n _ _);
}

-- ---- to both sides of a segment

module _ (shape_type : ShapeType) (boundary : List (List Point)) (apart : IsTrue (list_all (λ s. list_all (λ t. are_apart s t) (edges boundary)) (edges boundary)))
    (inside : RationalPoint → Bool) (IsClear : RationalPoint → Type 0) (around : (p : RationalPoint) → 0 < p.bottom → IsClear p → winding_number boundary p ≡ truth (inside p))
    (s : WholeSegment) (m : Has (arc shape_type boundary apart inside IsClear around) s) (p : RationalPoint) (some : 0 < p.bottom) (on : goes_through s.pair p ≡ true)
    (lines : List Pair) (each : (g : Pair) → Has lines g → Before g.a g.b) (clear : (q : RationalPoint) → IsOffLines lines q → IsClear q) where
  abbrev xs : List WholeSegment
  xs = arc shape_type boundary apart inside IsClear around

  order_s : Before s.pair.a s.pair.b
  order_s = point_lt-cases s.pair.a s.pair.b ((arranged shape_type boundary apart inside IsClear around).ordered s m)

  record IsCloseBeside (left : Bool) (n : ℕ) : Type 0 where
    place : RationalPoint
    some_place : 0 < place.bottom
    off_lines : IsOffLines lines place
    closer : IsCloser n p place
    side : IsBeside xs s.pair left place

  module _ (left : Bool) (n : ℕ) (go : IsWay s.pair (upright_on s.pair) lines left true) where
    abbrev center : RationalPoint
    center = toward p s.pair ((2 * n) * gap_of p s.pair)

    center_some : 0 < center.bottom
    center_some = some_product _ p.bottom (two _) some
      where
        two : (k : ℕ) → 0 < k + k + 2
        two k = omega arith

    is_center : IsInside s.pair center
    is_center = toward_inside p s.pair ((2 * n) * gap_of p s.pair) some order_s on

    for_each : (k : ℕ) × ((u : WholeSegment) → Has xs u → fineness s.pair go.step u.pair < k)
    for_each = above_all (λ u. fineness s.pair go.step u.pair) xs

    for_lines : (k : ℕ) × ((g : Pair) → Has lines g → unsigned_abs (turn_by g go.step) < k)
    for_lines = above_all (λ g. unsigned_abs (turn_by g go.step)) lines

    abbrev parts : ℕ
    parts = for_each.0 + for_lines.0 + (2 * n) * unsigned_abs go.step.x + (2 * n) * unsigned_abs go.step.y + 1

    first_part : (a b c d f : ℕ) → f < a → f < a + b + c + d + 1
    first_part a b c d f l = omega (arith, l)

    second_part : (a b c d f : ℕ) → f < b → f < a + b + c + d + 1
    second_part a b c d f l = omega (arith, l)

    third_part : (a b c d : ℕ) → c < a + b + c + d + 1
    third_part a b c d = omega arith

    fourth_part : (a b c d : ℕ) → d < a + b + c + d + 1
    fourth_part a b c d = omega arith

    parts_some : (a b c d : ℕ) → 0 < a + b + c + d + 1
    parts_some a b c d = omega arith

    abbrev at : RationalPoint
    at = near center go.step parts

    at_some : 0 < at.bottom
    at_some = some_product parts center.bottom (parts_some for_each.0 for_lines.0 _ _) center_some

    beside_place : IsCloseBeside left n
    beside_place = record {
      place = at;
      some_place = at_some;
      off_lines = λ g h. near_off_line g center go.step parts (second_part for_each.0 for_lines.0 _ _ _ (for_lines.1 g h)) (go.off_lines g h);
      closer = close_through n p center at some center_some at_some (toward_close (2 * n) p s.pair some)
          (near_close (2 * n) center go.step parts center_some (third_part for_each.0 for_lines.0 _ _) (fourth_part for_each.0 for_lines.0 _ _));
      side = (
        λ e. near_top xs (arranged shape_type boundary apart inside IsClear around) s m center center_some is_center go.step parts
            (λ u h. fine_enough s.pair go.step parts u.pair (first_part for_each.0 for_lines.0 _ _ _ (for_each.1 u h))) at_some (go.s_up e),
        λ e. near_bottom xs (arranged shape_type boundary apart inside IsClear around) s m center center_some is_center go.step parts
            (λ u h. fine_enough s.pair go.step parts u.pair (first_part for_each.0 for_lines.0 _ _ _ (for_each.1 u h))) at_some (go.s_down e),
      );
    }

  close_beside : (left : Bool) (n : ℕ) → IsCloseBeside left n
  close_beside left n = beside_place left n (the_way s.pair (upright_on s.pair) (upright_some s.pair order_s) lines each left true)

  -- Nearer to the point than one n-th is a point off some lines that is inside or not, as wanted.
  pub record IsCloseWith (wanted : Bool) (n : ℕ) : Type 0 where
    pub place : RationalPoint
    pub some_place : 0 < place.bottom
    pub off_lines : IsOffLines lines place
    pub closer : IsCloser n p place
    pub here : inside place ≡ wanted

  pub both_sides : (wanted : Bool) (n : ℕ) → IsCloseWith wanted n
  both_sides wanted n =
      let q = close_beside true 0 in
      let side = side_with shape_type boundary apart inside IsClear around s m q.place q.some_place q.side (clear q.place q.off_lines) wanted in
      let r = close_beside side.left n in
      record {
        place = r.place;
        some_place = r.some_place;
        off_lines = r.off_lines;
        closer = r.closer;
        here = side.all r.place r.some_place r.side (clear r.place r.off_lines);
      }
