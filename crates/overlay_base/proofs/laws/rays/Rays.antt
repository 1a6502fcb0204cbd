-- The winding around a place is that of any of its four rays.
use Rattle.std.proofs.Common.{◌≡◌, refl, sym, ap, ap₂, ◌∙◌, arith, ℕ, ◌<◌, inl, inr, List, [], ◌∷◌}
use Rattle.std.specs.Prelude.{ℤ, pos, ◌+ℤ◌, ◌-ℤ◌, ◌*ℤ◌, neg_ℤ, ◌≤ℤ◌, ◌<ℤ◌, int_le, int_lt, Bool, true, false, cond, not, ◌&&◌, ◌⊎◌, filter, bit_or, IsTrue}
use Rattle.std.specs.List.{list_all}
use Rattle.std.proofs.lemmas.Int.{ints}
use Rattle.std.proofs.lemmas.Bool.{and_parts, and_from, not-true}
use Rattle.std.proofs.lemmas.Bool.Decides.{Decides-int_eq}
use Rattle.overlay_geometry.specs.Points.{Point, Pair, is_between, is_ordered}
use Rattle.overlay_geometry.specs.Below.{width}
use Rattle.overlay_base.specs.Windings.{Winding, empty, add, inverse, weight, swap_directions}
use Rattle.overlay_base.specs.Segments.{WholeSegment, are_ordered, total_weight}
use Rattle.overlay_base.specs.Balance.{IsBalanced}
use Rattle.overlay_base.specs.Sums.{weighed}
use Rattle.overlay_base.specs.Places.{RationalPoint, height_at, lies_below, winding_below}
use Rattle.overlay_base.specs.Rays.{place_turn, goes_through, is_on_none, lies_above, winding_above, rises_left_of, falls_left_of, rises_right_of, falls_right_of, winding_left, winding_right}
use Rattle.overlay_base.specs.Laws.{AnyRayWillDo}
use Rattle.overlay_geometry.proofs.laws.geometry.Polynomials.{as_D, diffs, D-eq, mul-le_left, from_difference-nonneg}
use Rattle.overlay_geometry.proofs.laws.geometry.Points.{before}
use Rattle.overlay_base.proofs.laws.counts.Windings.{same_windings}
use Rattle.overlay_base.proofs.laws.lists.Monoids.{gathered-same, gathered-through}
use Rattle.overlay_base.proofs.laws.joins.Bags.{total_weight-total}
use Rattle.overlay_base.proofs.laws.joins.Functionals.{whole_numbers_add, total_weight-filter}
use Rattle.overlay_base.proofs.laws.rays.Losses.{lost, weighed-neg, weighed-sum, weighed-on, balanced_loses_nothing}
use Rattle.overlay_base.proofs.laws.rays.Quadrants.{one, Agree, by_ends}

-- ---- weights of tested segments, as sums of numbers

at_subj : (b : Bool) (c : Winding) → (cond b (weight c) empty).subj ≡ one b *ℤ c.subj
at_subj true c = omega (arith, ints)
at_subj false c = omega (arith, ints)

at_clip : (b : Bool) (c : Winding) → (cond b (weight c) empty).clip ≡ one b *ℤ c.clip
at_clip true c = omega (arith, ints)
at_clip false c = omega (arith, ints)

module _ (test : Pair → Bool) (bag : List WholeSegment) where
  pub tested-subj : (total_weight (filter (λ s. test s.pair) bag)).subj ≡ weighed (λ s. one (test s)) (λ c. c.subj) bag
  tested-subj =
      ap (λ (c : Winding). c.subj) (total_weight-filter test bag)
      ∙ gathered-through add empty ◌+ℤ◌ (pos 0) (λ c. c.subj) refl (λ c d. refl) (λ (s : WholeSegment). cond (test s.pair) (weight s.count) empty) bag
      ∙ gathered-same whole_numbers_add _ _ (λ s. at_subj (test s.pair) s.count) bag

  pub tested-clip : (total_weight (filter (λ s. test s.pair) bag)).clip ≡ weighed (λ s. one (test s)) (λ c. c.clip) bag
  tested-clip =
      ap (λ (c : Winding). c.clip) (total_weight-filter test bag)
      ∙ gathered-through add empty ◌+ℤ◌ (pos 0) (λ c. c.clip) refl (λ c d. refl) (λ (s : WholeSegment). cond (test s.pair) (weight s.count) empty) bag
      ∙ gathered-same whole_numbers_add _ _ (λ s. at_clip (test s.pair) s.count) bag

  pub tested-mask : (total_weight (filter (λ s. test s.pair) bag)).mask ≡ 0
  tested-mask = ap (λ (c : Winding). c.mask) (total_weight-total (filter (λ s. test s.pair) bag))

  pub inverse-tested-subj : (inverse (total_weight (filter (λ s. test s.pair) bag))).subj ≡ weighed (λ s. neg_ℤ (one (test s))) (λ c. c.subj) bag
  inverse-tested-subj = ap neg_ℤ tested-subj ∙ sym (weighed-neg (λ s. one (test s)) (λ c. c.subj) bag)

  pub inverse-tested-clip : (inverse (total_weight (filter (λ s. test s.pair) bag))).clip ≡ weighed (λ s. neg_ℤ (one (test s))) (λ c. c.clip) bag
  inverse-tested-clip = ap neg_ℤ tested-clip ∙ sym (weighed-neg (λ s. one (test s)) (λ c. c.clip) bag)

  pub inverse-tested-mask : (inverse (total_weight (filter (λ s. test s.pair) bag))).mask ≡ 0
  inverse-tested-mask = ap swap_directions tested-mask

module _ (plus minus : Pair → Bool) (bag : List WholeSegment) where
  abbrev difference : Winding
  difference = add (total_weight (filter (λ s. plus s.pair) bag)) (inverse (total_weight (filter (λ s. minus s.pair) bag)))

  pub difference-subj : difference.subj ≡ weighed (λ s. one (plus s) +ℤ neg_ℤ (one (minus s))) (λ c. c.subj) bag
  difference-subj = ap₂ ◌+ℤ◌ (tested-subj plus bag) (inverse-tested-subj minus bag) ∙ sym (weighed-sum (λ s. one (plus s)) (λ s. neg_ℤ (one (minus s))) (λ c. c.subj) bag)

  pub difference-clip : difference.clip ≡ weighed (λ s. one (plus s) +ℤ neg_ℤ (one (minus s))) (λ c. c.clip) bag
  difference-clip = ap₂ ◌+ℤ◌ (tested-clip plus bag) (inverse-tested-clip minus bag) ∙ sym (weighed-sum (λ s. one (plus s)) (λ s. neg_ℤ (one (minus s))) (λ c. c.clip) bag)

  pub difference-mask : difference.mask ≡ 0
  difference-mask = ap₂ bit_or (tested-mask plus bag) (inverse-tested-mask minus bag)

-- ---- one segment

le-difference : (a b : ℤ) → int_le a b ≡ int_le (pos 0) (b -ℤ a)
le-difference a b = grind (arith, ints)

lt-not_le : (a b : ℤ) → int_lt a b ≡ not (int_le b a)
lt-not_le a b = grind (arith, ints)

pub lt-difference : (a b t : ℤ) → t ≡ b -ℤ a → int_lt a b ≡ int_lt (pos 0) t
lt-difference a b t e = rw e (plain a b)
  where
    plain : (a b : ℤ) → int_lt a b ≡ int_lt (pos 0) (b -ℤ a)
    plain a b = grind (arith, ints)

lt-difference_back : (a b t : ℤ) → t ≡ b -ℤ a → int_lt b a ≡ int_lt t (pos 0)
lt-difference_back a b t e = rw e (plain a b)
  where
    plain : (a b : ℤ) → int_lt b a ≡ int_lt (b -ℤ a) (pos 0)
    plain a b = grind (arith, ints)

between_up : (a b z : ℤ) → a ≤ℤ z → z ≤ℤ b → is_between a b z ≡ true
between_up a b z h k = grind (arith, ints)

between_down : (a b z : ℤ) → b ≤ℤ z → z ≤ℤ a → is_between a b z ≡ true
between_down a b z h k = grind (arith, ints)

module _ (s : Pair) (p : RationalPoint) where
  abbrev right_of_a : ℤ
  right_of_a = p.x -ℤ s.a.x *ℤ pos p.bottom

  abbrev right_of_b : ℤ
  right_of_b = p.x -ℤ s.b.x *ℤ pos p.bottom

  abbrev over_a : ℤ
  over_a = p.y -ℤ s.a.y *ℤ pos p.bottom

  abbrev over_b : ℤ
  over_b = p.y -ℤ s.b.y *ℤ pos p.bottom

  scaled_turn : pos p.bottom *ℤ place_turn s p ≡ right_of_a *ℤ over_b -ℤ right_of_b *ℤ over_a
  scaled_turn = plain (pos p.bottom) s.a.x s.a.y s.b.x s.b.y p.x p.y
    where
      plain : (d ax ay bx by x y : ℤ) → d *ℤ ((bx -ℤ ax) *ℤ (y -ℤ ay *ℤ d) -ℤ (by -ℤ ay) *ℤ (x -ℤ ax *ℤ d)) ≡ (x -ℤ ax *ℤ d) *ℤ (y -ℤ by *ℤ d) -ℤ (x -ℤ bx *ℤ d) *ℤ (y -ℤ ay *ℤ d)
      plain d ax ay bx by x y = rw (as_D d, as_D ax, as_D ay, as_D bx, as_D by, as_D x, as_D y) (simp diffs (D-eq _ _ _ _ (omega arith)))

  pub turn_is_height : place_turn s p ≡ p.y *ℤ width s -ℤ height_at s p
  turn_is_height = plain s.a.y s.a.x (width s) (s.b.y -ℤ s.a.y) p.x p.y (pos p.bottom)
    where
      plain : (ay ax w h x y d : ℤ) → w *ℤ (y -ℤ ay *ℤ d) -ℤ h *ℤ (x -ℤ ax *ℤ d) ≡ y *ℤ w -ℤ (ay *ℤ (w *ℤ d) +ℤ h *ℤ (x -ℤ ax *ℤ d))
      plain ay ax w h x y d = rw (as_D ay, as_D ax, as_D w, as_D h, as_D x, as_D y, as_D d) (simp diffs (D-eq _ _ _ _ (omega arith)))

  module _ (some : 0 < p.bottom) (ordered : is_ordered s ≡ true) (off : goes_through s p ≡ false) where
    not_both : (b : Bool) → b ≡ true → b ≡ false → ⊥
    not_both b h k = absurd (cc)

    in_order : right_of_b ≤ℤ right_of_a
    in_order = plain s.a.x s.b.x p.x p.bottom (across (before s.a s.b ordered))
      where
        across : (s.a.x <ℤ s.b.x) ⊎ ((s.a.x ≡ s.b.x) × (s.a.y <ℤ s.b.y)) → s.a.x ≤ℤ s.b.x
        across (inl h) = omega (arith, ints, h)
        across (inr (e, h)) = omega (arith, ints, e)

        plain : (a b x : ℤ) (d : ℕ) → a ≤ℤ b → (x -ℤ b *ℤ pos d) ≤ℤ (x -ℤ a *ℤ pos d)
        plain a b x d h = let m = mul-le_left (pos d) a b (omega (arith, ints)) h in omega (arith, ints, m)

    not_on : place_turn s p ≡ pos 0 → pos 0 ≤ℤ right_of_a → right_of_b ≤ℤ pos 0 → ((pos 0 ≤ℤ over_a) × (over_b ≤ℤ pos 0)) ⊎ ((over_a ≤ℤ pos 0) × (pos 0 ≤ℤ over_b)) → ⊥
    unfolding goes_through
    not_on zero after past heights = not_both _ (and_from _ _ (and_from _ _ ((Decides-int_eq (place_turn s p) (pos 0)).1 zero) in_x) (in_y heights)) off
      where
        at_least : (u z : ℤ) → (z -ℤ u) ≤ℤ pos 0 → z ≤ℤ u
        at_least u z h = omega (arith, ints, h)

        in_x : is_between (s.a.x *ℤ pos p.bottom) (s.b.x *ℤ pos p.bottom) p.x ≡ true
        in_x = between_up _ _ p.x (from_difference-nonneg _ _ after) (at_least _ _ past)

        in_y : ((pos 0 ≤ℤ over_a) × (over_b ≤ℤ pos 0)) ⊎ ((over_a ≤ℤ pos 0) × (pos 0 ≤ℤ over_b)) → is_between (s.a.y *ℤ pos p.bottom) (s.b.y *ℤ pos p.bottom) p.y ≡ true
        in_y (inl h) = between_up _ _ p.y (from_difference-nonneg _ _ h.0) (at_least _ _ h.1)
        in_y (inr h) = between_down _ _ p.y (from_difference-nonneg _ _ h.1) (at_least _ _ h.0)

    agree : Agree (int_le (s.a.x *ℤ pos p.bottom) p.x) (int_le (s.b.x *ℤ pos p.bottom) p.x) (int_le (s.a.y *ℤ pos p.bottom) p.y) (int_le (s.b.y *ℤ pos p.bottom) p.y) (int_lt (pos 0) (place_turn s p)) (int_lt (place_turn s p) (pos 0))
    agree =
        rw (le-difference (s.a.x *ℤ pos p.bottom) p.x, le-difference (s.b.x *ℤ pos p.bottom) p.x, le-difference (s.a.y *ℤ pos p.bottom) p.y, le-difference (s.b.y *ℤ pos p.bottom) p.y)
        (by_ends p.bottom right_of_a right_of_b over_a over_b (place_turn s p) (record { scaled = scaled_turn; some = some; ordered = in_order; not_on = not_on }) _ _ _ _ refl refl refl refl)

    abbrev ax : Bool
    ax = int_le (s.a.x *ℤ pos p.bottom) p.x

    abbrev bx : Bool
    bx = int_le (s.b.x *ℤ pos p.bottom) p.x

    abbrev ay : Bool
    ay = int_le (s.a.y *ℤ pos p.bottom) p.y

    abbrev by : Bool
    by = int_le (s.b.y *ℤ pos p.bottom) p.y

    below_is : lies_below s p ≡ ((ax && not bx) && int_lt (pos 0) (place_turn s p))
    below_is = ap₂ (λ (b l : Bool). (ax && b) && l) (lt-not_le p.x (s.b.x *ℤ pos p.bottom)) (lt-difference (height_at s p) (p.y *ℤ width s) (place_turn s p) turn_is_height)

    above_is : lies_above s p ≡ ((ax && not bx) && int_lt (place_turn s p) (pos 0))
    above_is = ap₂ (λ (b l : Bool). (ax && b) && l) (lt-not_le p.x (s.b.x *ℤ pos p.bottom)) (lt-difference_back (height_at s p) (p.y *ℤ width s) (place_turn s p) turn_is_height)

    rises_is : (l : Bool) → ((ay && int_lt p.y (s.b.y *ℤ pos p.bottom)) && l) ≡ ((ay && not by) && l)
    rises_is l = ap (λ (b : Bool). (ay && b) && l) (lt-not_le p.y (s.b.y *ℤ pos p.bottom))

    falls_is : (l : Bool) → ((by && int_lt p.y (s.a.y *ℤ pos p.bottom)) && l) ≡ ((by && not ay) && l)
    falls_is l = ap (λ (b : Bool). (by && b) && l) (lt-not_le p.y (s.a.y *ℤ pos p.bottom))

    up_agrees : one (lies_below s p) ≡ neg_ℤ (one (lies_above s p)) +ℤ (one ax -ℤ one bx)
    up_agrees = ap one below_is ∙ agree.up ∙ ap (λ (b : Bool). neg_ℤ (one b) +ℤ (one ax -ℤ one bx)) (sym above_is)

    pub left_agrees : one (lies_below s p) ≡ (one (falls_left_of s p) +ℤ neg_ℤ (one (rises_left_of s p))) +ℤ (one (ax && ay) -ℤ one (bx && by))
    left_agrees = ap one below_is ∙ agree.left ∙ ap₂ (λ (b c : Bool). (one b +ℤ neg_ℤ (one c)) +ℤ (one (ax && ay) -ℤ one (bx && by))) (sym (falls_is _)) (sym (rises_is _))

    pub right_agrees : one (lies_below s p) ≡ (one (rises_right_of s p) +ℤ neg_ℤ (one (falls_right_of s p))) +ℤ ((one (ax && ay) -ℤ one ay) -ℤ (one (bx && by) -ℤ one by))
    right_agrees = ap one below_is ∙ agree.right ∙ ap₂ (λ (b c : Bool). (one b +ℤ neg_ℤ (one c)) +ℤ ((one (ax && ay) -ℤ one ay) -ℤ (one (bx && by) -ℤ one by))) (sym (rises_is _)) (sym (falls_is _))

-- ---- all segments

list_all-both : (f g : WholeSegment → Bool) (xs : List WholeSegment) → list_all f xs ≡ true → list_all g xs ≡ true → list_all (λ s. f s && g s) xs ≡ true
list_all-both f g [] h k = refl
list_all-both f g (s ∷ ss) h k =
    let m = and_parts (f s) (list_all f ss) h in
    let n = and_parts (g s) (list_all g ss) k in
    and_from _ _ (and_from _ _ m.0 n.0) (list_all-both f g ss m.1 n.1)

plus_nothing : (x y z : ℤ) → x ≡ y +ℤ z → z ≡ pos 0 → y ≡ x
plus_nothing x y z e h = omega (arith, ints, e, h)

module _ (segments : List WholeSegment) (p : RationalPoint) (ordered : IsTrue (are_ordered segments)) (some : 0 < p.bottom) (off : IsTrue (is_on_none segments p)) where
  abbrev seen : WholeSegment → Bool
  seen s = is_ordered s.pair && not (goes_through s.pair p)

  all_seen : list_all seen segments ≡ true
  all_seen = list_all-both (λ s. is_ordered s.pair) (λ s. not (goes_through s.pair p)) segments ordered off

  abbrev point_left : Point → Bool
  point_left q = int_le (q.x *ℤ pos p.bottom) p.x

  abbrev point_under : Point → Bool
  point_under q = int_le (q.y *ℤ pos p.bottom) p.y

  -- what differs from the ray straight down by a function of the ends counts the same
  by_ray : (part : Winding → ℤ) (g : Pair → ℤ) (f : Point → ℤ) → ((s : WholeSegment) → seen s ≡ true → one (lies_below s.pair p) ≡ g s.pair +ℤ lost f s.pair) → weighed (lost f) part segments ≡ pos 0 →
      weighed g part segments ≡ weighed (λ s. one (lies_below s p)) part segments
  by_ray part g f e h = plus_nothing _ _ _ (weighed-on seen (λ s. one (lies_below s p)) (λ s. g s +ℤ lost f s) part segments all_seen e ∙ weighed-sum g (lost f) part segments) h

  ordered_of : (s : WholeSegment) → seen s ≡ true → is_ordered s.pair ≡ true
  ordered_of s h = (and_parts (is_ordered s.pair) (not (goes_through s.pair p)) h).0

  off_of : (s : WholeSegment) → seen s ≡ true → goes_through s.pair p ≡ false
  off_of s h = not-true _ (and_parts (is_ordered s.pair) (not (goes_through s.pair p)) h).1

  abbrev up_loss : Point → ℤ
  up_loss q = one (point_left q)

  abbrev left_loss : Point → ℤ
  left_loss q = one (point_left q && point_under q)

  abbrev right_loss : Point → ℤ
  right_loss q = one (point_left q && point_under q) -ℤ one (point_under q)

  module _ (balanced : IsBalanced segments) where
    above_as_below : winding_above segments p ≡ winding_below segments p
    unfolding winding_above winding_below
    above_as_below =
        let by = λ (part : Winding → ℤ) (h : weighed (lost up_loss) part segments ≡ pos 0). by_ray part (λ s. neg_ℤ (one (lies_above s p))) up_loss (λ s k. up_agrees s.pair p some (ordered_of s k) (off_of s k)) h in
        same_windings _ _
        (inverse-tested-subj (λ s. lies_above s p) segments ∙ by (λ c. c.subj) (balanced_loses_nothing up_loss segments balanced).0 ∙ sym (tested-subj (λ s. lies_below s p) segments))
        (inverse-tested-clip (λ s. lies_above s p) segments ∙ by (λ c. c.clip) (balanced_loses_nothing up_loss segments balanced).1 ∙ sym (tested-clip (λ s. lies_below s p) segments))
        (inverse-tested-mask (λ s. lies_above s p) segments ∙ sym (tested-mask (λ s. lies_below s p) segments))

    left_as_below : winding_left segments p ≡ winding_below segments p
    unfolding winding_left winding_below
    left_as_below =
        let by = λ (part : Winding → ℤ) (h : weighed (lost left_loss) part segments ≡ pos 0). by_ray part (λ s. one (falls_left_of s p) +ℤ neg_ℤ (one (rises_left_of s p))) left_loss (λ s k. left_agrees s.pair p some (ordered_of s k) (off_of s k)) h in
        same_windings _ _
        (difference-subj (λ s. falls_left_of s p) (λ s. rises_left_of s p) segments ∙ by (λ c. c.subj) (balanced_loses_nothing left_loss segments balanced).0 ∙ sym (tested-subj (λ s. lies_below s p) segments))
        (difference-clip (λ s. falls_left_of s p) (λ s. rises_left_of s p) segments ∙ by (λ c. c.clip) (balanced_loses_nothing left_loss segments balanced).1 ∙ sym (tested-clip (λ s. lies_below s p) segments))
        (difference-mask (λ s. falls_left_of s p) (λ s. rises_left_of s p) segments ∙ sym (tested-mask (λ s. lies_below s p) segments))

    right_as_below : winding_right segments p ≡ winding_below segments p
    unfolding winding_right winding_below
    right_as_below =
        let by = λ (part : Winding → ℤ) (h : weighed (lost right_loss) part segments ≡ pos 0). by_ray part (λ s. one (rises_right_of s p) +ℤ neg_ℤ (one (falls_right_of s p))) right_loss (λ s k. right_agrees s.pair p some (ordered_of s k) (off_of s k)) h in
        same_windings _ _
        (difference-subj (λ s. rises_right_of s p) (λ s. falls_right_of s p) segments ∙ by (λ c. c.subj) (balanced_loses_nothing right_loss segments balanced).0 ∙ sym (tested-subj (λ s. lies_below s p) segments))
        (difference-clip (λ s. rises_right_of s p) (λ s. falls_right_of s p) segments ∙ by (λ c. c.clip) (balanced_loses_nothing right_loss segments balanced).1 ∙ sym (tested-clip (λ s. lies_below s p) segments))
        (difference-mask (λ s. rises_right_of s p) (λ s. falls_right_of s p) segments ∙ sym (tested-mask (λ s. lies_below s p) segments))

pub any_ray_will_do : AnyRayWillDo
any_ray_will_do segments p ordered balanced some off = (
  above_as_below segments p ordered some off balanced,
  left_as_below segments p ordered some off balanced,
  right_as_below segments p ordered some off balanced,
)
