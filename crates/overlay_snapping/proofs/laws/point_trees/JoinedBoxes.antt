-- The least box around a point and the boxes of the points before and after it.
use Rattle.std.proofs.Common.{◌≡◌, ap, Bool, true, List, ◌∷◌, ◌++◌, arith}
use Rattle.std.specs.Prelude.{ℤ, ◌≤ℤ◌, Option, None, Some}
use Rattle.std.specs.Int.{int_min, int_max}
use Rattle.std.specs.List.{list_all}
use Rattle.std.proofs.lemmas.Int.{ints}
use Rattle.std.proofs.lemmas.Bool.{and_from}
use Rattle.overlay_geometry.specs.Points.{Point}
use Rattle.overlay_geometry.specs.Ranges.{Rect}
use Rattle.overlay_geometry.specs.Coordinates.{is_point_in_range}
use Rattle.overlay_geometry.proofs.laws.lists.Lists.{AllByRecursion-weaker, AllByRecursion-from_list_all, list_all-from_AllByRecursion}
use Rattle.overlay_snapping.specs.steps.PointTrees.{is_in_rect, is_rect_in_range, rect_at, rect_with, IsBoxOf}
use Rattle.overlay_snapping.proofs.laws.point_trees.MissedBoxes.{IsInRect, IsInRect-from}
use Rattle.overlay_snapping.proofs.laws.point_trees.Boxes.{AllParts-to}

IsInRect-to : (r : Rect) (c : Point) → IsInRect r c → is_in_rect r c ≡ true
IsInRect-to r c h =
    let left = h.from_left in
    let right = h.to_right in
    let below = h.from_below in
    let top = h.to_top in
    grind (arith, ints)

min_first : (a b x : ℤ) → a ≤ℤ x → int_min a b ≤ℤ x
min_first a b x h = grind (arith, ints)

min_second : (a b x : ℤ) → b ≤ℤ x → int_min a b ≤ℤ x
min_second a b x h = grind (arith, ints)

max_first : (a b x : ℤ) → x ≤ℤ a → x ≤ℤ int_max a b
max_first a b x h = grind (arith, ints)

max_second : (a b x : ℤ) → x ≤ℤ b → x ≤ℤ int_max a b
max_second a b x h = grind (arith, ints)

-- what lies in a rectangle lies in a larger one
with_keeps : (r : Rect) (o : Option Rect) (c : Point) → is_in_rect r c ≡ true → is_in_rect (rect_with r o) c ≡ true
with_keeps r None c h = h
with_keeps r (Some s) c h =
    let i = IsInRect-from r c h in
    IsInRect-to (rect_with r (Some s)) c (record {
      from_left = min_first r.min_x s.min_x c.x i.from_left;
      to_right = max_first r.max_x s.max_x c.x i.to_right;
      from_below = min_first r.min_y s.min_y c.y i.from_below;
      to_top = max_first r.max_y s.max_y c.y i.to_top;
    })

with_takes : (r s : Rect) (c : Point) → is_in_rect s c ≡ true → is_in_rect (rect_with r (Some s)) c ≡ true
with_takes r s c h =
    let i = IsInRect-from s c h in
    IsInRect-to (rect_with r (Some s)) c (record {
      from_left = min_second r.min_x s.min_x c.x i.from_left;
      to_right = max_second r.max_x s.max_x c.x i.to_right;
      from_below = min_second r.min_y s.min_y c.y i.from_below;
      to_top = max_second r.max_y s.max_y c.y i.to_top;
    })

at_point : (p : Point) → is_in_rect (rect_at p) p ≡ true
at_point p = grind (arith, ints)

module _ (least greatest : ℤ) where
  corners_joined : (r s : Rect) → is_rect_in_range least greatest r ≡ true → is_rect_in_range least greatest s ≡ true → is_rect_in_range least greatest (rect_with r (Some s)) ≡ true
  corners_joined r s h k = grind (arith, ints)

  with_in_range : (r : Rect) (o : Option Rect) (points : List Point) → is_rect_in_range least greatest r ≡ true → IsBoxOf least greatest o points → is_rect_in_range least greatest (rect_with r o) ≡ true
  with_in_range r None points h k = h
  with_in_range r (Some s) points h k = corners_joined r s h k.0

  all_weaker : (p q : Point → Bool) (points : List Point) → ((c : Point) → p c ≡ true → q c ≡ true) → list_all p points ≡ true → list_all q points ≡ true
  all_weaker p q points f h = list_all-from_AllByRecursion q points (AllByRecursion-weaker (λ c. p c ≡ true) (λ c. q c ≡ true) f points (AllByRecursion-from_list_all p points h))

  holds_others : (r : Rect) (o : Option Rect) (points : List Point) → IsBoxOf least greatest o points → list_all (is_in_rect (rect_with r o)) points ≡ true
  holds_others r None points h = ap (list_all (is_in_rect r)) h
  holds_others r (Some s) points h = all_weaker (is_in_rect s) (is_in_rect (rect_with r (Some s))) points (with_takes r s) h.1

  -- the box around a point and two boxes holds what they hold, in range
  pub box_round : (p : Point) (before after : List Point) (o o' : Option Rect) → is_point_in_range least greatest p ≡ true → IsBoxOf least greatest o before → IsBoxOf least greatest o' after →
      IsBoxOf least greatest (Some (rect_with (rect_with (rect_at p) o) o')) (before ++ p ∷ after)
  box_round p before after o o' h hb ha =
      let first = rect_with (rect_at p) o in
      let all = rect_with first o' in
      let point : is_rect_in_range least greatest (rect_at p) ≡ true = and_from (is_point_in_range least greatest p) (is_point_in_range least greatest p) h h in (
        with_in_range first o' after (with_in_range (rect_at p) o before point hb) ha,
        AllParts-to (is_in_rect all) before p after (record {
          before = all_weaker (is_in_rect first) (is_in_rect all) before (with_keeps first o') (holds_others (rect_at p) o before hb);
          here = with_keeps first o' p (with_keeps (rect_at p) o p (at_point p));
          after = holds_others first o' after ha;
        }),
      )
