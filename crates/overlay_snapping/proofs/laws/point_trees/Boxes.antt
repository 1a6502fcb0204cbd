-- Trees of boxes over points, cut at their middle and put together.
use Rattle.std.proofs.Common.{◌≡◌, refl, sym, ap, ap₂, ◌∙◌, subst, ℕ, ◌+◌, ◌/◌, ◌<◌, ◌≤◌, suc, zero, Bool, true, ◌&&◌, List, [], ◌∷◌, ◌++◌, take, drop, map, length, length-append, arith}
use Rattle.std.specs.Prelude.{ℤ}
use Rattle.std.specs.List.{list_all}
use Rattle.std.proofs.lemmas.Bool.{and_parts, and_from}
use Rattle.std.proofs.lemmas.List.{map-append, length-map, take-append-drop, length-take-le}
use Rattle.std.proofs.lemmas.List.Folds.{list_all-append}
use Rattle.overlay_geometry.specs.Points.{Point}
use Rattle.overlay_geometry.specs.Ranges.{Rect}
use Rattle.overlay_geometry.specs.Coordinates.{is_point_in_range}
use Rattle.overlay_geometry.specs.PointOf.{point_of}
use Rattle.overlay_geometry.specs.RangeOf.{rect_of}
use Rattle.overlay_geometry.specs.declared.geom.point.IntPoint.{IntPoint}
use Rattle.overlay_geometry.specs.declared.geom.rect.IntRect.{IntRect}
use Rattle.overlay_snapping.specs.steps.PointTrees.{are_boxes, is_in_rect, is_rect_in_range, HoldPoints}

-- the parts of a list at an element
record AreParts {X : Type 0} (l xs : List X) (x : X) (ys : List X) (m : ℕ) : Type 0 where
  pub before : take m l ≡ xs
  pub from : drop m l ≡ x ∷ ys
  pub after : drop (suc m) l ≡ ys

AreParts-at : {X : Type 0} (xs : List X) (x : X) (ys : List X) (m : ℕ) → length xs ≡ m → AreParts (xs ++ x ∷ ys) xs x ys m
AreParts-at [] x ys zero h = record { before = refl; from = refl; after = refl }
AreParts-at [] x ys (suc m) h = absurd (omega (arith, h))
AreParts-at (z ∷ xs) x ys zero h = absurd (omega (arith, h))
AreParts-at (z ∷ xs) x ys (suc m) h =
    let t = AreParts-at xs x ys m (omega (arith, h)) in
    record { before = ap (λ l. z ∷ l) t.before; from = t.from; after = t.after }

-- a test of all elements of a list that is cut at one
all-cut : {X : Type 0} (p : X → Bool) (xs : List X) (x : X) (ys : List X) → list_all p (xs ++ x ∷ ys) ≡ (list_all p xs && (p x && list_all p ys))
all-cut p xs x ys = list_all-append p xs (x ∷ ys)

pub record AllParts {X : Type 0} (p : X → Bool) (xs : List X) (x : X) (ys : List X) : Type 0 where
  pub before : list_all p xs ≡ true
  pub here : p x ≡ true
  pub after : list_all p ys ≡ true

pub AllParts-from : {X : Type 0} (p : X → Bool) (xs : List X) (x : X) (ys : List X) → list_all p (xs ++ x ∷ ys) ≡ true → AllParts p xs x ys
AllParts-from p xs x ys h =
    let t = and_parts (list_all p xs) (p x && list_all p ys) (sym (all-cut p xs x ys) ∙ h) in
    let u = and_parts (p x) (list_all p ys) t.1 in
    record { before = t.0; here = u.0; after = u.1 }

pub AllParts-to : {X : Type 0} (p : X → Bool) (xs : List X) (x : X) (ys : List X) → AllParts p xs x ys → list_all p (xs ++ x ∷ ys) ≡ true
AllParts-to p xs x ys t = all-cut p xs x ys ∙ and_from (list_all p xs) (p x && list_all p ys) t.before (and_from (p x) (list_all p ys) t.here t.after)

-- no boxes over no points
empty : (n : ℕ) → are_boxes n [] [] ≡ true
unfolding are_boxes
empty zero = refl
empty (suc n) = let e = empty n in rw e refl

pub no_points : (least greatest : ℤ) (boxes : List Rect) (points : List Point) → length boxes ≡ 0 → length points ≡ 0 → HoldPoints least greatest boxes points
no_points least greatest (b ∷ boxes) points h k = absurd (omega (arith, h))
no_points least greatest [] (p ∷ points) h k = absurd (omega (arith, k))
no_points least greatest [] [] h k = record { one_each = refl; points_in_range = refl; boxes_in_range = refl; bounded = empty }

-- what a tree says of its halves, of the box in the middle and of the point there
pub record AreHalves (least greatest : ℤ) (lb : List Rect) (b : Rect) (rb : List Rect) (lp : List Point) (p : Point) (rp : List Point) : Type 0 where
  pub left : HoldPoints least greatest lb lp
  pub right : HoldPoints least greatest rb rp
  pub point_in_range : is_point_in_range least greatest p ≡ true
  pub box_in_range : is_rect_in_range least greatest b ≡ true
  pub in_box : list_all (is_in_rect b) (lp ++ p ∷ rp) ≡ true

-- one level of a tree
are_boxes-level : (n : ℕ) (boxes : List Rect) (points : List Point) → are_boxes (suc n) boxes points ≡ (
    list_all (λ r. list_all (is_in_rect r) points) (take 1 (drop (length points / 2) boxes))
    && (are_boxes n (take (length points / 2) boxes) (take (length points / 2) points)
    && are_boxes n (drop (suc (length points / 2)) boxes) (drop (suc (length points / 2)) points)))
unfolding are_boxes
are_boxes-level n boxes points = refl

module _ (least greatest : ℤ) (lb : List Rect) (b : Rect) (rb : List Rect) (lp : List Point) (p : Point) (rp : List Point) (same : length lb ≡ length lp) (mid : length lp ≡ length (lp ++ p ∷ rp) / 2) where
  -- a level of boxes
  are_boxes-cut : (n : ℕ) → are_boxes (suc n) (lb ++ b ∷ rb) (lp ++ p ∷ rp) ≡ ((list_all (is_in_rect b) (lp ++ p ∷ rp) && true) && (are_boxes n lb lp && are_boxes n rb rp))
  are_boxes-cut n =
      let m = length (lp ++ p ∷ rp) / 2 in
      let bs = AreParts-at lb b rb m (same ∙ mid) in
      let ps = AreParts-at lp p rp m mid in
      are_boxes-level n (lb ++ b ∷ rb) (lp ++ p ∷ rp) ∙ rw (bs.before, bs.from, bs.after, ps.before, ps.after) refl

  pub AreHalves-from : HoldPoints least greatest (lb ++ b ∷ rb) (lp ++ p ∷ rp) → AreHalves least greatest lb b rb lp p rp
  AreHalves-from h =
      let points = AllParts-from (is_point_in_range least greatest) lp p rp h.points_in_range in
      let boxes = AllParts-from (is_rect_in_range least greatest) lb b rb h.boxes_in_range in
      let lengths = h.one_each in
      let long_b = length-append lb (b ∷ rb) in
      let long_p = length-append lp (p ∷ rp) in
      let level = λ (n : ℕ). and_parts (list_all (is_in_rect b) (lp ++ p ∷ rp) && true) (are_boxes n lb lp && are_boxes n rb rp) (sym (are_boxes-cut n) ∙ h.bounded (suc n)) in record {
        left = record { one_each = same; points_in_range = points.before; boxes_in_range = boxes.before; bounded = λ n. (and_parts (are_boxes n lb lp) (are_boxes n rb rp) (level n).1).0 };
        right = record { one_each = omega (arith, lengths, long_b, long_p, same); points_in_range = points.after; boxes_in_range = boxes.after; bounded = λ n. (and_parts (are_boxes n lb lp) (are_boxes n rb rp) (level n).1).1 };
        point_in_range = points.here;
        box_in_range = boxes.here;
        in_box = (and_parts (list_all (is_in_rect b) (lp ++ p ∷ rp)) true (level 0).0).0;
      }

  levels : AreHalves least greatest lb b rb lp p rp → (n : ℕ) → are_boxes n (lb ++ b ∷ rb) (lp ++ p ∷ rp) ≡ true
  unfolding are_boxes
  levels h zero = refl
  levels h (suc n) = are_boxes-cut n ∙ and_from _ _ (and_from _ _ h.in_box refl) (and_from _ _ (h.left.bounded n) (h.right.bounded n))

  -- halves with a box make a tree
  pub AreHalves-to : AreHalves least greatest lb b rb lp p rp → HoldPoints least greatest (lb ++ b ∷ rb) (lp ++ p ∷ rp)
  AreHalves-to h =
      let lengths = h.right.one_each in
      let long_b = length-append lb (b ∷ rb) in
      let long_p = length-append lp (p ∷ rp) in record {
        one_each = omega (arith, lengths, long_b, long_p, same);
        points_in_range = AllParts-to (is_point_in_range least greatest) lp p rp (record { before = h.left.points_in_range; here = h.point_in_range; after = h.right.points_in_range });
        boxes_in_range = AllParts-to (is_rect_in_range least greatest) lb b rb (record { before = h.left.boxes_in_range; here = h.box_in_range; after = h.right.boxes_in_range });
        bounded = levels h;
      }

-- ---- lists of code

module _ {I : Type 0} (whole : I → ℤ) where
  -- a list that is cut at its middle, as code cuts it
  pub record IsHalved {X Y : Type 0} (f : X → Y) (m : ℕ) (l xs : List X) (x : X) (ys : List X) : Type 0 where
    pub is : map f l ≡ map f xs ++ f x ∷ map f ys
    pub front : length (map f xs) ≡ m
    pub front_less : length xs < length l
    pub back_less : length ys < length l
    pub long : length l ≡ m + suc (length ys)

  pub IsHalved-from : {X Y : Type 0} (f : X → Y) (m : ℕ) (l xs later : List X) (x : X) (ys : List X) → xs ≡ take m l → later ≡ drop m l → later ≡ x ∷ ys → m ≤ length l → IsHalved f m l xs x ys
  IsHalved-from f m l xs later x ys e1 e2 e3 small =
      let is : l ≡ xs ++ x ∷ ys = sym (take-append-drop m l) ∙ ap₂ (λ u v. u ++ v) (sym e1) (sym e2 ∙ e3) in
      let n : length xs ≡ m = ap length e1 ∙ length-take-le m l small in
      let long = ap length is ∙ length-append xs (x ∷ ys) in record {
        is = ap (map f) is ∙ map-append f xs (x ∷ ys);
        front = length-map xs f ∙ n;
        front_less = omega (arith, long);
        back_less = omega (arith, long);
        long = omega (arith, long, n);
      }

  -- the halves of a tree that code has cut
  pub AreHalves-cut : (least greatest : ℤ) (m : ℕ) (boxes lb rb : List (IntRect I)) (b : IntRect I) (points lp rp : List (IntPoint I)) (p : IntPoint I) →
      IsHalved (rect_of whole) m boxes lb b rb → IsHalved (point_of whole) m points lp p rp → m ≡ length points / 2 → HoldPoints least greatest (map (rect_of whole) boxes) (map (point_of whole) points) →
      AreHalves least greatest (map (rect_of whole) lb) (rect_of whole b) (map (rect_of whole) rb) (map (point_of whole) lp) (point_of whole p) (map (point_of whole) rp)
  AreHalves-cut least greatest m boxes lb rb b points lp rp p hb hp mid h =
      let n : length points ≡ length (map (point_of whole) lp ++ point_of whole p ∷ map (point_of whole) rp) = sym (length-map points (point_of whole)) ∙ ap length hp.is in
      AreHalves-from least greatest (map (rect_of whole) lb) (rect_of whole b) (map (rect_of whole) rb) (map (point_of whole) lp) (point_of whole p) (map (point_of whole) rp)
      (hb.front ∙ sym hp.front) (hp.front ∙ mid ∙ ap (λ k. k / 2) n)
      (subst (λ ps. HoldPoints least greatest (map (rect_of whole) lb ++ rect_of whole b ∷ map (rect_of whole) rb) ps) hp.is (subst (λ bs. HoldPoints least greatest bs (map (point_of whole) points)) hb.is h))

  pub record IsCut (least greatest : I) (boxes lb rb : List (IntRect I)) (b : IntRect I) (points lp rp : List (IntPoint I)) (p : IntPoint I) : Type 0 where
    pub points_halved : IsHalved (point_of whole) (length points / 2) points lp p rp
    pub halves : AreHalves (whole least) (whole greatest) (map (rect_of whole) lb) (rect_of whole b) (map (rect_of whole) rb) (map (point_of whole) lp) (point_of whole p) (map (point_of whole) rp)
    pub in_box : list_all (is_in_rect (rect_of whole b)) (map (point_of whole) points) ≡ true

  -- the same from what calls of `split_at` and `split_first` say
  pub Cut-from : (least greatest : I) (boxes lb fb rb : List (IntRect I)) (b : IntRect I) (points lp fp rp : List (IntPoint I)) (p : IntPoint I) →
      lb ≡ take (length points / 2) boxes → fb ≡ drop (length points / 2) boxes → fb ≡ b ∷ rb → lp ≡ take (length points / 2) points → fp ≡ drop (length points / 2) points → fp ≡ p ∷ rp →
      HoldPoints (whole least) (whole greatest) (map (rect_of whole) boxes) (map (point_of whole) points) → IsCut least greatest boxes lb rb b points lp rp p
  Cut-from least greatest boxes lb fb rb b points lp fp rp p b1 b2 b3 p1 p2 p3 h =
      let m = length points / 2 in
      let as_many : length boxes ≡ length points = sym (length-map boxes (rect_of whole)) ∙ h.one_each ∙ length-map points (point_of whole) in
      let small : m ≤ length points = omega arith in
      let hb = IsHalved-from (rect_of whole) m boxes lb fb b rb b1 b2 b3 (omega (arith, as_many, small)) in
      let hp = IsHalved-from (point_of whole) m points lp fp p rp p1 p2 p3 small in
      let halves = AreHalves-cut (whole least) (whole greatest) m boxes lb rb b points lp rp p hb hp refl h in
      record { points_halved = hp; halves = halves; in_box = ap (list_all (is_in_rect (rect_of whole b))) hp.is ∙ halves.in_box }

  -- and put together again, with new boxes
  pub HoldPoints-joined : (least greatest : ℤ) (m : ℕ) (lb rb : List (IntRect I)) (b : IntRect I) (points lp rp : List (IntPoint I)) (p : IntPoint I) →
      IsHalved (point_of whole) m points lp p rp → m ≡ length points / 2 →
      AreHalves least greatest (map (rect_of whole) lb) (rect_of whole b) (map (rect_of whole) rb) (map (point_of whole) lp) (point_of whole p) (map (point_of whole) rp) →
      HoldPoints least greatest (map (rect_of whole) (lb ++ b ∷ rb)) (map (point_of whole) points)
  HoldPoints-joined least greatest m lb rb b points lp rp p hp mid h =
      let n : length points ≡ length (map (point_of whole) lp ++ point_of whole p ∷ map (point_of whole) rp) = sym (length-map points (point_of whole)) ∙ ap length hp.is in
      subst (λ bs. HoldPoints least greatest bs (map (point_of whole) points)) (sym (map-append (rect_of whole) lb (b ∷ rb)))
      (subst (λ ps. HoldPoints least greatest (map (rect_of whole) lb ++ rect_of whole b ∷ map (rect_of whole) rb) ps) (sym hp.is)
      (AreHalves-to least greatest (map (rect_of whole) lb) (rect_of whole b) (map (rect_of whole) rb) (map (point_of whole) lp) (point_of whole p) (map (point_of whole) rp)
      h.left.one_each (hp.front ∙ mid ∙ ap (λ k. k / 2) n) h))
