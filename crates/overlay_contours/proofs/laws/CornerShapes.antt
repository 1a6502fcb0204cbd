-- The corners of the contours of shapes: they stay simple, led and apart.
use Rattle.std.proofs.Common.{◌≡◌, refl, sym, ap, subst, ◌∙◌, ℕ, ◌+◌, ◌<◌, ◌≤◌, Bool, true, false, not, ◌&&◌, cond, if◌then◌else◌, List, [], ◌∷◌, ◌++◌, map, arith, inl, inr}
use Rattle.std.specs.Prelude.{◌⊎◌, pos, negsuc, All, Contains, count_by, flat_map}
use Rattle.std.specs.List.{AllByRecursion}
use Rattle.std.specs.Ordering.{int_eq}
use Rattle.std.proofs.lemmas.List.{map-append}
use Rattle.std.proofs.lemmas.List.Elements.{All-from_recursion, recursion_from_All}
use Rattle.std.proofs.lemmas.List.Sums.{sum_by-cons}
use Rattle.overlay_geometry.specs.Points.{Point, point_eq, point_lt, turn}
use Rattle.overlay_geometry.proofs.laws.lists.Lists.{Has, AllByRecursion-map, AllByRecursion-weaker, AllByRecursion-append, AllByRecursion-at, sum_by-map}
use Rattle.overlay_geometry.proofs.laws.lists.Elements.{Contains-from_Has, Has-from_Contains}
use Rattle.overlay_base.specs.Places.{RationalPoint}
use Rattle.overlay_base.specs.Rules.{holds}
use Rattle.overlay_base.specs.declared.overlay_core.fill_rule.FillRule.{FillRule}
use Rattle.overlay_base.specs.declared.overlay_core.overlay_rule.OverlayRule.{OverlayRule}
use Rattle.overlay_contours.specs.Contours.{winding_number}
use Rattle.overlay_contours.specs.Corners.{is_straight, last_of, corners}
use Rattle.overlay_contours.specs.CornerShapes.{IsCornerShapeOverlay}
use Rattle.overlay_contours.specs.Shapes.{all_contours, shapes_round, IsSimple, WindApart, IsLed, IsBoundaryWithHoles, IsShapeOverlay}
use Rattle.overlay_contours.specs.Splittings.{Splitting}
use Rattle.overlay_contours.proofs.laws.CornerOverlays.{corner_overlay}
use Rattle.overlay_contours.proofs.laws.Corners.{corners_on, corners_are, no_corners, at_point, corners_wind_alike, corners_stay}

-- ---- the corners are among the points

abbrev flag : Bool → ℕ
flag b = cond b 1 0

fewer_on : (test : Point → Bool) (p q z : Point) (xs : List Point) → count_by test (corners_on p q (xs ++ z ∷ [])) ≤ count_by test (q ∷ xs)
fewer_on test p q z [] =
    let one = sum_by-cons (λ s. flag (test s)) q [] in
    at_point (λ l. count_by test l ≤ count_by test (q ∷ [])) p q z [] (λ t. omega (arith, one)) (λ t. omega arith)
fewer_on test p q z (x ∷ xs) =
    let rest = fewer_on test q x z xs in
    let all = sum_by-cons (λ s. flag (test s)) q (x ∷ xs) in
    let more = sum_by-cons (λ s. flag (test s)) q (corners_on q x (xs ++ z ∷ [])) in
    at_point (λ l. count_by test l ≤ count_by test (q ∷ x ∷ xs)) p q x (corners_on q x (xs ++ z ∷ [])) (λ t. omega (arith, rest, all)) (λ t. omega (arith, rest, all, more))

fewer : (test : Point → Bool) (contour : List Point) → count_by test (corners contour) ≤ count_by test contour
fewer test [] = subst (λ (l : List Point). count_by test l ≤ count_by test []) (sym no_corners) (omega arith)
fewer test (p ∷ points) = subst (λ (l : List Point). count_by test l ≤ count_by test (p ∷ points)) (sym (corners_are p points)) (fewer_on test (last_of p points) p p points)

all_on : (P : Point → Type 0) (p q z : Point) (xs : List Point) → AllByRecursion P (q ∷ xs) → AllByRecursion P (corners_on p q (xs ++ z ∷ []))
all_on P p q z [] h = at_point (AllByRecursion P) p q z [] (λ t. tt) (λ t. (h.0, tt))
all_on P p q z (x ∷ xs) h =
    let rest = all_on P q x z xs h.1 in
    at_point (AllByRecursion P) p q x (corners_on q x (xs ++ z ∷ [])) (λ t. rest) (λ t. (h.0, rest))

all_corners_are : (P : Point → Type 0) (contour : List Point) → AllByRecursion P contour → AllByRecursion P (corners contour)
all_corners_are P [] h = subst (AllByRecursion P) (sym no_corners) tt
all_corners_are P (p ∷ points) h = subst (AllByRecursion P) (sym (corners_are p points)) (all_on P (last_of p points) p p points h)

-- ---- the least point is a corner

last_is : (P : Point → Type 0) (p : Point) (xs : List Point) → AllByRecursion P (p ∷ xs) → P (last_of p xs)
last_is P p [] h = h.0
last_is P p (x ∷ xs) h = last_is P x xs h.1

no_way : (b : Bool) → (b && false) ≡ false
no_way true = refl
no_way false = refl

least_turns : (p q r : Point) → point_lt p q ≡ false → point_lt r q ≡ false → is_straight p q r ≡ false
least_turns p q r before after = rw (before, after) (no_way (int_eq (turn p q r) (pos 0)))

least_on : (least p q z : Point) (xs : List Point) → AllByRecursion (λ r. point_lt r least ≡ false) (p ∷ q ∷ (xs ++ z ∷ [])) → Has (q ∷ xs) least → Has (corners_on p q (xs ++ z ∷ [])) least
least_on least p q z [] h (inl e) =
    let turns : is_straight p q z ≡ false = least_turns p q z (subst (λ (r : Point). point_lt p r ≡ false) (sym e) h.0) (subst (λ (r : Point). point_lt z r ≡ false) (sym e) h.1.1.0) in
    subst (λ (b : Bool). Has (cond b [] (q ∷ [])) least) (sym turns) (inl e)
least_on least p q z [] h (inr i) = absurd i
least_on least p q z (x ∷ xs) h (inl e) =
    let rest = corners_on q x (xs ++ z ∷ []) in
    let turns : is_straight p q x ≡ false = least_turns p q x (subst (λ (r : Point). point_lt p r ≡ false) (sym e) h.0) (subst (λ (r : Point). point_lt x r ≡ false) (sym e) h.1.1.0) in
    subst (λ (b : Bool). Has (cond b rest (q ∷ rest)) least) (sym turns) (inl e)
least_on least p q z (x ∷ xs) h (inr i) =
    let rest = least_on least q x z xs h.1 i in
    at_point (λ l. Has l least) p q x (corners_on q x (xs ++ z ∷ [])) (λ t. rest) (λ t. inr rest)

least_is_corner : (least : Point) (contour : List Point) → AllByRecursion (λ r. point_lt r least ≡ false) contour → Has contour least → Has (corners contour) least
least_is_corner least [] h i = absurd i
least_is_corner least (p ∷ points) h i =
    let P : Point → Type 0 = λ r. point_lt r least ≡ false in
    subst (λ (l : List Point). Has l least) (sym (corners_are p points))
    (least_on least (last_of p points) p p points (last_is P p points h, (h.0, AllByRecursion-append P points (p ∷ []) h.1 (h.0, tt))) i)

-- ---- contours and shapes

simple_stay : (contours : List (List Point)) → AllByRecursion IsSimple contours → AllByRecursion IsSimple (map corners contours)
simple_stay contours h = AllByRecursion-map IsSimple corners contours (AllByRecursion-weaker IsSimple (λ c. IsSimple (corners c)) (λ c simple p. let less = fewer (λ q. point_eq q p) c in let few = simple p in omega (arith, less, few)) contours h)

all_of_corners : (shapes : List (List (List Point))) → all_contours (map (map corners) shapes) ≡ map corners (all_contours shapes)
all_of_corners [] = refl
all_of_corners (s ∷ shapes) = ap (λ (l : List (List Point)). map corners s ++ l) (all_of_corners shapes) ∙ sym (map-append corners s (all_contours shapes))

led_stays : (shape : List (List Point)) → IsLed shape → IsLed (map corners shape)
led_stays shape led =
    let P : Point → Type 0 = λ r. point_lt r led.least ≡ false in
    let below : AllByRecursion (All P) shape = recursion_from_All (All P) shape led.below_none in
    let first : All P led.front = (subst (AllByRecursion (All P)) led.shape_is below).0 in
    record {
      front = corners led.front;
      later = map corners led.later;
      shape_is = ap (map corners) led.shape_is;
      least = led.least;
      on_front = Contains-from_Has (corners led.front) led.least (least_is_corner led.least led.front (recursion_from_All P led.front first) (Has-from_Contains led.front led.least led.on_front));
      below_none = All-from_recursion (All P) (map corners shape) (AllByRecursion-map (All P) corners shape (AllByRecursion-weaker (All P) (λ c. All P (corners c)) (λ c h. All-from_recursion P (corners c) (all_corners_are P c (recursion_from_All P c h))) shape below));
    }

bounded_stays : (shape : List (List Point)) → IsBoundaryWithHoles shape → IsBoundaryWithHoles (map corners shape)
bounded_stays shape b =
    let Hole : List Point → Type 0 = λ hole. (p : RationalPoint) → 0 < p.bottom → (winding_number (hole ∷ []) p ≡ pos 0) ⊎ (winding_number (hole ∷ []) p ≡ negsuc 0) in
    record {
      outer = corners b.outer;
      holes = map corners b.holes;
      shape_is = ap (map corners) b.shape_is;
      counterclockwise = λ p some. subst (λ n. (n ≡ pos 0) ⊎ (n ≡ pos 1)) (sym (corners_wind_alike (b.outer ∷ []) p)) (b.counterclockwise p some);
      clockwise = All-from_recursion Hole (map corners b.holes) (AllByRecursion-map Hole corners b.holes (AllByRecursion-weaker Hole (λ hole. Hole (corners hole)) (λ hole h p some. subst (λ n. (n ≡ pos 0) ⊎ (n ≡ negsuc 0)) (sym (corners_wind_alike (hole ∷ []) p)) (h p some)) b.holes (recursion_from_All Hole b.holes b.clockwise)));
    }

rounds_stay : (shapes : List (List (List Point))) (p : RationalPoint) → shapes_round (map (map corners) shapes) p ≡ shapes_round shapes p
unfolding shapes_round
rounds_stay shapes p =
    sum_by-map (λ (s : List (List Point)). flag (not (int_eq (winding_number s p) (pos 0)))) (map corners) shapes
    ∙ (λ i. count_by (λ (s : List (List Point)). not (int_eq (corners_wind_alike s p i) (pos 0))) shapes)

all_shapes : (P Q : List (List Point) → Type 0) → ((s : List (List Point)) → P s → Q (map corners s)) → (shapes : List (List (List Point))) → All P shapes → All Q (map (map corners) shapes)
all_shapes P Q f shapes h = All-from_recursion Q (map (map corners) shapes) (AllByRecursion-map Q (map corners) shapes (AllByRecursion-weaker P (λ s. Q (map corners s)) f shapes (recursion_from_All P shapes h)))

wind_alike : (shapes : List (List (List Point))) (p : RationalPoint) → winding_number (all_contours (map (map corners) shapes)) p ≡ winding_number (all_contours shapes) p
wind_alike shapes p = ap (λ (l : List (List Point)). winding_number l p) (all_of_corners shapes) ∙ corners_wind_alike (all_contours shapes) p

apart_stay : (shapes : List (List (List Point))) (p : RationalPoint) → WindApart shapes p → WindApart (map (map corners) shapes) p
apart_stay shapes p a = record {
  each = all_shapes (λ s. (winding_number s p ≡ pos 0) ⊎ (winding_number s p ≡ winding_number (all_contours shapes) p)) (λ s. (winding_number s p ≡ pos 0) ⊎ (winding_number s p ≡ winding_number (all_contours (map (map corners) shapes)) p))
      (λ s h. rw (corners_wind_alike s p, wind_alike shapes p) h) shapes a.each;
  one = rounds_stay shapes p ∙ (a.one ∙ ap (λ n. if int_eq n (pos 0) then 0 else 1) (sym (wind_alike shapes p)));
}

-- ---- the overlay

pub corner_shape_overlay : (splitting : Splitting) (rule : OverlayRule) (fill_rule : FillRule) (subject clip : List (List Point)) (full answer : List (List (List Point))) → IsShapeOverlay splitting rule fill_rule subject clip full → answer ≡ map (map corners) full → IsCornerShapeOverlay splitting rule fill_rule subject clip answer
corner_shape_overlay splitting rule fill_rule subject clip full answer o e = record {
  full = full;
  overlay = o;
  taken = e;
  contours = corner_overlay splitting rule fill_rule subject clip (all_contours full) (all_contours answer) o.overlay (ap all_contours e ∙ all_of_corners full);
  simple = subst (λ (l : List (List Point)). All IsSimple l) (sym (ap all_contours e ∙ all_of_corners full)) (All-from_recursion IsSimple (map corners (all_contours full)) (simple_stay (all_contours full) (recursion_from_All IsSimple (all_contours full) o.simple)));
  apart = λ p some. subst (λ l. WindApart l p) (sym e) (apart_stay full p (o.apart p some));
  named = λ outside p some. subst (All (λ s. (winding_number s p ≡ pos 0) ⊎ (winding_number s p ≡ pos 1))) (sym e)
      (all_shapes (λ s. (winding_number s p ≡ pos 0) ⊎ (winding_number s p ≡ pos 1)) (λ s. (winding_number s p ≡ pos 0) ⊎ (winding_number s p ≡ pos 1)) (λ s h. rw (corners_wind_alike s p) h) full (o.named outside p some));
  inside = λ outside p some beyond. ap (λ l. shapes_round l p) e ∙ rounds_stay full p ∙ o.inside outside p some beyond;
  led = subst (All IsLed) (sym e) (all_shapes IsLed IsLed led_stays full o.led);
  bounded = λ outside. subst (All IsBoundaryWithHoles) (sym e) (all_shapes IsBoundaryWithHoles IsBoundaryWithHoles bounded_stays full (o.bounded outside));
}
