-- The areas of several contours, added up: how large the sum is, and one contour after another.
use Rattle.std.proofs.Common.{◌≡◌, sym, ap, ◌∙◌, ℕ, suc, ◌+◌, ◌*◌, ◌^◌, ◌<◌, ◌≤◌, true, ◌&&◌, List, [], ◌∷◌, length, get_or, drop, map, arith}
use Rattle.std.specs.Prelude.{ℤ, pos, ◌+ℤ◌, ◌-ℤ◌, ◌*ℤ◌, ◌≤ℤ◌, int_le, unsigned_abs}
use Rattle.std.specs.List.{list_all}
use Rattle.std.specs.Int.{w128, int_wrap}
use Rattle.std.proofs.Math.Nat.{mul-le-mul}
use Rattle.std.proofs.lemmas.Bool.{and_parts}
use Rattle.std.proofs.lemmas.Int.{ints, unsigned_abs-mul, int_wrap_fits, int_wrap-add_left, fits_signed_from_abs}
use Rattle.overlay_geometry.specs.Coordinates.{is_pair_in_range, is_point_in_range, least_coordinate, greatest_coordinate}
use Rattle.overlay_geometry.specs.Points.{Point, Pair}
use Rattle.overlay_geometry.proofs.laws.integers.Tests.{le-tested}
use Rattle.overlay_base.specs.Sums.{gathered}
use Rattle.overlay_base.proofs.laws.lists.Monoids.{gathered-append}
use Rattle.overlay_contours.specs.Areas.{step_area, doubled_area, doubled_area_of_all}
use Rattle.overlay_contours.specs.Contours.{steps, steps_of}
use Rattle.overlay_contours.specs.ContourSegments.{are_in_range}
use Rattle.overlay_contours.proofs.laws.Areas.{whole_sums}
use Rattle.overlay_contours.proofs.laws.Steps.{drop_at, drop_all, steps-in_range}

-- ---- how large a sum is

small : (z least greatest : ℤ) → least_coordinate ≤ℤ least → greatest ≤ℤ greatest_coordinate → least ≤ℤ z → z ≤ℤ greatest → unsigned_abs z ≤ 2 ^ 30
small z least greatest low high h k = omega (arith, ints, low, high, h, k)

products : (m n k : ℕ) → m ≤ k → n ≤ k → m * n ≤ k * k
products m n k h l = mul-le-mul h l

area_small : (s : Pair) → unsigned_abs s.a.x ≤ 2 ^ 30 → unsigned_abs s.a.y ≤ 2 ^ 30 → unsigned_abs s.b.x ≤ 2 ^ 30 → unsigned_abs s.b.y ≤ 2 ^ 30 → unsigned_abs (step_area s) ≤ 2 ^ 61
area_small s h k l m =
    let one = unsigned_abs-mul s.a.x s.b.y in
    let two = unsigned_abs-mul s.a.y s.b.x in
    let first = products (unsigned_abs s.a.x) (unsigned_abs s.b.y) (2 ^ 30) h m in
    let second = products (unsigned_abs s.a.y) (unsigned_abs s.b.x) (2 ^ 30) k l in
    apart (s.a.x *ℤ s.b.y) (s.a.y *ℤ s.b.x) (omega (arith, one, first)) (omega (arith, two, second))
  where
    apart : (u v : ℤ) → unsigned_abs u ≤ 2 ^ 60 → unsigned_abs v ≤ 2 ^ 60 → unsigned_abs (u -ℤ v) ≤ 2 ^ 61
    apart u v h k = omega (arith, ints, h, k)

module _ (least greatest : ℤ) (low : least_coordinate ≤ℤ least) (high : greatest ≤ℤ greatest_coordinate) where
  coordinates : (p : Point) → is_point_in_range least greatest p ≡ true → unsigned_abs p.x ≤ 2 ^ 30 × unsigned_abs p.y ≤ 2 ^ 30
  coordinates p h =
      let a = and_parts (int_le least p.x && int_le p.x greatest && int_le least p.y) (int_le p.y greatest) h in
      let b = and_parts (int_le least p.x && int_le p.x greatest) (int_le least p.y) a.0 in
      let c = and_parts (int_le least p.x) (int_le p.x greatest) b.0 in
      (small p.x least greatest low high (le-tested least p.x c.0) (le-tested p.x greatest c.1), small p.y least greatest low high (le-tested least p.y b.1) (le-tested p.y greatest a.1))

  of_steps : (list : List Pair) → list_all (λ s. is_pair_in_range least greatest s) list ≡ true → unsigned_abs (gathered ◌+ℤ◌ (pos 0) step_area list) ≤ length list * 2 ^ 61
  of_steps [] h = omega arith
  of_steps (s ∷ list) h =
      let parts = and_parts (is_pair_in_range least greatest s) (list_all (λ t. is_pair_in_range least greatest t) list) h in
      let ends = and_parts (is_point_in_range least greatest s.a) (is_point_in_range least greatest s.b) parts.0 in
      let a = coordinates s.a ends.0 in
      let b = coordinates s.b ends.1 in
      let here = area_small s a.0 a.1 b.0 b.1 in
      let rest = of_steps list parts.1 in
      both (step_area s) (gathered ◌+ℤ◌ (pos 0) step_area list) (length list) here rest
    where
      both : (u v : ℤ) (n : ℕ) → unsigned_abs u ≤ 2 ^ 61 → unsigned_abs v ≤ n * 2 ^ 61 → unsigned_abs (u +ℤ v) ≤ suc n * 2 ^ 61
      both u v n h k = omega (arith, ints, h, k)

  -- fewer than 2 ^ 64 steps have an area that fits
  pub sum_fits : (contours : List (List Point)) → are_in_range least greatest contours ≡ true → length (steps contours) < 2 ^ 64 → int_wrap w128 (doubled_area_of_all contours) ≡ doubled_area_of_all contours
  unfolding doubled_area_of_all
  sum_fits contours h few =
      let bound = of_steps (steps contours) (steps-in_range least greatest contours h) in
      int_wrap_fits w128 (gathered ◌+ℤ◌ (pos 0) step_area (steps contours)) (fits_signed_from_abs w128 (gathered ◌+ℤ◌ (pos 0) step_area (steps contours)) (omega (arith, bound, few)))

-- ---- one contour after another

pub area_next : {X : Type 0} (f : X → List Point) (xs : List X) (i : ℕ) (x : X) (area all : ℤ) → i < length xs → x ≡ get_or xs i x
    → int_wrap w128 (area +ℤ doubled_area_of_all (map f (drop i xs))) ≡ all → int_wrap w128 (int_wrap w128 (area +ℤ doubled_area (f x)) +ℤ doubled_area_of_all (map f (drop (i + 1) xs))) ≡ all
unfolding doubled_area doubled_area_of_all
area_next f xs i x area all h is e =
    let next : i + 1 ≡ suc i = omega arith in
    let rest = gathered ◌+ℤ◌ (pos 0) step_area (steps (map f (drop (suc i) xs))) in
    let here = gathered ◌+ℤ◌ (pos 0) step_area (steps_of (f x)) in
    let unrolled : gathered ◌+ℤ◌ (pos 0) step_area (steps (map f (drop i xs))) ≡ here +ℤ rest =
    ap (λ (l : List _). gathered ◌+ℤ◌ (pos 0) step_area (steps (map f l))) (drop_at xs i x h is) ∙ gathered-append whole_sums step_area (steps_of (f x)) (steps (map f (drop (suc i) xs))) in
    ap (λ (n : ℕ). int_wrap w128 (int_wrap w128 (area +ℤ here) +ℤ gathered ◌+ℤ◌ (pos 0) step_area (steps (map f (drop n xs))))) next
    ∙ int_wrap-add_left w128 (area +ℤ here) rest
    ∙ ap (int_wrap w128) (together area here rest)
    ∙ ap (λ (z : ℤ). int_wrap w128 (area +ℤ z)) (sym unrolled)
    ∙ e
  where
    together : (u v w : ℤ) → u +ℤ v +ℤ w ≡ u +ℤ (v +ℤ w)
    together u v w = omega (arith, ints)

pub area_done : {X : Type 0} (f : X → List Point) (xs : List X) (i : ℕ) (area : ℤ) → length xs ≤ i → area +ℤ doubled_area_of_all (map f (drop i xs)) ≡ area
unfolding doubled_area_of_all
area_done f xs i area h = ap (λ (l : List _). area +ℤ gathered ◌+ℤ◌ (pos 0) step_area (steps (map f l))) (drop_all xs i h) ∙ none area
  where
    none : (z : ℤ) → z +ℤ pos 0 ≡ z
    none z = omega (arith, ints)
