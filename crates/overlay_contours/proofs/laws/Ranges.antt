-- Contours whose edges are segments of an arrangement have their points in range.
use Rattle.std.proofs.Common.{◌≡◌, refl, sym, ap, ◌∙◌, Bool, true, false, ◌&&◌, cond, List, [], ◌∷◌, ◌++◌, map}
use Rattle.std.specs.Prelude.{ℤ}
use Rattle.std.specs.List.{list_all}
use Rattle.std.proofs.lemmas.Bool.{and_parts, and_from}
use Rattle.std.proofs.lemmas.List.Folds.{list_all-append, list_all-map}
use Rattle.overlay_geometry.specs.Points.{Point, Pair, point_lt}
use Rattle.overlay_geometry.specs.Coordinates.{is_point_in_range, is_pair_in_range}
use Rattle.overlay_geometry.proofs.laws.lists.Lists.{Has, list_all-at, list_all-from_Has, list_all-and_parts}
use Rattle.overlay_base.specs.Segments.{WholeSegment, pairs, is_map}
use Rattle.overlay_base.specs.Windings.{is_valid, is_not_empty}
use Rattle.overlay_base.specs.Planar.{is_splittable, is_planar, is_arranged}
use Rattle.overlay_contours.specs.Contours.{steps_from, steps_of, steps, turned, in_order, is_edge, edges, AreProper}
use Rattle.overlay_contours.specs.ContourSegments.{are_in_range}
use Rattle.overlay_contours.specs.Corners.{last_of, corners}
use Rattle.overlay_contours.proofs.laws.Extracts.{all_pass}
use Rattle.overlay_contours.proofs.laws.Corners.{at_point, corners_on, corners_are, no_corners}

module _ (least greatest : ℤ) where
  abbrev inside : Point → Bool
  inside p = is_point_in_range least greatest p

  abbrev in_range : Pair → Bool
  in_range s = is_pair_in_range least greatest s

  start_in_range : (s : Pair) → in_range (in_order s) ≡ true → inside s.a ≡ true
  start_in_range s h = by (point_lt s.a s.b) h
    where
      by : (b : Bool) → in_range (cond b s (turned s)) ≡ true → inside s.a ≡ true
      by true k = (and_parts (inside s.a) (inside s.b) k).0
      by false k = (and_parts (inside s.b) (inside s.a) k).1

  starts_in_range : (list : List Pair) → list_all in_range (map in_order list) ≡ true → list_all (λ s. inside s.a) list ≡ true
  starts_in_range [] h = refl
  starts_in_range (s ∷ list) h = let both = and_parts (in_range (in_order s)) _ h in and_from _ _ (start_in_range s both.0) (starts_in_range list both.1)

  points_from : (p z : Point) (points : List Point) → list_all (λ s. inside s.a) (steps_from p (points ++ z ∷ [])) ≡ true → list_all inside (p ∷ points) ≡ true
  points_from p z [] h = h
  points_from p z (q ∷ points) h = let both = and_parts (inside p) _ h in and_from _ _ both.0 (points_from q z points both.1)

  points_of_steps : (points : List Point) → list_all (λ s. inside s.a) (steps_of points) ≡ true → list_all inside points ≡ true
  points_of_steps [] h = refl
  points_of_steps (p ∷ points) h = points_from p p points h

  contours_of_steps : (contours : List (List Point)) → list_all (λ s. inside s.a) (steps contours) ≡ true → are_in_range least greatest contours ≡ true
  contours_of_steps [] h = refl
  contours_of_steps (c ∷ contours) h =
      let both = and_parts _ _ (sym (list_all-append (λ s. inside s.a) (steps_of c) (steps contours)) ∙ h) in
      and_from _ _ (points_of_steps c both.0) (contours_of_steps contours both.1)

  pairs_in_range : (segments : List WholeSegment) → is_arranged least greatest segments ≡ true → list_all in_range (pairs segments) ≡ true
  unfolding is_arranged is_splittable
  pairs_in_range segments h =
      let parts = and_parts _ (is_planar segments) h in
      let usable = and_parts (is_map segments) _ parts.0 in
      let first = list_all-and_parts (λ (s : WholeSegment). in_range s.pair && is_valid s.count) (λ s. is_not_empty s.count) segments usable.1 in
      list_all-map in_range (λ (s : WholeSegment). s.pair) segments ∙ (list_all-and_parts (λ (s : WholeSegment). in_range s.pair) (λ s. is_valid s.count) segments first.0).0

  -- contours whose edges are segments of an arrangement
  pub edges_in_range : (segments : List WholeSegment) (contours : List (List Point)) → is_arranged least greatest segments ≡ true → ((e : Pair) → Has (edges contours) e → Has (pairs segments) e) → AreProper contours → are_in_range least greatest contours ≡ true
  edges_in_range segments contours h stands proper =
      contours_of_steps contours
      (starts_in_range (steps contours)
      (ap (λ (l : List Pair). list_all in_range (map in_order l)) (sym (all_pass is_edge (steps contours) proper.apart))
      ∙ list_all-from_Has in_range (edges contours) (λ e i. list_all-at in_range (pairs segments) e (pairs_in_range segments h) (stands e i))))

  corners_on_pass : (p q : Point) (xs : List Point) → inside q ≡ true → list_all inside xs ≡ true → list_all inside (corners_on p q xs) ≡ true
  corners_on_pass p q [] h k = refl
  corners_on_pass p q (x ∷ xs) h k =
      let both = and_parts (inside x) (list_all inside xs) k in
      at_point (λ cs. list_all inside cs ≡ true) p q x (corners_on q x xs) (λ e. corners_on_pass q x xs both.0 both.1) (λ e. and_from _ _ h (corners_on_pass q x xs both.0 both.1))

  corners_pass : (points : List Point) → list_all inside points ≡ true → list_all inside (corners points) ≡ true
  corners_pass [] h = ap (list_all inside) no_corners
  corners_pass (p ∷ points) h =
      let both = and_parts (inside p) (list_all inside points) h in
      ap (list_all inside) (corners_are p points)
      ∙ corners_on_pass (last_of p points) p (points ++ p ∷ []) both.0 (list_all-append inside points (p ∷ []) ∙ and_from _ _ both.1 (and_from _ _ both.0 refl))

  -- the corners of contours in range
  pub corners_in_range : (contours : List (List Point)) → are_in_range least greatest contours ≡ true → are_in_range least greatest (map corners contours) ≡ true
  corners_in_range [] h = refl
  corners_in_range (c ∷ contours) h = let both = and_parts (list_all inside c) _ h in and_from _ _ (corners_pass c both.0) (corners_in_range contours both.1)
