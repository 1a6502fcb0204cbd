-- The places of the points whose pixels a segment meets.
use Rattle.std.proofs.Common.{◌≡◌, sym, ap, ap₂, subst, ◌∙◌, ◌⊎◌, inl, inr, ℕ, zero, suc, ◌+◌, ◌<◌, List, [], ◌∷◌, Some, map, filter, length, take, get_or, arith}
use Rattle.std.specs.Prelude.{ℤ, Contains, IsTrue, slice_get}
use Rattle.std.specs.List.{enumerate_from}
use Rattle.std.proofs.lemmas.List.{length-map, take_more}
use Rattle.std.proofs.lemmas.List.Elements.{Contains-get_or, Contains-push_cases}
use Rattle.std.proofs.lemmas.Option.{slice_get-get_or, slice_get_within}
use Rattle.overlay_geometry.specs.Points.{Point, Pair}
use Rattle.overlay_geometry.specs.PointOf.{point_of}
use Rattle.overlay_geometry.specs.declared.geom.point.IntPoint.{IntPoint}
use Rattle.overlay_geometry.proofs.laws.lists.Lists.{Has, Has-map, Has-map_out, Has-filter, Has-filter_out}
use Rattle.overlay_geometry.proofs.laws.lists.Elements.{Contains-from_Has, Has-from_Contains}
use Rattle.overlay_snapping.specs.Pixels.{meets_pixel, met_places}
use Rattle.overlay_snapping.proofs.laws.closure.Elements.{one_element}
use Rattle.overlay_snapping.proofs.laws.cuts.Reads.{read_mapped}

numbered_out : {X : Type 0} (n : ℕ) (xs : List X) (e : ℕ × X) → Has (enumerate_from n xs) e → (k : ℕ) × (e.0 ≡ n + k) × (slice_get xs k ≡ Some e.1)
numbered_out n [] e h = absurd h
numbered_out {X = X} n (x ∷ xs) e (inl h) = (0, (let i : n ≡ e.0 = ap (λ (r : ℕ × X). r.0) h in omega (arith, i)), ap (λ (r : ℕ × X). Some r.1) h)
numbered_out n (x ∷ xs) e (inr h) = let r = numbered_out (n + 1) xs e h in (suc r.0, omega (arith, r.1), r.2)

numbered_in : {X : Type 0} (n : ℕ) (xs : List X) (k : ℕ) (x : X) → slice_get xs k ≡ Some x → Has (enumerate_from n xs) (n + k, x)
numbered_in n [] k x h = absurd (cc h)
numbered_in {X = X} n (y ∷ ys) zero x h = inl (ap₂ (λ (i : ℕ) (z : X). (i, z)) (omega arith) (cc h))
numbered_in {X = X} n (y ∷ ys) (suc k) x h = inr (subst (λ (i : ℕ). Has (enumerate_from (n + 1) ys) (i, x)) (omega arith) (numbered_in (n + 1) ys k x h))

module _ (s : Pair) (points : List Point) where
  pub place_out : (place : ℕ) → Contains (met_places s points) place → (c : Point) × (slice_get points place ≡ Some c) × IsTrue (meets_pixel s c)
  unfolding met_places
  place_out place h =
      let of_map = Has-map_out (λ (e : ℕ × Point). e.0) (filter (λ e. meets_pixel s e.1) (enumerate_from 0 points)) place (Has-from_Contains (met_places s points) place h) in
      let passed = Has-filter_out (λ (e : ℕ × Point). meets_pixel s e.1) (enumerate_from 0 points) of_map.0 of_map.1 in
      let r = numbered_out 0 points of_map.0 passed.0 in
      let same : r.0 ≡ place = let e = r.1 in let f = of_map.2 in omega (arith, e, f) in
      (of_map.0.1, subst (λ (k : ℕ). slice_get points k ≡ Some of_map.0.1) same r.2, passed.1)

  pub place_in : (place : ℕ) (c : Point) → slice_get points place ≡ Some c → IsTrue (meets_pixel s c) → Contains (met_places s points) place
  unfolding met_places
  place_in place c at h =
      let i : Has (enumerate_from 0 points) (place, c) = subst (λ (k : ℕ). Has (enumerate_from 0 points) (k, c)) (omega arith) (numbered_in 0 points place c at) in
      Contains-from_Has (met_places s points) place
      (Has-map (λ (e : ℕ × Point). e.0) (filter (λ e. meets_pixel s e.1) (enumerate_from 0 points)) (place, c) (Has-filter (λ (e : ℕ × Point). meets_pixel s e.1) (enumerate_from 0 points) (place, c) i h))

-- ---- places one after another

pub taken_split : (xs : List ℕ) (i d : ℕ) → i < length xs → (k : ℕ) → Contains (take (i + 1) xs) k → Contains (take i xs) k ⊎ (get_or xs i d ≡ k)
taken_split xs i d within k h = Contains-push_cases (take i xs) (get_or xs i d) k (subst (λ (l : List ℕ). Contains l k) (take_more xs i d within) h)

-- a point of code at a place
pub point_there : {I : Type 0} (whole : I → ℤ) (xs : List (IntPoint I)) (k : ℕ) (x : IntPoint I) → k < length xs → x ≡ get_or xs k x → slice_get (map (point_of whole) xs) k ≡ Some (point_of whole x)
point_there whole xs k x within e =
    let long = length-map xs (point_of whole) in
    slice_get-get_or (map (point_of whole) xs) k (point_of whole x) (omega (arith, within, long)) ∙ ap (λ (q : Point). Some q) (read_mapped (point_of whole) xs k x (point_of whole x) within e)

-- ---- the places that a tree of code appends to none

module _ {I : Type 0} (whole : I → ℤ) (s : Pair) (xs points : List (IntPoint I)) (same : points ≡ xs) (met : List ℕ) (are : met ≡ met_places s (map (point_of whole) xs)) (i : ℕ) (inside : i < length met) where
  found_place : (c : Point) × (slice_get (map (point_of whole) xs) (get_or met i 0) ≡ Some c) × IsTrue (meets_pixel s c)
  found_place = place_out s (map (point_of whole) xs) (get_or met i 0) (subst (λ (l : List ℕ). Contains l (get_or met i 0)) are (Contains-get_or met i 0 inside))

  within_all : get_or met i 0 < length xs
  within_all = let l = slice_get_within (map (point_of whole) xs) (get_or met i 0) found_place.0 found_place.1 in let long = length-map xs (point_of whole) in omega (arith, l, long)

  pub met_within : get_or met i 0 < length points
  met_within = subst (λ (l : List (IntPoint I)). get_or met i 0 < length l) (sym same) within_all

  module _ (x : IntPoint I) (is : x ≡ get_or points (get_or met i 0) x) where
    pub met_at : slice_get (map (point_of whole) xs) (get_or met i 0) ≡ Some (point_of whole x)
    met_at = point_there whole xs (get_or met i 0) x within_all (is ∙ ap (λ (l : List (IntPoint I)). get_or l (get_or met i 0) x) same)

    pub met_meets : IsTrue (meets_pixel s (point_of whole x))
    met_meets = subst (λ (q : Point). IsTrue (meets_pixel s q)) (one_element (map (point_of whole) xs) (get_or met i 0) found_place.0 (point_of whole x) found_place.1 met_at) found_place.2
