-- Clipped contours wind around the points of a tile as the given ones, and lie in the tile.
use Rattle.std.proofs.Common.{◌≡◌, inl, inr, refl, sym, ap, ap₂, subst, ◌∙◌, append_assoc, Bool, true, false, if◌then◌else◌, List, [], ◌∷◌, ◌++◌, ◌<◌, arith}
use Rattle.std.specs.Prelude.{ℤ, pos, ◌+ℤ◌, map, flat_map, All}
use Rattle.std.specs.List.{AllByRecursion}
use Rattle.std.proofs.lemmas.Int.{ints}
use Rattle.std.proofs.lemmas.List.{append-nil, map-append}
use Rattle.std.proofs.lemmas.List.Elements.{All-from_recursion, recursion_from_All}
use Rattle.overlay_geometry.specs.Points.{Point, Pair}
use Rattle.overlay_geometry.specs.Ranges.{Rect}
use Rattle.overlay_geometry.proofs.laws.integers.Tests.{le_weak}
use Rattle.overlay_base.specs.Places.{RationalPoint}
use Rattle.overlay_base.specs.Sums.{gathered}
use Rattle.overlay_base.proofs.laws.lists.Monoids.{gathered-append}
use Rattle.overlay_base.proofs.laws.joins.Functionals.{whole_numbers_add}
use Rattle.overlay_cuts.specs.Path.{last_point}
use Rattle.overlay_cuts.proofs.laws.paths.Paths.{Steps-append}
use Rattle.overlay_contours.specs.Contours.{steps_from, steps_of, steps, step_winding, winding_number}
use Rattle.overlay_tiles.specs.Tiles.{IsTile, BelongsToTile, LiesInTile, clamp, Line, parts, cut, refined, cut_path, without_last, step_points, clipped, all_clipped}
use Rattle.overlay_tiles.specs.Laws.{IsOff, ContoursWindAlike, ClippedLieInTile}
use Rattle.overlay_geometry.proofs.laws.lists.Lists.{Steps, Has, AllByRecursion-append, AllByRecursion_left, AllByRecursion_right}
use Rattle.overlay_tiles.proofs.laws.Bends.{last_of_append}
use Rattle.overlay_tiles.proofs.laws.Clamps.{clamped_in_range}
use Rattle.overlay_tiles.proofs.laws.Paths.{steps_wind_alike, last_of_path}

-- ---- sums along paths

winding_along : RationalPoint → Point → List Point → ℤ
winding_along p u points = gathered ◌+ℤ◌ (pos 0) (step_winding p) (steps_from u points)

along_append : (p : RationalPoint) (u : Point) (xs ys : List Point) → winding_along p u (xs ++ ys) ≡ winding_along p u xs +ℤ winding_along p (last_point u xs) ys
unfolding winding_along last_point
along_append p u [] ys = sym (from_nothing (winding_along p u ys))
  where
    from_nothing : (z : ℤ) → pos 0 +ℤ z ≡ z
    from_nothing z = omega (arith, ints)
along_append p u (v ∷ xs) ys = ap (λ (z : ℤ). step_winding p (record { a = u; b = v }) +ℤ z) (along_append p v xs ys) ∙ regrouped (step_winding p (record { a = u; b = v })) (winding_along p v xs) (winding_along p (last_point v xs) ys)
  where
    regrouped : (a b c : ℤ) → a +ℤ (b +ℤ c) ≡ (a +ℤ b) +ℤ c
    regrouped a b c = omega (arith, ints)

-- ---- lists without their last point

-- the list has an element
abbrev pub IsSome : List Point → Type 0
IsSome [] = ⊥
IsSome (p ∷ points) = Unit {0}

with_last : (u : Point) (points : List Point) → IsSome points → without_last points ++ last_point u points ∷ [] ≡ points
unfolding without_last last_point
with_last u [] h = absurd h
with_last u (p ∷ []) h = refl
with_last u (p ∷ q ∷ points) h = ap (λ (l : List Point). p ∷ l) (with_last p (q ∷ points) tt)

refined_some : (s : Pair) (line : Line) (u : Point) (points : List Point) → IsSome points → IsSome (refined s line u points)
unfolding refined
refined_some s line u [] h = absurd h
refined_some s line u (v ∷ points) h = by (parts line u v)
  where
    by : (b : Bool) → IsSome (if b then cut s line ∷ v ∷ refined s line v points else v ∷ refined s line v points)
    by true = tt
    by false = tt

pub path_some : (tile : Rect) (s : Pair) → IsSome (cut_path tile s)
unfolding cut_path
path_some tile s = refined_some s _ s.a _ (refined_some s _ s.a _ (refined_some s _ s.a _ (refined_some s _ s.a (s.b ∷ []) tt)))

path_with_last : (tile : Rect) (s : Pair) → without_last (cut_path tile s) ++ s.b ∷ [] ≡ cut_path tile s
path_with_last tile s = ap (λ (q : Point). without_last (cut_path tile s) ++ q ∷ []) (sym (last_of_path tile s)) ∙ with_last s.a (cut_path tile s) (path_some tile s)

last-map : (tile : Rect) (u : Point) (points : List Point) → last_point (clamp tile u) (map (clamp tile) points) ≡ clamp tile (last_point u points)
unfolding last_point
last-map tile u [] = refl
last-map tile u (v ∷ points) = last-map tile v points

-- ---- a chain of steps

module _ (tile : Rect) where
  -- after the first of all
  tail_of : Point → List Point → List Point
  tail_of u [] = []
  tail_of u (v ∷ []) = map (clamp tile) (without_last (cut_path tile (record { a = u; b = v })))
  tail_of u (v ∷ w ∷ points) = map (clamp tile) (without_last (cut_path tile (record { a = u; b = v }))) ++ clamp tile v ∷ tail_of v (w ∷ points)

  parts_are : (u v : Point) (points : List Point) → flat_map (step_points tile) (steps_from u (v ∷ points)) ≡ clamp tile u ∷ tail_of u (v ∷ points)
  unfolding tail_of
  parts_are u v [] = ap (λ (l : List Point). clamp tile u ∷ l) (append-nil _)
  parts_are u v (w ∷ points) = ap (λ (l : List Point). clamp tile u ∷ map (clamp tile) (without_last (cut_path tile (record { a = u; b = v }))) ++ l) (parts_are v w points)

  -- with the point to which the chain leads
  one_step : (u v : Point) → map (clamp tile) (without_last (cut_path tile (record { a = u; b = v }))) ++ clamp tile v ∷ [] ≡ map (clamp tile) (cut_path tile (record { a = u; b = v }))
  one_step u v = sym (map-append (clamp tile) (without_last (cut_path tile (record { a = u; b = v }))) (v ∷ [])) ∙ ap (map (clamp tile)) (path_with_last tile (record { a = u; b = v }))

  whole_chain : (u v w : Point) (points rest : List Point) → (map (clamp tile) (without_last (cut_path tile (record { a = u; b = v }))) ++ clamp tile v ∷ points) ++ rest ≡ map (clamp tile) (cut_path tile (record { a = u; b = v })) ++ (points ++ rest)
  whole_chain u v w points rest =
      append_assoc (map (clamp tile) (without_last (cut_path tile (record { a = u; b = v })))) (clamp tile v ∷ points) rest
      ∙ sym (append_assoc (map (clamp tile) (without_last (cut_path tile (record { a = u; b = v })))) (clamp tile v ∷ []) (points ++ rest))
      ∙ ap (λ (l : List Point). l ++ (points ++ rest)) (one_step u v)

  -- what holds along the path of each step holds along the chain
  chain_all : (R : Point → Point → Type 0) (u v : Point) (points : List Point) → ((s : Pair) → Has (steps_from u (v ∷ points)) s → Steps R (clamp tile s.a) (map (clamp tile) (cut_path tile s))) →
      Steps R (clamp tile u) (tail_of u (v ∷ points) ++ clamp tile (last_point v points) ∷ [])
  unfolding tail_of last_point
  chain_all R u v [] each = subst (Steps R (clamp tile u)) (sym (one_step u v)) (each (record { a = u; b = v }) (inl refl))
  chain_all R u v (w ∷ points) each =
      subst (Steps R (clamp tile u)) (sym (whole_chain u v w (tail_of v (w ∷ points)) (clamp tile (last_point w points) ∷ [])))
      (Steps-append R (clamp tile u) (map (clamp tile) (cut_path tile (record { a = u; b = v }))) (tail_of v (w ∷ points) ++ clamp tile (last_point w points) ∷ []) (each (record { a = u; b = v }) (inl refl))
      (subst (λ (q : Point). Steps R q (tail_of v (w ∷ points) ++ clamp tile (last_point w points) ∷ [])) (sym (last-map tile u (cut_path tile (record { a = u; b = v })) ∙ ap (clamp tile) (last_of_path tile (record { a = u; b = v }))))
      (chain_all R v w points (λ s i. each s (inr i)))))

  along_steps : (R : Point → Point → Type 0) (u : Point) (points : List Point) → Steps R u points → AllByRecursion (λ (s : Pair). R s.a s.b) (steps_from u points)
  along_steps R u [] h = tt
  along_steps R u (v ∷ points) h = (h.0, along_steps R v points h.1)

  pub contour_all : (R : Point → Point → Type 0) (points : List Point) → ((s : Pair) → Has (steps_of points) s → Steps R (clamp tile s.a) (map (clamp tile) (cut_path tile s))) → AllByRecursion (λ (s : Pair). R s.a s.b) (steps_of (clipped tile points))
  unfolding clipped last_point
  contour_all R [] each = tt
  contour_all R (q ∷ []) each = subst (λ (l : List Point). AllByRecursion (λ (s : Pair). R s.a s.b) (steps_of l)) (sym (parts_are q q [])) (along_steps R (clamp tile q) _ (chain_all R q q [] each))
  contour_all R (q ∷ r ∷ points) each =
      subst (λ (l : List Point). AllByRecursion (λ (s : Pair). R s.a s.b) (steps_of l)) (sym (parts_are q r (points ++ q ∷ [])))
      (subst (λ (z : Point). AllByRecursion (λ (s : Pair). R s.a s.b) (steps_from (clamp tile q) (tail_of q (r ∷ points ++ q ∷ []) ++ clamp tile z ∷ []))) (last_of_append r q points)
      (along_steps R (clamp tile q) _ (chain_all R q r (points ++ q ∷ []) each)))

module _ (tile : Rect) (p : RationalPoint) (is : IsTile tile) (at : BelongsToTile tile p) (some : 0 < p.bottom) where
  chain_winds : (u v : Point) (points : List Point) → AllByRecursion (IsOff p) (steps_from u (v ∷ points)) →
      winding_along p (clamp tile u) (tail_of tile u (v ∷ points) ++ clamp tile (last_point v points) ∷ []) ≡ winding_along p u (v ∷ points)
  unfolding winding_along tail_of last_point
  chain_winds u v [] off =
      ap (λ (l : List Point). gathered ◌+ℤ◌ (pos 0) (step_winding p) (steps_from (clamp tile u) l)) (one_step tile u v)
      ∙ steps_wind_alike tile (record { a = u; b = v }) p is at some off.0
      ∙ sym (to_nothing (step_winding p (record { a = u; b = v })))
    where
      to_nothing : (z : ℤ) → z +ℤ pos 0 ≡ z
      to_nothing z = omega (arith, ints)
  chain_winds u v (w ∷ points) off =
      ap (λ (l : List Point). winding_along p (clamp tile u) l) (whole_chain tile u v w (tail_of tile v (w ∷ points)) (clamp tile (last_point w points) ∷ []))
      ∙ along_append p (clamp tile u) (map (clamp tile) (cut_path tile (record { a = u; b = v }))) (tail_of tile v (w ∷ points) ++ clamp tile (last_point w points) ∷ [])
      ∙ ap₂ ◌+ℤ◌ (steps_wind_alike tile (record { a = u; b = v }) p is at some off.0)
      (ap (λ (q : Point). winding_along p q (tail_of tile v (w ∷ points) ++ clamp tile (last_point w points) ∷ [])) (last-map tile u (cut_path tile (record { a = u; b = v })) ∙ ap (clamp tile) (last_of_path tile (record { a = u; b = v })))
      ∙ chain_winds v w points off.1)

  contour_winds : (points : List Point) → AllByRecursion (IsOff p) (steps_of points) → gathered ◌+ℤ◌ (pos 0) (step_winding p) (steps_of (clipped tile points)) ≡ gathered ◌+ℤ◌ (pos 0) (step_winding p) (steps_of points)
  unfolding clipped winding_along last_point
  contour_winds [] off = refl
  contour_winds (q ∷ []) off =
      ap (λ (l : List Point). gathered ◌+ℤ◌ (pos 0) (step_winding p) (steps_of l)) (parts_are tile q q [])
      ∙ chain_winds q q [] off
  contour_winds (q ∷ r ∷ points) off =
      ap (λ (l : List Point). gathered ◌+ℤ◌ (pos 0) (step_winding p) (steps_of l)) (parts_are tile q r (points ++ q ∷ []))
      ∙ ap (λ (z : Point). gathered ◌+ℤ◌ (pos 0) (step_winding p) (steps_from (clamp tile q) (tail_of tile q (r ∷ points ++ q ∷ []) ++ clamp tile z ∷ []))) (sym (last_of_append r q points))
      ∙ chain_winds q r (points ++ q ∷ []) off

  -- ---- all contours

  all_wind : (contours : List (List Point)) → AllByRecursion (IsOff p) (steps contours) → gathered ◌+ℤ◌ (pos 0) (step_winding p) (steps (all_clipped tile contours)) ≡ gathered ◌+ℤ◌ (pos 0) (step_winding p) (steps contours)
  all_wind [] off = refl
  all_wind (c ∷ contours) off =
      gathered-append whole_numbers_add (step_winding p) (steps_of (clipped tile c)) (steps (all_clipped tile contours))
      ∙ ap₂ ◌+ℤ◌ (contour_winds c (AllByRecursion_left (IsOff p) (steps_of c) (steps contours) off)) (all_wind contours (AllByRecursion_right (IsOff p) (steps_of c) (steps contours) off))
      ∙ sym (gathered-append whole_numbers_add (step_winding p) (steps_of c) (steps contours))

pub contours_wind_alike : ContoursWindAlike
unfolding winding_number
contours_wind_alike tile contours is p at some off = all_wind tile p is at some contours (recursion_from_All (IsOff p) (steps contours) off)

-- ---- all points lie in the tile

clamp_lies : (tile : Rect) → IsTile tile → (q : Point) → LiesInTile tile (clamp tile q)
clamp_lies tile is q =
    let in_x = clamped_in_range tile.min_x tile.max_x q.x (le_weak _ _ is.wide) in
    let in_y = clamped_in_range tile.min_y tile.max_y q.y (le_weak _ _ is.high) in
    record { from_left = in_x.0; to_right = in_x.1; from_below = in_y.0; to_top = in_y.1 }

all_clamped : (tile : Rect) → IsTile tile → (points : List Point) → AllByRecursion (LiesInTile tile) (map (clamp tile) points)
all_clamped tile is [] = tt
all_clamped tile is (q ∷ points) = (clamp_lies tile is q, all_clamped tile is points)

of_steps : (tile : Rect) → IsTile tile → (list : List Pair) → AllByRecursion (LiesInTile tile) (flat_map (step_points tile) list)
of_steps tile is [] = tt
of_steps tile is (s ∷ list) = AllByRecursion-append (LiesInTile tile) (step_points tile s) _ (all_clamped tile is (s.a ∷ without_last (cut_path tile s))) (of_steps tile is list)

of_contours : (tile : Rect) → IsTile tile → (contours : List (List Point)) → AllByRecursion (All (LiesInTile tile)) (all_clipped tile contours)
unfolding clipped
of_contours tile is [] = tt
of_contours tile is (c ∷ contours) = (All-from_recursion (LiesInTile tile) _ (of_steps tile is (steps_of c)), of_contours tile is contours)

pub clipped_lie_in_tile : ClippedLieInTile
clipped_lie_in_tile tile contours is = All-from_recursion (All (LiesInTile tile)) (all_clipped tile contours) (of_contours tile is contours)
