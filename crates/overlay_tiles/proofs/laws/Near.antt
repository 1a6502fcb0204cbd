-- Each step of clipped contours that runs along no axis lies within half a unit of a given one that runs along no axis.
use Rattle.std.proofs.Common.{◌≡◌, ◌⊎◌, inl, inr, sym, subst, ◌∙◌, true, false, List, [], ◌∷◌}
use Rattle.std.specs.Prelude.{◌≤ℤ◌, IsTrue, map}
use Rattle.std.specs.List.{AllByRecursion}
use Rattle.std.proofs.lemmas.List.Elements.{All-from_recursion}
use Rattle.overlay_geometry.proofs.laws.lists.Elements.{Contains-from_Has}
use Rattle.overlay_tiles.specs.Laws.{HasNear, ClippedLieNear}
use Rattle.std.proofs.lemmas.Bool.{both_ways, or_left, or_right, or_from, cases_Bool, not_from_true, not_from_false}
use Rattle.overlay_geometry.specs.Points.{Point, Pair, is_vertical, is_horizontal}
use Rattle.overlay_geometry.specs.Ranges.{Rect}
use Rattle.overlay_geometry.proofs.laws.integers.Tests.{eq-test, eq-tested, le_weak}
use Rattle.overlay_geometry.proofs.laws.lists.Lists.{Steps, Has, Has-append_left, Has-append_right, AllByRecursion-append, AllByRecursion-weaker}
use Rattle.overlay_cuts.specs.Nearness.{LiesNear}
use Rattle.overlay_cuts.proofs.laws.nearness.Distances.{LiesNear-from_ends}
use Rattle.overlay_contours.specs.Contours.{steps_of, steps, turned}
use Rattle.overlay_tiles.specs.Tiles.{IsTile, clamp, is_slanted, cut_path, clipped, all_clipped}
use Rattle.overlay_tiles.proofs.laws.Clamps.{IsBeside, inside, on_left, on_right, under, over, clamped_low, clamped_high, clamped_amid}
use Rattle.overlay_tiles.proofs.laws.Cuts.{IsRoundedOn, start_is_rounded}
use Rattle.overlay_tiles.proofs.laws.Paths.{path_beside, path_rounded, rounded_is_near, rounded_x, rounded_y}
use Rattle.overlay_tiles.proofs.laws.Contours.{contour_all}

pub upright_not : (r : Pair) → r.a.x ≡ r.b.x → IsTrue (is_slanted r) → ⊥
upright_not r e h = both_ways (is_slanted r) (not_from_true _ (or_left (is_vertical r) (is_horizontal r) (eq-test r.a.x r.b.x e))) h

pub level_not : (r : Pair) → r.a.y ≡ r.b.y → IsTrue (is_slanted r) → ⊥
level_not r e h = both_ways (is_slanted r) (not_from_true _ (or_right (is_vertical r) (is_horizontal r) (eq-test r.a.y r.b.y e))) h

-- a step that is slanted lies near s, which is slanted too
abbrev IsNearTo : Pair → Point → Point → Type 0
IsNearTo s u v = IsTrue (is_slanted (record { a = u; b = v })) → IsTrue (is_slanted s) × LiesNear 1 (record { a = u; b = v }) s × LiesNear 1 (record { a = v; b = u }) s

rounded_step : (s : Pair) (u v : Point) → IsRoundedOn s u → IsRoundedOn s v → IsNearTo s u v
rounded_step s u v at_u at_v h = (by (cases_Bool (is_vertical s)) (cases_Bool (is_horizontal s)), LiesNear-from_ends 1 (record { a = u; b = v }) s (rounded_is_near s u at_u) (rounded_is_near s v at_v), LiesNear-from_ends 1 (record { a = v; b = u }) s (rounded_is_near s v at_v) (rounded_is_near s u at_u))
  where
    by : (is_vertical s ≡ true) ⊎ (is_vertical s ≡ false) → (is_horizontal s ≡ true) ⊎ (is_horizontal s ≡ false) → IsTrue (is_slanted s)
    by (inl e) k = let f = eq-tested s.a.x s.b.x e in absurd (upright_not (record { a = u; b = v }) (rounded_x s f u at_u ∙ sym (rounded_x s f v at_v)) h)
    by (inr e) (inl k) = let f = eq-tested s.a.y s.b.y k in absurd (level_not (record { a = u; b = v }) (rounded_y s f u at_u ∙ sym (rounded_y s f v at_v)) h)
    by (inr e) (inr k) = not_from_false _ (or_from _ _ e k)

clamped_step : (tile : Rect) (s : Pair) (u v : Point) → IsTile tile → IsBeside tile u v → IsRoundedOn s u → IsRoundedOn s v → IsNearTo s (clamp tile u) (clamp tile v)
clamped_step tile s u v is (inside h k) at_u at_v slanted =
    subst (λ (q : Point). IsNearTo s q (clamp tile v)) (sym (stays u h)) (subst (λ (q : Point). IsNearTo s u q) (sym (stays v k)) (rounded_step s u v at_u at_v)) slanted
  where
    stays : (q : Point) → (tile.min_x ≤ℤ q.x) × (q.x ≤ℤ tile.max_x) × (tile.min_y ≤ℤ q.y) × (q.y ≤ℤ tile.max_y) → clamp tile q ≡ q
    stays q l = let ex = clamped_amid tile.min_x tile.max_x q.x l.0 l.1 in let ey = clamped_amid tile.min_y tile.max_y q.y l.2 l.3 in λ i. record { x = ex i; y = ey i }
clamped_step tile s u v is (on_left h k) at_u at_v slanted =
    absurd (upright_not (record { a = clamp tile u; b = clamp tile v }) (clamped_low tile.min_x tile.max_x u.x (le_weak _ _ is.wide) h ∙ sym (clamped_low tile.min_x tile.max_x v.x (le_weak _ _ is.wide) k)) slanted)
clamped_step tile s u v is (on_right h k) at_u at_v slanted =
    absurd (upright_not (record { a = clamp tile u; b = clamp tile v }) (clamped_high tile.min_x tile.max_x u.x (le_weak _ _ is.wide) h ∙ sym (clamped_high tile.min_x tile.max_x v.x (le_weak _ _ is.wide) k)) slanted)
clamped_step tile s u v is (under h k) at_u at_v slanted =
    absurd (level_not (record { a = clamp tile u; b = clamp tile v }) (clamped_low tile.min_y tile.max_y u.y (le_weak _ _ is.high) h ∙ sym (clamped_low tile.min_y tile.max_y v.y (le_weak _ _ is.high) k)) slanted)
clamped_step tile s u v is (over h k) at_u at_v slanted =
    absurd (level_not (record { a = clamp tile u; b = clamp tile v }) (clamped_high tile.min_y tile.max_y u.y (le_weak _ _ is.high) h ∙ sym (clamped_high tile.min_y tile.max_y v.y (le_weak _ _ is.high) k)) slanted)

path_near : (tile : Rect) (s : Pair) → IsTile tile → (u : Point) (points : List Point) → IsRoundedOn s u → AllByRecursion (IsRoundedOn s) points → Steps (IsBeside tile) u points → Steps (IsNearTo s) (clamp tile u) (map (clamp tile) points)
path_near tile s is u [] at all beside = tt
path_near tile s is u (v ∷ points) at all beside = (clamped_step tile s u v is beside.0 at all.0, path_near tile s is v points all.0 all.1 beside.1)

-- some given step is slanted, and the step lies near it
abbrev pub HasSlantedNear : List Pair → Pair → Type 0
HasSlantedNear given r = IsTrue (is_slanted r) → (s : Pair) × Has given s × IsTrue (is_slanted s) × LiesNear 1 r s × LiesNear 1 (turned r) s

along_weaker : (R S : Point → Point → Type 0) → ((u v : Point) → R u v → S u v) → (u : Point) (points : List Point) → Steps R u points → Steps S u points
along_weaker R S f u [] h = tt
along_weaker R S f u (v ∷ points) h = (f u v h.0, along_weaker R S f v points h.1)

module _ (tile : Rect) (is : IsTile tile) where
  of_contour : (points : List Point) → AllByRecursion (HasSlantedNear (steps_of points)) (steps_of (clipped tile points))
  of_contour points =
      contour_all tile (λ u v. HasSlantedNear (steps_of points) (record { a = u; b = v })) points
      (λ s i.
      along_weaker (IsNearTo s) (λ u v. HasSlantedNear (steps_of points) (record { a = u; b = v })) (λ u v near h. let k = near h in (s, i, k.0, k.1, k.2)) (clamp tile s.a) (map (clamp tile) (cut_path tile s))
      (path_near tile s is s.a (cut_path tile s) (start_is_rounded s) (path_rounded tile s) (path_beside tile s)))

  pub clipped_near : (contours : List (List Point)) → AllByRecursion (HasSlantedNear (steps contours)) (steps (all_clipped tile contours))
  clipped_near [] = tt
  clipped_near (c ∷ contours) =
      AllByRecursion-append (HasSlantedNear (steps (c ∷ contours))) (steps_of (clipped tile c)) (steps (all_clipped tile contours))
      (AllByRecursion-weaker (HasSlantedNear (steps_of c)) (HasSlantedNear (steps (c ∷ contours))) (λ r f h. let k = f h in (k.0, Has-append_left (steps_of c) (steps contours) k.0 k.1, k.2, k.3, k.4)) (steps_of (clipped tile c)) (of_contour c))
      (AllByRecursion-weaker (HasSlantedNear (steps contours)) (HasSlantedNear (steps (c ∷ contours))) (λ r f h. let k = f h in (k.0, Has-append_right (steps_of c) (steps contours) k.0 k.1, k.2, k.3, k.4)) (steps (all_clipped tile contours)) (clipped_near contours))

pub clipped_lie_near : ClippedLieNear
clipped_lie_near tile contours is =
    All-from_recursion (λ r. IsTrue (is_slanted r) → HasNear contours r) (steps (all_clipped tile contours))
    (AllByRecursion-weaker (HasSlantedNear (steps contours)) (λ r. IsTrue (is_slanted r) → HasNear contours r)
    (λ r f h. let k = f h in record { step = k.0; is_given = Contains-from_Has (steps contours) k.0 k.1; slanted = k.2; near = k.3; near_turned = k.4 })
    (steps (all_clipped tile contours)) (clipped_near tile is contours))
