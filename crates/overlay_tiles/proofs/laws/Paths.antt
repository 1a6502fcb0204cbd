-- The path of a step, cut at the borders of a tile and clamped to it, winds around the points of the tile as the step.
use Rattle.std.proofs.Common.{◌≡◌, inl, inr, refl, sym, ap, ap₂, subst, ◌∙◌, Bool, true, false, if◌then◌else◌, List, [], ◌∷◌, ◌⊎◌, arith}
use Rattle.std.specs.Prelude.{pos, ◌+ℤ◌, map, ℤ}
use Rattle.std.specs.List.{AllByRecursion}
use Rattle.overlay_geometry.specs.Points.{Point, Pair, is_vertical, is_horizontal}
use Rattle.overlay_geometry.specs.Ranges.{Rect}
use Rattle.overlay_base.specs.Places.{RationalPoint}
use Rattle.overlay_base.specs.Sums.{gathered}
use Rattle.overlay_cuts.specs.Path.{last_point}
use Rattle.overlay_cuts.specs.Nearness.{whole_point, point_along, IsNear}
use Rattle.overlay_snapping.proofs.laws.pixels.Distances.{IsWithin-from_pixel}
use Rattle.overlay_contours.specs.Contours.{steps_from, step_winding}
use Rattle.overlay_tiles.specs.Tiles.{IsTile, BelongsToTile, clamp, Line, upright, level, parts, cut, refined, cut_path}
use Rattle.overlay_tiles.specs.Laws.{StepsWindAlike, IsOff}
use Rattle.overlay_tiles.proofs.laws.Clamps.{IsBeside, inside, on_left, on_right, under, over, step_winds_alike}
use Rattle.overlay_tiles.proofs.laws.Bends.{path_winds}
use Rattle.overlay_tiles.proofs.laws.Refinements.{IsOneSided, refined_one_sided, refined_all, refined_stays, IsAmong}
use Rattle.overlay_tiles.proofs.laws.Cuts.{IsRoundedOn, IsRoundedOn-pixel, start_is_rounded, end_is_rounded, cut_in_box, in_range}
use Rattle.std.proofs.lemmas.Int.{ints}
use Rattle.std.proofs.lemmas.Bool.{cases_Bool, or_from, not_from_false}
use Rattle.overlay_geometry.proofs.laws.integers.Tests.{eq-tested}
use Rattle.overlay_geometry.proofs.laws.lists.Lists.{Steps, AllByRecursion-weaker}
use Rattle.overlay_tiles.proofs.laws.Axes.{upright_path, level_path}

-- ---- no step of the path leads across a border

beside_from : (tile : Rect) (u v : Point) → IsOneSided (upright tile.min_x) u v → IsOneSided (upright tile.max_x) u v → IsOneSided (level tile.min_y) u v → IsOneSided (level tile.max_y) u v → IsBeside tile u v
beside_from tile u v (inl h) b c d = on_left h.0 h.1
beside_from tile u v (inr h) (inr k) c d = on_right k.0 k.1
beside_from tile u v (inr h) (inl k) (inl l) d = under l.0 l.1
beside_from tile u v (inr h) (inl k) (inr l) (inr m) = over m.0 m.1
beside_from tile u v (inr h) (inl k) (inr l) (inl m) = inside (h.0, k.0, l.0, m.0) (h.1, k.1, l.1, m.1)

all_beside : (tile : Rect) (u : Point) (points : List Point) → Steps (IsOneSided (upright tile.min_x)) u points → Steps (IsOneSided (upright tile.max_x)) u points → Steps (IsOneSided (level tile.min_y)) u points → Steps (IsOneSided (level tile.max_y)) u points →
    Steps (IsBeside tile) u points
all_beside tile u [] a b c d = tt
all_beside tile u (v ∷ points) a b c d = (beside_from tile u v a.0 b.0 c.0 d.0, all_beside tile v points a.1 b.1 c.1 d.1)

module _ (tile : Rect) (s : Pair) where
  abbrev first_path : List Point
  first_path = refined s (upright tile.min_x) s.a (s.b ∷ [])

  abbrev second_path : List Point
  second_path = refined s (upright tile.max_x) s.a first_path

  abbrev third_path : List Point
  third_path = refined s (level tile.min_y) s.a second_path

  abbrev Rounded : Point → Type 0
  Rounded q = IsRoundedOn s q

  first_all : AllByRecursion Rounded first_path
  first_all = refined_all s (upright tile.min_x) Rounded (cut_in_box s (upright tile.min_x)) s.a (s.b ∷ []) (start_is_rounded s) (end_is_rounded s, tt)

  second_all : AllByRecursion Rounded second_path
  second_all = refined_all s (upright tile.max_x) Rounded (cut_in_box s (upright tile.max_x)) s.a first_path (start_is_rounded s) first_all

  third_all : AllByRecursion Rounded third_path
  third_all = refined_all s (level tile.min_y) Rounded (cut_in_box s (level tile.min_y)) s.a second_path (start_is_rounded s) second_all

  -- each point of the path is a point of the step, rounded
  pub path_rounded : AllByRecursion Rounded (cut_path tile s)
  unfolding cut_path
  path_rounded = refined_all s (level tile.max_y) Rounded (cut_in_box s (level tile.max_y)) s.a third_path (start_is_rounded s) third_all

  on_second : (other : Line) → Steps (IsOneSided other) s.a first_path → Steps (IsOneSided other) s.a second_path
  on_second other h = refined_stays s (upright tile.max_x) Rounded (cut_in_box s (upright tile.max_x)) other s.a first_path (start_is_rounded s) first_all h

  on_third : (other : Line) → Steps (IsOneSided other) s.a second_path → Steps (IsOneSided other) s.a third_path
  on_third other h = refined_stays s (level tile.min_y) Rounded (cut_in_box s (level tile.min_y)) other s.a second_path (start_is_rounded s) second_all h

  on_last : (other : Line) → Steps (IsOneSided other) s.a third_path → Steps (IsOneSided other) s.a (cut_path tile s)
  unfolding cut_path
  on_last other h = refined_stays s (level tile.max_y) Rounded (cut_in_box s (level tile.max_y)) other s.a third_path (start_is_rounded s) third_all h

  pub path_beside : Steps (IsBeside tile) s.a (cut_path tile s)
  unfolding cut_path
  path_beside =
      all_beside tile s.a (cut_path tile s)
      (on_last (upright tile.min_x) (on_third (upright tile.min_x) (on_second (upright tile.min_x) (refined_one_sided s (upright tile.min_x) s.a (s.b ∷ [])))))
      (on_last (upright tile.max_x) (on_third (upright tile.max_x) (refined_one_sided s (upright tile.max_x) s.a first_path)))
      (on_last (level tile.min_y) (refined_one_sided s (level tile.min_y) s.a second_path))
      (refined_one_sided s (level tile.max_y) s.a third_path)

-- ---- the path ends where the step does

step_last : (s : Pair) (line : Line) (u v : Point) (rest : List Point) (b : Bool) → last_point u (if b then cut s line ∷ v ∷ rest else v ∷ rest) ≡ last_point v rest
unfolding last_point
step_last s line u v rest true = refl
step_last s line u v rest false = refl

last_of_refined : (s : Pair) (line : Line) (u : Point) (points : List Point) → last_point u (refined s line u points) ≡ last_point u points
unfolding refined last_point
last_of_refined s line u [] = refl
last_of_refined s line u (v ∷ points) = step_last s line u v (refined s line v points) (parts line u v) ∙ last_of_refined s line v points

pub last_of_path : (tile : Rect) (s : Pair) → last_point s.a (cut_path tile s) ≡ s.b
unfolding cut_path last_point
last_of_path tile s =
    last_of_refined s (level tile.max_y) s.a (third_path tile s)
    ∙ last_of_refined s (level tile.min_y) s.a (second_path tile s)
    ∙ last_of_refined s (upright tile.max_x) s.a (first_path tile s)
    ∙ last_of_refined s (upright tile.min_x) s.a (s.b ∷ [])

-- ---- the winding

clamped_winds : (tile : Rect) (p : RationalPoint) → IsTile tile → BelongsToTile tile p → (u : Point) (points : List Point) → Steps (IsBeside tile) u points →
    gathered ◌+ℤ◌ (pos 0) (step_winding p) (steps_from (clamp tile u) (map (clamp tile) points)) ≡ gathered ◌+ℤ◌ (pos 0) (step_winding p) (steps_from u points)
clamped_winds tile p is at u [] h = refl
clamped_winds tile p is at u (v ∷ points) h = ap₂ ◌+ℤ◌ (step_winds_alike tile (record { a = u; b = v }) p is at h.0) (clamped_winds tile p is at v points h.1)

pub rounded_is_near : (s : Pair) (q : Point) → IsRoundedOn s q → IsNear 1 (whole_point q) s
rounded_is_near s q r = (r.way, IsWithin-from_pixel (point_along s r.way) q (IsRoundedOn-pixel s q r))

all_near : (s : Pair) (points : List Point) → AllByRecursion (IsRoundedOn s) points → AllByRecursion (λ q. IsNear 1 (whole_point q) s) points
all_near s [] h = tt
all_near s (q ∷ points) h = (rounded_is_near s q h.0, all_near s points h.1)

-- ---- the path of a step along an axis

same : (a b u : ℤ) → a ≡ b → IsAmong a b u → u ≡ a
same a b u e (inl h) = omega (arith, ints, e, h.0, h.1)
same a b u e (inr h) = omega (arith, ints, e, h.0, h.1)

pub rounded_x : (s : Pair) → s.a.x ≡ s.b.x → (q : Point) → IsRoundedOn s q → q.x ≡ s.a.x
rounded_x s e q r = same s.a.x s.b.x q.x e (in_range s.a.x s.b.x r.way q.x r.in_x)

pub rounded_y : (s : Pair) → s.a.y ≡ s.b.y → (q : Point) → IsRoundedOn s q → q.y ≡ s.a.y
rounded_y s e q r = same s.a.y s.b.y q.y e (in_range s.a.y s.b.y r.way q.y r.in_y)

path_winds_alike : (tile : Rect) (s : Pair) (p : RationalPoint) → IsOff p s →
    gathered ◌+ℤ◌ (pos 0) (step_winding p) (steps_from s.a (cut_path tile s)) ≡ step_winding p (record { a = s.a; b = last_point s.a (cut_path tile s) })
path_winds_alike tile s p off = by (cases_Bool (is_vertical s)) (cases_Bool (is_horizontal s))
  where
    by : (is_vertical s ≡ true) ⊎ (is_vertical s ≡ false) → (is_horizontal s ≡ true) ⊎ (is_horizontal s ≡ false) →
        gathered ◌+ℤ◌ (pos 0) (step_winding p) (steps_from s.a (cut_path tile s)) ≡ step_winding p (record { a = s.a; b = last_point s.a (cut_path tile s) })
    by (inl v) h =
        let e = eq-tested s.a.x s.b.x v in
        upright_path p s.a.x s.a (cut_path tile s) refl (AllByRecursion-weaker (IsRoundedOn s) (λ q. q.x ≡ s.a.x) (rounded_x s e) (cut_path tile s) (path_rounded tile s)) (ap (λ (q : Point). q.x) (last_of_path tile s) ∙ sym e)
    by (inr v) (inl h) =
        let e = eq-tested s.a.y s.b.y h in
        level_path p s.a.y s.a (cut_path tile s) refl (AllByRecursion-weaker (IsRoundedOn s) (λ q. q.y ≡ s.a.y) (rounded_y s e) (cut_path tile s) (path_rounded tile s)) (ap (λ (q : Point). q.y) (last_of_path tile s) ∙ sym e)
    by (inr v) (inr h) =
        path_winds 1 p s (off (not_from_false _ (or_from _ _ v h))) s.a (cut_path tile s) (rounded_is_near s s.a (start_is_rounded s)) (all_near s (cut_path tile s) (path_rounded tile s))
        (subst (λ (q : Point). IsNear 1 (whole_point q) s) (sym (last_of_path tile s)) (rounded_is_near s s.b (end_is_rounded s)))

pub steps_wind_alike : StepsWindAlike
steps_wind_alike tile s p is at some off =
    clamped_winds tile p is at s.a (cut_path tile s) (path_beside tile s)
    ∙ path_winds_alike tile s p off
    ∙ ap (λ (q : Point). step_winding p (record { a = s.a; b = q })) (last_of_path tile s)
