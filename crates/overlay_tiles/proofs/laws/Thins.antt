-- Points of clipped contours that lie on one border with their neighbors count nowhere in the tile, and no slanted step ends there.
use Rattle.std.proofs.Common.{◌≡◌, refl, sym, ap, ap₂, ◌∙◌, arith, Bool, true, false, if◌then◌else◌, IsTrue, List, [], ◌∷◌, ◌++◌}
use Rattle.std.specs.Prelude.{ℤ, pos, negsuc, neg_ℤ, ◌+ℤ◌, ◌*ℤ◌, ◌≤ℤ◌, ◌||◌, ◌&&◌, int_le, int_lt, map, All}
use Rattle.std.specs.List.{AllByRecursion}
use Rattle.std.proofs.lemmas.Int.{ints}
use Rattle.std.proofs.lemmas.Bool.{and_parts}
use Rattle.std.proofs.lemmas.List.Elements.{All-from_recursion, recursion_from_All}
use Rattle.overlay_geometry.specs.Points.{Point, Pair}
use Rattle.overlay_geometry.specs.Ranges.{Rect}
use Rattle.overlay_geometry.proofs.laws.integers.Tests.{le-tested, lt-tested}
use Rattle.overlay_geometry.proofs.laws.lists.Lists.{Steps, AllByRecursion-append, AllByRecursion_left, AllByRecursion_right}
use Rattle.overlay_base.specs.Places.{RationalPoint, spans, runs_below, lies_below}
use Rattle.overlay_base.specs.Sums.{gathered}
use Rattle.overlay_base.proofs.laws.joins.Functionals.{whole_numbers_add}
use Rattle.overlay_base.proofs.laws.lists.Monoids.{gathered-append}
use Rattle.overlay_contours.specs.Contours.{steps_from, steps_of, steps, turned, step_winding, winding_number}
use Rattle.overlay_tiles.specs.Tiles.{BelongsToTile, LiesInTile, is_slanted, is_beside, thinned_from, thinned}
use Rattle.overlay_tiles.specs.Laws.{WindAlikeInTile, LieInTile, HasNear, LieNearGiven}
use Rattle.overlay_tiles.proofs.laws.Besides.{beside_counts_nothing}
use Rattle.overlay_tiles.proofs.laws.Near.{upright_not, level_not}

-- ---- a step run the other way counts the other way

not_both : (s : Pair) (p : RationalPoint) → lies_below s p ≡ true → lies_below (turned s) p ≡ true → ⊥
not_both s p h k =
    let there = and_parts (int_le (s.a.x *ℤ pos p.bottom) p.x) (int_lt p.x (s.b.x *ℤ pos p.bottom)) (and_parts (spans s p) (runs_below s p) h).0 in
    let back = and_parts (int_le (s.b.x *ℤ pos p.bottom) p.x) (int_lt p.x (s.a.x *ℤ pos p.bottom)) (and_parts (spans (turned s) p) (runs_below (turned s) p) k).0 in
    crossed (s.a.x *ℤ pos p.bottom) (s.b.x *ℤ pos p.bottom) p.x (le-tested _ _ back.0) there.1
  where
    crossed : (a b x : ℤ) → b ≤ℤ x → int_lt x b ≡ true → ⊥
    crossed a b x h k = let l = lt-tested x b k in omega (arith, ints, h, l)

turned_counts : (p : RationalPoint) (s : Pair) → step_winding p (turned s) ≡ neg_ℤ (step_winding p s)
turned_counts p s = by (lies_below s p) (lies_below (turned s) p) (not_both s p)
  where
    by : (a b : Bool) → (a ≡ true → b ≡ true → ⊥) → (if b then pos 1 else (if a then negsuc 0 else pos 0)) ≡ neg_ℤ (if a then pos 1 else (if b then negsuc 0 else pos 0))
    by true true h = absurd (h refl refl)
    by true false h = refl
    by false true h = refl
    by false false h = refl

module _ (tile : Rect) (p : RationalPoint) (at : BelongsToTile tile p) where
  abbrev along : Point → List Point → ℤ
  along u points = gathered ◌+ℤ◌ (pos 0) (step_winding p) (steps_from u points)

  -- by way of a point on the border is as straight on
  straight_on : (u v w : Point) → is_beside tile (u ∷ v ∷ w ∷ []) ≡ true → step_winding p (record { a = u; b = v }) +ℤ step_winding p (record { a = v; b = w }) ≡ step_winding p (record { a = u; b = w })
  straight_on u v w e =
      round _ _ _ (step_winding p (record { a = u; b = w })) (beside_counts_nothing tile p at (u ∷ v ∷ w ∷ []) e) (turned_counts p (record { a = u; b = w }))
    where
      round : (a b c d : ℤ) → a +ℤ (b +ℤ (c +ℤ pos 0)) ≡ pos 0 → c ≡ neg_ℤ d → a +ℤ b ≡ d
      round a b c d h k = omega (arith, ints, h, k)

  thinned_along : (u : Point) (points end : List Point) → along u (thinned_from tile u points ++ end) ≡ along u (points ++ end)
  unfolding thinned_from
  thinned_along u [] end = refl
  thinned_along u (v ∷ []) end = refl
  thinned_along u (v ∷ w ∷ points) end = by (is_beside tile (u ∷ v ∷ w ∷ [])) refl (thinned_along u (w ∷ points) end) (thinned_along v (w ∷ points) end)
    where
      by : (b : Bool) → is_beside tile (u ∷ v ∷ w ∷ []) ≡ b → along u (thinned_from tile u (w ∷ points) ++ end) ≡ along u (w ∷ points ++ end) → along v (thinned_from tile v (w ∷ points) ++ end) ≡ along v (w ∷ points ++ end) →
          along u ((if b then thinned_from tile u (w ∷ points) else v ∷ thinned_from tile v (w ∷ points)) ++ end) ≡ along u (v ∷ w ∷ points ++ end)
      by true e h k = h ∙ sum _ _ _ (along w (points ++ end)) (straight_on u v w e)
        where
          sum : (a b c d : ℤ) → a +ℤ b ≡ c → c +ℤ d ≡ a +ℤ (b +ℤ d)
          sum a b c d h = omega (arith, ints, h)
      by false e h k = ap (λ (z : ℤ). step_winding p (record { a = u; b = v }) +ℤ z) k

  thinned_winds : (c : List Point) → gathered ◌+ℤ◌ (pos 0) (step_winding p) (steps_of (thinned tile c)) ≡ gathered ◌+ℤ◌ (pos 0) (step_winding p) (steps_of c)
  unfolding thinned
  thinned_winds [] = refl
  thinned_winds (q ∷ points) = thinned_along q points (q ∷ [])

  all_thinned_wind : (contours : List (List Point)) → gathered ◌+ℤ◌ (pos 0) (step_winding p) (steps (map (thinned tile) contours)) ≡ gathered ◌+ℤ◌ (pos 0) (step_winding p) (steps contours)
  all_thinned_wind [] = refl
  all_thinned_wind (c ∷ contours) =
      gathered-append whole_numbers_add (step_winding p) (steps_of (thinned tile c)) (steps (map (thinned tile) contours))
      ∙ ap₂ ◌+ℤ◌ (thinned_winds c) (all_thinned_wind contours)
      ∙ sym (gathered-append whole_numbers_add (step_winding p) (steps_of c) (steps contours))

pub thinned_wind_alike : (tile : Rect) (given contours : List (List Point)) → WindAlikeInTile tile given contours → WindAlikeInTile tile given (map (thinned tile) contours)
unfolding winding_number
thinned_wind_alike tile given contours alike p at some off = all_thinned_wind tile p at contours ∙ alike p at some off

-- ---- what holds of all points, and of each two neighbors

module _ (tile : Rect) (P : Point → Type 0) where
  thinned_all : (u : Point) (points : List Point) → AllByRecursion P points → AllByRecursion P (thinned_from tile u points)
  unfolding thinned_from
  thinned_all u [] h = tt
  thinned_all u (v ∷ []) h = h
  thinned_all u (v ∷ w ∷ points) h = by (is_beside tile (u ∷ v ∷ w ∷ [])) (thinned_all u (w ∷ points) h.1) (thinned_all v (w ∷ points) h.1)
    where
      by : (b : Bool) → AllByRecursion P (thinned_from tile u (w ∷ points)) → AllByRecursion P (thinned_from tile v (w ∷ points)) → AllByRecursion P (if b then thinned_from tile u (w ∷ points) else v ∷ thinned_from tile v (w ∷ points))
      by true k l = k
      by false k l = (h.0, l)

  contour_thinned_all : (c : List Point) → AllByRecursion P c → AllByRecursion P (thinned tile c)
  unfolding thinned
  contour_thinned_all [] h = tt
  contour_thinned_all (q ∷ points) h = (h.0, thinned_all q points h.1)

pub thinned_lie_in_tile : (tile : Rect) (contours : List (List Point)) → LieInTile tile contours → LieInTile tile (map (thinned tile) contours)
thinned_lie_in_tile tile contours h = All-from_recursion (All (LiesInTile tile)) (map (thinned tile) contours) (by contours (recursion_from_All (All (LiesInTile tile)) contours h))
  where
    by : (contours : List (List Point)) → AllByRecursion (All (LiesInTile tile)) contours → AllByRecursion (All (LiesInTile tile)) (map (thinned tile) contours)
    by [] h = tt
    by (c ∷ contours) h = (All-from_recursion (LiesInTile tile) (thinned tile c) (contour_thinned_all tile (LiesInTile tile) c (recursion_from_All (LiesInTile tile) c h.0)), by contours h.1)

abbrev all_up_to : ℤ → ℤ → ℤ → ℤ → Bool
all_up_to m a b c = int_le a m && (int_le b m && (int_le c m && true))

abbrev all_from : ℤ → ℤ → ℤ → ℤ → Bool
all_from m a b c = int_le m a && (int_le m b && (int_le m c && true))

-- of two points of the tile that lie beside it, together with a third one, the step is not slanted
not_slanted : (tile : Rect) (u v w : Point) → LiesInTile tile u → LiesInTile tile w → is_beside tile (u ∷ v ∷ w ∷ []) ≡ true → IsTrue (is_slanted (record { a = u; b = w })) → ⊥
unfolding is_beside
not_slanted tile u v w at_u at_w e slanted =
    by (all_up_to tile.min_x u.x v.x w.x) (all_from tile.max_x u.x v.x w.x) (all_up_to tile.min_y u.y v.y w.y) (all_from tile.max_y u.y v.y w.y) e
    (λ l. let k = three (int_le u.x tile.min_x) (int_le v.x tile.min_x) (int_le w.x tile.min_x) l in upright_not (record { a = u; b = w }) (between tile.min_x u.x w.x (le-tested u.x tile.min_x k.0) (le-tested w.x tile.min_x k.1) at_u.from_left at_w.from_left) slanted)
    (λ r. let k = three (int_le tile.max_x u.x) (int_le tile.max_x v.x) (int_le tile.max_x w.x) r in upright_not (record { a = u; b = w }) (between_high tile.max_x u.x w.x (le-tested tile.max_x u.x k.0) (le-tested tile.max_x w.x k.1) at_u.to_right at_w.to_right) slanted)
    (λ b. let k = three (int_le u.y tile.min_y) (int_le v.y tile.min_y) (int_le w.y tile.min_y) b in level_not (record { a = u; b = w }) (between tile.min_y u.y w.y (le-tested u.y tile.min_y k.0) (le-tested w.y tile.min_y k.1) at_u.from_below at_w.from_below) slanted)
    (λ a. let k = three (int_le tile.max_y u.y) (int_le tile.max_y v.y) (int_le tile.max_y w.y) a in level_not (record { a = u; b = w }) (between_high tile.max_y u.y w.y (le-tested tile.max_y u.y k.0) (le-tested tile.max_y w.y k.1) at_u.to_top at_w.to_top) slanted)
  where
    three : (x y z : Bool) → (x && (y && (z && true))) ≡ true → (x ≡ true) × (z ≡ true)
    three true true true h = (refl, refl)
    three true true false h = absurd (no h)
      where
        no : false ≡ true → ⊥
        no h = cc
    three true false z h = absurd (no h)
      where
        no : false ≡ true → ⊥
        no h = cc
    three false y z h = absurd (no h)
      where
        no : false ≡ true → ⊥
        no h = cc

    between : (m a b : ℤ) → a ≤ℤ m → b ≤ℤ m → m ≤ℤ a → m ≤ℤ b → a ≡ b
    between m a b h k l o = omega (arith, ints, h, k, l, o)

    between_high : (m a b : ℤ) → m ≤ℤ a → m ≤ℤ b → a ≤ℤ m → b ≤ℤ m → a ≡ b
    between_high m a b h k l o = omega (arith, ints, h, k, l, o)

    by : (l r b a : Bool) → (l || r || b || a) ≡ true → (l ≡ true → ⊥) → (r ≡ true → ⊥) → (b ≡ true → ⊥) → (a ≡ true → ⊥) → ⊥
    by true r b a h f g i j = f refl
    by false true b a h f g i j = g refl
    by false false true a h f g i j = i refl
    by false false false true h f g i j = j refl
    by false false false false h f g i j = let no : false ≡ true = h in cc

module _ (tile : Rect) (given : List (List Point)) where
  -- two points of the tile; if the step between them is slanted, a given one is near
  abbrev Follows : Point → Point → Type 0
  Follows u v = LiesInTile tile u × LiesInTile tile v × (IsTrue (is_slanted (record { a = u; b = v })) → HasNear given (record { a = u; b = v }))

  follow_thinned : (u : Point) (points end : List Point) → Steps Follows u (points ++ end) → Steps Follows u (thinned_from tile u points ++ end)
  unfolding thinned_from
  follow_thinned u [] end h = h
  follow_thinned u (v ∷ []) end h = h
  follow_thinned u (v ∷ w ∷ points) end h =
      by (is_beside tile (u ∷ v ∷ w ∷ [])) refl (λ first. follow_thinned u (w ∷ points) end (first, h.1.1)) (follow_thinned v (w ∷ points) end h.1)
    where
      by : (b : Bool) → is_beside tile (u ∷ v ∷ w ∷ []) ≡ b → (Follows u w → Steps Follows u (thinned_from tile u (w ∷ points) ++ end)) → Steps Follows v (thinned_from tile v (w ∷ points) ++ end) →
          Steps Follows u ((if b then thinned_from tile u (w ∷ points) else v ∷ thinned_from tile v (w ∷ points)) ++ end)
      by true e k l = k (h.0.0, h.1.0.1, λ slanted. absurd (not_slanted tile u v w h.0.0 h.1.0.1 e slanted))
      by false e k l = (h.0, l)

  steps_follow : (u : Point) (points : List Point) → LiesInTile tile u → AllByRecursion (LiesInTile tile) points → AllByRecursion (λ r. IsTrue (is_slanted r) → HasNear given r) (steps_from u points) → Steps Follows u points
  steps_follow u [] at h k = tt
  steps_follow u (v ∷ points) at h k = ((at, h.0, k.0), steps_follow v points h.0 h.1 k.1)

  near_back : (u : Point) (points : List Point) → Steps Follows u points → AllByRecursion (λ r. IsTrue (is_slanted r) → HasNear given r) (steps_from u points)
  near_back u [] h = tt
  near_back u (v ∷ points) h = (h.0.2, near_back v points h.1)

  contour_near : (c : List Point) → AllByRecursion (LiesInTile tile) c → AllByRecursion (λ r. IsTrue (is_slanted r) → HasNear given r) (steps_of c) → AllByRecursion (λ r. IsTrue (is_slanted r) → HasNear given r) (steps_of (thinned tile c))
  unfolding thinned
  contour_near [] h k = tt
  contour_near (q ∷ points) h k =
      near_back q (thinned_from tile q points ++ q ∷ [])
      (follow_thinned q points (q ∷ []) (steps_follow q (points ++ q ∷ []) h.0 (AllByRecursion-append (LiesInTile tile) points (q ∷ []) h.1 (h.0, tt)) k))

  all_near : (contours : List (List Point)) → AllByRecursion (All (LiesInTile tile)) contours → AllByRecursion (λ r. IsTrue (is_slanted r) → HasNear given r) (steps contours) → AllByRecursion (λ r. IsTrue (is_slanted r) → HasNear given r) (steps (map (thinned tile) contours))
  all_near [] h k = tt
  all_near (c ∷ contours) h k =
      AllByRecursion-append (λ r. IsTrue (is_slanted r) → HasNear given r) (steps_of (thinned tile c)) (steps (map (thinned tile) contours))
      (contour_near c (recursion_from_All (LiesInTile tile) c h.0) (AllByRecursion_left (λ r. IsTrue (is_slanted r) → HasNear given r) (steps_of c) (steps contours) k))
      (all_near contours h.1 (AllByRecursion_right (λ r. IsTrue (is_slanted r) → HasNear given r) (steps_of c) (steps contours) k))

pub thinned_lie_near : (tile : Rect) (given contours : List (List Point)) → LieInTile tile contours → LieNearGiven given contours → LieNearGiven given (map (thinned tile) contours)
thinned_lie_near tile given contours h k =
    All-from_recursion (λ r. IsTrue (is_slanted r) → HasNear given r) (steps (map (thinned tile) contours))
    (all_near tile given contours (recursion_from_All (All (LiesInTile tile)) contours h) (recursion_from_All (λ r. IsTrue (is_slanted r) → HasNear given r) (steps contours) k))
