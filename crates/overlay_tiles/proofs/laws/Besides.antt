-- Contours beside a tile wind around no point of it. So a tile needs the others alone.
use Rattle.std.proofs.Common.{◌≡◌, refl, sym, ap, ◌∙◌, arith, Bool, true, false, IsTrue, List, [], ◌∷◌}
use Rattle.std.specs.Prelude.{ℤ, pos, ◌+ℤ◌, ◌≤ℤ◌, ◌||◌, ◌&&◌, not, int_le, map, All}
use Rattle.std.specs.List.{AllByRecursion, list_all}
use Rattle.std.proofs.lemmas.Int.{ints}
use Rattle.std.proofs.lemmas.List.Elements.{All-from_recursion, recursion_from_All}
use Rattle.std.proofs.lemmas.List.Folds.{list_all-map}
use Rattle.overlay_geometry.specs.Coordinates.{is_coordinate, is_point_in_range}
use Rattle.overlay_geometry.specs.Points.{Point, Pair}
use Rattle.overlay_geometry.specs.Ranges.{Rect}
use Rattle.overlay_geometry.proofs.laws.geometry.Coordinates.{point_from}
use Rattle.overlay_geometry.proofs.laws.integers.Tests.{le-tested}
use Rattle.overlay_geometry.proofs.laws.lists.Elements.{Contains-from_Has, Has-from_Contains, Has-flat_map_out}
use Rattle.overlay_geometry.proofs.laws.lists.Lists.{Has, Has-filter_out, Has-flat_map, AllByRecursion-at, AllByRecursion-from_Has, AllByRecursion-from_list_all, AllByRecursion-weaker, list_all-from_AllByRecursion}
use Rattle.overlay_base.specs.Places.{RationalPoint}
use Rattle.overlay_base.specs.Sums.{gathered}
use Rattle.overlay_base.proofs.laws.joins.Functionals.{whole_numbers_add}
use Rattle.overlay_base.proofs.laws.lists.Monoids.{gathered-append}
use Rattle.overlay_contours.specs.Contours.{steps_of, steps, step_winding, winding_number}
use Rattle.overlay_contours.specs.ContourSegments.{are_in_range}
use Rattle.overlay_tiles.specs.Tiles.{IsTile, BelongsToTile, LiesInTile, is_slanted, all_clipped, is_beside, reaching}
use Rattle.overlay_tiles.specs.Laws.{IsOff, WindAlikeInTile, LieInTile, HasNear, LieNearGiven}
use Rattle.overlay_tiles.proofs.laws.Contours.{contours_wind_alike}
use Rattle.overlay_tiles.proofs.laws.Near.{clipped_lie_near}
use Rattle.overlay_tiles.proofs.laws.Others.{Nothing, left_of_all, right_of_all, above_all, below_all}

-- ---- as code tests it

pub beside_is : {X : Type 0} (f : X → Point) (tile given : Rect) (xs : List X) (l r b a : Bool) → given ≡ tile →
    l ≡ list_all (λ x. int_le (f x).x given.min_x) xs → r ≡ list_all (λ x. int_le given.max_x (f x).x) xs → b ≡ list_all (λ x. int_le (f x).y given.min_y) xs → a ≡ list_all (λ x. int_le given.max_y (f x).y) xs →
    (l || r || b || a) ≡ is_beside tile (map f xs)
unfolding is_beside
beside_is f tile given xs l r b a same el er eb ea =
    by l r b a _ _ _ _
    (el ∙ sym (list_all-map (λ q. int_le q.x given.min_x) f xs))
    (er ∙ sym (list_all-map (λ q. int_le given.max_x q.x) f xs))
    (eb ∙ sym (list_all-map (λ q. int_le q.y given.min_y) f xs))
    (ea ∙ sym (list_all-map (λ q. int_le given.max_y q.y) f xs))
    ∙ ap (λ (t : Rect). is_beside t (map f xs)) same
  where
    by : (l r b a l' r' b' a' : Bool) → l ≡ l' → r ≡ r' → b ≡ b' → a ≡ a' → (l || r || b || a) ≡ (l' || r' || b' || a')
    by l r b a l' r' b' a' el er eb ea = rw (el, er, eb, ea) refl

-- ---- they count nothing

-- what a test of all points shows
all_of : (test : Point → Bool) (P : Point → Type 0) → ((q : Point) → test q ≡ true → P q) → (c : List Point) → list_all test c ≡ true → AllByRecursion P c
all_of test P f c e = AllByRecursion-weaker (λ q. test q ≡ true) P f c (AllByRecursion-from_list_all test c e)

pub beside_counts_nothing : (tile : Rect) (p : RationalPoint) → BelongsToTile tile p → (c : List Point) → is_beside tile c ≡ true → Nothing p c
unfolding is_beside
beside_counts_nothing tile p at c e =
    by _ _ _ _ e
    (λ l. left_of_all tile.min_x p c at.from_left (all_of (λ q. int_le q.x tile.min_x) (λ q. q.x ≤ℤ tile.min_x) (λ q h. le-tested _ _ h) c l))
    (λ r. right_of_all tile.max_x p c at.to_right (all_of (λ q. int_le tile.max_x q.x) (λ q. tile.max_x ≤ℤ q.x) (λ q h. le-tested _ _ h) c r))
    (λ b. below_all tile.min_y p c at.from_below (all_of (λ q. int_le q.y tile.min_y) (λ q. q.y ≤ℤ tile.min_y) (λ q h. le-tested _ _ h) c b))
    (λ a. above_all tile.max_y p c at.to_top (all_of (λ q. int_le tile.max_y q.y) (λ q. tile.max_y ≤ℤ q.y) (λ q h. le-tested _ _ h) c a))
  where
    by : (l r b a : Bool) → (l || r || b || a) ≡ true → (l ≡ true → Nothing p c) → (r ≡ true → Nothing p c) → (b ≡ true → Nothing p c) → (a ≡ true → Nothing p c) → Nothing p c
    by true r b a h f g i j = f refl
    by false true b a h f g i j = g refl
    by false false true a h f g i j = i refl
    by false false false true h f g i j = j refl
    by false false false false h f g i j = absurd (let no : false ≡ true = h in cc)

reaching_wind : (tile : Rect) (p : RationalPoint) → BelongsToTile tile p → (contours : List (List Point)) → gathered ◌+ℤ◌ (pos 0) (step_winding p) (steps (reaching tile contours)) ≡ gathered ◌+ℤ◌ (pos 0) (step_winding p) (steps contours)
reaching_wind tile p at [] = refl
reaching_wind tile p at (c ∷ contours) =
    by (is_beside tile c) refl (reaching_wind tile p at contours)
    ∙ sym (gathered-append whole_numbers_add (step_winding p) (steps_of c) (steps contours))
  where
    by : (b : Bool) → is_beside tile c ≡ b → gathered ◌+ℤ◌ (pos 0) (step_winding p) (steps (reaching tile contours)) ≡ gathered ◌+ℤ◌ (pos 0) (step_winding p) (steps contours) →
        gathered ◌+ℤ◌ (pos 0) (step_winding p) (steps (reaching tile (c ∷ contours))) ≡ gathered ◌+ℤ◌ (pos 0) (step_winding p) (steps_of c) +ℤ gathered ◌+ℤ◌ (pos 0) (step_winding p) (steps contours)
    by true e rest = rw e (rest ∙ sym (ap (λ (z : ℤ). z +ℤ gathered ◌+ℤ◌ (pos 0) (step_winding p) (steps contours)) (beside_counts_nothing tile p at c e) ∙ from_nothing (gathered ◌+ℤ◌ (pos 0) (step_winding p) (steps contours))))
      where
        from_nothing : (z : ℤ) → pos 0 +ℤ z ≡ z
        from_nothing z = omega (arith, ints)
    by false e rest = rw e (gathered-append whole_numbers_add (step_winding p) (steps_of c) (steps (reaching tile contours)) ∙ ap (λ (z : ℤ). gathered ◌+ℤ◌ (pos 0) (step_winding p) (steps_of c) +ℤ z) rest)

-- ---- what is said of all clipped contours holds of those that reach the tile

reaching_given : (tile : Rect) (contours : List (List Point)) (s : Pair) → Has (steps (reaching tile contours)) s → Has (steps contours) s
reaching_given tile contours s i =
    let of = Has-flat_map_out steps_of (reaching tile contours) s i in
    Has-flat_map steps_of contours of.0 s (Has-filter_out (λ c. not (is_beside tile c)) contours of.0 of.1).0 of.2

pub reaching_wind_alike : (tile : Rect) (contours : List (List Point)) → IsTile tile → WindAlikeInTile tile contours (all_clipped tile (reaching tile contours))
unfolding winding_number
reaching_wind_alike tile contours is p at some off =
    contours_wind_alike tile (reaching tile contours) is p at some
    (All-from_recursion (IsOff p) (steps (reaching tile contours))
    (AllByRecursion-from_Has (IsOff p) (steps (reaching tile contours)) (λ s i. AllByRecursion-at (IsOff p) (steps contours) s (recursion_from_All (IsOff p) (steps contours) off) (reaching_given tile contours s i))))
    ∙ reaching_wind tile p at contours

pub reaching_lie_near : (tile : Rect) (contours : List (List Point)) → IsTile tile → LieNearGiven contours (all_clipped tile (reaching tile contours))
reaching_lie_near tile contours is =
    All-from_recursion (λ r. IsTrue (is_slanted r) → HasNear contours r) (steps (all_clipped tile (reaching tile contours)))
    (AllByRecursion-weaker (λ r. IsTrue (is_slanted r) → HasNear (reaching tile contours) r) (λ r. IsTrue (is_slanted r) → HasNear contours r)
    (λ r f h. let k = f h in record {
      step = k.step;
      is_given = Contains-from_Has (steps contours) k.step (reaching_given tile contours k.step (Has-from_Contains (steps (reaching tile contours)) k.step k.is_given));
      slanted = k.slanted;
      near = k.near;
      near_turned = k.near_turned;
    })
    (steps (all_clipped tile (reaching tile contours)))
    (recursion_from_All (λ r. IsTrue (is_slanted r) → HasNear (reaching tile contours) r) (steps (all_clipped tile (reaching tile contours))) (clipped_lie_near tile (reaching tile contours) is)))

-- ---- in range

-- contours that lie in a tile whose borders are in range are in range
pub inside_in_range : (least greatest : ℤ) (tile : Rect) → IsTrue (is_coordinate least greatest tile.min_x) → IsTrue (is_coordinate least greatest tile.max_x) → IsTrue (is_coordinate least greatest tile.min_y) → IsTrue (is_coordinate least greatest tile.max_y) →
    (contours : List (List Point)) → LieInTile tile contours → IsTrue (are_in_range least greatest contours)
inside_in_range least greatest tile left right lower upper contours all =
    list_all-from_AllByRecursion (λ c. list_all (is_point_in_range least greatest) c) contours
    (AllByRecursion-weaker (All (LiesInTile tile)) (λ c. list_all (is_point_in_range least greatest) c ≡ true)
    (λ c l. list_all-from_AllByRecursion (is_point_in_range least greatest) c
    (AllByRecursion-weaker (LiesInTile tile) (λ q. is_point_in_range least greatest q ≡ true)
    (λ q k. point_from least greatest q (amid least greatest tile.min_x tile.max_x q.x left right k.from_left k.to_right) (amid least greatest tile.min_y tile.max_y q.y lower upper k.from_below k.to_top))
    c (recursion_from_All (LiesInTile tile) c l)))
    contours (recursion_from_All (All (LiesInTile tile)) contours all))
  where
    amid : (least greatest u v z : ℤ) → IsTrue (is_coordinate least greatest u) → IsTrue (is_coordinate least greatest v) → u ≤ℤ z → z ≤ℤ v → IsTrue (is_coordinate least greatest z)
    amid least greatest u v z h k l m = grind (arith, ints)

-- ---- as code tests three points

and_true : (a b c : Bool) → (a && (b && (c && true))) ≡ (a && b && c)
and_true a b c = grind arith

pub three_beside : (tile given : Rect) (u v w : Point) → given ≡ tile → (l r b a : Bool) →
    l ≡ (int_le u.x given.min_x && int_le v.x given.min_x && int_le w.x given.min_x) → r ≡ (int_le given.max_x u.x && int_le given.max_x v.x && int_le given.max_x w.x) →
    b ≡ (int_le u.y given.min_y && int_le v.y given.min_y && int_le w.y given.min_y) → a ≡ (int_le given.max_y u.y && int_le given.max_y v.y && int_le given.max_y w.y) →
    (l || r || b || a) ≡ is_beside tile (u ∷ v ∷ w ∷ [])
unfolding is_beside
three_beside tile given u v w same l r b a el er eb ea =
    by l r b a _ _ _ _
    (el ∙ sym (and_true (int_le u.x given.min_x) (int_le v.x given.min_x) (int_le w.x given.min_x)))
    (er ∙ sym (and_true (int_le given.max_x u.x) (int_le given.max_x v.x) (int_le given.max_x w.x)))
    (eb ∙ sym (and_true (int_le u.y given.min_y) (int_le v.y given.min_y) (int_le w.y given.min_y)))
    (ea ∙ sym (and_true (int_le given.max_y u.y) (int_le given.max_y v.y) (int_le given.max_y w.y)))
    ∙ ap (λ (t : Rect). is_beside t (u ∷ v ∷ w ∷ [])) same
  where
    by : (l r b a l' r' b' a' : Bool) → l ≡ l' → r ≡ r' → b ≡ b' → a ≡ a' → (l || r || b || a) ≡ (l' || r' || b' || a')
    by l r b a l' r' b' a' el er eb ea = rw (el, er, eb, ea) refl
