-- Parts of tiles that are apart in pairs, one after another: around a point of a tile they wind as the part of that tile.
use Rattle.std.proofs.Common.{◌≡◌, ◌⊎◌, inl, inr, refl, sym, ap, ap₂, subst, ◌∙◌, append_assoc, ◌<◌, ◌≤◌, ◌+◌, ◌-◌, ℕ, zero, suc, length, get_or, take, drop, ◌||◌, Bool, true, false, IsTrue, List, [], ◌∷◌, ◌++◌, map, arith}
use Rattle.std.specs.Prelude.{ℤ, pos, ◌+ℤ◌, ◌-ℤ◌, ◌*ℤ◌, ◌≤ℤ◌, ◌<ℤ◌, int_le, All, Contains}
use Rattle.std.specs.List.{AllByRecursion, list_all}
use Rattle.std.proofs.lemmas.Bool.{and_from, both_ways}
use Rattle.std.proofs.lemmas.Grind.{flat_map-append}
use Rattle.std.proofs.lemmas.Int.{ints}
use Rattle.std.proofs.Math.Seq.{take-length}
use Rattle.std.proofs.lemmas.List.{append-nil, map-append, length-drop}
use Rattle.std.proofs.lemmas.List.Elements.{All-from_recursion, recursion_from_All}
use Rattle.std.proofs.lemmas.List.Folds.{list_all-append}
use Rattle.overlay_geometry.specs.Points.{Point}
use Rattle.overlay_geometry.specs.Ranges.{Rect}
use Rattle.overlay_geometry.proofs.laws.integers.Products.{scaled_le}
use Rattle.overlay_geometry.proofs.laws.lists.Elements.{Has-from_Contains, Contains-from_Has}
use Rattle.overlay_geometry.proofs.laws.lists.Lists.{Has, Has-append_right, AllByRecursion-at, AllByRecursion-append}
use Rattle.overlay_base.specs.Places.{RationalPoint}
use Rattle.overlay_base.specs.Rules.{holds}
use Rattle.overlay_base.specs.declared.overlay_core.fill_rule.FillRule.{FillRule}
use Rattle.overlay_base.specs.declared.overlay_core.overlay_rule.OverlayRule.{OverlayRule}
use Rattle.overlay_build.specs.Boundary.{truth}
use Rattle.overlay_geometry.specs.Coordinates.{is_point_in_range}
use Rattle.overlay_base.specs.declared.segm.fault.Fault.TheVariants.{Memory}
use Rattle.overlay_contours.specs.ContourSegments.{are_in_range}
use Rattle.overlay_contours.specs.declared.fault.ContourFault.{ContourFault}
use Rattle.overlay_contours.specs.declared.fault.ContourFault.TheVariants.{Refused}
use Rattle.overlay_contours.specs.Contours.{AreProper, is_edge, steps_of, steps, winding_number}
use Rattle.overlay_contours.proofs.laws.ShapeSums.{winds-append}
use Rattle.overlay_contours.proofs.laws.Steps.{drop_at, drop_all, mapped_parts, taken}
use Rattle.overlay_tiles.specs.Tiles.{BelongsToTile, LiesInTile, AreApart, on_left, on_right, under, over}
use Rattle.overlay_tiles.specs.Laws.{LieInTile}
use Rattle.overlay_tiles.specs.TileOverlays.{IsTilePart, IsTileRefusal}
use Rattle.overlay_tiles.specs.TiledOverlays.{is_apart, AreApartInPairs, MeetsAt, Meet, BelongsToNone, AreParts, IsTiledOverlay, IsSomeRefusal}
use Rattle.overlay_tiles.proofs.laws.Others.{Nothing, all_none, of_all, left_of_all, right_of_all, above_all, below_all}

-- ---- what lies in a tile winds around no point that does not belong to it

le_or_lt : (a b : ℤ) → (a ≤ℤ b) ⊎ (b <ℤ a)
le_or_lt a b = by (int_le a b) refl
  where
    by : (t : Bool) → int_le a b ≡ t → (a ≤ℤ b) ⊎ (b <ℤ a)
    by true e = inl (omega (arith, ints, e))
    by false e = inr (omega (arith, ints, e))

module _ (tile : Rect) (contours : List (List Point)) (p : RationalPoint) (inside : LieInTile tile contours) where
  each : ((c : List Point) → All (LiesInTile tile) c → Nothing p c) → winding_number contours p ≡ pos 0
  unfolding winding_number
  each f = all_none p (All (LiesInTile tile)) f contours (recursion_from_All (All (LiesInTile tile)) contours inside)

  pub winds_around_no_other : (BelongsToTile tile p → ⊥) → winding_number contours p ≡ pos 0
  winds_around_no_other off = from_left (le_or_lt (tile.min_x *ℤ pos p.bottom) p.x)
    where
      top : (tile.min_x *ℤ pos p.bottom) ≤ℤ p.x → p.x <ℤ (tile.max_x *ℤ pos p.bottom) → (tile.min_y *ℤ pos p.bottom) <ℤ p.y → (p.y ≤ℤ (tile.max_y *ℤ pos p.bottom)) ⊎ ((tile.max_y *ℤ pos p.bottom) <ℤ p.y) → winding_number contours p ≡ pos 0
      top a b c (inl h) = absurd (off (record { from_left = a; to_right = b; from_below = c; to_top = h }))
      top a b c (inr h) = each (λ c l. below_all tile.max_y p c h (of_all tile (λ q. q.y ≤ℤ tile.max_y) (λ q k. k.to_top) c l))

      below : (tile.min_x *ℤ pos p.bottom) ≤ℤ p.x → p.x <ℤ (tile.max_x *ℤ pos p.bottom) → (p.y ≤ℤ (tile.min_y *ℤ pos p.bottom)) ⊎ ((tile.min_y *ℤ pos p.bottom) <ℤ p.y) → winding_number contours p ≡ pos 0
      below a b (inl h) = each (λ c l. above_all tile.min_y p c h (of_all tile (λ q. tile.min_y ≤ℤ q.y) (λ q k. k.from_below) c l))
      below a b (inr h) = top a b h (le_or_lt p.y (tile.max_y *ℤ pos p.bottom))

      right : (tile.min_x *ℤ pos p.bottom) ≤ℤ p.x → ((tile.max_x *ℤ pos p.bottom) ≤ℤ p.x) ⊎ (p.x <ℤ (tile.max_x *ℤ pos p.bottom)) → winding_number contours p ≡ pos 0
      right a (inl h) = each (λ c l. left_of_all tile.max_x p c h (of_all tile (λ q. q.x ≤ℤ tile.max_x) (λ q k. k.to_right) c l))
      right a (inr h) = below a h (le_or_lt p.y (tile.min_y *ℤ pos p.bottom))

      from_left : ((tile.min_x *ℤ pos p.bottom) ≤ℤ p.x) ⊎ (p.x <ℤ (tile.min_x *ℤ pos p.bottom)) → winding_number contours p ≡ pos 0
      from_left (inl h) = right h (le_or_lt (tile.max_x *ℤ pos p.bottom) p.x)
      from_left (inr h) = each (λ c l. right_of_all tile.min_x p c h (of_all tile (λ q. tile.min_x ≤ℤ q.x) (λ q k. k.from_left) c l))

-- ---- a point belongs to at most one of two tiles that are apart

no_round : (a b z : ℤ) → z <ℤ a → a ≤ℤ b → b ≤ℤ z → ⊥
no_round a b z h k l = omega (arith, ints, h, k, l)

no_round_up : (a b z : ℤ) → z ≤ℤ a → a ≤ℤ b → b <ℤ z → ⊥
no_round_up a b z h k l = omega (arith, ints, h, k, l)

pub belongs_to_one : (p : RationalPoint) (tile other : Rect) → AreApart tile other → BelongsToTile tile p → BelongsToTile other p → ⊥
belongs_to_one p tile other (on_left h) a b = no_round _ _ p.x b.to_right (scaled_le other.max_x tile.min_x p.bottom h) a.from_left
belongs_to_one p tile other (on_right h) a b = no_round _ _ p.x a.to_right (scaled_le tile.max_x other.min_x p.bottom h) b.from_left
belongs_to_one p tile other (under h) a b = no_round_up _ _ p.y b.to_top (scaled_le other.max_y tile.min_y p.bottom h) a.from_below
belongs_to_one p tile other (over h) a b = no_round_up _ _ p.y a.to_top (scaled_le tile.max_y other.min_y p.bottom h) b.from_below

four : (a b c d : Bool) → (a || b || c || d) ≡ true → (a ≡ true) ⊎ ((b ≡ true) ⊎ ((c ≡ true) ⊎ (d ≡ true)))
four true b c d h = inl refl
four false true c d h = inr (inl refl)
four false false true d h = inr (inr (inl refl))
four false false false d h = inr (inr (inr h))

le_from : (a b : ℤ) → int_le a b ≡ true → a ≤ℤ b
le_from a b e = omega (arith, ints, e)

pub apart_by_test : (tile other : Rect) → is_apart tile other ≡ true → AreApart tile other
apart_by_test tile other h = by (four (int_le other.max_x tile.min_x) (int_le tile.max_x other.min_x) (int_le other.max_y tile.min_y) (int_le tile.max_y other.min_y) h)
  where
    by : (int_le other.max_x tile.min_x ≡ true) ⊎ ((int_le tile.max_x other.min_x ≡ true) ⊎ ((int_le other.max_y tile.min_y ≡ true) ⊎ (int_le tile.max_y other.min_y ≡ true))) → AreApart tile other
    by (inl e) = on_left (le_from _ _ e)
    by (inr (inl e)) = on_right (le_from _ _ e)
    by (inr (inr (inl e))) = under (le_from _ _ e)
    by (inr (inr (inr e))) = over (le_from _ _ e)

none_of_four : (a b c d : Bool) → (a || b || c || d) ≡ false → (a ≡ false) × (b ≡ false) × (c ≡ false) × (d ≡ false)
none_of_four false false false false h = (refl, refl, refl, refl)
none_of_four false false false true h = absurd (both_ways true h refl)
none_of_four false false true d h = absurd (both_ways true h refl)
none_of_four false true c d h = absurd (both_ways true h refl)
none_of_four true b c d h = absurd (both_ways true h refl)

no_le : (a b : ℤ) → int_le a b ≡ false → a ≤ℤ b → ⊥
no_le a b e h = omega (arith, ints, e, h)

pub not_apart_by_test : (tile other : Rect) → is_apart tile other ≡ false → AreApart tile other → ⊥
not_apart_by_test tile other h apart = by (none_of_four (int_le other.max_x tile.min_x) (int_le tile.max_x other.min_x) (int_le other.max_y tile.min_y) (int_le tile.max_y other.min_y) h) apart
  where
    by : (int_le other.max_x tile.min_x ≡ false) × (int_le tile.max_x other.min_x ≡ false) × (int_le other.max_y tile.min_y ≡ false) × (int_le tile.max_y other.min_y ≡ false) → AreApart tile other → ⊥
    by e (on_left k) = no_le _ _ e.0 k
    by e (on_right k) = no_le _ _ e.1 k
    by e (under k) = no_le _ _ e.2 k
    by e (over k) = no_le _ _ e.3 k

-- ---- parts, one after another

proper_together : (xs ys : List (List Point)) → AreProper xs → AreProper ys → AreProper (xs ++ ys)
proper_together xs ys h k = record {
  points =
      All-from_recursion (λ c. c ≡ [] → ⊥) (xs ++ ys)
      (AllByRecursion-append (λ c. c ≡ [] → ⊥) xs ys (recursion_from_All (λ c. c ≡ [] → ⊥) xs h.points) (recursion_from_All (λ c. c ≡ [] → ⊥) ys k.points));
  apart = ap (list_all is_edge) (flat_map-append steps_of xs ys) ∙ list_all-append is_edge (steps xs) (steps ys) ∙ and_from _ _ h.apart k.apart;
}

none_proper : AreProper []
none_proper = record { points = All-from_recursion (λ c. c ≡ [] → ⊥) [] tt; apart = refl }

add_none : (z : ℤ) → z +ℤ pos 0 ≡ z
add_none z = omega (arith, ints)

none_add : (z : ℤ) → pos 0 +ℤ z ≡ z
none_add z = omega (arith, ints)

module _ (rule : OverlayRule) (fill_rule : FillRule) (subject clip : List (List Point)) where
  abbrev IsPart : Rect → List (List Point) → Type 0
  IsPart tile part = IsTilePart tile rule fill_rule subject clip part

  parts_proper : (tiles : List Rect) (contours : List (List Point)) → AreParts IsPart tiles contours → AreProper contours
  parts_proper [] contours h = subst AreProper (sym h) none_proper
  parts_proper (tile ∷ tiles) contours (part, others, e, is, rest) = subst AreProper (sym e) (proper_together part others is.proper (parts_proper tiles others rest))

  module _ (p : RationalPoint) where
    parts_nowhere : (tiles : List Rect) (contours : List (List Point)) → AreParts IsPart tiles contours → ((tile : Rect) → Has tiles tile → BelongsToTile tile p → ⊥) → winding_number contours p ≡ pos 0
    unfolding winding_number
    parts_nowhere [] contours h off = ap (λ (l : List (List Point)). winding_number l p) h
    parts_nowhere (tile ∷ tiles) contours (part, others, e, is, rest) off =
        ap (λ (l : List (List Point)). winding_number l p) e
        ∙ winds-append part others p
        ∙ ap₂ ◌+ℤ◌ (winds_around_no_other tile part p is.inside (off tile (inl refl))) (parts_nowhere tiles others rest (λ t i. off t (inr i)))

    part_at : (tiles : List Rect) (contours : List (List Point)) → AreApartInPairs tiles → AreParts IsPart tiles contours → (tile : Rect) → Has tiles tile → BelongsToTile tile p →
        (part : List (List Point)) × IsPart tile part × (winding_number contours p ≡ winding_number part p)
    part_at [] contours apart h tile i at = absurd i
    part_at (t ∷ tiles) contours apart (part, others, e, is, rest) tile (inl same) at = (
      part,
      subst (λ (r : Rect). IsPart r part) same is,
      ap (λ (l : List (List Point)). winding_number l p) e
          ∙ winds-append part others p
          ∙ ap (λ (z : ℤ). winding_number part p +ℤ z)
          (parts_nowhere tiles others rest (λ other i b. belongs_to_one p t other (AllByRecursion-at (AreApart t) tiles other (recursion_from_All (AreApart t) tiles apart.0) i) (subst (λ (r : Rect). BelongsToTile r p) (sym same) at) b))
          ∙ add_none (winding_number part p),
    )
    part_at (t ∷ tiles) contours apart (part, others, e, is, rest) tile (inr i) at =
        let found = part_at tiles others apart.1 rest tile i at in (
          found.0,
          found.1,
          ap (λ (l : List (List Point)). winding_number l p) e
              ∙ winds-append part others p
              ∙ ap₂ ◌+ℤ◌ (winds_around_no_other t part p is.inside (λ b. belongs_to_one p t tile (AllByRecursion-at (AreApart t) tiles tile (recursion_from_All (AreApart t) tiles apart.0) i) b at)) found.2
              ∙ none_add (winding_number found.0 p),
        )

  pub tiled_overlay : (tiles : List Rect) (answer : List (List Point)) → AreApartInPairs tiles → AreParts IsPart tiles answer → IsTiledOverlay tiles rule fill_rule subject clip answer
  tiled_overlay tiles answer apart parts = record {
    winds = λ p some tile i at far_subject far_clip.
        let found = part_at p tiles answer apart parts tile (Has-from_Contains tiles tile i) at in
        found.2 ∙ found.1.winds p some at far_subject far_clip;
    once_or_not = λ p some tile i at.
        let found = part_at p tiles answer apart parts tile (Has-from_Contains tiles tile i) at in
        subst (λ (z : ℤ). (z ≡ pos 1 -ℤ truth (holds rule false false)) ⊎ (z ≡ pos 0 -ℤ truth (holds rule false false))) (sym found.2) (found.1.once_or_not p some);
    nowhere_else = λ p some off. parts_nowhere p tiles answer parts (λ tile i. off tile (Contains-from_Has tiles tile i));
    proper = parts_proper tiles answer parts;
    parts = parts;
  }

-- ---- one part more

module _ {X : Type 0} (IsPart : Rect → List (List Point) → Type 0) (f : X → Rect) (xs : List X) where
  -- the parts found, with those of the other tiles after them, are those of all tiles
  abbrev pub Goes : ℕ → List (List Point) → Type 0
  Goes i found = (others : List (List Point)) → AreParts IsPart (map f (drop i xs)) others → AreParts IsPart (map f xs) (found ++ others)

  pub no_part : (found : List (List Point)) → found ≡ [] → Goes 0 found
  no_part found e others h = subst (λ (l : List (List Point)). AreParts IsPart (map f xs) (l ++ others)) (sym e) h

  pub one_part : (i : ℕ) (x : X) (found part more : List (List Point)) → i < length xs → x ≡ get_or xs i x → IsPart (f x) part → more ≡ found ++ part → Goes i found → Goes (i + 1) more
  one_part i x found part more l is h pushed goes others k =
      let next : i + 1 ≡ suc i = omega arith in
      subst (AreParts IsPart (map f xs)) (sym (ap (λ (m : List (List Point)). m ++ others) pushed ∙ append_assoc found part others))
      (goes (part ++ others)
      (subst (λ (m : List X). AreParts IsPart (map f m) (part ++ others)) (sym (drop_at xs i x l is))
      (part, others, refl, h, subst (λ (n : ℕ). AreParts IsPart (map f (drop n xs)) others) next k)))

  pub all_parts : (i : ℕ) (found : List (List Point)) → length xs ≤ i → Goes i found → AreParts IsPart (map f xs) found
  all_parts i found l goes =
      subst (AreParts IsPart (map f xs)) (append-nil found) (goes [] (subst (λ (m : List X). AreParts IsPart (map f m) []) (sym (drop_all xs i l)) refl))

-- ---- tiles that are compared with one after another

module _ {X : Type 0} (f : X → Rect) (xs : List X) where
  pub apart_from_one_more : (P : Rect → Type 0) (i : ℕ) (x : X) → i < length xs → x ≡ get_or xs i x → P (f x) → (AllByRecursion P (map f (drop i xs)) → AllByRecursion P (map f xs)) → AllByRecursion P (map f (drop (i + 1) xs)) → AllByRecursion P (map f xs)
  apart_from_one_more P i x l is h goes k =
      let next : i + 1 ≡ suc i = omega arith in
      goes (subst (λ (m : List X). AllByRecursion P (map f m)) (sym (drop_at xs i x l is)) (h, subst (λ (n : ℕ). AllByRecursion P (map f (drop n xs))) next k))

  pub apart_from_all : (P : Rect → Type 0) (i : ℕ) → length xs ≤ i → (AllByRecursion P (map f (drop i xs)) → AllByRecursion P (map f xs)) → All P (map f xs)
  apart_from_all P i l goes = All-from_recursion P (map f xs) (goes (subst (λ (m : List X). AllByRecursion P (map f m)) (sym (drop_all xs i l)) tt))

  -- what a slice from an index to the end has
  rest_is : (n : ℕ) → take (length xs - n) (drop n xs) ≡ drop n xs
  rest_is n = ap (λ (m : ℕ). take m (drop n xs)) (sym (length-drop n xs)) ∙ take-length (drop n xs)

  pub pairs_of_one_more : (i : ℕ) (x : X) → i < length xs → x ≡ get_or xs i x → All (AreApart (f x)) (map f (take (length xs - (i + 1)) (drop (i + 1) xs))) → (AreApartInPairs (map f (drop i xs)) → AreApartInPairs (map f xs)) → AreApartInPairs (map f (drop (i + 1) xs)) → AreApartInPairs (map f xs)
  pairs_of_one_more i x l is h goes k =
      let next : i + 1 ≡ suc i = omega arith in
      goes
      (subst (λ (m : List X). AreApartInPairs (map f m)) (sym (drop_at xs i x l is))
      (subst (λ (n : ℕ). All (AreApart (f x)) (map f (drop n xs))) next (subst (λ (m : List X). All (AreApart (f x)) (map f m)) (rest_is (i + 1)) h), subst (λ (n : ℕ). AreApartInPairs (map f (drop n xs))) next k))

  pub pairs_of_all : (i : ℕ) → length xs ≤ i → (AreApartInPairs (map f (drop i xs)) → AreApartInPairs (map f xs)) → AreApartInPairs (map f xs)
  pairs_of_all i l goes = goes (subst (λ (m : List X). AreApartInPairs (map f m)) (sym (drop_all xs i l)) tt)

  pub meets_at : (tile : Rect) (i : ℕ) (x : X) → i < length xs → x ≡ get_or xs i x → (AreApart tile (f x) → ⊥) → MeetsAt tile (map f xs) i
  meets_at tile i x l is h = record {
    earlier = map f (take i xs);
    other = f x;
    later = map f (drop (suc i) xs);
    tiles_are = mapped_parts f xs i x l is;
    index_is = taken f xs i l;
    meet = h;
  }

  pub two_meet : (i : ℕ) (x : X) (between : ℕ) → i < length xs → x ≡ get_or xs i x → MeetsAt (f x) (map f (take (length xs - (i + 1)) (drop (i + 1) xs))) between → Meet (map f xs) i (i + 1 + between)
  two_meet i x between l is h =
      let next : i + 1 ≡ suc i = omega arith in record {
        earlier = map f (take i xs);
        tile = f x;
        later = map f (drop (suc i) xs);
        between = between;
        tiles_are = mapped_parts f xs i x l is;
        first_is = taken f xs i l;
        second_is = refl;
        meets = subst (λ (n : ℕ). MeetsAt (f x) (map f (drop n xs)) between) next (subst (λ (m : List X). MeetsAt (f x) (map f m) between) (rest_is (i + 1)) h);
      }

pub test_is : (tile other a b : Rect) → a ≡ tile → b ≡ other → (left right below above : Bool) → left ≡ int_le b.max_x a.min_x → right ≡ int_le a.max_x b.min_x → below ≡ int_le b.max_y a.min_y → above ≡ int_le a.max_y b.min_y →
    (left || right || below || above) ≡ is_apart tile other
test_is tile other a b e f left right below above l r d u = rw (l, r, d, u) (ap₂ is_apart e f)

-- ---- ranges and refusals

pub in_range_together : (least greatest : ℤ) (xs ys more : List (List Point)) → more ≡ xs ++ ys → IsTrue (are_in_range least greatest xs) → IsTrue (are_in_range least greatest ys) → IsTrue (are_in_range least greatest more)
in_range_together least greatest xs ys more e h k = ap (λ (l : List (List Point)). are_in_range least greatest l) e ∙ list_all-append (λ c. list_all (is_point_in_range least greatest) c) xs ys ∙ and_from _ _ h k

module _ {X : Type 0} (f : X → Rect) (xs : List X) (i : ℕ) (x : X) (l : i < length xs) (is : x ≡ get_or xs i x) (least greatest : ℤ) (subject clip : List (List Point)) where
  tile_there : Contains (map f xs) (f x)
  tile_there = Contains-from_Has (map f xs) (f x) (subst (λ (r : List Rect). Has r (f x)) (sym (mapped_parts f xs i x l is)) (Has-append_right (map f (take i xs)) (f x ∷ map f (drop (suc i) xs)) (f x) (inl refl)))

  pub some_refusal : (fault : ContourFault) → IsTileRefusal least greatest (f x) subject clip fault → IsSomeRefusal least greatest (map f xs) subject clip fault
  some_refusal fault h = (f x, tile_there, h)

  pub memory_refusal : IsTrue (are_in_range least greatest subject) → IsTrue (are_in_range least greatest clip) → IsSomeRefusal least greatest (map f xs) subject clip (Refused Memory)
  memory_refusal h k = (f x, tile_there, (h, k, tt))
