-- Points kept column by column: where a search for those in the box of a segment goes on, and that it passes over none that is met.
use Rattle.std.proofs.Common.{◌≡◌, refl, sym, ap, ap₂, subst, ◌∙◌, ℕ, zero, suc, ◌+◌, ◌<◌, ◌≤◌, ◌/◌, ◌^◌, ◌%◌, ◌-◌, Bool, true, false, ◌&&◌, IsTrue, List, [], ◌∷◌, ◌++◌, append-nil, map, length, take, get_or, arith, Less}
use Rattle.std.specs.Prelude.{ℤ, pos, negsuc, ◌≤ℤ◌, ◌<ℤ◌, slice_index_or, ◌||◌, int_lt, int_le, nat_lt}
use Rattle.std.specs.Int.{int_min, int_max}
use Rattle.std.specs.Int.Signed.{shr_z}
use Rattle.std.specs.List.Sorted.{IsPartitionedBy}
use Rattle.std.specs.Ordering.{int_cmp, int_eq, ordering_then}
use Rattle.std.proofs.Math.Nat.{div-mul-le_self}
use Rattle.std.proofs.lemmas.Bool.{ltb-true, false≢true}
use Rattle.std.proofs.lemmas.Int.{ints}
use Rattle.std.proofs.lemmas.Nat.{le-div, pow_pos}
use Rattle.std.proofs.lemmas.List.{length-map, get_or-map}
use Rattle.std.proofs.lemmas.Map.Keys.{Less-from_sorted}
use Rattle.overlay_geometry.proofs.laws.lists.Keys.{IsStrictlySortedBy-from_test}
use Rattle.overlay_geometry.specs.Points.{Point, Pair, is_ordered, is_in_box, is_between}
use Rattle.overlay_geometry.specs.PointOf.{point_of}
use Rattle.overlay_geometry.specs.declared.geom.point.IntPoint.{IntPoint}
use Rattle.overlay_snapping.specs.Pixels.{meets_pixel}
use Rattle.overlay_snapping.specs.steps.PointTrees.{met_places_from, column_of, tile_cmp, AreByColumns, is_before, is_up_to, IsFirstFailing}
use Rattle.overlay_snapping.proofs.laws.point_trees.Columns.{tile_cmp_total}
use Rattle.overlay_snapping.proofs.laws.point_trees.MetPlaces.{met_one_more, passed_one}
use Rattle.overlay_snapping.proofs.laws.point_trees.MissedBoxes.{ordered_in_x}

-- ---- columns

by_parts : (a b c d e f : ℤ) → ordering_then (ordering_then (int_cmp a b) (int_cmp c d)) (int_cmp e f) ≡ Less → (a ≤ℤ b) × (a ≡ b → c ≤ℤ d)
by_parts a b c d e f h = (grind (arith, ints), λ same. grind (arith, ints))

in_turn : (shift : ℕ) (p q : Point) → tile_cmp shift p q ≡ Less → (column_of shift p.x ≤ℤ column_of shift q.x) × (column_of shift p.x ≡ column_of shift q.x → p.y ≤ℤ q.y)
in_turn shift p q h = by_parts (column_of shift p.x) (column_of shift q.x) p.y q.y p.x q.x h

quotient_rises : (a b m : ℕ) → 0 < m → a ≤ b → a / m ≤ b / m
quotient_rises a b m some h = let below = div-mul-le_self a m in le-div (a / m) b m some (omega (arith, below, h))

shift_rises : (x y : ℤ) (m : ℕ) → 0 < m → x ≤ℤ y → shr_z x m ≤ℤ shr_z y m
shift_rises (pos a) (pos b) m some h = let up = quotient_rises a b m some (omega (arith, ints, h)) in omega (arith, ints, up)
shift_rises (negsuc a) (pos b) m some h = omega (arith, ints)
shift_rises (pos a) (negsuc b) m some h = absurd (omega (arith, ints, h))
shift_rises (negsuc a) (negsuc b) m some h = let up = quotient_rises b a m some (omega (arith, ints, h)) in omega (arith, ints, up)

-- the columns of two numbers in order are in order
pub columns_rise : (shift : ℕ) (x y : ℤ) → x ≤ℤ y → column_of shift x ≤ℤ column_of shift y
columns_rise shift x y h = shift_rises x y (2 ^ (shift % 64)) (pow_pos (shift % 64)) h

-- ---- the tests of the searches

lt_is : (i j : ℕ) → nat_lt i j ≡ true → i < j
lt_is i j e = ltb-true i j e

not_lt : (i j : ℕ) → nat_lt i j ≡ false → j ≤ i
not_lt i j e = grind (arith, e)

take_length : {X : Type 0} (xs : List X) → take (length xs) xs ≡ xs
take_length [] = refl
take_length (x ∷ xs) = ap (λ l. x ∷ l) (take_length xs)

same_index : (i j : ℕ) → i ≤ j → nat_lt i j ≡ false → i ≡ j
same_index i j h e = grind (arith, h, e)

up_to_stays : (a b column : ℤ) → a ≤ℤ b → int_le b column ≡ true → int_le a column ≡ true
up_to_stays a b column h e = grind (arith, ints)

own_default : {X : Type 0} (xs : List X) (i : ℕ) (d : X) → i < length xs → slice_index_or xs i d ≡ get_or xs i (slice_index_or xs i d)
own_default [] i d h = absurd (omega (arith, h))
own_default (x ∷ xs) zero d h = refl
own_default (x ∷ xs) (suc i) d h = own_default xs i d (omega (arith, h))

before_stays : (a b c d column height : ℤ) → a ≤ℤ b → (a ≡ b → c ≤ℤ d) → (int_lt b column || (int_eq b column && int_lt d height)) ≡ true → (int_lt a column || (int_eq a column && int_lt c height)) ≡ true
before_stays a b c d column height first then h = grind (arith, ints)

module _ {I : Type 0} (whole : I → ℤ) (shift : ℕ) (xs : List (IntPoint I)) (s : AreByColumns whole shift xs) where
  abbrev at : ℕ → IntPoint I → Point
  at k d = point_of whole (slice_index_or xs k d)

  at_map : (k : ℕ) (d : IntPoint I) → k < length xs → slice_index_or (map (point_of whole) xs) k (point_of whole d) ≡ at k d
  at_map k d l = get_or-map (point_of whole) xs k d (point_of whole d) l

  pub turn_at : (i j : ℕ) (d : IntPoint I) → i < j → j < length xs → (column_of shift (at i d).x ≤ℤ column_of shift (at j d).x) × (column_of shift (at i d).x ≡ column_of shift (at j d).x → (at i d).y ≤ℤ (at j d).y)
  turn_at i j d h l =
      let points = map (point_of whole) xs in
      let long : length points ≡ length xs = length-map xs (point_of whole) in
      let strict = IsStrictlySortedBy-from_test (tile_cmp_total shift) points s in
      let less = Less-from_sorted (tile_cmp shift) points i j (point_of whole d) strict h (omega (arith, l, long)) in
      in_turn shift (at i d) (at j d) (sym (ap₂ (tile_cmp shift) (at_map i d (omega (arith, h, l))) (at_map j d l)) ∙ less)

  -- what the searches for a height in a column, and for a later column, need
  pub before_is_partitioned : (column height : ℤ) → IsPartitionedBy (λ p. is_before shift column height (point_of whole p)) xs
  before_is_partitioned column height i j d h l passes = by (nat_lt i j) refl
    where
      by : (b : Bool) → nat_lt i j ≡ b → is_before shift column height (at i d) ≡ true
      by true e =
          let turn = turn_at i j d (lt_is i j e) l in
          before_stays (column_of shift (at i d).x) (column_of shift (at j d).x) (at i d).y (at j d).y column height turn.0 turn.1 passes
      by false e = subst (λ k. is_before shift column height (at k d) ≡ true) (sym (same_index i j h e)) passes

  pub up_to_is_partitioned : (column : ℤ) → IsPartitionedBy (λ p. is_up_to shift column (point_of whole p)) xs
  up_to_is_partitioned column i j d h l passes = by (nat_lt i j) refl
    where
      by : (b : Bool) → nat_lt i j ≡ b → is_up_to shift column (at i d) ≡ true
      by true e = let first = (turn_at i j d (lt_is i j e) l).0 in up_to_stays (column_of shift (at i d).x) (column_of shift (at j d).x) column first passes
      by false e = subst (λ k. is_up_to shift column (at k d) ≡ true) (sym (same_index i j h e)) passes

-- ---- what is passed over

module _ {X : Type 0} (s : Pair) (f : X → Point) (xs : List X) (found now : List ℕ) where
  -- elements whose pixels are not met add nothing
  pub nothing_more : (n i : ℕ) (d : X) → i + n ≤ length xs → ((k : ℕ) → i ≤ k → k < i + n → meets_pixel s (f (slice_index_or xs k d)) ≡ false)
      → now ≡ found ++ met_places_from 0 s (map f (take i xs)) → now ≡ found ++ met_places_from 0 s (map f (take (i + n) xs))
  nothing_more zero i d h none e = e ∙ ap (λ k. found ++ met_places_from 0 s (map f (take k xs))) (omega arith)
  nothing_more (suc n) i d h none e =
      let x = slice_index_or xs i d in
      let here : now ≡ now ++ met_places_from (0 + i) s (f x ∷ []) = sym (append-nil now) ∙ ap (λ l. now ++ l) (sym (passed_one s (0 + i) (f x) (none i (omega arith) (omega arith)))) in
      let next = met_one_more s f xs 0 i x found now now (omega (arith, h)) (own_default xs i d (omega (arith, h))) e here in
      nothing_more n (i + 1) d (omega (arith, h)) (λ k low high. none k (omega (arith, low)) (omega (arith, high))) next
      ∙ ap (λ k. found ++ met_places_from 0 s (map f (take k xs))) (omega arith)

-- ---- points outside of the box of a segment

off_left : (u v z : ℤ) → u ≤ℤ v → z <ℤ u → is_between u v z ≡ false
off_left u v z h k = grind (arith, ints)

off_right : (u v z : ℤ) → u ≤ℤ v → v <ℤ z → is_between u v z ≡ false
off_right u v z h k = grind (arith, ints)

off_below : (u v z low : ℤ) → low ≡ int_min u v → z <ℤ low → is_between u v z ≡ false
off_below u v z low e k = grind (arith, ints)

off_above : (u v z high : ℤ) → high ≡ int_max u v → high <ℤ z → is_between u v z ≡ false
off_above u v z high e k = grind (arith, ints)

missed_in_x : (s : Pair) (p : Point) → is_between s.a.x s.b.x p.x ≡ false → meets_pixel s p ≡ false
unfolding meets_pixel is_in_box
missed_in_x s p e = rw e refl

neither : (a b c : Bool) → b ≡ false → ((a && b) && c) ≡ false
neither true b c e = rw e refl
neither false b c e = refl

missed_in_y : (s : Pair) (p : Point) → is_between s.a.y s.b.y p.y ≡ false → meets_pixel s p ≡ false
unfolding meets_pixel is_in_box
missed_in_y s p e = neither _ _ _ e

pub lt_from : (x y : ℤ) → int_lt x y ≡ true → x <ℤ y
lt_from x y e = grind (arith, ints)

le_from : (x y : ℤ) → int_lt x y ≡ false → y ≤ℤ x
le_from x y e = grind (arith, ints)

-- a number in an earlier column is less
left_of : (shift : ℕ) (x y : ℤ) → column_of shift x <ℤ column_of shift y → x <ℤ y
left_of shift x y h = by (int_lt x y) refl
  where
    by : (b : Bool) → int_lt x y ≡ b → x <ℤ y
    by true e = lt_from x y e
    by false e = let rise = columns_rise shift y x (le_from x y e) in absurd (omega (arith, ints, h, rise))

in_earlier : (own column y height : ℤ) → (int_lt own column || (int_eq own column && int_lt y height)) ≡ true → int_lt own column ≡ false → y <ℤ height
in_earlier own column y height h e = grind (arith, ints)

in_one : (own column y height : ℤ) → column ≤ℤ own → (int_lt own column || (int_eq own column && int_lt y height)) ≡ true → y <ℤ height
in_one own column y height le h = grind (arith, ints)

same_column_at : (own column : ℤ) → column ≤ℤ own → int_le own column ≡ true → column ≡ own
same_column_at own column h e = grind (arith, ints)

in_own_column : (own y height : ℤ) → y <ℤ height → (int_lt own own || (int_eq own own && int_lt y height)) ≡ true
in_own_column own y height h = grind (arith, ints)

up_to_own : (own : ℤ) → int_le own own ≡ true
up_to_own own = grind (arith, ints)

-- ---- a search for the points in the box of a segment

module _ {I : Type 0} (whole : I → ℤ) (shift : ℕ) (xs : List (IntPoint I)) (sorted : AreByColumns whole shift xs) (s : Pair) (ordered : IsTrue (is_ordered s)) (low high : ℤ) (is_low : low ≡ int_min s.a.y s.b.y) (is_high : high ≡ int_max s.a.y s.b.y) (found now : List ℕ) where
  abbrev here : ℕ → IntPoint I → Point
  here k d = point_of whole (slice_index_or xs k d)

  abbrev Done : ℕ → Type 0
  Done k = now ≡ found ++ met_places_from 0 s (map (point_of whole) (take k xs))

  missed_before : (p : Point) → is_before shift (column_of shift s.a.x) low p ≡ true → meets_pixel s p ≡ false
  missed_before p h = by (int_lt (column_of shift p.x) (column_of shift s.a.x)) refl
    where
      by : (b : Bool) → int_lt (column_of shift p.x) (column_of shift s.a.x) ≡ b → meets_pixel s p ≡ false
      by true e = missed_in_x s p (off_left s.a.x s.b.x p.x (ordered_in_x s ordered) (left_of shift p.x s.a.x (lt_from _ _ e)))
      by false e = missed_in_y s p (off_below s.a.y s.b.y p.y low is_low (in_earlier (column_of shift p.x) (column_of shift s.a.x) p.y low h e))

  -- between two places nothing is met
  between : (place first : ℕ) (d : IntPoint I) → place ≤ first → first ≤ length xs → ((k : ℕ) → place ≤ k → k < first → meets_pixel s (here k d) ≡ false) → Done place → Done first
  between place first d h l none e =
      let split : place + (first - place) ≡ first = omega (arith, h) in
      subst Done split (nothing_more s (point_of whole) xs found now (first - place) place d (omega (arith, h, l)) (λ k low high. none k low (omega (arith, high, h))) e)

  pub begin : (first : ℕ) (d : IntPoint I) → IsFirstFailing whole (is_before shift (column_of shift s.a.x) low) xs first → first ≤ length xs → Done 0 → Done first
  begin first d is l e = between 0 first d (omega arith) l (λ k from upto. missed_before (here k d) (is.0 k d from upto)) e

  -- the first place whose test fails is behind one that passes it
  is_behind : (test : Point → Bool) (place first : ℕ) (d : IntPoint I) → IsFirstFailing whole test xs first → place < length xs → test (here place d) ≡ true → place < first
  is_behind test place first d is l h = by (nat_lt place first) refl
    where
      by : (b : Bool) → nat_lt place first ≡ b → place < first
      by true e = lt_is place first e
      by false e = absurd (false≢true (sym (is.1 place d (not_lt place first e) l) ∙ h))

  pub upward : (place first : ℕ) (d : IntPoint I) → place < length xs → (here place d).y <ℤ low → IsFirstFailing whole (is_before shift (column_of shift (here place d).x) low) xs first → first ≤ length xs → Done place → (place < first) × Done first
  upward place first d h under is l e =
      let column = column_of shift (here place d).x in
      let behind = is_behind (is_before shift column low) place first d is h (in_own_column column (here place d).y low under) in
      (behind, between place first d (omega (arith, behind)) l none e)
    where
      none : (k : ℕ) → place ≤ k → k < first → meets_pixel s (here k d) ≡ false
      none k from upto =
          let first_le = columns_at k from upto in
          missed_in_y s (here k d) (off_below s.a.y s.b.y (here k d).y low is_low (in_one (column_of shift (here k d).x) (column_of shift (here place d).x) (here k d).y low first_le (is.0 k d (omega arith) upto)))
        where
          columns_at : (k : ℕ) → place ≤ k → k < first → column_of shift (here place d).x ≤ℤ column_of shift (here k d).x
          columns_at k from upto = by (nat_lt place k) refl
            where
              by : (b : Bool) → nat_lt place k ≡ b → column_of shift (here place d).x ≤ℤ column_of shift (here k d).x
              by true e = (turn_at whole shift xs sorted place k d (lt_is place k e) (omega (arith, upto, l))).0
              by false e = subst (λ j. column_of shift (here place d).x ≤ℤ column_of shift (here j d).x) (same_index place k from e) (omega (arith, ints))

  pub behind : (place first : ℕ) (d : IntPoint I) → place < length xs → high <ℤ (here place d).y → IsFirstFailing whole (is_up_to shift (column_of shift (here place d).x)) xs first → first ≤ length xs → Done place → (place < first) × Done first
  behind place first d h above is l e =
      let column = column_of shift (here place d).x in
      let later = is_behind (is_up_to shift column) place first d is h (up_to_own column) in
      (later, between place first d (omega (arith, later)) l none e)
    where
      none : (k : ℕ) → place ≤ k → k < first → meets_pixel s (here k d) ≡ false
      none k from upto = by (nat_lt place k) refl
        where
          by : (b : Bool) → nat_lt place k ≡ b → meets_pixel s (here k d) ≡ false
          by true e =
              let turn = turn_at whole shift xs sorted place k d (lt_is place k e) (omega (arith, upto, l)) in
              let higher = turn.1 (same_column_at (column_of shift (here k d).x) (column_of shift (here place d).x) turn.0 (is.0 k d (omega arith) upto)) in
              missed_in_y s (here k d) (off_above s.a.y s.b.y (here k d).y high is_high (omega (arith, ints, above, higher)))
          by false e = subst (λ j. meets_pixel s (here j d) ≡ false) (same_index place k from e) (missed_in_y s (here place d) (off_above s.a.y s.b.y (here place d).y high is_high above))

  pub beyond : (place : ℕ) (d : IntPoint I) → place < length xs → column_of shift s.b.x <ℤ column_of shift (here place d).x → Done place → now ≡ found ++ met_places_from 0 s (map (point_of whole) xs)
  beyond place d h far e =
      between place (length xs) d (omega (arith, h)) (omega arith) none e
      ∙ ap (λ l. found ++ met_places_from 0 s (map (point_of whole) l)) (take_length xs)
    where
      none : (k : ℕ) → place ≤ k → k < length xs → meets_pixel s (here k d) ≡ false
      none k from upto = by (nat_lt place k) refl
        where
          at_column : (q : Point) → column_of shift s.b.x <ℤ column_of shift q.x → meets_pixel s q ≡ false
          at_column q c = missed_in_x s q (off_right s.a.x s.b.x q.x (ordered_in_x s ordered) (left_of shift s.b.x q.x c))

          by : (b : Bool) → nat_lt place k ≡ b → meets_pixel s (here k d) ≡ false
          by true e =
              let turn = turn_at whole shift xs sorted place k d (lt_is place k e) upto in
              at_column (here k d) (omega (arith, ints, far, turn.0))
          by false e = subst (λ j. meets_pixel s (here j d) ≡ false) (same_index place k from e) (at_column (here place d) far)
