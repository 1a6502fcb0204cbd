-- Heights of cuts as code computes them: their products fit, and they lie between the heights of the step's ends.
use Rattle.std.proofs.Common.{◌≡◌, inl, inr, refl, arith, ◌+◌, ◌*◌, ◌≤◌, FitsSigned, w64, true, IsTrue}
use Rattle.std.specs.Prelude.{◌≢◌, ℤ, pos, ◌+ℤ◌, ◌-ℤ◌, ◌*ℤ◌, unsigned_abs}
use Rattle.std.specs.Int.{int_signum, int_div_euclid}
use Rattle.std.proofs.lemmas.Int.{ints, fits_signed_from_abs}
use Rattle.std.proofs.lemmas.Bool.{and_parts, and_from}
use Rattle.overlay_geometry.specs.Coordinates.{is_coordinate, greatest_difference, greatest_product}
use Rattle.overlay_geometry.specs.Points.{Point, Pair, is_between, is_in_box}
use Rattle.overlay_geometry.proofs.laws.geometry.Coordinates.{product_bound}
use Rattle.overlay_intersections.specs.Crossing.{quotient, nearest_upward}
use Rattle.overlay_intersections.proofs.laws.crossings.Offsets.{signum_times_bound, signum_fits, nearest_upward_is, abs_positive}
use Rattle.overlay_tiles.specs.Tiles.{Line, upright, level, is_amid, parts, height_at}
use Rattle.overlay_tiles.proofs.laws.Refinements.{IsAmid, IsAmong, amid-tested}
use Rattle.overlay_tiles.proofs.laws.Cuts.{height_among}

-- what code forms of a way, a part and a whole
pub record PartFits (way part whole : ℤ) : Type 0 where
  pub sign_fits : FitsSigned w64 (int_signum whole)
  pub product_fits : FitsSigned w64 (way *ℤ part)
  pub top_fits : FitsSigned w64 (int_signum whole *ℤ (way *ℤ part))
  pub twice_fits : FitsSigned w64 (pos 2 *ℤ (int_signum whole *ℤ (way *ℤ part)))
  pub bottom_fits : FitsSigned w64 (pos (unsigned_abs whole))
  pub sum_fits : FitsSigned w64 (pos 2 *ℤ (int_signum whole *ℤ (way *ℤ part)) +ℤ pos (unsigned_abs whole))
  pub divisor_fits : FitsSigned w64 (pos 2 *ℤ pos (unsigned_abs whole))

small : (z : ℤ) → unsigned_abs z ≤ 2 * greatest_product + greatest_difference → FitsSigned w64 z
small z h = fits_signed_from_abs w64 z (omega arith)

pub part_fits : (way part whole : ℤ) → unsigned_abs way ≤ greatest_difference → unsigned_abs part ≤ greatest_difference → unsigned_abs whole ≤ greatest_difference → PartFits way part whole
part_fits way part whole hw hp hd =
    let product = product_bound way part hw hp in
    let top = signum_times_bound whole (way *ℤ part) greatest_product product in
    record {
      sign_fits = signum_fits whole;
      product_fits = small (way *ℤ part) (omega (arith, product));
      top_fits = small (int_signum whole *ℤ (way *ℤ part)) (omega (arith, top));
      twice_fits = small (pos 2 *ℤ (int_signum whole *ℤ (way *ℤ part))) (twice (int_signum whole *ℤ (way *ℤ part)) top);
      bottom_fits = small (pos (unsigned_abs whole)) (size whole hd);
      sum_fits = small (pos 2 *ℤ (int_signum whole *ℤ (way *ℤ part)) +ℤ pos (unsigned_abs whole)) (sum (int_signum whole *ℤ (way *ℤ part)) whole top hd);
      divisor_fits = small (pos 2 *ℤ pos (unsigned_abs whole)) (twice_size whole hd);
    }
  where
    twice : (t : ℤ) → unsigned_abs t ≤ greatest_product → unsigned_abs (pos 2 *ℤ t) ≤ 2 * greatest_product + greatest_difference
    twice t h = omega (arith, ints)

    size : (d : ℤ) → unsigned_abs d ≤ greatest_difference → unsigned_abs (pos (unsigned_abs d)) ≤ 2 * greatest_product + greatest_difference
    size d h = omega (arith, ints)

    sum : (t d : ℤ) → unsigned_abs t ≤ greatest_product → unsigned_abs d ≤ greatest_difference → unsigned_abs (pos 2 *ℤ t +ℤ pos (unsigned_abs d)) ≤ 2 * greatest_product + greatest_difference
    sum t d h k = omega (arith, ints)

    twice_size : (d : ℤ) → unsigned_abs d ≤ greatest_difference → unsigned_abs (pos 2 *ℤ pos (unsigned_abs d)) ≤ 2 * greatest_product + greatest_difference
    twice_size d h = omega (arith, ints)

pub rounded_part_is : (way part whole : ℤ) → whole ≢ pos 0 →
    nearest_upward (quotient way part whole) ≡ int_div_euclid (pos 2 *ℤ (int_signum whole *ℤ (way *ℤ part)) +ℤ pos (unsigned_abs whole)) (pos 2 *ℤ pos (unsigned_abs whole))
unfolding quotient
rounded_part_is way part whole some = nearest_upward_is (int_signum whole *ℤ (way *ℤ part)) (pos (unsigned_abs whole)) (abs_positive whole some)

pub height_is : (a b c d z a' b' c' d' z' r : ℤ) → a' ≡ a → b' ≡ b → c' ≡ c → d' ≡ d → z' ≡ z → r ≡ nearest_upward (quotient (d' -ℤ c') (z' -ℤ a') (b' -ℤ a')) → c' +ℤ r ≡ height_at a b c d z
unfolding height_at
height_is a b c d z a' b' c' d' z' r ea eb ec ed ez e = rw (e, ea, eb, ec, ed, ez) refl

-- between the heights of the ends
pub height_between : (a b c d z : ℤ) → is_amid a b z ≡ true → IsTrue (is_between c d (height_at a b c d z))
height_between a b c d z e = tested c d (height_at a b c d z) (height_among a b c d z (amid-tested a b z e))
  where
    tested : (c d r : ℤ) → IsAmong c d r → IsTrue (is_between c d r)
    tested c d r (inl h) = grind (arith, ints, h.0, h.1)
    tested c d r (inr h) = grind (arith, ints, h.0, h.1)

pub between_in_range : (least greatest c d z : ℤ) → IsTrue (is_coordinate least greatest c) → IsTrue (is_coordinate least greatest d) → IsTrue (is_between c d z) → IsTrue (is_coordinate least greatest z)
between_in_range least greatest c d z h k b = grind (arith, ints)

-- what lies strictly between is in range, and the two differ
pub amid_in_range : (least greatest a b z : ℤ) → IsTrue (is_coordinate least greatest a) → IsTrue (is_coordinate least greatest b) → is_amid a b z ≡ true → IsTrue (is_coordinate least greatest z)
amid_in_range least greatest a b z h k e = by (amid-tested a b z e)
  where
    by : IsAmid a b z → IsTrue (is_coordinate least greatest z)
    by (inl l) = grind (arith, ints, l.0, l.1)
    by (inr l) = grind (arith, ints, l.0, l.1)

pub ends_differ : (a b z : ℤ) → is_amid a b z ≡ true → (b -ℤ a) ≢ pos 0
ends_differ a b z e = by (amid-tested a b z e)
  where
    by : IsAmid a b z → (b -ℤ a) ≢ pos 0
    by (inl l) d = omega (arith, ints, l.0, l.1, d)
    by (inr l) d = omega (arith, ints, l.0, l.1, d)

-- ---- in the box of a step

amid_between : (a b z : ℤ) → is_amid a b z ≡ true → IsTrue (is_between a b z)
amid_between a b z e = by (amid-tested a b z e)
  where
    by : IsAmid a b z → IsTrue (is_between a b z)
    by (inl l) = grind (arith, ints, l.0, l.1)
    by (inr l) = grind (arith, ints, l.0, l.1)

pub in_box_by_x : (s : Pair) (x y : ℤ) → is_amid s.a.x s.b.x x ≡ true → IsTrue (is_between s.a.y s.b.y y) → IsTrue (is_in_box s (record { x = x; y = y }))
unfolding is_in_box
in_box_by_x s x y h k = and_from _ _ (amid_between s.a.x s.b.x x h) k

pub in_box_by_y : (s : Pair) (x y : ℤ) → IsTrue (is_between s.a.x s.b.x x) → is_amid s.a.y s.b.y y ≡ true → IsTrue (is_in_box s (record { x = x; y = y }))
unfolding is_in_box
in_box_by_y s x y h k = and_from _ _ h (amid_between s.a.y s.b.y y k)

end_between : (a b : ℤ) → IsTrue (is_between a b a) × IsTrue (is_between a b b)
end_between a b = (grind (arith, ints), grind (arith, ints))

pub ends_in_box : (s : Pair) → IsTrue (is_in_box s s.a) × IsTrue (is_in_box s s.b)
unfolding is_in_box
ends_in_box s = (and_from _ _ (end_between s.a.x s.b.x).0 (end_between s.a.y s.b.y).0, and_from _ _ (end_between s.a.x s.b.x).1 (end_between s.a.y s.b.y).1)

amid_of_box : (a b u v z : ℤ) → IsTrue (is_between a b u) → IsTrue (is_between a b v) → is_amid u v z ≡ true → is_amid a b z ≡ true
amid_of_box a b u v z h k e = by (amid-tested u v z e)
  where
    by : IsAmid u v z → is_amid a b z ≡ true
    by (inl l) = grind (arith, ints, l.0, l.1)
    by (inr l) = grind (arith, ints, l.0, l.1)

-- a line that parts two points of the box parts the ends
pub parts_of_box : (s : Pair) (line : Line) (u v : Point) → IsTrue (is_in_box s u) → IsTrue (is_in_box s v) → parts line u v ≡ true → IsTrue (parts line s.a s.b)
unfolding parts is_in_box
parts_of_box s (upright x) u v h k e = amid_of_box s.a.x s.b.x u.x v.x x (and_parts _ _ h).0 (and_parts _ _ k).0 e
parts_of_box s (level y) u v h k e = amid_of_box s.a.y s.b.y u.y v.y y (and_parts _ _ h).1 (and_parts _ _ k).1 e
