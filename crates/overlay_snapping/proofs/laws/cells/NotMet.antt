-- Points that a segment does not meet: its ends, and those outside its box.
use Rattle.std.proofs.Common.{◌≡◌, refl, Bool, true, false, not, ◌&&◌}
use Rattle.std.proofs.lemmas.Bool.{and_parts}
use Rattle.overlay_geometry.specs.Points.{Point, Pair, is_end, is_in_box}
use Rattle.overlay_snapping.specs.Pixels.{meets_pixel, is_near_line}
use Rattle.overlay_snapping.specs.steps.Met.{is_met}

pub and_false : (b : Bool) → (b && false) ≡ false
and_false true = refl
and_false false = refl

and_true : (b : Bool) → (b && true) ≡ b
and_true true = refl
and_true false = refl

pub end_not_met : (s : Pair) (p : Point) → is_end s p ≡ true → is_met s p ≡ false
end_not_met s p e = rw e (and_false (meets_pixel s p))

pub outside_not_met : (s : Pair) (p : Point) → is_in_box s p ≡ false → is_met s p ≡ false
unfolding meets_pixel
outside_not_met s p e = rw e refl

pub no_end_met : (s : Pair) (p : Point) → is_end s p ≡ false → is_met s p ≡ meets_pixel s p
no_end_met s p e = rw e (and_true (meets_pixel s p))

-- in the box, all but the ends are met near whose pixels the line passes
pub inner_met : (s : Pair) (p : Point) → (is_in_box s p && not (is_end s p)) ≡ true → is_met s p ≡ is_near_line s p
unfolding meets_pixel
inner_met s p h = by (is_in_box s p) (is_end s p) h
  where
    by : (b e : Bool) → (b && not e) ≡ true → ((b && is_near_line s p) && not e) ≡ is_near_line s p
    by false e h = absurd (cc h)
    by true true h = absurd (cc h)
    by true false h = and_true (is_near_line s p)

pub not_inner_not_met : (s : Pair) (p : Point) → (is_in_box s p && not (is_end s p)) ≡ false → is_met s p ≡ false
unfolding meets_pixel
not_inner_not_met s p h = by (is_in_box s p) (is_end s p) h
  where
    by : (b e : Bool) → (b && not e) ≡ false → ((b && is_near_line s p) && not e) ≡ false
    by false e h = refl
    by true true h = and_false (is_near_line s p)
    by true false h = absurd (cc h)

pub met_in_box : (s : Pair) (p : Point) → is_met s p ≡ true → is_in_box s p ≡ true
unfolding meets_pixel
met_in_box s p h = (and_parts (is_in_box s p) _ (and_parts (meets_pixel s p) (not (is_end s p)) h).0).0

pub met_meets_pixel : (s : Pair) (p : Point) → is_met s p ≡ true → meets_pixel s p ≡ true
met_meets_pixel s p h = (and_parts (meets_pixel s p) (not (is_end s p)) h).0
