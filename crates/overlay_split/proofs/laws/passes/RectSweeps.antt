-- A sweep over rectangles in order of their left borders: which of them meet another.
use Rattle.std.proofs.Common.{◌≡◌, refl, sym, ap, subst, ◌∙◌, inl, inr, arith, ℕ, zero, suc, ◌+◌, ◌-◌, ◌<◌, ◌≤◌, Bool, true, false, ◌&&◌, IsTrue, List, [], ◌∷◌, length, get_or}
use Rattle.std.specs.Prelude.{ℤ, ◌≤ℤ◌, ◌<ℤ◌, int_le, Contains, IsPermutation, IsSortedByKey}
use Rattle.std.specs.List.{AllWithin}
use Rattle.std.specs.Ordering.{int_cmp, is_lt}
use Rattle.std.proofs.lemmas.Bool.{cases_lt}
use Rattle.std.proofs.lemmas.Int.{ints, clamps}
use Rattle.std.proofs.lemmas.List.{get_or_default, get_or-map, length-map}
use Rattle.std.proofs.lemmas.List.Elements.{recursion_from_All}
use Rattle.std.proofs.lemmas.List.Sorted.{Contains-permutation}
use Rattle.overlay_geometry.specs.RangeOf.{rect_of}
use Rattle.overlay_geometry.specs.declared.geom.rect.IntRect.{IntRect}
use Rattle.overlay_geometry.proofs.laws.lists.Elements.{Contains-from_Has, Has-from_Contains}
use Rattle.overlay_geometry.specs.Points.{Pair, is_ordered}
use Rattle.overlay_geometry.specs.Ranges.{Rect, do_rects_meet}
use Rattle.overlay_geometry.proofs.laws.geometry.Comparisons.{int_lt-by_cmp}
use Rattle.overlay_geometry.proofs.laws.geometry.Points.{ordered_x}
use Rattle.overlay_geometry.proofs.laws.integers.Tests.{lt-tested_false}
use Rattle.overlay_geometry.proofs.laws.lists.Lists.{list_any-from_none, Has, Has-map, Has-map_out}
use Rattle.overlay_split.specs.steps.ChangedBoxes.{box_of, meets_one, LiesIn, AreFromLeft, rects_of}

-- none meets where none of those before the end does
pub none_meet : (rects : List Rect) (around : Rect) (n : ℕ) → AllWithin (λ r. do_rects_meet r around ≡ false) rects 0 n → length rects ≤ n → false ≡ meets_one rects around
none_meet rects around n h le = sym (list_any-from_none (λ r. do_rects_meet r around) rects (recursion_from_All (λ r. do_rects_meet r around ≡ false) rects (λ k d lt. h k d (omega arith) (omega (arith, lt, le)))))

-- those that follow begin no further left
not_left : (u v : ℤ) → is_lt (int_cmp v u) ≡ false → u ≤ℤ v
not_left u v h = lt-tested_false v u (sym (int_lt-by_cmp v u) ∙ h)

up_through : (u v w : ℤ) → u ≤ℤ v → v ≤ℤ w → u ≤ℤ w
up_through u v w h k = omega (arith, ints, h, k)

past_through : (u v w z : ℤ) → u ≡ v → z <ℤ v → u ≤ℤ w → z <ℤ w
past_through u v w z e h k = omega (arith, ints, e, h, k)

starts_later : (rects : List Rect) → AreFromLeft rects → (i n : ℕ) (d : Rect) → i + n < length rects → (get_or rects i d).min_x ≤ℤ (get_or rects (i + n) d).min_x
starts_later rects sorted i zero d lt =
    let e : i ≡ i + 0 = omega arith in
    let same : (get_or rects i d).min_x ≤ℤ (get_or rects i d).min_x = omega (arith, ints) in
    subst (λ k. (get_or rects i d).min_x ≤ℤ (get_or rects k d).min_x) e same
starts_later rects sorted i (suc n) d lt =
    let before = starts_later rects sorted i n d (omega (arith, lt)) in
    let step = not_left (get_or rects (i + n) d).min_x (get_or rects (i + n + 1) d).min_x (sorted (i + n) d (omega arith) (omega (arith, lt))) in
    let e : i + n + 1 ≡ i + suc n = omega arith in
    subst (λ k. (get_or rects i d).min_x ≤ℤ (get_or rects k d).min_x) e (up_through (get_or rects i d).min_x (get_or rects (i + n) d).min_x (get_or rects (i + n + 1) d).min_x before step)

begins_past : (r around : Rect) → around.max_x <ℤ r.min_x → do_rects_meet r around ≡ false
begins_past r around h = ap (λ b. b && int_le around.min_x r.max_x && int_le r.min_y around.max_y && int_le around.min_y r.max_y) (not_le r.min_x around.max_x h)
  where
    not_le : (u v : ℤ) → v <ℤ u → int_le u v ≡ false
    not_le u v h = grind (arith, ints)

pub ends_before : (r around : Rect) → r.max_x <ℤ around.min_x → do_rects_meet r around ≡ false
ends_before r around h = rw (not_le around.min_x r.max_x h) (no_second (int_le r.min_x around.max_x))
  where
    not_le : (u v : ℤ) → v <ℤ u → int_le u v ≡ false
    not_le u v h = grind (arith, ints)

    no_second : (b : Bool) → (b && false && int_le r.min_y around.max_y && int_le around.min_y r.max_y) ≡ false
    no_second true = refl
    no_second false = refl

-- none meets where the next begins past the end
pub none_meet_later : (rects : List Rect) (around : Rect) (n : ℕ) (next : Rect) → AreFromLeft rects → AllWithin (λ r. do_rects_meet r around ≡ false) rects 0 n → get_or rects n next ≡ next → around.max_x <ℤ next.min_x → false ≡ meets_one rects around
none_meet_later rects around n next sorted before is past =
    none_meet rects around (length rects) (λ k d low high. elim (cases_lt k n) [
      | inl lt ↦ before k d low lt
      | inr le ↦ begins_past (get_or rects k d) around (starts k d high le)
    ]) (omega arith)
  where
    starts : (k : ℕ) (d : Rect) → k < length rects → n ≤ k → around.max_x <ℤ (get_or rects k d).min_x
    starts k d high le =
        let later = starts_later rects sorted n (k - n) d (omega (arith, high, le)) in
        let at : n + (k - n) ≡ k = omega (arith, le) in
        let same : get_or rects n d ≡ next = get_or_default rects n d next (omega (arith, high, le)) ∙ is in
        past_through (get_or rects n d).min_x next.min_x (get_or rects k d).min_x around.max_x (ap (λ r. r.min_x) same) past (subst (λ j. (get_or rects n d).min_x ≤ℤ (get_or rects j d).min_x) at later)

-- ---- the box of a pair

pub box_holds_a : (s : Pair) → IsTrue (is_ordered s) → LiesIn (box_of s) s.a
box_holds_a s o = let x = ordered_x s o in record {
  left = omega (arith, ints);
  right = omega (arith, ints, x);
  low = omega (arith, ints, clamps);
  high = omega (arith, ints, clamps);
}

pub box_holds_b : (s : Pair) → IsTrue (is_ordered s) → LiesIn (box_of s) s.b
box_holds_b s o = let x = ordered_x s o in record {
  left = omega (arith, ints, x);
  right = omega (arith, ints);
  low = omega (arith, ints, clamps);
  high = omega (arith, ints, clamps);
}

-- ---- rectangles of code

-- those that are sorted by their left borders are in order
pub from_left : {I : Type 0} (whole : I → ℤ) (boxes : List (IntRect I)) → IsSortedByKey (λ b. whole b.min_x) int_cmp boxes → AreFromLeft (rects_of whole boxes)
from_left whole [] h = λ k d low high. absurd (omega (arith, high))
from_left whole (b ∷ boxes) h = λ k d low high.
    let size = length-map (b ∷ boxes) (rect_of whole) in
    let this = get_or-map (rect_of whole) (b ∷ boxes) k b d (omega (arith, high, size)) in
    let next = get_or-map (rect_of whole) (b ∷ boxes) (k + 1) b d (omega (arith, high, size)) in
    rw (this, next) (h k b low (omega (arith, high, size)))

-- a permutation has the same rectangles
pub has_permuted : {I : Type 0} (whole : I → ℤ) (boxes sorted : List (IntRect I)) (r : Rect) → IsPermutation boxes sorted → Contains (rects_of whole boxes) r → Contains (rects_of whole sorted) r
has_permuted whole boxes sorted r p i =
    let (b, j, e) = Has-map_out (rect_of whole) boxes r (Has-from_Contains (rects_of whole boxes) r i) in
    let k = Has-from_Contains sorted b (Contains-permutation boxes sorted b p (Contains-from_Has boxes b j)) in
    Contains-from_Has (rects_of whole sorted) r (subst (Has (rects_of whole sorted)) e (Has-map (rect_of whole) sorted b k))
