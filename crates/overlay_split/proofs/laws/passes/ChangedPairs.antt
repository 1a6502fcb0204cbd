-- After a pass, two pairs that are not both near the rectangles around what it cut are apart.
use Rattle.std.proofs.Common.{◌≡◌, refl, sym, ap, subst, ◌∙◌, ◌⊎◌, inl, inr, arith, Bool, true, false, ◌&&◌, IsTrue, List, [], ◌∷◌}
use Rattle.std.specs.Prelude.{Contains, int_le, ℤ, ◌≤ℤ◌, ◌<ℤ◌}
use Rattle.std.specs.Int.{int_min, int_max}
use Rattle.std.specs.List.{AllByRecursion}
use Rattle.std.proofs.lemmas.Int.{ints, clamps}
use Rattle.std.proofs.lemmas.Bool.{both_ways, and_from}
use Rattle.overlay_geometry.specs.Meeting.{are_apart}
use Rattle.overlay_geometry.specs.Points.{Point, Pair, is_ordered}
use Rattle.overlay_geometry.specs.Ranges.{Rect, do_rects_meet, heights, is_off_range}
use Rattle.overlay_geometry.proofs.laws.lists.Lists.{Has, Has-map, Has-map_out, AllByRecursion-weaker, AllByRecursion-at, AllByRecursion-map, AllByRecursion-from_Has, list_all-at, list_any-at, list_any-from_Has}
use Rattle.overlay_geometry.proofs.laws.lists.Elements.{Contains-from_Has, Has-from_Contains}
use Rattle.overlay_base.specs.Segments.{WholeSegment, pairs, is_map, are_ordered}
use Rattle.overlay_base.proofs.laws.geometry.Apart.{are_apart-back, apart_in_x, apart_in_y}
use Rattle.overlay_base.proofs.laws.joins.Maps.{are_ordered-map}
use Rattle.overlay_intersections.specs.Marks.{Placing}
use Rattle.overlay_intersections.specs.PassMarks.{marks_on}
use Rattle.overlay_cuts.specs.Path.{pieces}
use Rattle.overlay_cuts.specs.Pass.{pieces_of, cut, pass}
use Rattle.overlay_split.specs.steps.ChangedBoxes.{box_of, is_near, LiesIn, AreAround, AreApartElsewhere}
use Rattle.overlay_cuts.proofs.laws.paths.Boxes.{AtEnds, pieces_have}
use Rattle.overlay_cuts.proofs.laws.paths.Cuts.{AllByRecursion-cut, AllByRecursion-join}
use Rattle.overlay_cuts.proofs.laws.planar.Unmarked.{pieces_unmarked}
use Rattle.overlay_cuts.proofs.laws.planar.ExactMarks.{In-ordered}
use Rattle.overlay_split.proofs.laws.passes.UnmarkedPairs.{unmarked_are_apart}

-- ---- a pair and a rectangle

le_from : (u v : ℤ) → u ≤ℤ v → int_le u v ≡ true
le_from u v h = grind (arith, ints)

lt_of_not : (u v : ℤ) → int_le u v ≡ false → v <ℤ u
lt_of_not u v h = grind (arith, ints)

-- a pair in a rectangle meets it
inside_meets : (r : Rect) (p : Pair) → LiesIn r p.a → LiesIn r p.b → do_rects_meet r (box_of p) ≡ true
inside_meets r p a b =
    and_from (int_le r.min_x p.b.x && int_le p.a.x r.max_x && int_le r.min_y (int_max p.a.y p.b.y)) (int_le (int_min p.a.y p.b.y) r.max_y)
    (and_from (int_le r.min_x p.b.x && int_le p.a.x r.max_x) (int_le r.min_y (int_max p.a.y p.b.y))
    (and_from (int_le r.min_x p.b.x) (int_le p.a.x r.max_x) (le_from _ _ b.left) (le_from _ _ a.right))
    (le_from r.min_y (int_max p.a.y p.b.y) (let low = a.low in omega (arith, ints, clamps, low))))
    (le_from (int_min p.a.y p.b.y) r.max_y (let high = a.high in omega (arith, ints, clamps, high)))

four : (a b c d : Bool) → (a && b && c && d) ≡ false → (a ≡ false) ⊎ ((b ≡ false) ⊎ ((c ≡ false) ⊎ (d ≡ false)))
four false b c d h = inl refl
four true false c d h = inr (inl refl)
four true true false d h = inr (inr (inl refl))
four true true true false h = inr (inr (inr refl))
four true true true true h = absurd (cc)

above : (s p : Pair) (z : ℤ) → int_max s.a.y s.b.y <ℤ z → z ≤ℤ p.a.y → z ≤ℤ p.b.y → IsTrue (is_off_range (heights s) p)
above s p z h k l = grind (arith, ints)

below : (s p : Pair) (z : ℤ) → z <ℤ int_min s.a.y s.b.y → p.a.y ≤ℤ z → p.b.y ≤ℤ z → IsTrue (is_off_range (heights s) p)
below s p z h k l = grind (arith, ints)

-- a pair in a rectangle is apart from one whose box does not meet it
off_rect : (r : Rect) (s p : Pair) → IsTrue (is_ordered s) → IsTrue (is_ordered p) → LiesIn r p.a → LiesIn r p.b → do_rects_meet r (box_of s) ≡ false → are_apart s p ≡ true
off_rect r s p os op a b off = elim (four (int_le r.min_x s.b.x) (int_le s.a.x r.max_x) (int_le r.min_y (int_max s.a.y s.b.y)) (int_le (int_min s.a.y s.b.y) r.max_y) off) [
  | inl h ↦ (let less = lt_of_not r.min_x s.b.x h in let left = a.left in apart_in_x s p os op (omega (arith, ints, less, left)))
  | inr (inl h) ↦ (let less = lt_of_not s.a.x r.max_x h in let right = b.right in are_apart-back s p ∙ apart_in_x p s op os (omega (arith, ints, less, right)))
  | inr (inr (inl h)) ↦ apart_in_y s p (above s p r.min_y (lt_of_not r.min_y (int_max s.a.y s.b.y) h) a.low b.low)
  | inr (inr (inr h)) ↦ apart_in_y s p (below s p r.max_y (lt_of_not (int_min s.a.y s.b.y) r.max_y h) a.high b.high)
]

-- ---- a pass

either_far : (a b : Bool) → (a && b) ≡ false → (a ≡ false) ⊎ (b ≡ false)
either_far false b h = inl refl
either_far true b h = inr h

module _ (placing : Placing) (segments : List WholeSegment) (map : IsTrue (is_map segments)) (rects : List Rect) (around : AreAround (marks_on placing segments) (pairs segments) rects) where
  -- an old pair that is not marked, or one in a rectangle
  abbrev OldOrInside : Pair → Type 0
  OldOrInside p = (Contains (pairs segments) p × (marks_on placing segments p ≡ [])) ⊎ ((r : Rect) × Contains rects r × AtEnds (LiesIn r) p)

  of_segment : (s : WholeSegment) → Has segments s → AllByRecursion (λ p. OldOrInside p.pair) (pieces_of placing segments s)
  of_segment s i = by_marks (marks_on placing segments s.pair) refl
    where
      within : Has (pairs segments) s.pair
      within = Has-map (λ (u : WholeSegment). u.pair) segments s i

      by_marks : (marks : List Point) → marks_on placing segments s.pair ≡ marks → AllByRecursion (λ p. OldOrInside p.pair) (pieces s (marks_on placing segments s.pair))
      by_marks [] e =
          subst (AllByRecursion (λ p. OldOrInside p.pair)) (sym (ap (pieces s) e ∙ pieces_unmarked s (In-ordered segments (are_ordered-map segments map) s.pair within)))
          (inl (Contains-from_Has (pairs segments) s.pair within, e), tt)
      by_marks (m ∷ marks) e =
          let (r, j, h) = around s.pair (Contains-from_Has (pairs segments) s.pair within) (λ none. absurd (let f : m ∷ marks ≡ [] = sym e ∙ none in cc)) in
          AllByRecursion-weaker (λ p. AtEnds (LiesIn r) p.pair) (λ p. OldOrInside p.pair) (λ p k. inr (r, j, k)) (pieces s (marks_on placing segments s.pair))
          (pieces_have (LiesIn r) s (marks_on placing segments s.pair) (h.a, h.b) h.others)

  all_old_or_inside : AllByRecursion (λ s. OldOrInside s.pair) (pass placing segments)
  unfolding pass
  all_old_or_inside = AllByRecursion-join OldOrInside (cut placing segments) (AllByRecursion-cut (λ r. OldOrInside r.pair) (marks_on placing segments) segments (AllByRecursion-from_Has (λ s. AllByRecursion (λ r. OldOrInside r.pair) (pieces_of placing segments s)) segments of_segment))

  old_or_inside : (p : Pair) → Has (pairs (pass placing segments)) p → OldOrInside p
  old_or_inside p i = AllByRecursion-at OldOrInside (pairs (pass placing segments)) p (AllByRecursion-map OldOrInside (λ (s : WholeSegment). s.pair) (pass placing segments) all_old_or_inside) i

  inside_is_near : (r : Rect) (p : Pair) → Contains rects r → AtEnds (LiesIn r) p → is_near rects p ≡ true
  unfolding is_near
  inside_is_near r p i h = list_any-from_Has (λ q. do_rects_meet q (box_of p)) rects r (Has-from_Contains rects r i) (inside_meets r p h.0 h.1)

  is_off : (r : Rect) (s : Pair) → Contains rects r → is_near rects s ≡ false → do_rects_meet r (box_of s) ≡ false
  unfolding is_near
  is_off r s i far = list_any-at (λ q. do_rects_meet q (box_of s)) rects r far (Has-from_Contains rects r i)

  -- one that is not near is apart from each
  far_is_apart : (s t : Pair) → IsTrue (is_ordered s) → IsTrue (is_ordered t) → OldOrInside s → OldOrInside t → is_near rects s ≡ false → are_apart s t ≡ true
  far_is_apart s t os ot (inr (r, i, h)) k far = absurd (both_ways _ far (inside_is_near r s i h))
  far_is_apart s t os ot (inl (i, m)) (inl (j, n)) far = unmarked_are_apart placing segments s t i j m n
  far_is_apart s t os ot (inl (i, m)) (inr (r, j, h)) far = off_rect r s t os ot h.0 h.1 (is_off r s j far)

  is_ordered-at : (list : List WholeSegment) → IsTrue (are_ordered list) → (p : Pair) → Has (pairs list) p → IsTrue (is_ordered p)
  is_ordered-at list o p i =
      let (s, j, e) = Has-map_out (λ (u : WholeSegment). u.pair) list p i in
      subst (λ q. IsTrue (is_ordered q)) e (list_all-at (λ u. is_ordered u.pair) list s o j)

  pub apart_elsewhere : IsTrue (are_ordered (pass placing segments)) → AreApartElsewhere rects (pairs (pass placing segments))
  apart_elsewhere o s t i j far =
      let is = Has-from_Contains (pairs (pass placing segments)) s i in
      let it = Has-from_Contains (pairs (pass placing segments)) t j in
      let os = is_ordered-at (pass placing segments) o s is in
      let ot = is_ordered-at (pass placing segments) o t it in
      elim (either_far (is_near rects s) (is_near rects t) far) [
        | inl f ↦ far_is_apart s t os ot (old_or_inside s is) (old_or_inside t it) f
        | inr f ↦ are_apart-back s t ∙ far_is_apart t s ot os (old_or_inside t it) (old_or_inside s is) f
      ]
