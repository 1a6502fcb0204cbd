-- What a record describes may be split.
use Rattle.std.proofs.Common.{◌≡◌, refl, ◌∙◌, arith, ℕ, ◌<◌, Bool, not, ◌&&◌, List, [], ◌∷◌, map}
use Rattle.std.specs.Prelude.{ℤ, pos, neg_ℤ, nat_lt, ◌==◌, IsTrue}
use Rattle.std.specs.List.{list_all}
use Rattle.std.specs.Ordering.{int_eq}
use Rattle.std.proofs.lemmas.Bool.{cond_both, and_parts, and_from, ltb-true}
use Rattle.std.proofs.lemmas.Int.{ints}
use Rattle.overlay_geometry.specs.Points.{Point, point_lt}
use Rattle.overlay_geometry.specs.Coordinates.{is_point_in_range}
use Rattle.overlay_base.specs.Windings.{Winding, inverse, swap_directions, is_count_in_range, is_valid, is_not_empty}
use Rattle.overlay_base.specs.Segments.{WholeSegment}
use Rattle.overlay_base.specs.Planar.{is_splittable}
use Rattle.overlay_base.proofs.laws.joins.Rests.{is_usable, is_splittable-is}
use Rattle.overlay_cuts.proofs.laws.paths.PieceCounts.{is_valid-inverse}
use Rattle.overlay_c.specs.Records.{piece_of, asks, asked_by, line_asks, line_asked_by}
use Rattle.overlay_c.specs.declared.records.SegmentRecord.{SegmentRecord}
use Rattle.overlay_c.specs.declared.records.LineRecord.{LineRecord}

neg_is_zero : (z : ℤ) → int_eq (neg_ℤ z) (pos 0) ≡ int_eq z (pos 0)
neg_is_zero z = grind (arith, ints)

swap_is_zero : (m : ℕ) → m < 4 → (swap_directions m == 0) ≡ (m == 0)
swap_is_zero m h = grind (arith)

inverse_is_not_empty : (c : Winding) → IsTrue (is_valid c) → is_not_empty (inverse c) ≡ is_not_empty c
inverse_is_not_empty c h =
    let parts = and_parts (is_count_in_range c) (nat_lt c.mask 4) h in
    let few : c.mask < 4 = ltb-true c.mask 4 parts.1 in
    λ i. not (neg_is_zero c.subj i && neg_is_zero c.clip i && swap_is_zero c.mask few i)

usable_piece : (least greatest : ℤ) (count : Winding) (p q : Point) → IsTrue (is_point_in_range least greatest p) → IsTrue (is_point_in_range least greatest q)
    → IsTrue (is_valid count) → IsTrue (is_not_empty count) → IsTrue (is_usable least greatest (piece_of count p q))
usable_piece least greatest count p q hp hq hv hn =
    cond_both (point_lt p q) _ _ (λ (s : WholeSegment). IsTrue (is_usable least greatest s))
    (λ _. and_from _ _ (and_from _ _ (and_from _ _ hp hq) hv) hn)
    (λ _. and_from _ _ (and_from _ _ (and_from _ _ hq hp) (is_valid-inverse count hv)) (inverse_is_not_empty count hv ∙ hn))

usable_by_parts : (least greatest : ℤ) (count : Winding) (p q : Point) (apart : Bool)
    → IsTrue (is_point_in_range least greatest p && is_point_in_range least greatest q && (apart && (is_valid count && is_not_empty count)))
    → IsTrue (is_usable least greatest (piece_of count p q))
usable_by_parts least greatest count p q apart h =
    let all = and_parts _ _ h in
    let ends = and_parts _ _ all.0 in
    let counts = and_parts _ _ (and_parts _ _ all.1).1 in
    usable_piece least greatest count p q ends.0 ends.1 counts.0 counts.1

-- what each of some things describes
module _ {X : Type 0} (least greatest : ℤ) (describes : X → Bool) (made : X → WholeSegment) (usable : (x : X) → IsTrue (describes x) → IsTrue (is_usable least greatest (made x))) where
  all_usable : (xs : List X) → IsTrue (list_all describes xs) → IsTrue (list_all (is_usable least greatest) (map made xs))
  all_usable [] h = refl
  all_usable (x ∷ xs) h = let parts = and_parts _ _ h in and_from _ _ (usable x parts.0) (all_usable xs parts.1)

  splittable_made : (xs : List X) → IsTrue (list_all describes xs) → IsTrue (is_splittable least greatest (map made xs))
  splittable_made xs h = is_splittable-is least greatest (map made xs) ∙ all_usable xs h

pub are_splittable : (least greatest : ℤ) (rs : List SegmentRecord) → IsTrue (list_all (asks least greatest) rs) → IsTrue (is_splittable least greatest (map asked_by rs))
are_splittable least greatest rs h = splittable_made least greatest (asks least greatest) asked_by (λ r. usable_by_parts least greatest _ _ _ _) rs h

pub are_lines_splittable : (least greatest : ℤ) (rs : List LineRecord) → IsTrue (list_all (line_asks least greatest) rs) → IsTrue (is_splittable least greatest (map line_asked_by rs))
are_lines_splittable least greatest rs h = splittable_made least greatest (line_asks least greatest) line_asked_by (λ r. usable_by_parts least greatest _ _ _ _) rs h
