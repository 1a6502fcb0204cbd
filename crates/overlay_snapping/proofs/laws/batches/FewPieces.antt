-- The pieces along a path that comes to no point twice: at most one of them is on a pair of ends.
use Rattle.std.proofs.Common.{◌≡◌, ◌≤◌, Bool, true, false, List, [], ◌∷◌, refl, sym, subst, ◌∙◌, arith, ◌⊎◌, inl, inr, ⊎_elim, IsTrue}
use Rattle.std.specs.Prelude.{⊤, if◌then◌else◌}
use Rattle.std.specs.List.{AllByRecursion}
use Rattle.std.proofs.lemmas.Bool.{and_parts, both_ways}
use Rattle.overlay_geometry.specs.Points.{Point, Pair, pair_eq, point_lt}
use Rattle.overlay_geometry.specs.Sorting.{is_strictly_sorted}
use Rattle.overlay_geometry.proofs.laws.geometry.Points.{same_pair_by_eq}
use Rattle.overlay_base.specs.Windings.{Winding, inverse}
use Rattle.overlay_base.specs.Segments.{WholeSegment}
use Rattle.overlay_base.specs.steps.Early.{magnitude}
use Rattle.overlay_intersections.proofs.laws.crossings.Crossings.{abs_neg}
use Rattle.overlay_cuts.specs.Path.{piece, pieces_along}
use Rattle.overlay_snapping.specs.Chains.{along_cmp, comes_before}
use Rattle.overlay_snapping.specs.steps.Batches.{magnitudes_at}
use Rattle.overlay_snapping.proofs.laws.chains.Orders.{all_after, not_before_itself}
use Rattle.overlay_snapping.proofs.laws.batches.Bounds.{magnitudes_at-nil, magnitudes_at-same, magnitudes_at-other}

-- the piece from p to q, which runs forward or does not
abbrev piece_by : Bool → Winding → Point → Point → WholeSegment
piece_by b count p q = if b then record { pair = record { a = p; b = q }; count = count } else record { pair = record { a = q; b = p }; count = inverse count }

magnitude-piece : (count : Winding) (p q : Point) → magnitude (piece count p q).count ≡ magnitude count
unfolding piece
magnitude-piece count p q = by (point_lt p q)
  where
    inverted : magnitude (inverse count) ≡ magnitude count
    inverted = let x = abs_neg count.subj in let y = abs_neg count.clip in omega arith

    by : (b : Bool) → magnitude (piece_by b count p q).count ≡ magnitude count
    by true = refl
    by false = inverted

-- a pair has a point
abbrev Has : Pair → Point → Type 0
Has pair p = (pair.a ≡ p) ⊎ (pair.b ≡ p)

-- the ends of a piece are its two points
first_end : (count : Winding) (p q : Point) → Has (piece count p q).pair p
unfolding piece
first_end count p q = by (point_lt p q)
  where
    by : (b : Bool) → Has (piece_by b count p q).pair p
    by true = inl refl
    by false = inr refl

end_is : (count : Winding) (p q e : Point) → Has (piece count p q).pair e → (p ≡ e) ⊎ (q ≡ e)
unfolding piece
end_is count p q e = by (point_lt p q)
  where
    by : (b : Bool) → Has (piece_by b count p q).pair e → (p ≡ e) ⊎ (q ≡ e)
    by true h = h
    by false (inl h) = inr h
    by false (inr h) = inl h

-- a list without a point has no piece on a pair that has it
none_without : (count : Winding) (e : Point) (points : List Point) → AllByRecursion (λ p. p ≡ e → ⊥) points → (pair : Pair) → Has pair e → magnitudes_at (pieces_along count points) pair ≡ 0
unfolding pieces_along
none_without count e [] h pair has = magnitudes_at-nil pair
none_without count e (p ∷ []) h pair has = magnitudes_at-nil pair
none_without count e (p ∷ q ∷ points) h pair has = by (pair_eq (piece count p q).pair pair) refl (none_without count e (q ∷ points) h.1 pair has)
  where
    by : (b : Bool) → pair_eq (piece count p q).pair pair ≡ b → magnitudes_at (pieces_along count (q ∷ points)) pair ≡ 0 → magnitudes_at (piece count p q ∷ pieces_along count (q ∷ points)) pair ≡ 0
    by true same rest = absurd (⊎_elim h.0 h.1.0 (end_is count p q e (subst (λ r. Has r e) (sym (same_pair_by_eq (piece count p q).pair pair same)) has)))
    by false other rest = magnitudes_at-other (piece count p q) (pieces_along count (q ∷ points)) pair other ∙ rest

-- points that all differ
abbrev pub AreDistinct : List Point → Type 0
AreDistinct [] = ⊤
AreDistinct (p ∷ points) = AllByRecursion (λ q. q ≡ p → ⊥) points × AreDistinct points

-- the pieces along distinct points count on a pair no more than their segment
pub few_on_pair : (count : Winding) (points : List Point) → AreDistinct points → (pair : Pair) → magnitudes_at (pieces_along count points) pair ≤ magnitude count
unfolding pieces_along
few_on_pair count [] h pair = let n = magnitudes_at-nil pair in omega arith
few_on_pair count (p ∷ []) h pair = let n = magnitudes_at-nil pair in omega arith
few_on_pair count (p ∷ q ∷ points) h pair = by (pair_eq (piece count p q).pair pair) refl (few_on_pair count (q ∷ points) h.1 pair)
  where
    by : (b : Bool) → pair_eq (piece count p q).pair pair ≡ b → magnitudes_at (pieces_along count (q ∷ points)) pair ≤ magnitude count → magnitudes_at (piece count p q ∷ pieces_along count (q ∷ points)) pair ≤ magnitude count
    by true same rest =
        let none = none_without count p (q ∷ points) h.0 pair (subst (λ r. Has r p) (same_pair_by_eq (piece count p q).pair pair same) (first_end count p q)) in
        let here = magnitudes_at-same (piece count p q) (pieces_along count (q ∷ points)) pair same in
        let size = magnitude-piece count p q in
        omega arith
    by false other rest = let here = magnitudes_at-other (piece count p q) (pieces_along count (q ∷ points)) pair other in omega arith

-- points in strict order along a segment are
comes_not_before : (s : Pair) (p : Point) → IsTrue (comes_before s p p) → ⊥
comes_not_before s p h = both_ways (comes_before s p p) (not_before_itself s p) h

others : (s : Pair) (p : Point) (points : List Point) → AllByRecursion (λ q. IsTrue (comes_before s p q)) points → AllByRecursion (λ q. q ≡ p → ⊥) points
others s p [] h = tt
others s p (q ∷ points) h = (λ e. comes_not_before s p (subst (λ r. IsTrue (comes_before s p r)) e h.0), others s p points h.1)

pub sorted_are_distinct : (s : Pair) (points : List Point) → IsTrue (is_strictly_sorted (along_cmp s) points) → AreDistinct points
unfolding is_strictly_sorted
sorted_are_distinct s [] h = tt
sorted_are_distinct s (p ∷ []) h = (tt, tt)
sorted_are_distinct s (p ∷ q ∷ points) h = (others s p (q ∷ points) (all_after s p (q ∷ points) h), sorted_are_distinct s (q ∷ points) (and_parts _ _ h).1)
