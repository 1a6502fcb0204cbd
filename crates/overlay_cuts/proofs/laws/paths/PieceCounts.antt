-- The counts of pieces: each is its segment's count or the inverse of it.
use Rattle.std.proofs.Common.{◌∙◌, arith, ◌&&◌, List, [], ◌∷◌}
use Rattle.std.specs.Prelude.{◌^◌, nat_lt, IsTrue}
use Rattle.std.specs.List.{AllByRecursion}
use Rattle.std.proofs.lemmas.Bool.{cond_both, and_parts, and_from, lt-ltb}
use Rattle.overlay_geometry.specs.Points.{Point, Pair, point_lt}
use Rattle.overlay_base.specs.Windings.{Winding, inverse, swap_directions, is_count_in_range, is_valid}
use Rattle.overlay_base.specs.Segments.{WholeSegment}
use Rattle.overlay_geometry.proofs.laws.lists.Lists.{AllByRecursion-weaker}
use Rattle.overlay_cuts.specs.Path.{path, path_from, columns_of, piece, pieces_along, pieces}
use Rattle.overlay_cuts.specs.Pass.{cut_by}
use Rattle.overlay_intersections.proofs.laws.crossings.Crossings.{abs_neg}
use Rattle.overlay_cuts.proofs.laws.paths.Cuts.{AllByRecursion-cut}

-- what holds of the inverse of each count that it holds of
module _ (P : Winding → Type 0) (turned : (c : Winding) → P c → P (inverse c)) where
  count_of_piece : (count : Winding) (p q : Point) → P count → P (piece count p q).count
  unfolding piece
  count_of_piece count p q h = cond_both (point_lt p q) _ _ (λ (s : WholeSegment). P s.count) (λ _. h) (λ _. turned count h)

  counts_along : (count : Winding) (p : Point) (points : List Point) → P count → AllByRecursion (λ s. P s.count) (pieces_along count (p ∷ points))
  unfolding pieces_along
  counts_along count p [] h = tt
  counts_along count p (q ∷ points) h = (count_of_piece count p q h, counts_along count q points h)

  pub counts_of_pieces : (s : WholeSegment) (marks : List Point) → P s.count → AllByRecursion (λ t. P t.count) (pieces s marks)
  unfolding pieces path
  counts_of_pieces s marks h = counts_along s.count s.pair.a (path_from s.pair.a (columns_of marks) s.pair.b) h

  -- the counts of a cut
  pub counts-cut : (marks : Pair → List Point) (segments : List WholeSegment) → AllByRecursion (λ s. P s.count) segments → AllByRecursion (λ s. P s.count) (cut_by marks segments)
  counts-cut marks segments h =
      AllByRecursion-cut (λ s. P s.count) marks segments (AllByRecursion-weaker (λ s. P s.count) (λ s. AllByRecursion (λ t. P t.count) (pieces s (marks s.pair))) (λ s k. counts_of_pieces s (marks s.pair) k) segments h)

-- ---- valid counts

pub is_valid-inverse : (c : Winding) → IsTrue (is_valid c) → IsTrue (is_valid (inverse c))
is_valid-inverse c h =
    let parts = and_parts (is_count_in_range c) (nat_lt c.mask 4) h in
    let numbers : IsTrue (is_count_in_range (inverse c)) = (λ i. nat_lt (abs_neg c.subj i) (2 ^ 31) && nat_lt (abs_neg c.clip i) (2 ^ 31)) ∙ parts.0 in
    and_from _ _ numbers (lt-ltb (swap_directions c.mask) 4 (omega arith))
