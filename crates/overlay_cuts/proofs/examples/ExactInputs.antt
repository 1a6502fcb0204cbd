-- Exact input: which pairs are elementary, and their counts.
use Rattle.std.specs.Prelude.{◌≡◌, refl, pos, true, false, ◌&&◌, List, [], ◌∷◌}
use Rattle.std.specs.List.{list_all}
use Rattle.overlay_base.specs.Windings.{winding_eq}
use Rattle.overlay_base.specs.Segments.{WholeSegment, pairs, winding_at}
use Rattle.overlay_base.specs.Join.{join}
use Rattle.overlay_cuts.specs.ExactInput.{is_exact_input, is_elementary, count_along, lies_on_input}
use Rattle.overlay_base.proofs.examples.Words.{neg, pair, count, seg}
use Rattle.overlay_cuts.proofs.examples.Computing.{computing}
use Rattle.overlay_cuts.proofs.examples.Squares.{two_squares, twelve}

-- two squares that cross at whole points
squares_are_exact : is_exact_input two_squares
    ≡ true
unfolding computing
squares_are_exact = refl

lines_are_not_exact : is_exact_input (seg (pos 0) (pos 0) (pos 5) (pos 5) (pos 1) ∷ seg (pos 0) (pos 3) (pos 5) (neg 2) (pos 1) ∷ [])
    ≡ false
unfolding computing
lines_are_not_exact = refl

half_is_elementary : is_elementary two_squares (pair (pos 0) (pos 4) (pos 2) (pos 4))
    ≡ true
unfolding computing
half_is_elementary = refl

-- a crossing lies strictly between
whole_is_not_elementary : is_elementary two_squares (pair (pos 0) (pos 4) (pos 4) (pos 4))
    ≡ false
unfolding computing
whole_is_not_elementary = refl

-- the two points lie on no given segment
diagonal_is_not_elementary : is_elementary two_squares (pair (pos 0) (pos 0) (pos 4) (pos 4))
    ≡ false
unfolding computing
diagonal_is_not_elementary = refl

counts_are_kept : list_all (λ e. is_elementary two_squares e && winding_eq (count_along two_squares e) (count_along twelve e)) (pairs twelve)
    ≡ true
unfolding computing
counts_are_kept = refl

result_lies_on_squares : lies_on_input two_squares twelve
    ≡ true
unfolding computing
result_lies_on_squares = refl

counts_of_overlap : count_along (seg (pos 0) (pos 0) (pos 100) (pos 0) (pos 1) ∷ seg (pos 80) (pos 0) (pos 150) (pos 0) (pos 1) ∷ []) (pair (pos 80) (pos 0) (pos 100) (pos 0))
    ≡ count (pos 2) (pos 0)
unfolding computing
counts_of_overlap = refl

-- each pair of the result is elementary in the join, with the count along it
answer_of_squares : list_all (λ e. is_elementary (join two_squares) e && winding_eq (winding_at twelve e) (count_along two_squares e)) (pairs twelve)
    ≡ true
unfolding computing
answer_of_squares = refl

-- Ends of segments that cancel are ends of what was given, and not of the join: no segment of the result ends there.
cancelled : List WholeSegment
cancelled = seg (pos 0) (pos 0) (pos 10) (pos 0) (pos 1) ∷ seg (pos 0) (pos 0) (pos 5) (pos 0) (pos 1) ∷ seg (pos 0) (pos 0) (pos 5) (pos 0) (neg 1) ∷ []

half_of_given : is_elementary cancelled (pair (pos 0) (pos 0) (pos 5) (pos 0))
    ≡ true
unfolding computing cancelled
half_of_given = refl

no_half_of_join : is_elementary (join cancelled) (pair (pos 0) (pos 0) (pos 5) (pos 0))
    ≡ false
unfolding computing cancelled
no_half_of_join = refl
