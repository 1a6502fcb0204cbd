-- How far snap rounding moves crossings, and how many points it has, of lists by hand.
use Rattle.std.proofs.Common.{◌≡◌, arith, refl, List, [], ◌∷◌}
use Rattle.std.specs.Prelude.{pos}
use Rattle.overlay_base.specs.Segments.{WholeSegment, pairs}
use Rattle.overlay_base.proofs.examples.Words.{neg, point, pair, seg}
use Rattle.overlay_cuts.specs.Nearness.{Fraction, point_along}
use Rattle.overlay_cuts.proofs.laws.nearness.Distances.{LiesNear-itself}
use Rattle.overlay_snapping.specs.Counts.{end_count, chain_points}
use Rattle.overlay_snapping.specs.SnapOf.{reach_of_snap, IsNearCancelledInSnap, among_given}
use Rattle.overlay_snapping.proofs.examples.Chains.{two}
use Rattle.overlay_snapping.proofs.examples.Computing.{computing}

-- two that cross at (3/2, 3/2)
two_are_moved : reach_of_snap two ≡ 1
unfolding computing
two_are_moved = refl

two_points : chain_points (pairs two) ≡ point (pos 0) (pos 0) ∷ point (pos 0) (pos 3) ∷ point (pos 2) (pos 2) ∷ point (pos 5) (neg 2) ∷ point (pos 5) (pos 5) ∷ []
unfolding computing
two_points = refl

-- two that cross at (2, 2), which is an end of neither
abbrev whole : List WholeSegment
whole = seg (pos 0) (pos 0) (pos 4) (pos 4) (pos 1) ∷ seg (pos 0) (pos 4) (pos 4) (pos 0) (pos 1) ∷ []

whole_stay : reach_of_snap whole ≡ 0
unfolding computing
whole_stay = refl

whole_points : chain_points (pairs whole) ≡ point (pos 0) (pos 0) ∷ point (pos 0) (pos 4) ∷ point (pos 2) (pos 2) ∷ point (pos 4) (pos 0) ∷ point (pos 4) (pos 4) ∷ []
unfolding computing
whole_points = refl

-- a triangle has three segments, and as many end points
triangle_ends : end_count (seg (pos 0) (pos 0) (pos 2) (pos 2) (pos 1) ∷ seg (pos 0) (pos 0) (pos 3) (pos 0) (neg 1) ∷ seg (pos 2) (pos 2) (pos 3) (pos 0) (pos 1) ∷ []) ≡ 3
unfolding computing
triangle_ends = refl

-- two on one pair whose counts cancel: each point of the pair lies where they did
abbrev opposite : List WholeSegment
opposite = seg (pos 0) (pos 0) (pos 2) (pos 0) (pos 1) ∷ seg (pos 0) (pos 0) (pos 2) (pos 0) (neg 1) ∷ []

opposite_cancels : (f : Fraction) → IsNearCancelledInSnap opposite (point_along (pair (pos 0) (pos 0) (pos 2) (pos 0)) f)
unfolding computing
opposite_cancels f = among_given (pair (pos 0) (pos 0) (pos 2) (pos 0)) ((0, omega arith, refl), refl) (LiesNear-itself (pair (pos 0) (pos 0) (pos 2) (pos 0)) f)
