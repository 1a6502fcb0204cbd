-- Segments cut at points that a function names, and joined.
use Rattle.std.specs.Prelude.{◌≡◌, refl, pos, List, [], ◌∷◌, if◌then◌else◌}
use Rattle.overlay_geometry.specs.Points.{Point, Pair, pair_eq}
use Rattle.overlay_cuts.specs.Pass.{cut_by, pass_by}
use Rattle.overlay_base.proofs.examples.Words.{neg, point, pair, seg}
use Rattle.overlay_cuts.proofs.examples.Computing.{computing}

-- one of two segments is cut at an end of the other, beside it
abbrev beside_it : Pair → List Point
beside_it s = if pair_eq s (pair (pos 0) (pos 0) (pos 4) (pos 1)) then (point (pos 2) (pos 0)) ∷ [] else []

first_pieces_stand_first : cut_by beside_it (seg (pos 0) (pos 0) (pos 4) (pos 1) (pos 1) ∷ seg (pos 0) (pos 0) (pos 2) (pos 0) (pos 1) ∷ [])
    ≡ (seg (pos 0) (pos 0) (pos 2) (pos 0) (pos 1) ∷ seg (pos 0) (pos 0) (pos 2) (pos 0) (pos 1) ∷ seg (pos 2) (pos 0) (pos 4) (pos 1) (pos 1) ∷ [])
unfolding computing
first_pieces_stand_first = refl

pieces_are_joined : pass_by beside_it (seg (pos 0) (pos 0) (pos 4) (pos 1) (pos 1) ∷ seg (pos 0) (pos 0) (pos 2) (pos 0) (pos 1) ∷ [])
    ≡ (seg (pos 0) (pos 0) (pos 2) (pos 0) (pos 2) ∷ seg (pos 2) (pos 0) (pos 4) (pos 1) (pos 1) ∷ [])
unfolding computing
pieces_are_joined = refl

-- a point beyond the segment: the path comes back, and that piece is turned
beyond_it : pass_by (λ _. (point (pos 3) (pos 1)) ∷ []) (seg (pos 0) (pos 0) (pos 2) (pos 5) (pos 1) ∷ [])
    ≡ (seg (pos 0) (pos 0) (pos 3) (pos 1) (pos 1) ∷ seg (pos 2) (pos 5) (pos 3) (pos 1) (neg 1) ∷ [])
unfolding computing
beyond_it = refl
