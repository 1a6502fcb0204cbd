-- Counts, and balances.
use Rattle.overlay_base.proofs.examples.Computing.{computing}
use Rattle.std.specs.Prelude.{◌≡◌, refl, pos, true, [], ◌∷◌}
use Rattle.overlay_base.specs.Windings.{add, empty, inverse, is_not_empty}
use Rattle.overlay_base.specs.Balance.{balance}
use Rattle.overlay_base.proofs.examples.Words.{neg, point, count, seg, seg2}

polygon_inverted : inverse (count (pos 3) (neg 4))
    ≡ count (neg 3) (pos 4)
unfolding computing
polygon_inverted = refl

-- back and forward change places
line_inverted : inverse (record { subj = pos 3; clip = pos 0; mask = 1 })
    ≡ record { subj = neg 3; clip = pos 0; mask = 2 }
unfolding computing
line_inverted = refl

both_ways_inverted : inverse (record { subj = pos 0; clip = pos 0; mask = 3 })
    ≡ record { subj = pos 0; clip = pos 0; mask = 3 }
unfolding computing
both_ways_inverted = refl

-- the numbers cancel, the mask stays
line_cancels : add (record { subj = pos 3; clip = pos 0; mask = 1 }) (record { subj = neg 3; clip = pos 0; mask = 1 })
    ≡ record { subj = pos 0; clip = pos 0; mask = 1 }
unfolding computing
line_cancels = refl

-- a line without winding is there all the same
line_not_empty : is_not_empty (record { subj = pos 0; clip = pos 0; mask = 1 })
    ≡ true
unfolding computing
line_not_empty = refl

-- around a triangle, what comes in at a corner goes out again
triangle_corner : balance (seg (pos 0) (pos 0) (pos 0) (pos 4) (neg 1) ∷ seg (pos 0) (pos 0) (pos 4) (pos 0) (pos 1) ∷ seg (pos 0) (pos 4) (pos 4) (pos 0) (neg 1) ∷ []) (point (pos 0) (pos 0))
    ≡ empty
unfolding computing
triangle_corner = refl

triangle_right : balance (seg (pos 0) (pos 0) (pos 0) (pos 4) (neg 1) ∷ seg (pos 0) (pos 0) (pos 4) (pos 0) (pos 1) ∷ seg (pos 0) (pos 4) (pos 4) (pos 0) (neg 1) ∷ []) (point (pos 4) (pos 0))
    ≡ empty
unfolding computing
triangle_right = refl

triangle_top : balance (seg (pos 0) (pos 0) (pos 0) (pos 4) (neg 1) ∷ seg (pos 0) (pos 0) (pos 4) (pos 0) (pos 1) ∷ seg (pos 0) (pos 4) (pos 4) (pos 0) (neg 1) ∷ []) (point (pos 0) (pos 4))
    ≡ empty
unfolding computing
triangle_top = refl

-- an open segment
open_start : balance (seg2 (pos 0) (pos 0) (pos 4) (pos 0) (pos 2) (pos 1) ∷ []) (point (pos 0) (pos 0))
    ≡ count (pos 2) (pos 1)
unfolding computing
open_start = refl

open_end : balance (seg2 (pos 0) (pos 0) (pos 4) (pos 0) (pos 2) (pos 1) ∷ []) (point (pos 4) (pos 0))
    ≡ count (neg 2) (neg 1)
unfolding computing
open_end = refl
