-- The pieces into which marks divide a segment.
use Rattle.std.specs.Prelude.{◌≡◌, refl, pos, [], ◌∷◌}
use Rattle.overlay_cuts.specs.Path.{pieces}
use Rattle.overlay_base.proofs.examples.Words.{neg, point, seg}
use Rattle.overlay_cuts.proofs.examples.Computing.{computing}

-- a path that comes from above runs down a column of marks
falls_through_column : pieces (seg (pos 0) (pos 10) (pos 2) (pos 0) (pos 1)) ((point (pos 1) (pos 3)) ∷ (point (pos 1) (pos 7)) ∷ [])
    ≡ (seg (pos 0) (pos 10) (pos 1) (pos 7) (pos 1) ∷ seg (pos 1) (pos 3) (pos 1) (pos 7) (neg 1) ∷ seg (pos 1) (pos 3) (pos 2) (pos 0) (pos 1) ∷ [])
unfolding computing
falls_through_column = refl

-- a vertical segment; a mark that is there twice counts once
rises_along_vertical : pieces (seg (pos 0) (pos 0) (pos 0) (pos 9) (pos 1)) ((point (pos 0) (pos 7)) ∷ (point (pos 0) (pos 2)) ∷ (point (pos 0) (pos 7)) ∷ [])
    ≡ (seg (pos 0) (pos 0) (pos 0) (pos 2) (pos 1) ∷ seg (pos 0) (pos 2) (pos 0) (pos 7) (pos 1) ∷ seg (pos 0) (pos 7) (pos 0) (pos 9) (pos 1) ∷ [])
unfolding computing
rises_along_vertical = refl
