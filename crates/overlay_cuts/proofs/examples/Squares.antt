-- Two squares that overlap, and their arrangement.
use Rattle.std.specs.Prelude.{pos, List, [], ◌∷◌}
use Rattle.overlay_base.specs.Segments.{WholeSegment}
use Rattle.overlay_base.proofs.examples.Words.{neg, seg, seg2}

-- a subject square with corners (0, 0) and (4, 4) and a clip square with corners (2, 2) and (6, 6), both counterclockwise
abbrev pub two_squares : List WholeSegment
two_squares = (seg (pos 0) (pos 0) (pos 4) (pos 0) (pos 1) ∷ seg (pos 4) (pos 0) (pos 4) (pos 4) (pos 1) ∷ seg (pos 0) (pos 4) (pos 4) (pos 4) (neg 1) ∷ seg (pos 0) (pos 0) (pos 0) (pos 4) (neg 1) ∷ seg2 (pos 2) (pos 2) (pos 6) (pos 2) (pos 0) (pos 1) ∷ seg2 (pos 6) (pos 2) (pos 6) (pos 6) (pos 0) (pos 1) ∷ seg2 (pos 2) (pos 6) (pos 6) (pos 6) (pos 0) (neg 1) ∷ seg2 (pos 2) (pos 2) (pos 2) (pos 6) (pos 0) (neg 1) ∷ [])

-- their arrangement
abbrev pub twelve : List WholeSegment
twelve = (seg (pos 0) (pos 0) (pos 0) (pos 4) (neg 1) ∷ seg (pos 0) (pos 0) (pos 4) (pos 0) (pos 1) ∷ seg (pos 0) (pos 4) (pos 2) (pos 4) (neg 1) ∷ seg2 (pos 2) (pos 2) (pos 2) (pos 4) (pos 0) (neg 1) ∷ seg2 (pos 2) (pos 2) (pos 4) (pos 2) (pos 0) (pos 1) ∷ seg2 (pos 2) (pos 4) (pos 2) (pos 6) (pos 0) (neg 1) ∷ seg (pos 2) (pos 4) (pos 4) (pos 4) (neg 1) ∷ seg2 (pos 2) (pos 6) (pos 6) (pos 6) (pos 0) (neg 1) ∷ seg (pos 4) (pos 0) (pos 4) (pos 2) (pos 1) ∷ seg (pos 4) (pos 2) (pos 4) (pos 4) (pos 1) ∷ seg2 (pos 4) (pos 2) (pos 6) (pos 2) (pos 0) (pos 1) ∷ seg2 (pos 6) (pos 2) (pos 6) (pos 6) (pos 0) (pos 1) ∷ [])
