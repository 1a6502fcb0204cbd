-- Lines that overlap, with the numbers that a split gathers.
use Rattle.std.specs.Prelude.{◌≡◌, refl, ℕ, ℤ, pos, List, [], ◌∷◌}
use Rattle.overlay_base.specs.EdgeData.{DataSegment}
use Rattle.overlay_base.specs.Segments.{WholeSegment}
use Rattle.overlay_base.proofs.examples.Words.{line}
use Rattle.overlay_cuts.specs.DataPass.{data_after_passes}
use Rattle.overlay_cuts.proofs.examples.Computing.{computing}
use Rattle.overlay_split.proofs.examples.Runs.{high}
use Rattle.i_overlay.specs.LineNumbers.{gathering, with_numbers}

abbrev along : ℕ → ℕ → ℤ → ℕ → List ℕ → DataSegment (List ℕ)
along a b subj mask numbers =
    let s : WholeSegment = line (pos a) (pos 0) (pos b) (pos 0) subj mask in
    record { pair = s.pair; count = s.count; edge_data = numbers }

-- a side from 0 to 4, a line that runs along it, and one from 2 to 6: the side has no number, and the part of both lines has two
abbrev given : List WholeSegment
given = line (pos 0) (pos 0) (pos 4) (pos 0) (pos 1) 0 ∷ line (pos 0) (pos 0) (pos 4) (pos 0) (pos 0) 2 ∷ line (pos 2) (pos 0) (pos 6) (pos 0) (pos 0) 2 ∷ []

numbers_of_given : with_numbers given ≡ (along 0 4 (pos 1) 0 [] ∷ along 0 4 (pos 0) 2 (1 ∷ []) ∷ along 2 6 (pos 0) 2 (2 ∷ []) ∷ [])
numbers_of_given = refl

part_of_both : (data_after_passes gathering (high 256) (with_numbers given) tt 1).0 ≡ (along 0 2 (pos 1) 2 (1 ∷ []) ∷ along 2 4 (pos 1) 2 (2 ∷ 1 ∷ []) ∷ along 4 6 (pos 0) 2 (2 ∷ []) ∷ [])
unfolding computing
part_of_both = refl
