-- Which given lines run along each segment that a split leaves.
use Rattle.std.specs.Prelude.{◌≡◌, ℕ, ◌==◌, List, [], ◌∷◌, ◌++◌, map, if◌then◌else◌}
use Rattle.std.specs.List.{enumerate_from}
use Rattle.overlay_geometry.specs.Points.{Point, Pair}
use Rattle.overlay_base.specs.EdgeData.{Hooks, DataSegment, without_data}
use Rattle.overlay_base.specs.Join.{join}
use Rattle.overlay_base.specs.Segments.{WholeSegment}
use Rattle.overlay_build.specs.Laid.{AreLaid}
use Rattle.overlay_contours.specs.Splittings.{Splitting, by_passes, by_snapping, SumsLeaveRange}
use Rattle.overlay_cuts.specs.DataPass.{data_after_passes}
use Rattle.overlay_snapping.specs.Chains.{AreSnapCuts}
use Rattle.overlay_snapping.specs.SnapOf.{data_snap}
use Rattle.i_overlay.specs.Courses.{Course}
use Rattle.i_overlay.specs.Headline.{IsSplitBy}
use Rattle.i_overlay.specs.declared.line_numbers.LineNumbers.{LineNumbers}

-- Hooks that gather numbers: a part has those of the whole, and of two segments that are merged the sum has those of both.
abbrev pub gathering : Hooks (List ℕ) (Unit {0})
gathering = record {
  reversed = λ numbers store. (numbers, store);
  split = λ call store. ((call.edge_data, call.edge_data), store);
  merge = λ call store. (call.lhs_data ++ call.rhs_data, store);
}

-- a segment with its number, if a line runs along it, and else with none
abbrev pub with_number : ℕ → WholeSegment → DataSegment (List ℕ)
with_number k s = record { pair = s.pair; count = s.count; edge_data = if s.count.mask == 0 then [] else k ∷ [] }

-- segments, each with its index
abbrev pub with_numbers : List WholeSegment → List (DataSegment (List ℕ))
with_numbers segments = map (λ e. with_number e.0 e.1) (enumerate_from 0 segments)

-- The segments have the numbers that passes, or the chains of snap rounding, gather of the given lines.
abbrev pub HaveNumbers : Splitting → ℕ → List WholeSegment → List (DataSegment (List ℕ)) → Type 0
HaveNumbers (by_passes settings) passes given segments = segments ≡ (data_after_passes gathering settings (with_numbers given) (tt {0}) passes).0
HaveNumbers by_snapping passes given segments =
    (on : Pair → List Point) → AreSnapCuts (join given) on → segments ≡ (data_snap gathering on (with_numbers given) (tt {0})).0

-- what the readers of numbers return
abbrev pub line_counts_of : LineNumbers → List ℕ
line_counts_of lines = lines.counts.items

abbrev pub line_numbers_of : LineNumbers → List ℕ
line_numbers_of lines = lines.numbers.items

-- For each segment of a list how many given lines run along it, and the indexes of all these, segment by segment.
pub record TellsLines (course : Course) (given segments : List WholeSegment) (lines : LineNumbers) : Type 0 where
  -- these are the segments, each with its numbers
  pub numbered : List (DataSegment (List ℕ))
  pub same_segments : without_data numbered ≡ segments
  pub laid : AreLaid (map (λ s. s.edge_data) numbered) (line_counts_of lines) (line_numbers_of lines)
  -- the numbers are those that the split gathers
  pub gathered : HaveNumbers course.splitting course.passes given numbered

-- A split with numbers: the list is that of the split, the numbers are those of its segments, and no sum was too large.
pub record SplitsLines (course : Course) (given segments : List WholeSegment) (found : LineNumbers) : Type 0 where
  pub split : IsSplitBy course given segments
  pub lines : TellsLines course given segments found
  pub fits : SumsLeaveRange course.splitting given → ⊥
