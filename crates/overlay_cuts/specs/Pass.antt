-- One pass over an arrangement: every segment is cut at its marks, and the pieces are joined.
use Rattle.std.specs.Prelude.{List, All, ◌++◌, flat_map, take, drop}
use Rattle.overlay_geometry.specs.Points.{Point, Pair}
use Rattle.overlay_base.specs.Segments.{WholeSegment, pairs}
use Rattle.overlay_base.specs.Join.{join}
use Rattle.overlay_intersections.specs.Marks.{Placing}
use Rattle.overlay_intersections.specs.PassMarks.{marks_on}
use Rattle.overlay_cuts.specs.Path.{pieces}

-- what holds of each mark on each pair of a list, where a function names the marks on a pair
abbrev pub EachMark : (Pair → Point → Type 0) → (Pair → List Point) → List WholeSegment → Type 0
EachMark P marks segments = All (λ s. All (λ m. P s m) (marks s)) (pairs segments)

-- All pieces as a list, where a function names the marks on each pair: each segment's first piece in its place, then
-- the others in order. The order matters to running sums and to data on edges alone.
unfoldable pub cut_by : (Pair → List Point) → List WholeSegment → List WholeSegment
cut_by marks segments = flat_map (λ s. take 1 (pieces s (marks s.pair))) segments ++ flat_map (λ s. drop 1 (pieces s (marks s.pair))) segments

abbrev pub pass_by : (Pair → List Point) → List WholeSegment → List WholeSegment
pass_by marks segments = join (cut_by marks segments)

-- the same at the marks that a pass makes
abbrev pub pieces_of : Placing → List WholeSegment → WholeSegment → List WholeSegment
pieces_of placing segments s = pieces s (marks_on placing segments s.pair)

abbrev pub cut : Placing → List WholeSegment → List WholeSegment
cut placing segments = cut_by (marks_on placing segments) segments

unfoldable pub pass : Placing → List WholeSegment → List WholeSegment
pass placing segments = pass_by (marks_on placing segments) segments
