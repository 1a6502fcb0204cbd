-- Marks at which snap rounding cuts the segments of a list.
use Rattle.std.specs.Prelude.{◌≡◌, ℕ, ◌<◌, List, All, length, slice_index_or, IsSortedByKey}
use Rattle.std.specs.Ordering.{nat_cmp}
use Rattle.overlay_base.specs.SegmentOf.{segments_of}
use Rattle.overlay_base.specs.Segments.{WholeSegment, pairs}
use Rattle.overlay_base.specs.declared.segm.segment.Segment.{Segment}
use Rattle.overlay_intersections.specs.Marks.{settling}
use Rattle.overlay_intersections.specs.PassMarks.{marks_on}
use Rattle.overlay_intersections.specs.MarkOf.{Mark, marks_of, mark_points_of, points_at}
use Rattle.overlay_intersections.specs.declared.split.line_mark.LineMark.{LineMark}
use Rattle.overlay_snapping.specs.Chains.{AreCutsBetween, AreDecided}

-- Marks by rising index, those of each segment the points between its ends at which it is cut.
pub record AreCuts (segments : List WholeSegment) (marks : List Mark) : Type 0 where
  pub in_order : IsSortedByKey (λ m. m.index) nat_cmp marks
  pub within : All (λ m. m.index < length segments) marks
  pub each : (index : ℕ) (d : WholeSegment) → index < length segments → AreCutsBetween (pairs segments) (slice_index_or segments index d).pair (points_at index marks)
  pub decided : AreDecided segments

-- Marks of code are such marks.
abbrev pub AreCutsOf : {C I D : Type 0} {m : _} {w : _} {o : _} {e : _} {p : _} → List (Segment C I D m w o e p) → List (LineMark I) → Type 0
AreCutsOf {w = w} segments marks = AreCuts (segments_of segments) (marks_of w.whole marks)

-- ---- of one segment

-- These marks are those of a settling pass at one index.
abbrev pub AreMarksAt : {C I D : Type 0} {m : _} {w : _} {o : _} {e : _} {p : _} → List (Segment C I D m w o e p) → ℕ → List (LineMark I) → Type 0
AreMarksAt {w = w} segments index own = (d : WholeSegment) → mark_points_of w.whole own ≡ marks_on settling (segments_of segments) (slice_index_or (segments_of segments) index d).pair

-- These marks have one index, and are the points between the ends of that segment at which it is cut.
pub record AreCutsAt {C I D : Type 0} {m : _} {w : _} {o : _} {e : _} {p : _} (segments : List (Segment C I D m w o e p)) (index : ℕ) (cuts : List (LineMark I)) : Type 0 where
  pub own : All (λ c. c.index ≡ index) cuts
  pub points : (d : WholeSegment) → AreCutsBetween (pairs (segments_of segments)) (slice_index_or (segments_of segments) index d).pair (mark_points_of w.whole cuts)
