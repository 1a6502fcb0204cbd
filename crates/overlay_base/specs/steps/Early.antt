-- A join before a list is sorted: which bags have one join, and where no order of sums leaves the range of counts.
use Rattle.std.specs.Prelude.{◌≡◌, ℕ, ◌+◌, ◌≤◌, IsTrue, IsFalse, All, List, [], ◌∷◌, unsigned_abs}
use Rattle.std.specs.List.{sum_by}
use Rattle.overlay_geometry.specs.Points.{Pair}
use Rattle.overlay_base.specs.Windings.{Winding, add, is_valid}
use Rattle.overlay_base.specs.Segments.{WholeSegment, winding_at}
use Rattle.overlay_base.specs.Join.{join, join_leaves_range, has_equal_pairs}
use Rattle.overlay_base.specs.SegmentOf.{winding_of, segments_of}
use Rattle.overlay_base.specs.declared.segm.segment.Segment.{Segment}

-- how far a count is from none, and those of a bag together
abbrev pub magnitude : Winding → ℕ
magnitude c = unsigned_abs c.subj + unsigned_abs c.clip

abbrev pub magnitudes : List WholeSegment → ℕ
magnitudes segments = sum_by (λ s. magnitude s.count) segments

-- a bag winds as another with one segment more, and its counts are no greater together
pub record HasOneMore (before : List WholeSegment) (s : WholeSegment) (after : List WholeSegment) : Type 0 where
  pub windings : (pair : Pair) → winding_at after pair ≡ add (winding_at before pair) (winding_at (s ∷ []) pair)
  pub bound : magnitudes after ≤ magnitudes before + magnitude s.count

-- a list has the join of another, in which two segments have one pair, and no sum of either is too large
pub record IsJoinedEarly {C I D : Type 0} {m : _} {w : _} {o : _} {e : _} {p : _} (given list : List (Segment C I D m w o e p)) : Type 0 where
  pub same : join (segments_of list) ≡ join (segments_of given)
  pub valid : All (λ s. IsTrue (is_valid (winding_of s))) list
  pub repeated : IsTrue (has_equal_pairs (segments_of given))
  pub fits : IsFalse (join_leaves_range (segments_of given))
  pub fits_then : IsFalse (join_leaves_range (segments_of list))
