-- Pieces of segments that overlap along lines: what they have in common with the segments.
use Rattle.std.specs.Prelude.{◌≡◌, ◌↔◌, ◌<◌, ◌^◌, IsTrue, IsFalse, List, Contains}
use Rattle.overlay_geometry.specs.Points.{Point, Pair, is_ordered, is_strictly_inside}
use Rattle.overlay_base.specs.Segments.{WholeSegment, pairs, ends}
use Rattle.overlay_base.specs.steps.Early.{magnitudes}
use Rattle.overlay_intersections.specs.Marks.{settling}
use Rattle.overlay_intersections.specs.PassMarks.{is_rounded}
use Rattle.overlay_cuts.specs.ExactInput.{contains_pair, count_along}
use Rattle.overlay_cuts.specs.Pass.{pass}

-- no end of a pair of the list lies strictly inside e
abbrev pub IsClear : List Pair → Pair → Type 0
IsClear segments e = (p : Point) → Contains (ends segments) p → IsFalse (is_strictly_inside e p)

-- The pieces have the ends of the given segments, each lies on a given one, and along each pair without an end inside they lie
-- where given segments do, and count as these together.
pub record AreResolved (given pieces : List WholeSegment) : Type 0 where
  pub same_ends : (p : Point) → Contains (ends (pairs pieces)) p ↔ Contains (ends (pairs given)) p
  pub on_given : (t : Pair) → Contains (pairs pieces) t → (s : Pair) × Contains (pairs given) s × IsTrue (contains_pair s t)
  pub covering : (s e : Pair) → Contains (pairs given) s → IsTrue (is_ordered e) → IsClear (pairs given) e → IsTrue (contains_pair s e) → (t : Pair) × Contains (pairs pieces) t × IsTrue (contains_pair t e)
  pub counting : (e : Pair) → IsTrue (is_ordered e) → IsClear (pairs given) e → count_along pieces e ≡ count_along given e

-- some end lies strictly inside a segment
abbrev pub HasCut : List WholeSegment → Type 0
HasCut given = (s : Pair) × (p : Point) × Contains (pairs given) s × Contains (ends (pairs given)) p × IsTrue (is_strictly_inside s p)

pub record AreResolvedCut (given pieces : List WholeSegment) : Type 0 where
  pub resolved : AreResolved given pieces
  pub cut : HasCut given

-- no crossing is rounded, some segment is cut, and the list is what a settling pass leaves
pub record IsSplitSettled (given list : List WholeSegment) : Type 0 where
  pub not_rounded : IsFalse (is_rounded given)
  pub passed : list ≡ pass settling given
  pub cut : HasCut given

-- and the counts are so small that no sum of some leaves the range
pub record IsSplitExactly (given list : List WholeSegment) : Type 0 where
  pub settled : IsSplitSettled given list
  pub small : magnitudes given < 2 ^ 31
