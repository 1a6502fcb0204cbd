-- Laws over the definitions: statements that the contracts of `snap::laws` name.
use Rattle.std.specs.Prelude.{◌≡◌, ◌↔◌, ◌⊎◌, ◌≤◌, ◌*◌, true, if◌then◌else◌, IsTrue, IsFalse, List, Contains, IsPermutation, ◌<◌, length}
use Rattle.overlay_geometry.specs.Points.{Point, Pair, is_ordered, lies_on}
use Rattle.overlay_geometry.specs.Meeting.{are_apart}
use Rattle.overlay_cuts.specs.Nearness.{Fraction, point_along, LiesNear, LieNear, MarksLieNear}
use Rattle.overlay_cuts.specs.Pass.{pass_by, pass}
use Rattle.overlay_cuts.specs.Path.{path}
use Rattle.overlay_snapping.specs.Pixels.{IsInPixel, MeetsPixel, meets_pixel}
use Rattle.overlay_base.specs.Segments.{WholeSegment, pairs, ends, are_ordered, is_map}
use Rattle.overlay_base.specs.Planar.{is_planar}
use Rattle.overlay_intersections.specs.Marks.{settling}
use Rattle.overlay_intersections.specs.PassMarks.{marks_on, is_rounded}
use Rattle.overlay_snapping.specs.Chains.{comes_before, rounded_crossings, Moves, IsChainPoint, IsPiece, pair_between, IsChain, AreCutsBetween, IsSnapped, AreSnapCuts, AreDecided}
use Rattle.overlay_snapping.specs.Counts.{end_count, chain_points}

-- the inequality between whole numbers holds exactly where a point of the pair lies in the pixel
abbrev pub InequalityIsMeant : Type 0
InequalityIsMeant = (s : Pair) (c : Point) → IsTrue (is_ordered s) → (meets_pixel s c ≡ true) ↔ MeetsPixel s c

-- of two pixels that a pair meets, the one that it meets later does not come first in the order along the pair
abbrev pub PixelsAreMetInOrder : Type 0
PixelsAreMetInOrder =
    (s : Pair) (f g : Fraction) (c d : Point) → IsTrue (is_ordered s) → f.part * g.whole ≤ g.part * f.whole → IsInPixel (point_along s f) c → IsInPixel (point_along s g) d →
    IsFalse (comes_before s d c)

-- between two points whose pixels a pair meets, each point is within a half of some point of the pair, in each coordinate
abbrev pub PiecesLieNear : Type 0
PiecesLieNear = (s : Pair) (c d : Point) → MeetsPixel s c → MeetsPixel s d → LiesNear 1 (record { a = c; b = d }) s

-- ---- the points of chains, by the marks of a settling pass

-- A crossing is rounded to a point exactly where a settling pass marks a segment there on which the point does not lie.
abbrev pub RoundedAreMarksOff : Type 0
RoundedAreMarksOff =
    (segments : List WholeSegment) → IsTrue (are_ordered segments) → (c : Point) →
    Contains (rounded_crossings (pairs segments)) c ↔ ((s : Pair) × Contains (pairs segments) s × Contains (marks_on settling segments s) c × IsFalse (lies_on s c))

-- The points through which chains go are the ends of the segments and the marks of a settling pass.
abbrev pub ChainPointsAreEndsAndMarks : Type 0
ChainPointsAreEndsAndMarks =
    (segments : List WholeSegment) → IsTrue (are_ordered segments) → (c : Point) →
    IsChainPoint (pairs segments) c ↔ (Contains (ends (pairs segments)) c ⊎ ((s : Pair) × Contains (pairs segments) s × Contains (marks_on settling segments s) c))

-- A segment meets the pixel of each point at which a settling pass marks it.
abbrev pub MarksMeetPixels : Type 0
MarksMeetPixels =
    (segments : List WholeSegment) → IsTrue (are_ordered segments) → (s : Pair) (c : Point) → Contains (pairs segments) s → Contains (marks_on settling segments s) c →
    IsTrue (meets_pixel s c)

-- ---- nearness

-- Every segment of the result lies within a half of a given one, in each coordinate, and on it where every crossing is a whole point.
abbrev pub SnappedLiesNear : Type 0
SnappedLiesNear =
    (segments result : List WholeSegment) → IsTrue (are_ordered segments) → IsSnapped segments result → LieNear (if is_rounded segments then 1 else 0) (pairs segments) (pairs result)

-- ---- planarity

-- Every two pieces of chains are apart: they share at most a common end, or are equal.
abbrev pub PiecesAreApart : Type 0
PiecesAreApart =
    (segments : List WholeSegment) → IsTrue (are_ordered segments) → (s t : Pair) (c c' d d' : Point) → Contains (pairs segments) s → Contains (pairs segments) t →
    IsPiece (pairs segments) s c c' → IsPiece (pairs segments) t d d' → IsTrue (are_apart (pair_between c c') (pair_between d d'))

-- The result of snap rounding is a planar arrangement.
abbrev pub SnappedIsPlanar : Type 0
SnappedIsPlanar =
    (segments result : List WholeSegment) → IsTrue (are_ordered segments) → IsSnapped segments result → IsTrue (is_map result) × IsTrue (is_planar result)

-- ---- how many segments

-- A planar arrangement that is not empty has fewer segments than three times its end points.
abbrev pub PlanarHasFew : Type 0
PlanarHasFew = (segments : List WholeSegment) → IsTrue (is_map segments) → IsTrue (is_planar segments) → 0 < length segments → length segments < 3 * end_count segments

-- So the result has at most three segments for each point of chains.
abbrev pub SnappedHasFew : Type 0
SnappedHasFew =
    (segments result : List WholeSegment) → IsTrue (are_ordered segments) → IsSnapped segments result → length result ≤ 3 * length (chain_points (pairs segments))

-- The list of these points is what is meant.
abbrev pub ChainPointsAreListed : Type 0
ChainPointsAreListed = (segments : List Pair) (c : Point) → Contains (chain_points segments) c ↔ IsChainPoint segments c

-- ---- chains as paths

-- The path of a segment through the points between its ends at which it is cut is its chain.
abbrev pub PathIsChain : Type 0
PathIsChain =
    (segments : List Pair) (s : Pair) (marks : List Point) → IsTrue (is_ordered s) → Contains segments s → (Moves segments s ⊎ (Moves segments s → ⊥)) → AreCutsBetween segments s marks →
    IsChain segments s (path s marks)

-- So a pass through these points of each segment snaps. Each of them lies within a half of its segment, and on it where every
-- crossing is a whole point.
abbrev pub CutsSnap : Type 0
CutsSnap =
    (segments : List WholeSegment) (on : Pair → List Point) → IsTrue (are_ordered segments) → AreDecided segments → AreSnapCuts segments on →
    IsSnapped segments (pass_by on segments) × MarksLieNear (if is_rounded segments then 1 else 0) on segments

-- Where every crossing is a whole point, the result is that of a settling pass.
abbrev pub ExactSnapIsPass : Type 0
ExactSnapIsPass =
    (segments result : List WholeSegment) → IsTrue (are_ordered segments) → IsFalse (is_rounded segments) → IsSnapped segments result → result ≡ pass settling segments

-- There is one chain of a segment, and so one result of snap rounding.
abbrev pub SnappedIsOne : Type 0
SnappedIsOne =
    ((segments : List Pair) (s : Pair) (first second : List Point) → IsChain segments s first → IsChain segments s second → first ≡ second)
    × ((segments first second : List WholeSegment) → IsSnapped segments first → IsSnapped segments second → first ≡ second)

-- The order of the segments does not count: the result is that of the same segments in any other order.
abbrev pub SnappedIgnoresOrder : Type 0
SnappedIgnoresOrder = (given other result : List WholeSegment) → IsPermutation given other → IsSnapped given result → IsSnapped other result
