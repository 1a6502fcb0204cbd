-- Laws over the definitions, each a statement that is proved once and named by a contract.
use Rattle.std.specs.Prelude.{◌≡◌, ◌<◌, ◌≤◌, ℕ, ◌*◌, ℤ, ◌*ℤ◌, IsTrue, ◌+◌, ◌-◌, Bool, false, IsFalse, ◌&&◌, ◌⊎◌, if◌then◌else◌, List, [], filter, All, Contains, IsPermutation, length, min, nat_lt}
use Rattle.std.specs.List.{list_all}
use Rattle.overlay_geometry.specs.Points.{Point, Pair}
use Rattle.overlay_geometry.specs.Meeting.{are_apart}
use Rattle.overlay_base.specs.Windings.{Winding}
use Rattle.overlay_base.specs.Segments.{WholeSegment, pairs, is_map, are_ordered, are_polygons}
use Rattle.overlay_base.specs.Sums.{IsLinear, weighed}
use Rattle.overlay_base.specs.Planar.{is_planar}
use Rattle.overlay_base.specs.Balance.{IsBalanced, KeepsBalance}
use Rattle.overlay_base.specs.EdgeData.{Hooks, DataSegment, without_data}
use Rattle.overlay_intersections.specs.Marks.{Placing, settling}
use Rattle.overlay_cuts.specs.Path.{pieces}
use Rattle.overlay_cuts.specs.Pass.{pass_by, cut, pass}
use Rattle.overlay_intersections.specs.PassMarks.{marks_on, is_rounded, mark_count}
use Rattle.overlay_cuts.specs.Run.{Settings, IsPassCount, IsRun, LeavesRange, after_passes}
use Rattle.overlay_cuts.specs.Potential.{potential}
use Rattle.overlay_cuts.specs.ExactInput.{is_exact_input, KeepsCounts, IsExactAnswer}
use Rattle.overlay_base.specs.Places.{RationalPoint, spans, lies_below, winding_below}
use Rattle.overlay_base.specs.Rays.{is_on_none, winding_above, winding_left, winding_right}
use Rattle.overlay_cuts.specs.Nearness.{Fraction, whole_point, point_along, IsNear, LiesNear, LieNear, MarksLieNear, IsNearSome, StaysNear, LinesStayNear, with_mask, are_lines, reach_of_pass, reach_of_run, reach_of_passes}
use Rattle.overlay_cuts.specs.Places.{IsFar, KeepsWinding, that_wind, KeepsWindingNearLines}
use Rattle.overlay_cuts.specs.DataPass.{IsStoppedRun}
use Rattle.overlay_cuts.specs.Laws.{IsOdd, loss}

-- ---- paths

-- the two numbers of a count are odd
abbrev pub NumbersAreOdd : Type 0
NumbersAreOdd = IsOdd (λ c. c.subj) × IsOdd (λ c. c.clip)

-- the pieces of a segment, through whatever marks, lose together what the segment loses
abbrev pub PiecesTelescope : Type 0
PiecesTelescope =
    (f : Point → ℤ) (part : Winding → ℤ) → IsOdd part → (segment : WholeSegment) (marks : List Point) →
    weighed (loss f) part (pieces segment marks) ≡ loss f segment.pair *ℤ part segment.count

-- ---- passes

-- so a pass changes no such sum
abbrev pub PassKeepsLosses : Type 0
PassKeepsLosses =
    (f : Point → ℤ) (part : Winding → ℤ) → IsLinear part → IsOdd part → (placing : Placing) (segments : List WholeSegment) →
    weighed (loss f) part (pass placing segments) ≡ weighed (loss f) part segments

-- and no point's balance
abbrev pub PassKeepsBalance : Type 0
PassKeepsBalance = (placing : Placing) (segments : List WholeSegment) → KeepsBalance segments (pass placing segments)

-- a rounded settling pass makes a mark, and lowers the potential by at least the number of its marks
abbrev pub SettlingLowers : Type 0
SettlingLowers =
    (segments : List WholeSegment) → IsTrue (is_map segments) → IsTrue (is_rounded segments) →
    (0 < mark_count settling segments) × (potential (pass settling segments) + mark_count settling segments ≤ potential segments)

-- a pass leaves a planar arrangement as it is, and makes no mark
abbrev pub PlanarPassIsUnchanged : Type 0
PlanarPassIsUnchanged =
    (placing : Placing) (segments : List WholeSegment) → IsTrue (is_map segments) → IsTrue (is_planar segments) →
    (pass placing segments ≡ segments) × (mark_count placing segments ≡ 0) × IsFalse (is_rounded segments)

-- Two segments that a pass does not mark are apart, so they are in each later pass, as long as neither is marked.
abbrev pub UnmarkedAreApart : Type 0
UnmarkedAreApart =
    (placing : Placing) (segments : List WholeSegment) (s t : Pair) → Contains (pairs segments) s → Contains (pairs segments) t →
    marks_on placing segments s ≡ [] → marks_on placing segments t ≡ [] → IsTrue (are_apart s t)

-- an end of the pair is where a pass marks a segment
abbrev pub IsAtMark : Placing → List WholeSegment → Pair → Type 0
IsAtMark placing segments p = (s : Pair) × Contains (pairs segments) s × (Contains (marks_on placing segments s) p.a ⊎ Contains (marks_on placing segments s) p.b)

-- A pair that a pass leaves is an old one that it does not mark, or has an end at a mark.
abbrev pub PassHasOldOrMarked : Type 0
PassHasOldOrMarked =
    (placing : Placing) (segments : List WholeSegment) → IsTrue (is_map segments) → (p : Pair) → Contains (pairs (pass placing segments)) p →
    (Contains (pairs segments) p × (marks_on placing segments p ≡ [])) ⊎ IsAtMark placing segments p

-- The marks of a list are those of a part of it, if every two segments that are not both in the part are apart. So is whether it rounds.
abbrev pub PartHasTheMarks : Type 0
PartHasTheMarks =
    (placing : Placing) (segments : List WholeSegment) (keep : Pair → Bool) →
    ((s t : Pair) → Contains (pairs segments) s → Contains (pairs segments) t → (keep s && keep t) ≡ false → IsTrue (are_apart s t)) →
    ((s : Pair) → Contains (pairs segments) s → marks_on placing segments s ≡ (if keep s then marks_on placing (filter (λ u. keep u.pair) segments) s else []))
    × (is_rounded segments ≡ is_rounded (filter (λ u. keep u.pair) segments))

-- ---- cuts at whatever marks, joined

-- an arrangement without marks stays as it is
abbrev pub UnmarkedCutIsUnchanged : Type 0
UnmarkedCutIsUnchanged =
    (marks : Pair → List Point) (segments : List WholeSegment) → IsTrue (is_map segments) → All (λ s. marks s ≡ []) (pairs segments) → pass_by marks segments ≡ segments

-- no mask appears
abbrev pub CutKeepsPolygons : Type 0
CutKeepsPolygons = (marks : Pair → List Point) (segments : List WholeSegment) → IsTrue (are_polygons segments) → IsTrue (are_polygons (pass_by marks segments))

-- ---- runs

-- a run ends, after no more passes than the limit, the potential at the limit and one
abbrev pub RunEnds : Type 0
RunEnds =
    (settings : Settings) (given : List WholeSegment) → IsTrue (are_ordered given) →
    (passes : ℕ) × IsPassCount settings given passes × (passes ≤ settings.limit + potential (after_passes settings given settings.limit) + 1)

-- what is given and the settings decide what a run returns
abbrev pub RunIsOne : Type 0
RunIsOne =
    (settings : Settings) (given first second : List WholeSegment) (j k : ℕ) (b c : Bool) → IsRun settings given first j b → IsRun settings given second k c →
    (first ≡ second) × (j ≡ k) × (b ≡ c)

-- a run changes no point's balance
abbrev pub RunKeepsBalance : Type 0
RunKeepsBalance =
    (settings : Settings) (given result : List WholeSegment) (passes : ℕ) (flag : Bool) → IsRun settings given result passes flag →
    KeepsBalance given result

-- The order of the given segments does not count: what is left after k passes is the same.
abbrev pub PassesIgnoreOrder : Type 0
PassesIgnoreOrder = (settings : Settings) (given other : List WholeSegment) (k : ℕ) → IsPermutation given other → after_passes settings other k ≡ after_passes settings given k

-- so a run returns the same, after as many passes, and reports the same of changes
abbrev pub RunIgnoresOrder : Type 0
RunIgnoresOrder =
    (settings : Settings) (given other result : List WholeSegment) (passes : ℕ) (flag : Bool) → IsPermutation given other → IsRun settings given result passes flag →
    IsRun settings other result passes flag

-- no mask appears
abbrev pub RunKeepsPolygons : Type 0
RunKeepsPolygons =
    (settings : Settings) (given result : List WholeSegment) (passes : ℕ) (flag : Bool) → IsTrue (are_polygons given) → IsRun settings given result passes flag →
    IsTrue (are_polygons result)

-- what a run returns is a planar arrangement
abbrev pub RunIsPlanar : Type 0
RunIsPlanar =
    (settings : Settings) (given result : List WholeSegment) (passes : ℕ) (flag : Bool) → IsTrue (are_ordered given) → IsRun settings given result passes flag →
    IsTrue (is_map result) × IsTrue (is_planar result)

-- a planar arrangement is returned as it is
abbrev pub ArrangedIsUnchanged : Type 0
ArrangedIsUnchanged =
    (settings : Settings) (segments : List WholeSegment) → IsTrue (is_map segments) → IsTrue (is_planar segments) →
    IsRun settings segments segments (min 1 (length segments - 1)) false

-- so a result that is split again, with whatever settings, is returned as it is
abbrev pub ResultIsUnchanged : Type 0
ResultIsUnchanged =
    (settings again : Settings) (given result : List WholeSegment) (passes : ℕ) (flag : Bool) → IsTrue (are_ordered given) → IsRun settings given result passes flag →
    IsRun again result result (min 1 (length result - 1)) false

-- on exact input the result counts along each elementary pair what the given segments count there, and lies on them
abbrev pub ExactInputKeepsCounts : Type 0
ExactInputKeepsCounts =
    (settings : Settings) (given result : List WholeSegment) (passes : ℕ) (flag : Bool) → IsTrue (are_ordered given) → IsTrue (is_exact_input given) → IsRun settings given result passes flag →
    KeepsCounts given result

-- It is the one result, without passes: the elementary pairs of the join, each with the count along it.
abbrev pub ExactInputHasOneAnswer : Type 0
ExactInputHasOneAnswer =
    ((settings : Settings) (given result : List WholeSegment) (passes : ℕ) (flag : Bool) → IsTrue (are_ordered given) → IsTrue (is_exact_input given) → IsRun settings given result passes flag → IsExactAnswer given result)
    × ((given first second : List WholeSegment) → IsExactAnswer given first → IsExactAnswer given second → first ≡ second)

-- and the settings do not change it
abbrev pub ExactRunsAgree : Type 0
ExactRunsAgree =
    (settings other : Settings) (given first second : List WholeSegment) (j k : ℕ) (b c : Bool) → IsTrue (are_ordered given) → IsTrue (is_exact_input given) →
    IsRun settings given first j b → IsRun other given second k c → first ≡ second

-- ---- nearness

-- a pair whose ends are near another lies near it
abbrev pub NearEndsAreEnough : Type 0
NearEndsAreEnough = (halves : ℕ) (r s : Pair) → IsNear halves (whole_point r.a) s → IsNear halves (whole_point r.b) s → LiesNear halves r s

-- distances add up
abbrev pub DistancesAddUp : Type 0
DistancesAddUp = (first second : ℕ) (r s t : Pair) → LiesNear first r s → LiesNear second s t → LiesNear (first + second) r t

-- those that wind lie as near to those that wound
abbrev pub CutKeepsWhatWinds : Type 0
CutKeepsWhatWinds =
    (halves : ℕ) (marks : Pair → List Point) (segments : List WholeSegment) → MarksLieNear halves marks segments →
    LieNear halves (pairs (that_wind segments)) (pairs (that_wind (pass_by marks segments)))

-- and lines to lines, both ways, where masks are of two bits
abbrev pub CutKeepsLines : Type 0
CutKeepsLines =
    (halves : ℕ) (marks : Pair → List Point) (segments : List WholeSegment) → IsTrue (are_ordered segments) → IsTrue (list_all (λ s. nat_lt s.count.mask 4) segments) → MarksLieNear halves marks segments →
    LieNear halves (pairs (with_mask segments)) (pairs (with_mask (pass_by marks segments)))
    × ((s : Pair) → Contains (pairs (with_mask segments)) s → (f : Fraction) → IsNearSome halves (point_along s f) (pairs (with_mask (pass_by marks segments))))

-- every pair of a pass lies near one of the pairs before it: no farther than the pass moves crossings
abbrev pub PassStaysNear : Type 0
PassStaysNear =
    (placing : Placing) (segments : List WholeSegment) → IsTrue (are_ordered segments) →
    LieNear (reach_of_pass placing segments) (pairs segments) (pairs (pass placing segments))

-- and every point of a pair lies near one of the pieces that a pass makes
abbrev pub PiecesStayNear : Type 0
PiecesStayNear =
    (placing : Placing) (segments : List WholeSegment) (s : Pair) → IsTrue (are_ordered segments) → Contains (pairs segments) s → (f : Fraction) →
    IsNearSome (reach_of_pass placing segments) (point_along s f) (pairs (cut placing segments))

-- so what is left after k passes is near what is given, and conversely but for counts that cancel
abbrev pub RunStaysNear : Type 0
RunStaysNear = (settings : Settings) (given : List WholeSegment) (k : ℕ) → IsTrue (are_ordered given) → StaysNear settings given (after_passes settings given k) k

-- of lines nothing cancels: every point of them lies near the result
abbrev pub LinesAreKept : Type 0
LinesAreKept =
    (settings : Settings) (given : List WholeSegment) (k : ℕ) (s : Pair) → IsTrue (are_ordered given) → IsTrue (are_lines given) → Contains (pairs given) s → (f : Fraction) →
    IsNearSome (reach_of_run settings given k) (point_along s f) (pairs (after_passes settings given k))

-- nor beside polygons, where masks are of two bits
abbrev pub RunKeepsLines : Type 0
RunKeepsLines =
    (settings : Settings) (given : List WholeSegment) (k : ℕ) → IsTrue (are_ordered given) → IsTrue (list_all (λ s. nat_lt s.count.mask 4) given) → LinesStayNear settings given (after_passes settings given k) k

-- how near, by the settings and the number of passes alone
abbrev pub ReachIsBounded : Type 0
ReachIsBounded = (settings : Settings) (given : List WholeSegment) (k : ℕ) → reach_of_run settings given k ≤ reach_of_passes settings k

-- the last pass of a run moves nothing, where two segments or more are left
abbrev pub LastPassReachesNothing : Type 0
LastPassReachesNothing =
    (settings : Settings) (given result : List WholeSegment) (passes : ℕ) (flag : Bool) → IsRun settings given result passes flag → 2 ≤ length result →
    reach_of_run settings given passes ≤ reach_of_passes settings (passes - 1)

-- on exact input nothing is moved
abbrev pub ExactInputReachesNothing : Type 0
ExactInputReachesNothing =
    (settings : Settings) (given result : List WholeSegment) (passes : ℕ) (flag : Bool) → IsTrue (are_ordered given) → IsTrue (is_exact_input given) → IsRun settings given result passes flag →
    reach_of_run settings given passes ≡ 0

-- ---- places

-- Pairs that lie near s pass a place that is farther from s on one side: where one lies below it, each that meets the
-- line through it does.
abbrev pub PassOnOneSide : Type 0
PassOnOneSide =
    (halves : ℕ) (p : RationalPoint) (s r t : Pair) → (IsNear halves p s → ⊥) → LiesNear halves r s → LiesNear halves t s →
    IsTrue (lies_below r p) → IsTrue (spans t p) → IsTrue (lies_below t p)

-- nor at one that is farther from each pair that winds
abbrev pub CutKeepsWindingNearLines : Type 0
CutKeepsWindingNearLines =
    (halves : ℕ) (marks : Pair → List Point) (segments : List WholeSegment) (p : RationalPoint) → IsTrue (are_ordered segments) → MarksLieNear halves marks segments → IsFar halves p (pairs (that_wind segments)) →
    winding_below (pass_by marks segments) p ≡ winding_below segments p

-- a pass changes none at a place that is farther from each segment than it moves crossings
abbrev pub PassKeepsWinding : Type 0
PassKeepsWinding =
    (placing : Placing) (segments : List WholeSegment) (p : RationalPoint) → IsTrue (are_ordered segments) → IsFar (reach_of_pass placing segments) p (pairs segments) →
    winding_below (pass placing segments) p ≡ winding_below segments p

-- so what is left after k passes winds as what is given wherever that is farther away than the passes reach
abbrev pub RunKeepsWinding : Type 0
RunKeepsWinding = (settings : Settings) (given : List WholeSegment) (k : ℕ) → IsTrue (are_ordered given) → KeepsWinding settings given (after_passes settings given k) k

-- and that is farther away from those that wind, as lines do not
abbrev pub RunKeepsWindingNearLines : Type 0
RunKeepsWindingNearLines = (settings : Settings) (given : List WholeSegment) (k : ℕ) → IsTrue (are_ordered given) → KeepsWindingNearLines settings given (after_passes settings given k) k

-- on exact input at each place that lies on no given segment
abbrev pub ExactInputKeepsWinding : Type 0
ExactInputKeepsWinding =
    (settings : Settings) (given result : List WholeSegment) (passes : ℕ) (flag : Bool) (p : RationalPoint) → IsTrue (are_ordered given) → IsTrue (is_exact_input given) → IsRun settings given result passes flag →
    IsFar 0 p (pairs given) → winding_below result p ≡ winding_below given p

-- a place that is far lies on no segment
abbrev pub FarLiesOnNone : Type 0
FarLiesOnNone = (segments : List WholeSegment) (p : RationalPoint) → IsTrue (are_ordered segments) → 0 < p.bottom → IsFar 0 p (pairs segments) → IsTrue (is_on_none segments p)

-- so where counts balance, the winding there after k passes is that of any ray from there through what is given
abbrev pub RunKeepsRays : Type 0
RunKeepsRays =
    (settings : Settings) (given : List WholeSegment) (k : ℕ) (p : RationalPoint) → IsTrue (are_ordered given) → IsBalanced given → 0 < p.bottom → IsFar (reach_of_run settings given k) p (pairs given) →
    (winding_below (after_passes settings given k) p ≡ winding_above given p) × (winding_below (after_passes settings given k) p ≡ winding_left given p)
    × (winding_below (after_passes settings given k) p ≡ winding_right given p)

-- ---- passes with data

-- where a run was refused some sum leaves the range
abbrev pub StoppedRunLeavesRange : (D S : Type 0) → Type 0
StoppedRunLeavesRange D S =
    (hooks : Hooks D S) (settings : Settings) (given : List (DataSegment D)) (from left : S) → IsStoppedRun hooks settings given from left →
    LeavesRange settings (without_data given)

-- and what is given, with the settings and the store before, decides the store that is left
abbrev pub StoppedRunIsOne : (D S : Type 0) → Type 0
StoppedRunIsOne D S =
    (hooks : Hooks D S) (settings : Settings) (given : List (DataSegment D)) (from first second : S) → IsStoppedRun hooks settings given from first → IsStoppedRun hooks settings given from second →
    first ≡ second
