-- Cuts and passes leave lists in order, with no two segments on one pair.
use Rattle.std.proofs.Common.{ℕ, zero, suc, List}
use Rattle.std.specs.Prelude.{IsTrue}
use Rattle.std.specs.List.{AllByRecursion}
use Rattle.overlay_geometry.specs.Points.{Point, Pair, is_ordered}
use Rattle.overlay_base.specs.Segments.{WholeSegment, is_map, are_ordered}
use Rattle.overlay_intersections.specs.Marks.{Placing}
use Rattle.overlay_cuts.specs.Path.{pieces}
use Rattle.overlay_cuts.specs.Pass.{cut_by, pass_by, pass}
use Rattle.overlay_intersections.specs.PassMarks.{marks_on}
use Rattle.overlay_cuts.specs.Run.{Settings, placing_of_pass, after_passes}
use Rattle.overlay_cuts.specs.Laws.{CutIsMap}
use Rattle.overlay_base.proofs.laws.joins.Maps.{are_ordered-map, is_map-join}
use Rattle.overlay_geometry.proofs.laws.lists.Lists.{AllByRecursion-both, AllByRecursion-from_Has, AllByRecursion-weaker, AllByRecursion-from_list_all, list_all-from_AllByRecursion}
use Rattle.overlay_cuts.proofs.laws.paths.Cuts.{AllByRecursion-cut}
use Rattle.overlay_cuts.proofs.laws.paths.MarkedPairs.{EachMark-each}
use Rattle.overlay_cuts.proofs.laws.paths.Paths.{are_ordered-pieces}
use Rattle.overlay_intersections.proofs.laws.marks.Marks.{IsFree, IsFree-marks_on}
use Rattle.overlay_cuts.proofs.laws.paths.Ends.{ends_differ}

-- ---- arrangements

-- no mark on a pair of the list is an end of it
abbrev pub MarksAreFree : (Pair → List Point) → List WholeSegment → Type 0
MarksAreFree marks segments = AllByRecursion (λ s. AllByRecursion (IsFree s.pair) (marks s.pair)) segments

are_ordered-cut : (marks : Pair → List Point) (segments : List WholeSegment) → IsTrue (are_ordered segments) → MarksAreFree marks segments → IsTrue (are_ordered (cut_by marks segments))
are_ordered-cut marks segments ordered free =
    list_all-from_AllByRecursion (λ s. is_ordered s.pair) (cut_by marks segments)
    (AllByRecursion-cut (λ s. IsTrue (is_ordered s.pair)) marks segments
    (AllByRecursion-weaker (λ s. IsTrue (is_ordered s.pair) × AllByRecursion (IsFree s.pair) (marks s.pair)) (λ s. AllByRecursion (λ p. IsTrue (is_ordered p.pair)) (pieces s (marks s.pair)))
    (λ s k. AllByRecursion-from_list_all (λ p. is_ordered p.pair) (pieces s (marks s.pair)) (are_ordered-pieces s (marks s.pair) (ends_differ s.pair k.0) k.1))
    segments (AllByRecursion-both (λ s. IsTrue (is_ordered s.pair)) (λ s. AllByRecursion (IsFree s.pair) (marks s.pair)) segments (AllByRecursion-from_list_all (λ s. is_ordered s.pair) segments ordered) free)))

-- a cut, joined, is an arrangement
is_map-pass_by : (marks : Pair → List Point) (segments : List WholeSegment) → IsTrue (are_ordered segments) → MarksAreFree marks segments → IsTrue (is_map (pass_by marks segments))
is_map-pass_by marks segments ordered free = is_map-join (cut_by marks segments) (are_ordered-cut marks segments ordered free)

pub cut_is_map : CutIsMap
cut_is_map marks segments ordered free = is_map-pass_by marks segments ordered (EachMark-each IsFree marks segments free)

-- and so is a pass
pub is_map-pass : (placing : Placing) (segments : List WholeSegment) → IsTrue (are_ordered segments) → IsTrue (is_map (pass placing segments))
unfolding pass
is_map-pass placing segments ordered =
    is_map-pass_by (marks_on placing segments) segments ordered
    (AllByRecursion-from_Has (λ (s : WholeSegment). AllByRecursion (IsFree s.pair) (marks_on placing segments s.pair)) segments (λ s _. IsFree-marks_on placing segments s.pair))

pub is_map-after_passes : (settings : Settings) (given : List WholeSegment) (k : ℕ) → IsTrue (are_ordered given) → IsTrue (is_map (after_passes settings given k))
unfolding after_passes
is_map-after_passes settings given zero ordered = is_map-join given ordered
is_map-after_passes settings given (suc k) ordered = is_map-pass (placing_of_pass settings (suc k)) (after_passes settings given k) (are_ordered-map (after_passes settings given k) (is_map-after_passes settings given k ordered))
