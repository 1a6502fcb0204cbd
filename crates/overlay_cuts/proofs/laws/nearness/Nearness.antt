-- Every piece lies near the segment that was cut.
use Rattle.std.proofs.Common.{ℕ, zero, suc, ◌-◌, List}
use Rattle.std.specs.Prelude.{Contains}
use Rattle.std.specs.List.{AllByRecursion}
use Rattle.std.proofs.lemmas.List.Elements.{All-from_recursion}
use Rattle.overlay_geometry.specs.Points.{Point, Pair}
use Rattle.overlay_base.specs.Segments.{WholeSegment, pairs}
use Rattle.overlay_geometry.proofs.laws.lists.Lists.{AllByRecursion-weaker, AllByRecursion-map, AllByRecursion-from_Has, Has, Has-map}
use Rattle.overlay_cuts.specs.Path.{pieces}
use Rattle.overlay_cuts.specs.Pass.{cut_by, pass_by}
use Rattle.overlay_cuts.specs.Nearness.{whole_point, IsNear, LiesNear, LieNear}
use Rattle.overlay_cuts.specs.Laws.{CutStaysNear}
use Rattle.overlay_cuts.proofs.laws.paths.Cuts.{AllByRecursion-cut, AllByRecursion-join}
use Rattle.overlay_cuts.proofs.laws.paths.Boxes.{AtEnds, pieces_have}
use Rattle.overlay_cuts.proofs.laws.paths.MarkedPairs.{EachMark-at}
use Rattle.overlay_cuts.proofs.laws.nearness.Distances.{LiesNear-from_ends, IsNear-start, IsNear-end}
use Rattle.overlay_cuts.proofs.laws.nearness.NearMarks.{AreNear, MarksAreNear}
use Rattle.overlay_geometry.proofs.laws.lists.Elements.{Contains-from_Has}

-- ---- one segment

-- r lies that near to one of the pairs
abbrev pub HasNear : ℕ → List Pair → Pair → Type 0
HasNear h given r = (s : Pair) × Contains given s × LiesNear h r s

-- the pieces through marks that are near a pair lie near it
pub pieces_lie_near : (h : ℕ) (s : WholeSegment) (marks : List Point) → AreNear h marks s.pair → AllByRecursion (λ r. LiesNear h r.pair s.pair) (pieces s marks)
pieces_lie_near h s marks near =
    AllByRecursion-weaker (λ r. AtEnds (λ p. IsNear h (whole_point p) s.pair) r.pair) (λ r. LiesNear h r.pair s.pair) (λ r k. LiesNear-from_ends h r.pair s.pair k.0 k.1) (pieces s marks)
    (pieces_have (λ p. IsNear h (whole_point p) s.pair) s marks (IsNear-start h s.pair, IsNear-end h s.pair) near)

-- ---- a pass

piece_has_near : (h : ℕ) (marks : Pair → List Point) (segments : List WholeSegment) → MarksAreNear h marks segments → (s : WholeSegment) → Has segments s → AllByRecursion (λ r. HasNear h (pairs segments) r.pair) (pieces s (marks s.pair))
piece_has_near h marks segments near s i =
    let here = Has-map (λ (t : WholeSegment). t.pair) segments s i in
    AllByRecursion-weaker (λ r. LiesNear h r.pair s.pair) (λ r. HasNear h (pairs segments) r.pair) (λ r k. (s.pair, Contains-from_Has (pairs segments) s.pair here, k)) (pieces s (marks s.pair))
    (pieces_lie_near h s (marks s.pair) (near s.pair here))

pub LieNear-to : (h : ℕ) (given : List Pair) (result : List WholeSegment) → AllByRecursion (λ r. HasNear h given r.pair) result → LieNear h given (pairs result)
LieNear-to h given result each = All-from_recursion (HasNear h given) (pairs result) (AllByRecursion-map (HasNear h given) (λ (r : WholeSegment). r.pair) result each)

-- where the marks on each pair are near it, each pair that is made lies near one before it
pub near_pairs : (h : ℕ) (marks : Pair → List Point) (segments : List WholeSegment) → MarksAreNear h marks segments → LieNear h (pairs segments) (pairs (pass_by marks segments))
near_pairs h marks segments near =
    LieNear-to h (pairs segments) (pass_by marks segments)
    (AllByRecursion-join (HasNear h (pairs segments)) (cut_by marks segments)
    (AllByRecursion-cut (λ r. HasNear h (pairs segments) r.pair) marks segments
    (AllByRecursion-from_Has (λ s. AllByRecursion (λ r. HasNear h (pairs segments) r.pair) (pieces s (marks s.pair))) segments (piece_has_near h marks segments near))))

pub cut_stays_near : CutStaysNear
cut_stays_near h marks segments near = near_pairs h marks segments (EachMark-at (λ s m. IsNear h (whole_point m) s) marks segments near)
