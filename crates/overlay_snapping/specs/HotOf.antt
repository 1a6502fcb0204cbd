-- The hot points, as a finder of cuts has them.
use Rattle.std.specs.Prelude.{◌↔◌, List, Contains}
use Rattle.overlay_geometry.specs.Points.{Point, Pair}
use Rattle.overlay_base.specs.Segments.{WholeSegment, pairs}
use Rattle.overlay_snapping.specs.Chains.{IsHot, AreDecided}
use Rattle.overlay_snapping.specs.PointFinderOf.{points_in}
use Rattle.overlay_snapping.specs.steps.Recorded.{AreRecorded}
use Rattle.overlay_snapping.specs.declared.snap.cut_finder.CutFinder.{CutFinder}

-- these are the hot points
abbrev pub AreHotPoints : List Pair → List Point → Type 0
AreHotPoints segments points = (c : Point) → Contains points c ↔ IsHot segments c

-- A finder has exactly the hot points of these segments, each of them moves or does not, and what is recorded is what they meet.
pub record KnowsHot {I : Type 0} {w : _} {o : _} {e : _} {p : _} (segments : List WholeSegment) (finder : CutFinder I w o e p) : Type 0 where
  pub hot : AreHotPoints (pairs segments) (points_in finder.hot)
  pub decided : AreDecided segments
  pub recorded : AreRecorded (pairs segments) (points_in finder.hot) finder.closure.meetings
