use Rattle.std.proofs.Common.{◌≡◌, ◌↔◌, true, map}
use Rattle.std.specs.Prelude.{Contains}
use Rattle.std.specs.List.{list_all}
use Rattle.overlay_geometry.specs.Points.{Point}
use Rattle.overlay_geometry.specs.PointOf.{point_of}
use Rattle.overlay_geometry.specs.Coordinates.{is_point_in_range}
use Rattle.overlay_base.specs.SegmentOf.{pairs_in}
use Rattle.overlay_snapping.specs.PointFinderOf.{points_in}
use Rattle.overlay_snapping.specs.steps.Recorded.{AreRecorded}
use Rattle.overlay_snapping.specs.steps.Closing.{ArePassed}
use Rattle.overlay_snapping.proofs.laws.closure.Repetitions.{AreSound, left}
use Rattle.overlay_snapping.proofs.snap.closure.Closure.close.Given as goal

abbrev pub invariant-loop-size : goal.invariant-loop-size
invariant-loop-size g l =
    let whole = g.I.OverlayInt.whole in
    let found = map (point_of whole) l.found.items in
    record {
      points : list_all (is_point_in_range (whole g.I.OverlayInt.MIN_COORD) (whole g.I.OverlayInt.MAX_COORD)) found ≡ true;
      sound : AreSound (pairs_in l.segments) found;
      hot : (c : Point) → Contains (points_in l.hot) c ↔ Contains found c;
      passed : ArePassed (pairs_in l.segments) found (map (point_of whole) l.given) (map (point_of whole) l.self.passed.items);
      recorded : AreRecorded (pairs_in l.segments) (points_in l.hot) l.self.meetings;
    }

-- how many given points are not found
abbrev pub decreases-loop-size : goal.decreases-loop-size
decreases-loop-size g l = let whole = g.I.OverlayInt.whole in left (map (point_of whole) l.given) (map (point_of whole) l.found.items)
