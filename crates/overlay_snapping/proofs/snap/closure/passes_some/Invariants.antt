use Rattle.std.proofs.Common.{◌≡◌, true, map, take}
use Rattle.std.specs.Prelude.{Contains}
use Rattle.overlay_geometry.specs.Points.{Point, lies_on}
use Rattle.overlay_geometry.specs.PointOf.{point_of}
use Rattle.overlay_geometry.specs.PairOf.{pair_of}
use Rattle.overlay_snapping.proofs.snap.closure.passes_some.Given as goal

-- the points so far lie on the segment
abbrev pub invariant-loop-point : goal.invariant-loop-point
invariant-loop-point g l = (c : Point) → Contains (map (point_of g.I.OverlayInt.whole) (take l.point-index l.point-items)) c → lies_on (pair_of g.I.OverlayInt.whole l.segment) c ≡ true
