use Rattle.std.proofs.Common.{◌≡◌, map, length}
use Rattle.overlay_geometry.specs.Points.{point_cmp, point_eq}
use Rattle.overlay_geometry.specs.Sorting.{has_repeat}
use Rattle.overlay_geometry.specs.PointOf.{point_of}
use Rattle.overlay_geometry.proofs.laws.lists.Keys.{IsInOrder}
use Rattle.overlay_build.proofs.build.util.has_equal_neighbors.Given as goal

abbrev pub invariant-loop-first : goal.invariant-loop-first
invariant-loop-first g l = record {
  repeat : has_repeat point_eq (map (point_of g.I.OverlayInt.whole) l.rest) ≡ has_repeat point_eq (map (point_of g.I.OverlayInt.whole) l.points);
  in_order : IsInOrder point_cmp (map (point_of g.I.OverlayInt.whole) l.rest);
}

abbrev pub decreases-loop-first : goal.decreases-loop-first
decreases-loop-first g l = length l.rest
