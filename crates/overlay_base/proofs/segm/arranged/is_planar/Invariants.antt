use Rattle.std.proofs.Common.{◌≡◌, IsTrue, length}
use Rattle.overlay_geometry.specs.Points.{pair_cmp}
use Rattle.overlay_geometry.specs.Sorting.{is_strictly_sorted}
use Rattle.overlay_base.specs.Segments.{pairs}
use Rattle.overlay_base.specs.Planar.{is_splittable}
use Rattle.overlay_base.specs.SegmentOf.{segments_of}
use Rattle.overlay_base.proofs.laws.geometry.Apart.{are_all_apart}
use Rattle.overlay_base.proofs.segm.arranged.is_planar.Given as goal

abbrev pub invariant-loop-first : goal.invariant-loop-first
invariant-loop-first g l = record {
  apart : are_all_apart (pairs (segments_of l.rest)) ≡ are_all_apart (pairs (segments_of l.segments));
  splittable : IsTrue (is_splittable (g.I.OverlayInt.whole g.I.OverlayInt.MIN_COORD) (g.I.OverlayInt.whole g.I.OverlayInt.MAX_COORD) (segments_of l.rest));
  sorted : IsTrue (is_strictly_sorted pair_cmp (pairs (segments_of l.rest)));
}

abbrev pub decreases-loop-first : goal.decreases-loop-first
decreases-loop-first g l = length l.rest
