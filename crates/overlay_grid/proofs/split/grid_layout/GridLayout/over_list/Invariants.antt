use Rattle.std.proofs.Common.{◌≡◌, drop}
use Rattle.overlay_base.specs.Segments.{pairs}
use Rattle.overlay_base.specs.SegmentOf.{segments_of}
use Rattle.overlay_geometry.specs.Coordinates.{is_coordinate}
use Rattle.std.specs.Prelude.{IsTrue}
use Rattle.overlay_grid.specs.Grid.{greatest_x}
use Rattle.overlay_grid.proofs.split.grid_layout.GridLayout.over_list.Given as goal

abbrev pub invariant-loop-index : goal.invariant-loop-index
invariant-loop-index g l = record {
  greatest : greatest_x (g.I.OverlayInt.whole l.max_x) (drop l.index (pairs (segments_of l.segments))) ≡ greatest_x (g.I.OverlayInt.whole l.initial.max_x) (drop 1 (pairs (segments_of l.segments)));
  in_range : IsTrue (is_coordinate (g.I.OverlayInt.whole g.I.OverlayInt.MIN_COORD) (g.I.OverlayInt.whole g.I.OverlayInt.MAX_COORD) (g.I.OverlayInt.whole l.max_x));
}
