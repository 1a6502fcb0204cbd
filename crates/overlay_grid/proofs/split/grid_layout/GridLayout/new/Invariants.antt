use Rattle.std.proofs.Common.{◌≡◌, drop, map}
use Rattle.overlay_geometry.specs.PairOf.{pair_of}
use Rattle.overlay_geometry.specs.Coordinates.{is_coordinate}
use Rattle.std.specs.Prelude.{IsTrue}
use Rattle.overlay_grid.specs.Grid.{greatest_x}
use Rattle.overlay_grid.proofs.split.grid_layout.GridLayout.new.Given as goal

abbrev pub invariant-loop-index : goal.invariant-loop-index
invariant-loop-index g l = record {
  greatest : greatest_x (g.I.OverlayInt.whole l.max_x) (drop l.index (map (pair_of g.I.OverlayInt.whole) l.segments)) ≡ greatest_x (g.I.OverlayInt.whole l.initial.max_x) (drop 1 (map (pair_of g.I.OverlayInt.whole) l.segments));
  in_range : IsTrue (is_coordinate (g.I.OverlayInt.whole g.I.OverlayInt.MIN_COORD) (g.I.OverlayInt.whole g.I.OverlayInt.MAX_COORD) (g.I.OverlayInt.whole l.max_x));
}
