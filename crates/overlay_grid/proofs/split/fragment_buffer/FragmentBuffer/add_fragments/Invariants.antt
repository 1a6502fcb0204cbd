use Rattle.std.proofs.Common.{◌≡◌}
use Rattle.overlay_geometry.specs.PointOf.{point_of}
use Rattle.overlay_grid.specs.GroupsOf.{group_of, grid_of}
use Rattle.overlay_grid.proofs.laws.grid.GridAdding.{IsAdding}
use Rattle.overlay_grid.proofs.split.fragment_buffer.FragmentBuffer.add_fragments.Given as goal

abbrev pub invariant-loop-column : goal.invariant-loop-column
invariant-loop-column g l = record {
  layout : grid_of l.self ≡ grid_of l.fn.self;
  walk : IsAdding (grid_of l.fn.self) l.index (record { a = point_of g.I.OverlayInt.whole l.a; b = point_of g.I.OverlayInt.whole l.b }) (group_of l.fn.self) (group_of l.self) (point_of g.I.OverlayInt.whole l.corner) l.column;
}
