use Rattle.std.proofs.Common.{◌≡◌, ◌++◌, ℕ, drop}
use Rattle.overlay_base.specs.Segments.{pairs}
use Rattle.overlay_base.specs.SegmentOf.{segments_of}
use Rattle.overlay_grid.specs.GroupsOf.{group_of, grid_of}
use Rattle.overlay_grid.specs.steps.FragmentFinder.{kept_group}
use Rattle.overlay_grid.proofs.split.solver_fragment.fill.Given as goal

abbrev pub invariant-loop-index : goal.invariant-loop-index
invariant-loop-index g l = record {
  layout : grid_of l.buffer ≡ grid_of l.fn.buffer;
  added : (column : ℕ) → group_of l.buffer column ++ kept_group (grid_of l.fn.buffer) l.index (drop l.index (pairs (segments_of l.segments))) column ≡ kept_group (grid_of l.fn.buffer) 0 (pairs (segments_of l.segments)) column;
}
