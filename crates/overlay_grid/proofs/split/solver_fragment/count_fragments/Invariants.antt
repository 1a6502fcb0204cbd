use Rattle.overlay_base.specs.Segments.{pairs}
use Rattle.overlay_base.specs.SegmentOf.{segments_of}
use Rattle.overlay_grid.specs.GroupsOf.{grid_of}
use Rattle.overlay_grid.proofs.laws.grid.FragmentCounts.{IsCounting}
use Rattle.overlay_grid.proofs.split.solver_fragment.count_fragments.Given as goal

abbrev pub invariant-loop-index : goal.invariant-loop-index
invariant-loop-index g l = IsCounting (grid_of l.buffer) (pairs (segments_of l.segments)) l.count l.index
