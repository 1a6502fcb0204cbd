use Rattle.std.proofs.Common.{drop}
use Rattle.overlay_base.specs.SegmentOf.{pairs_in}
use Rattle.overlay_grid.specs.FragmentOf.{fragments_of, layout_of}
use Rattle.overlay_grid.specs.steps.Entering.{rests_of}
use Rattle.overlay_grid.proofs.laws.grid.GridSweeps.{IsTaken, IsTakenFrom}
use Rattle.overlay_grid.proofs.split.column_parts.take_column.Given as goal

abbrev pub invariant-loop-place : goal.invariant-loop-place
invariant-loop-place g l =
    IsTakenFrom (layout_of l.layout) (pairs_in l.segments) l.from l.column (drop l.place (rests_of g.I.OverlayInt.whole l.rests)) (fragments_of g.I.OverlayInt.whole l.parts.group.items) (rests_of g.I.OverlayInt.whole l.parts.rests.items)

abbrev pub invariant-loop-index : goal.invariant-loop-index
invariant-loop-index g l =
    IsTaken (layout_of l.layout) (pairs_in l.segments) l.index l.column (fragments_of g.I.OverlayInt.whole l.parts.group.items) (rests_of g.I.OverlayInt.whole l.parts.rests.items)
