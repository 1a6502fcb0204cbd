use Rattle.std.proofs.Common.{◌≡◌, ◌≤◌, count_by, take}
use Rattle.overlay_geometry.specs.RangeOf.{range_of}
use Rattle.overlay_tree.specs.steps.ListScan.{do_ranges_meet}
use Rattle.overlay_tree.proofs.split.solver_list.meets_some.Given as goal

abbrev pub invariant-loop-range : goal.invariant-loop-range
invariant-loop-range g l =
    (l.met ≡ count_by (λ range. do_ranges_meet (range_of g.I.OverlayInt.whole l.own) (range_of g.I.OverlayInt.whole range)) (take l.range-index l.block)) × (l.met ≤ l.range-index)
