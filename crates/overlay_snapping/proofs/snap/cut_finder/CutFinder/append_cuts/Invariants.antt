use Rattle.std.proofs.Common.{◌≡◌, ◌++◌, map, take}
use Rattle.overlay_snapping.proofs.laws.cuts.Between.{cut_at}
use Rattle.overlay_snapping.proofs.snap.cut_finder.CutFinder.append_cuts.Given as goal

abbrev pub invariant-loop-point : goal.invariant-loop-point
invariant-loop-point g l = l.cuts.items ≡ l.fn.cuts.items ++ map (cut_at l.index) (take l.point-index l.point-items)
