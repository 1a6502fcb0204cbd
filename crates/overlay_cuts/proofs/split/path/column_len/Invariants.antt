use Rattle.std.proofs.Common.{◌≡◌, ◌+◌, drop}
use Rattle.std.specs.List.{prefix_len}
use Rattle.std.specs.Ordering.{int_eq}
use Rattle.overlay_cuts.proofs.split.path.column_len.Given as goal

abbrev pub invariant-loop-index : goal.invariant-loop-index
invariant-loop-index g l =
    prefix_len (λ m. int_eq (g.I.OverlayInt.whole m.point.x) (g.I.OverlayInt.whole l.x)) l.marks ≡ l.index + prefix_len (λ m. int_eq (g.I.OverlayInt.whole m.point.x) (g.I.OverlayInt.whole l.x)) (drop l.index l.marks)
