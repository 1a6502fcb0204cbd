use Rattle.std.proofs.Common.{take}
use Rattle.overlay_relations.specs.steps.Columns.{HoldsBoxes}
use Rattle.overlay_relations.proofs.columns.bounds_of.Given as goal

-- the box is around the boxes so far
abbrev pub invariant-loop-numbered : goal.invariant-loop-numbered
invariant-loop-numbered g l = HoldsBoxes g.I.OverlayInt.whole (take l.numbered-index l.boxes) l.bounds
