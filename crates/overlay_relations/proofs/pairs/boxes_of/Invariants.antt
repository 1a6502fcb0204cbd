use Rattle.std.specs.Prelude.{Contains, ◌↔◌}
use Rattle.overlay_relations.specs.Pairs.{IsBoxOfSome}
use Rattle.overlay_relations.specs.declared.columns.NumberedBox.{NumberedBox}
use Rattle.overlay_relations.proofs.pairs.boxes_of.Given as goal

-- the boxes of the regions so far
abbrev pub invariant-loop-number : goal.invariant-loop-number
invariant-loop-number g l = (b : NumberedBox _) → Contains l.boxes.items b ↔ IsBoxOfSome l.number l.regions b
