use Rattle.overlay_shapes.specs.Gathered.{groups_of}
use Rattle.overlay_shapes.proofs.laws.Gathering.{IsNumbering}
use Rattle.overlay_shapes.proofs.gather.number_leaders.Given as goal

abbrev pub invariant-loop-index : goal.invariant-loop-index
invariant-loop-index l = IsNumbering l.leaders l.numbers (groups_of l.groups.items) l.index
