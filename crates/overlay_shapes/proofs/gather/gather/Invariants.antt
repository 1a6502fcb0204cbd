use Rattle.std.proofs.Common.{take}
use Rattle.overlay_build.specs.BoundaryOf.{walks_of}
use Rattle.overlay_shapes.specs.Gathered.{groups_of}
use Rattle.overlay_shapes.proofs.laws.Gathering.{AreAdded}
use Rattle.overlay_shapes.proofs.gather.gather.Given as goal

abbrev pub invariant-loop-walk : goal.invariant-loop-walk
invariant-loop-walk l = AreAdded l.leaders l.fronts l.numbers.items (take l.walk-index (walks_of l.walks)) (groups_of l.groups.items)
