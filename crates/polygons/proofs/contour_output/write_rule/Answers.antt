use Rattle.std.proofs.Common.{arith}
use Rattle.std.proofs.lemmas.Grind.{common_steps, elements}
use Rattle.polygons.proofs.contour_output.write_rule.Goals as goal

pub returns-in-Table : goal.returns-in-Table
returns-in-Table c = rw (c.in-Table.is, ← c.bits-bits.ensures.bits) (grind (arith, common_steps, c.writeln.ensures.bytes))

pub returns-in-Union : goal.returns-in-Union
returns-in-Union c = grind (arith, elements)

pub returns-in-InverseDifference : goal.returns-in-InverseDifference
returns-in-InverseDifference c = grind (arith, elements)
