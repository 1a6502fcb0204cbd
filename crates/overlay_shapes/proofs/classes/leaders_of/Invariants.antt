use Rattle.overlay_shapes.proofs.laws.Leaders.{AreClasses, AreLed}
use Rattle.overlay_shapes.proofs.classes.leaders_of.Given as goal

abbrev pub invariant-loop-join : goal.invariant-loop-join
invariant-loop-join l = AreClasses l.count l.join-index l.joins l.parents.items

abbrev pub invariant-loop-number : goal.invariant-loop-number
invariant-loop-number l = AreLed l.count l.number l.joins l.parents.items l.leaders.items
