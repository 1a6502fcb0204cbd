use Rattle.std.proofs.Common.{to_z-of_z, rules, refl}
use Rattle.overlay_sweep.proofs.build.fill_strategy.is_inside.Goals as goal

pub nonzero_rem-result : goal.nonzero_rem-result
nonzero_rem-result c = rw (to_z-of_z c.ranges.winding) (search rules)

pub returns-in-EvenOdd : goal.returns-in-EvenOdd
returns-in-EvenOdd c = rw (c.in-EvenOdd.is, to_z-of_z c.ranges.winding) (search rules)

pub returns-in-NonZero : goal.returns-in-NonZero
returns-in-NonZero c = rw c.in-NonZero.is (search rules)

pub returns-in-Positive : goal.returns-in-Positive
returns-in-Positive c = rw (c.in-Positive.is, to_z-of_z c.ranges.winding) refl

pub returns-in-Negative : goal.returns-in-Negative
returns-in-Negative c = rw (c.in-Negative.is, to_z-of_z c.ranges.winding) refl
