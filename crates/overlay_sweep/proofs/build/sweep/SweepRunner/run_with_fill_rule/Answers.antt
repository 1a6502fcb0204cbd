use Rattle.std.proofs.Common.{rules}
use Rattle.overlay_sweep.proofs.build.sweep.SweepRunner.run_with_fill_rule.Goals as goal

pub returns-in-Positive-clause-answer : goal.returns-in-Positive-clause-answer
returns-in-Positive-clause-answer g c = search rules

pub returns-in-Positive-clause-in_range : goal.returns-in-Positive-clause-in_range
returns-in-Positive-clause-in_range g c = search rules

pub returns-in-Positive-clause-out_of_range : goal.returns-in-Positive-clause-out_of_range
returns-in-Positive-clause-out_of_range g c = search rules
