use Rattle.overlay_base.proofs.laws.joins.Bags.{windings_add}
use Rattle.overlay_base.proofs.laws.counts.Windings.{inverse_cancels, polygon_counts_are_group, inverse_twice, inverse_of_sum}
use Rattle.overlay_base.proofs.segm.laws.winding_laws.Goals as goal

pub returns-clause-adds_up : goal.returns-clause-adds_up
returns-clause-adds_up c = windings_add

pub returns-clause-cancels : goal.returns-clause-cancels
returns-clause-cancels c = inverse_cancels

pub returns-clause-group : goal.returns-clause-group
returns-clause-group c = polygon_counts_are_group

pub returns-clause-inverse_twice : goal.returns-clause-inverse_twice
returns-clause-inverse_twice c = inverse_twice

pub returns-clause-inverse_of_sum : goal.returns-clause-inverse_of_sum
returns-clause-inverse_of_sum c = inverse_of_sum
