use Rattle.overlay_base.proofs.laws.joins.Functionals.{numbers_are_linear, weighed-join, balance-join}
use Rattle.overlay_base.proofs.segm.laws.join_sum_laws.Goals as goal

pub returns-clause-linear : goal.returns-clause-linear
returns-clause-linear c = numbers_are_linear

pub returns-clause-sums : goal.returns-clause-sums
returns-clause-sums c = weighed-join

pub returns-clause-balance : goal.returns-clause-balance
returns-clause-balance c = balance-join
