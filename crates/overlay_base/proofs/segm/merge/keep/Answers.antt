use Rattle.std.proofs.Common.{arith, ◌+◌, rules}
use Rattle.std.proofs.lemmas.Grind.{common_steps}
use Rattle.std.proofs.lemmas.List.{drop-set-lt, length-set}
use Rattle.overlay_base.proofs.segm.merge.keep.Goals as goal

pub index_mut-requires : goal.index_mut-requires
index_mut-requires g c = omega (arith, c.requires)

pub overflow_add-result : goal.overflow_add-result
overflow_add-result g c = omega (arith, c.requires, c.args.list.now.ok.0)

pub returns-clause-bound : goal.returns-clause-bound
returns-clause-bound g c = omega arith

pub returns-clause-rest : goal.returns-clause-rest
returns-clause-rest g c = drop-set-lt (c.args.kept + 1) c.args.list.now.items c.args.kept c.args.segment (omega arith)

pub returns-clause-len : goal.returns-clause-len
returns-clause-len g c = length-set _ _ _

pub returns-then-not-is_not_empty-clause-kept : goal.returns-then-not-is_not_empty-clause-kept
returns-then-not-is_not_empty-clause-kept g c = search rules

pub returns-clause-kept : goal.returns-clause-kept
returns-clause-kept g c = grind (arith, common_steps)
