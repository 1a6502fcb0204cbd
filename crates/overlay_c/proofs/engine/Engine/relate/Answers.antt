use Rattle.overlay_c.proofs.engine.Engine.relate.Goals as goal

pub returns-clause-matrix : goal.returns-clause-matrix
returns-clause-matrix c = rw c.fill_rule-fill_rule.ensures at c.matrix.ensures.matrix
