use Rattle.polygons.proofs.run.relation_of.Goals as goal

pub returns-then-choices-clause-text : goal.returns-then-choices-clause-text
returns-then-choices-clause-text g c = rw c.if-choices.true c.wkt_relation.ensures.text

pub returns-then-choices-clause-stop : goal.returns-then-choices-clause-stop
returns-then-choices-clause-stop g c = rw c.if-choices.true c.wkt_relation.ensures.stop

pub returns-else-choices-clause-text : goal.returns-else-choices-clause-text
returns-else-choices-clause-text g c = rw c.if-choices.false c.contours_relation.ensures.text

pub returns-else-choices-clause-stop : goal.returns-else-choices-clause-stop
returns-else-choices-clause-stop g c = rw c.if-choices.false c.contours_relation.ensures.stop
