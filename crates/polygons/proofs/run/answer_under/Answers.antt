use Rattle.polygons.proofs.run.answer_under.Goals as goal

pub returns-then-has_others-clause-text : goal.returns-then-has_others-clause-text
returns-then-has_others-clause-text g c = rw (← c.has_others.ensures, c.if-has_others.true) c.rules_under.ensures.text

pub returns-then-has_others-clause-stop : goal.returns-then-has_others-clause-stop
returns-then-has_others-clause-stop g c = rw (← c.has_others.ensures, c.if-has_others.true) c.rules_under.ensures.stop

pub returns-then-choices-clause-text : goal.returns-then-choices-clause-text
returns-then-choices-clause-text g c = rw (← c.has_others.ensures, c.if-has_others.false, c.if-choices.true) c.wkt_under.ensures.text

pub returns-then-choices-clause-stop : goal.returns-then-choices-clause-stop
returns-then-choices-clause-stop g c = rw (← c.has_others.ensures, c.if-has_others.false, c.if-choices.true) c.wkt_under.ensures.stop

pub returns-then-choices-2-clause-text : goal.returns-then-choices-2-clause-text
returns-then-choices-2-clause-text g c = rw (← c.has_others.ensures, c.if-has_others.false, c.if-choices.false, c.if-choices-2.true) c.shapes_under.ensures.text

pub returns-then-choices-2-clause-stop : goal.returns-then-choices-2-clause-stop
returns-then-choices-2-clause-stop g c = rw (← c.has_others.ensures, c.if-has_others.false, c.if-choices.false, c.if-choices-2.true) c.shapes_under.ensures.stop

pub returns-else-choices-2-clause-text : goal.returns-else-choices-2-clause-text
returns-else-choices-2-clause-text g c = rw (← c.has_others.ensures, c.if-has_others.false, c.if-choices.false, c.if-choices-2.false) c.contours_under.ensures.text

pub returns-else-choices-2-clause-stop : goal.returns-else-choices-2-clause-stop
returns-else-choices-2-clause-stop g c = rw (← c.has_others.ensures, c.if-has_others.false, c.if-choices.false, c.if-choices-2.false) c.contours_under.ensures.stop
