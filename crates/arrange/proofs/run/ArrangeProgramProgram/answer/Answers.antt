use Rattle.overlay_text.specs.declared.settings.Engine.TheVariants.{I16, I32}
use Rattle.arrange.proofs.Runs.{by_engine}
use Rattle.arrange.proofs.run.ArrangeProgramProgram.answer.Goals as goal

pub returns-in-I16-clause-stop : goal.returns-in-I16-clause-stop
returns-in-I16-clause-stop c = by_engine c.args.choices I16 c.args.bytes.now c.answer_with.result c.in-I16.is c.answer_with.ensures.stop

pub returns-in-I32-clause-stop : goal.returns-in-I32-clause-stop
returns-in-I32-clause-stop c = by_engine c.args.choices I32 c.args.bytes.now c.answer_with-in-I32.result c.in-I32.is c.answer_with-in-I32.ensures.stop
