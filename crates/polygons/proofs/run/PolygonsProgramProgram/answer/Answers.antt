use Rattle.std.proofs.Common.{string_bytes}
use Rattle.overlay_text.specs.declared.settings.Engine.TheVariants.{I16, I32}
use Rattle.polygons.proofs.Answering.{text_by_engine, stop_by_engine}
use Rattle.polygons.proofs.run.PolygonsProgramProgram.answer.Goals as goal

pub returns-in-I16-clause-text : goal.returns-in-I16-clause-text
returns-in-I16-clause-text c = text_by_engine c.args.choices I16 c.args.bytes.now c.answer_with.result c.in-I16.is string_bytes c.answer_with.ensures.text

pub returns-in-I16-clause-stop : goal.returns-in-I16-clause-stop
returns-in-I16-clause-stop c = stop_by_engine c.args.choices I16 c.args.bytes.now c.answer_with.result c.in-I16.is c.answer_with.ensures.stop

pub returns-in-I32-clause-text : goal.returns-in-I32-clause-text
returns-in-I32-clause-text c = text_by_engine c.args.choices I32 c.args.bytes.now c.answer_with-in-I32.result c.in-I32.is string_bytes c.answer_with-in-I32.ensures.text

pub returns-in-I32-clause-stop : goal.returns-in-I32-clause-stop
returns-in-I32-clause-stop c = stop_by_engine c.args.choices I32 c.args.bytes.now c.answer_with-in-I32.result c.in-I32.is c.answer_with-in-I32.ensures.stop
