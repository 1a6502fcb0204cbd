use Rattle.std.proofs.Common.{sym, subst}
use Rattle.std.specs.Prelude.{IfSome}
use Rattle.std.specs.declared.option.Option.{Option}
use Rattle.overlay_base.specs.declared.segm.shape_type.ShapeType.TheVariants.{Subject, Clip}
use Rattle.overlay_c.specs.Contours.{contours_in}
use Rattle.overlay_c.specs.Matrices.{IsMatrixBy}
use Rattle.overlay_c.specs.Records.{fill_rule_of}
use Rattle.overlay_c.specs.declared.engine.Engine.{Engine}
use Rattle.overlay_c.proofs.overlay_c_relate.Goals as goal

pub returns-in-Ok-clause-matrix : goal.returns-in-Ok-clause-matrix
returns-in-Ok-clause-matrix c done =
    subst (λ (o : Option Engine). IfSome o (λ engine. IsMatrixBy (fill_rule_of c.args.settings.now.fill_rule) (contours_in engine Subject) (contours_in engine Clip) c.in-Ok.found))
    (sym c.take-engine.ensures.engine) (rw c.deref.ensures at c.in-Ok.ensures.matrix)
