use Rattle.std.proofs.Common.{◌≡◌, sym, subst}
use Rattle.std.specs.Prelude.{◌↔◌, true, IfSome}
use Rattle.std.specs.declared.option.Option.{Option}
use Rattle.overlay_base.specs.declared.segm.shape_type.ShapeType.TheVariants.{Subject, Clip}
use Rattle.overlay_c.specs.Contours.{contours_in}
use Rattle.overlay_c.specs.Records.{fill_rule_of}
use Rattle.overlay_c.specs.Relations.{relation_of, Holds}
use Rattle.overlay_c.specs.declared.engine.Engine.{Engine}
use Rattle.overlay_c.proofs.overlay_c_relation.Goals as goal

pub returns-in-Ok-clause-holds : goal.returns-in-Ok-clause-holds
returns-in-Ok-clause-holds c done =
    subst (λ (o : Option Engine). IfSome o (λ engine. (c.in-Ok.found ≡ true) ↔ Holds (relation_of c.args.code) (fill_rule_of c.args.settings.now.fill_rule) (contours_in engine Subject) (contours_in engine Clip)))
    (sym c.take-engine.ensures.engine) (rw (c.named_relation.ensures, c.deref.ensures) at c.in-Ok.ensures.holds)
