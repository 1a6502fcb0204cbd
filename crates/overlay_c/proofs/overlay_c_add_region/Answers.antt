use Rattle.std.proofs.Common.{sym, subst, ◌∙◌}
use Rattle.std.specs.Prelude.{IfSome}
use Rattle.std.specs.declared.option.Option.{Option}
use Rattle.overlay_base.specs.declared.segm.shape_type.ShapeType.TheVariants.{Subject}
use Rattle.overlay_c.specs.Contours.{contours_in}
use Rattle.overlay_c.specs.Regions.{AddsRegion, CountsOfShapeLeaveRange}
use Rattle.overlay_c.specs.declared.engine.Engine.{Engine}
use Rattle.overlay_c.proofs.RegionRelations.{shape_counts}
use Rattle.overlay_c.proofs.overlay_c_add_region.Goals as goal

pub returns-in-Ok-clause-added : goal.returns-in-Ok-clause-added
returns-in-Ok-clause-added c done =
    subst (λ (o : Option Engine). IfSome o (λ before. IfSome c.put.new.handle.engine (AddsRegion c.args.settings.now before))) (sym c.take-engine.ensures.engine)
    (subst (λ (o : Option Engine). IfSome o (AddsRegion c.args.settings.now c.take-engine.result.value)) (sym c.put.ensures) (rw c.deref_mut.ensures.value at c.in-Ok.ensures.added))

pub returns-in-Err-clause-too_large : goal.returns-in-Err-clause-too_large
returns-in-Err-clause-too_large c told =
    subst (λ (o : Option Engine). IfSome o (λ engine. CountsOfShapeLeaveRange (contours_in engine Subject))) (sym c.take-engine.ensures.engine)
    (shape_counts (contours_in c.take-engine.result.value Subject) c.in-Err.fault (rw c.deref_mut.ensures.value at c.in-Err.ensures.refused) (sym c.fault_code.ensures ∙ told))
