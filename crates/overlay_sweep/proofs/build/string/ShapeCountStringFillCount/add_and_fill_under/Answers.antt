use Rattle.std.proofs.Common.{◌∙◌, ap₂}
use Rattle.overlay_base.specs.Windings.{add}
use Rattle.overlay_sweep.specs.Fill.{fill_byte}
use Rattle.overlay_sweep.proofs.build.string.ShapeCountStringFillCount.add_and_fill_under.Goals as goal

pub returns-clause-fill : goal.returns-clause-fill
unfolding fill_byte
returns-clause-fill c =
    let top = c.in_ok-top.ensures.sum ∙ ap₂ add c.without_mask-bottom.ensures c.without_mask.ensures in
    c.fill_with_mask.ensures ∙ ap₂ (λ b t. fill_byte c.args.fill_rule b t c.args.this.clip) c.without_mask-bottom.ensures top
