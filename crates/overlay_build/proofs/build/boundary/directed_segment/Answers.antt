use Rattle.std.proofs.Common.{◌∙◌, ap, sym}
use Rattle.overlay_base.specs.Rules.{holds}
use Rattle.overlay_base.specs.BooleanWinding.{boolean_winding}
use Rattle.overlay_build.proofs.laws.regions.Again.{step_pair, step_count, once_forward, once_back}
use Rattle.overlay_build.proofs.build.boundary.directed_segment.Goals as goal
use Rattle.overlay_build.proofs.build.boundary.directed_segment.Goals.{then-holds_of_top, else-holds_of_top}

pub returns-clause-pair : goal.returns-clause-pair
returns-clause-pair g c = step_pair _ _ _ _ _ _ _ c.create_and_validate_with_data.ensures.segment c.requires

pub returns-clause-count : goal.returns-clause-count
returns-clause-count g c =
    step_count _ _ _ _ _ _ _ c.create_and_validate_with_data.ensures.segment c.requires
    ∙ elim c.if-holds_of_top.branch [
      | then-holds_of_top w ↦ ap boolean_winding w.count-is ∙ w.direct_count-count.ensures ∙ once_forward c.args.shape_type (holds c.args.rule) c.args.link.now.fill (sym c.holds_of_top.ensures ∙ w.if-holds_of_top.true)
      | else-holds_of_top w ↦ ap boolean_winding w.count-is ∙ w.invert_count-count.ensures ∙ once_back c.args.shape_type (holds c.args.rule) c.args.link.now.fill (sym c.holds_of_top.ensures ∙ w.if-holds_of_top.false)
    ]
