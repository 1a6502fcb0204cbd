use Rattle.std.proofs.Common.{◌∙◌, refl}
use Rattle.overlay_c.proofs.Overlays.{same_splitting, same_arrangement}
use Rattle.overlay_c.proofs.engine.Engine.arrange.Goals as goal

pub returns-clause-kept : goal.returns-clause-kept
returns-clause-kept c =
    let set = c.set_rounding.ensures in
    let es = same_splitting c.args.settings.now c.solver-solver.result _ (set.rounding ∙ c.rounding.ensures) c.solver-solver.ensures.start c.solver-solver.ensures.progression in
    (refl, same_arrangement _ _ _ _ _ _ _ _ es c.fill_rule-fill_rule.ensures set.subject set.clip c.in_ok-arrangement.arrangement c.in_ok-arrangement.ensures.arrangement)
