use Rattle.overlay_base.specs.declared.overlay_core.overlay_rule.OverlayRule.TheVariants.{Difference}
use Rattle.overlay_relations.specs.Regions.{boundary_of}
use Rattle.overlay_relations.specs.steps.Outcomes.{DecidesBetween}
use Rattle.overlay_relations.proofs.laws.Outcomes.{lying_within}
use Rattle.overlay_relations.proofs.region.Region.is_within.Goals as goal

pub returns-clause-within : goal.returns-clause-within
returns-clause-within g c =
    let decides : DecidesBetween Difference (boundary_of c.args.self.now) (boundary_of c.args.other.now) c.in_ok-is_left.is_left = c.in_ok-is_left.ensures.holds in
    λ subject_rule clip_rule subject clip a b. lying_within subject_rule clip_rule subject clip c.in_ok-is_left.is_left (decides subject_rule clip_rule subject clip a b)
