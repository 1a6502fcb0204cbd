use Rattle.overlay_base.specs.declared.overlay_core.overlay_rule.OverlayRule.TheVariants.{InverseDifference}
use Rattle.overlay_relations.specs.Regions.{boundary_of}
use Rattle.overlay_relations.specs.steps.Outcomes.{DecidesBetween}
use Rattle.overlay_relations.proofs.laws.Outcomes.{covering}
use Rattle.overlay_relations.proofs.region.Region.covers.Goals as goal

pub returns-clause-covers : goal.returns-clause-covers
returns-clause-covers g c =
    let decides : DecidesBetween InverseDifference (boundary_of c.args.self.now) (boundary_of c.args.other.now) c.in_ok-is_left.is_left = c.in_ok-is_left.ensures.holds in
    λ subject_rule clip_rule subject clip a b. covering subject_rule clip_rule subject clip c.in_ok-is_left.is_left (decides subject_rule clip_rule subject clip a b)
