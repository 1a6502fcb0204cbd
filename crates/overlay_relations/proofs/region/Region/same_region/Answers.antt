use Rattle.overlay_base.specs.declared.overlay_core.overlay_rule.OverlayRule.TheVariants.{Xor}
use Rattle.overlay_relations.specs.Regions.{boundary_of}
use Rattle.overlay_relations.specs.steps.Outcomes.{DecidesBetween}
use Rattle.overlay_relations.proofs.laws.Outcomes.{being_same}
use Rattle.overlay_relations.proofs.region.Region.same_region.Goals as goal

pub returns-clause-same : goal.returns-clause-same
returns-clause-same g c =
    let decides : DecidesBetween Xor (boundary_of c.args.self.now) (boundary_of c.args.other.now) c.in_ok-differ.differ = c.in_ok-differ.ensures.holds in
    λ subject_rule clip_rule subject clip a b. being_same subject_rule clip_rule subject clip c.in_ok-differ.differ (decides subject_rule clip_rule subject clip a b)
