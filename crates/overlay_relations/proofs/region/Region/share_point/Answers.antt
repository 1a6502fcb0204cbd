use Rattle.std.proofs.Common.{sym, ◌∙◌}
use Rattle.overlay_relations.specs.Regions.{boundary_of}
use Rattle.overlay_relations.specs.steps.ContactOutcomes.{IsBoundaryContact}
use Rattle.overlay_relations.proofs.laws.ApartRegions.{apart_sharing}
use Rattle.overlay_relations.proofs.laws.ContactOutcomes.{sharing}
use Rattle.overlay_relations.proofs.region.Region.share_point.Goals as goal

pub returns-then-not-is_near-clause-share : goal.returns-then-not-is_near-clause-share
returns-then-not-is_near-clause-share g c = apart_sharing c.args.self.now c.args.other.now (sym c.is_near.ensures ∙ c.if-not-is_near.true)

pub returns-clause-share : goal.returns-clause-share
returns-clause-share g c =
    let is : IsBoundaryContact (boundary_of c.args.self.now) (boundary_of c.args.other.now) c.in_ok-contact.contact = c.in_ok-contact.ensures.contact in
    λ subject_rule clip_rule subject clip a b. sharing subject_rule clip_rule subject clip c.in_ok-contact.contact (is subject_rule clip_rule subject clip a b) c.is_sharing.result c.is_sharing.ensures
