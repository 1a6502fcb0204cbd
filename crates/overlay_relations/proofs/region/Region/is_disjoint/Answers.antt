use Rattle.std.proofs.Common.{sym, ◌∙◌}
use Rattle.overlay_relations.specs.Regions.{boundary_of}
use Rattle.overlay_relations.specs.steps.ContactOutcomes.{IsBoundaryContact}
use Rattle.overlay_relations.proofs.laws.ContactOutcomes.{lying_apart}
use Rattle.overlay_relations.proofs.laws.ApartRegions.{apart_disjoint}
use Rattle.overlay_relations.proofs.region.Region.is_disjoint.Goals as goal

pub returns-then-not-is_near-clause-disjoint : goal.returns-then-not-is_near-clause-disjoint
returns-then-not-is_near-clause-disjoint g c = apart_disjoint c.args.self.now c.args.other.now (sym c.is_near.ensures ∙ c.if-not-is_near.true)

pub returns-clause-disjoint : goal.returns-clause-disjoint
returns-clause-disjoint g c =
    let is : IsBoundaryContact (boundary_of c.args.self.now) (boundary_of c.args.other.now) c.in_ok-contact.contact = c.in_ok-contact.ensures.contact in
    λ subject_rule clip_rule subject clip a b. lying_apart subject_rule clip_rule subject clip c.in_ok-contact.contact (is subject_rule clip_rule subject clip a b) c.is_apart.result c.is_apart.ensures
