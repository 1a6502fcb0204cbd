use Rattle.std.proofs.Common.{sym, ◌∙◌}
use Rattle.overlay_relations.specs.Regions.{boundary_of}
use Rattle.overlay_relations.specs.steps.ContactOutcomes.{IsBoundaryContact}
use Rattle.overlay_relations.proofs.laws.ContactOutcomes.{touching}
use Rattle.overlay_relations.proofs.laws.ApartRegions.{apart_touching}
use Rattle.overlay_relations.proofs.region.Region.touches.Goals as goal

pub returns-then-not-is_near-clause-touch : goal.returns-then-not-is_near-clause-touch
returns-then-not-is_near-clause-touch g c = apart_touching c.args.self.now c.args.other.now (sym c.is_near.ensures ∙ c.if-not-is_near.true)

pub returns-clause-touch : goal.returns-clause-touch
returns-clause-touch g c =
    let is : IsBoundaryContact (boundary_of c.args.self.now) (boundary_of c.args.other.now) c.in_ok-contact.contact = c.in_ok-contact.ensures.contact in
    λ subject_rule clip_rule subject clip a b. touching subject_rule clip_rule subject clip c.in_ok-contact.contact (is subject_rule clip_rule subject clip a b) c.is_touching.result c.is_touching.ensures
