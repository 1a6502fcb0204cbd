use Rattle.overlay_contours.specs.ContoursOf.{contours_of}
use Rattle.overlay_relations.proofs.laws.ContactOutcomes.{lying_apart}
use Rattle.overlay_relations.proofs.contacts.is_disjoint.Goals as goal

pub returns-clause-disjoint : goal.returns-clause-disjoint
returns-clause-disjoint g c =
    let whole = g.I.OverlayInt.whole in
    lying_apart c.args.fill_rule c.args.fill_rule (contours_of whole c.args.subject.now) (contours_of whole c.args.clip.now) c.in_ok-contact.contact c.in_ok-contact.ensures.contact c.is_apart.result c.is_apart.ensures
