use Rattle.overlay_contours.specs.ContoursOf.{contours_of}
use Rattle.overlay_relations.proofs.laws.ContactOutcomes.{touching}
use Rattle.overlay_relations.proofs.contacts.touches.Goals as goal

pub returns-clause-touch : goal.returns-clause-touch
returns-clause-touch g c =
    let whole = g.I.OverlayInt.whole in
    touching c.args.fill_rule c.args.fill_rule (contours_of whole c.args.subject.now) (contours_of whole c.args.clip.now) c.in_ok-contact.contact c.in_ok-contact.ensures.contact c.is_touching.result c.is_touching.ensures
