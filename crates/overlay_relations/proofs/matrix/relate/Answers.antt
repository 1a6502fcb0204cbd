use Rattle.overlay_contours.specs.ContoursOf.{contours_of}
use Rattle.overlay_contours.proofs.laws.Overlays.{refused_as}
use Rattle.overlay_relations.specs.Refusals.{IsRefusalOf}
use Rattle.overlay_relations.specs.declared.fault.RelationFault.TheVariants.{Refused}
use Rattle.overlay_relations.proofs.laws.Refusals.{subject_refuses, clip_refuses, boundaries_refuse}
use Rattle.overlay_relations.proofs.matrix.relate.Goals as goal

pub returns-in_err-first-clause-refused : goal.returns-in_err-first-clause-refused
returns-in_err-first-clause-refused g c =
    let own = g.I.OverlayInt in
    let cause = c.in_err-first.field-0.0 in
    refused_as c.from_residual-in_err-first.result (IsRefusalOf own c.args.fill_rule c.args.subject.now c.args.clip.now) cause c.from_residual-in_err-first.ensures.1
    (subject_refuses (own.whole own.MIN_COORD) (own.whole own.MAX_COORD) c.args.fill_rule c.args.fill_rule (contours_of own.whole c.args.subject.now) (contours_of own.whole c.args.clip.now) c.in_ok-test_range.ensures.in_range c.in_ok-test_range-2.ensures.in_range cause c.in_err-first.ensures.refused)

pub returns-in_err-second-clause-refused : goal.returns-in_err-second-clause-refused
returns-in_err-second-clause-refused g c =
    let own = g.I.OverlayInt in
    let cause = c.in_err-second.field-0.0 in
    refused_as c.from_residual-in_err-second.result (IsRefusalOf own c.args.fill_rule c.args.subject.now c.args.clip.now) cause c.from_residual-in_err-second.ensures.1
    (clip_refuses (own.whole own.MIN_COORD) (own.whole own.MAX_COORD) c.args.fill_rule c.args.fill_rule (contours_of own.whole c.args.subject.now) (contours_of own.whole c.args.clip.now) c.in_ok-test_range.ensures.in_range c.in_ok-test_range-2.ensures.in_range c.in_ok-first.ensures.exact cause c.in_err-second.ensures.refused)

pub returns-in_err-relation-clause-refused : goal.returns-in_err-relation-clause-refused
returns-in_err-relation-clause-refused g c =
    let own = g.I.OverlayInt in
    let cause = c.in_err-relation.field-0.0 in
    refused_as c.from_residual-in_err-relation.result (IsRefusalOf own c.args.fill_rule c.args.subject.now c.args.clip.now) (Refused cause) c.from_residual-in_err-relation.ensures.1
    (boundaries_refuse (own.whole own.MIN_COORD) (own.whole own.MAX_COORD) c.args.fill_rule c.args.fill_rule (contours_of own.whole c.args.subject.now) (contours_of own.whole c.args.clip.now) c.in_ok-test_range.ensures.in_range c.in_ok-test_range-2.ensures.in_range
    (contours_of own.whole c.in_ok-first.first.contours.items) (contours_of own.whole c.in_ok-second.second.contours.items) c.in_ok-first.ensures.boundary c.in_ok-second.ensures.boundary cause
    c.in_err-relation.ensures.refused)

pub returns-clause-matrix : goal.returns-clause-matrix
returns-clause-matrix g c =
    let whole = g.I.OverlayInt.whole in
    let matrix = c.in_ok-relation.ensures.matrix in
    matrix c.args.fill_rule c.args.fill_rule (contours_of whole c.args.subject.now) (contours_of whole c.args.clip.now) c.in_ok-first.ensures.boundary c.in_ok-second.ensures.boundary
