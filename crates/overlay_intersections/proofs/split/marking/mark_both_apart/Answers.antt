use Rattle.std.proofs.Common.{sym, ap, ◌∙◌, append-nil}
use Rattle.overlay_geometry.specs.PairOf.{pair_of}
use Rattle.overlay_intersections.specs.PlacingOf.{placing_of}
use Rattle.overlay_intersections.proofs.laws.crossings.AnswerBranches.{when_beside}
use Rattle.overlay_intersections.proofs.laws.marks.MarkedPairs.{answer_is_rounded, answer_is_rounded-is, between_none}
use Rattle.overlay_intersections.proofs.split.marking.mark_both_apart.Goals as goal

pub returns-then-lies_beside-clause-marks : goal.returns-then-lies_beside-clause-marks
returns-then-lies_beside-clause-marks g c =
    let placing = placing_of c.args.placing in
    let s = pair_of g.I.OverlayInt.whole c.args.first.x_segment in
    let t = pair_of g.I.OverlayInt.whole c.args.second.x_segment in
    let e = sym (when_beside placing s t c.requires.first_apart c.requires.second_apart (sym c.lies_beside.ensures ∙ c.if-lies_beside.true)) in
    rw (between_none placing c.args.first.index s c.args.second.index t c.requires.order e) (sym (append-nil _))

pub returns-then-lies_beside-clause-rounded : goal.returns-then-lies_beside-clause-rounded
returns-then-lies_beside-clause-rounded g c =
    let placing = placing_of c.args.placing in
    let s = pair_of g.I.OverlayInt.whole c.args.first.x_segment in
    let t = pair_of g.I.OverlayInt.whole c.args.second.x_segment in
    let e = sym (when_beside placing s t c.requires.first_apart c.requires.second_apart (sym c.lies_beside.ensures ∙ c.if-lies_beside.true)) in
    ap answer_is_rounded e ∙ answer_is_rounded-is placing s t
