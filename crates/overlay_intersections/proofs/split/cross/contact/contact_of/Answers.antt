use Rattle.std.proofs.Common.{refl, sym, ap, ◌∙◌, rules, FitsSigned, w64}
use Rattle.overlay_geometry.specs.Points.{Point}
use Rattle.overlay_geometry.specs.PairOf.{pair_of}
use Rattle.std.specs.Prelude.{false}
use Rattle.overlay_intersections.specs.CrossAnswer.{overlay, answer_at}
use Rattle.overlay_intersections.proofs.laws.crossings.Bits.{zero_bits, some_bits}
use Rattle.overlay_intersections.proofs.laws.crossings.AnswerBranches.{Sided, when_beside, when_beside_back, Touching, when_overlay, when_apart, when_crossing, when_other_a, when_other_b, when_target_a, when_target_b}
use Rattle.overlay_intersections.proofs.split.cross.contact.contact_of.Goals as goal

pub returns-then-lies_beside : goal.returns-then-lies_beside
returns-then-lies_beside g c = λ placing. when_beside placing (pair_of g.I.OverlayInt.whole c.args.target.now) (pair_of g.I.OverlayInt.whole c.args.other.now) c.requires.target_apart c.requires.other_apart (sym c.lies_beside.ensures ∙ c.if-lies_beside.true)

pub returns-then-lies_beside-2 : goal.returns-then-lies_beside-2
returns-then-lies_beside-2 g c = λ placing. when_beside_back placing (pair_of g.I.OverlayInt.whole c.args.target.now) (pair_of g.I.OverlayInt.whole c.args.other.now) c.requires.target_apart c.requires.other_apart (sym c.lies_beside-2.ensures ∙ c.if-lies_beside-2.true)

pub returns-then-zeros-eq4 : goal.returns-then-zeros-eq4
returns-then-zeros-eq4 g c =
    let sided : Sided (pair_of g.I.OverlayInt.whole c.args.target.now) (pair_of g.I.OverlayInt.whole c.args.other.now) c.sides_of-sides.result = record { s_apart = c.requires.target_apart; t_apart = c.requires.other_apart; are_sides = c.sides_of-sides.ensures } in
    let origin = c.new.ensures ∙ rw (c.ZERO.ensures, c.ZERO-then-zeros-eq4.ensures, g.met.I.OverlayInt.zero) refl in
    rw c.at.ensures (λ placing. when_overlay placing (pair_of g.I.OverlayInt.whole c.args.target.now) (pair_of g.I.OverlayInt.whole c.args.other.now) c.sides_of-sides.result sided (sym c.zeros-zeros.ensures ∙ c.if-zeros-eq4.true) ∙ ap (λ (p : Point). answer_at overlay p false) (sym origin))

pub returns-then-leave_no_contact : goal.returns-then-leave_no_contact
returns-then-leave_no_contact g c =
    let sided : Sided (pair_of g.I.OverlayInt.whole c.args.target.now) (pair_of g.I.OverlayInt.whole c.args.other.now) c.sides_of-sides.result = record { s_apart = c.requires.target_apart; t_apart = c.requires.other_apart; are_sides = c.sides_of-sides.ensures } in
    λ placing. when_apart placing (pair_of g.I.OverlayInt.whole c.args.target.now) (pair_of g.I.OverlayInt.whole c.args.other.now) c.sides_of-sides.result sided (λ e. c.if-zeros-eq4.false (c.zeros-zeros.ensures ∙ e)) (sym c.leave_no_contact.ensures ∙ c.if-leave_no_contact.true)

pub returns-then-zeros-eq0 : goal.returns-then-zeros-eq0
returns-then-zeros-eq0 g c =
    let sided : Sided (pair_of g.I.OverlayInt.whole c.args.target.now) (pair_of g.I.OverlayInt.whole c.args.other.now) c.sides_of-sides.result = record { s_apart = c.requires.target_apart; t_apart = c.requires.other_apart; are_sides = c.sides_of-sides.ensures } in
    when_crossing (pair_of g.I.OverlayInt.whole c.args.target.now) (pair_of g.I.OverlayInt.whole c.args.other.now) c.sides_of-sides.result sided (sym c.leave_no_contact.ensures ∙ c.if-leave_no_contact.false) (sym c.zeros-zeros.ensures ∙ c.if-zeros-eq0.true)

pub returns-then-sides-eq0 : goal.returns-then-sides-eq0
returns-then-sides-eq0 g c =
    let sided : Sided (pair_of g.I.OverlayInt.whole c.args.target.now) (pair_of g.I.OverlayInt.whole c.args.other.now) c.sides_of-sides.result = record { s_apart = c.requires.target_apart; t_apart = c.requires.other_apart; are_sides = c.sides_of-sides.ensures } in
    let touching : Touching (pair_of g.I.OverlayInt.whole c.args.target.now) (pair_of g.I.OverlayInt.whole c.args.other.now) c.sides_of-sides.result = record { sided = sided; not_four = λ e. c.if-zeros-eq4.false (c.zeros-zeros.ensures ∙ e); not_apart = sym c.leave_no_contact.ensures ∙ c.if-leave_no_contact.false; not_none = λ e. c.if-zeros-eq0.false (c.zeros-zeros.ensures ∙ e) } in
    let other_a_fits : FitsSigned w64 c.sides_of-sides.result.other_a = search rules in
    let other_b_fits : FitsSigned w64 c.sides_of-sides.result.other_b = search rules in
    let target_a_fits : FitsSigned w64 c.sides_of-sides.result.target_a = search rules in
    rw c.at-then-sides-eq0.ensures (λ placing. when_other_a placing (pair_of g.I.OverlayInt.whole c.args.target.now) (pair_of g.I.OverlayInt.whole c.args.other.now) c.sides_of-sides.result touching (zero_bits c.sides_of-sides.result.other_a other_a_fits c.if-sides-eq0.true))

pub returns-then-sides-eq0-2 : goal.returns-then-sides-eq0-2
returns-then-sides-eq0-2 g c =
    let sided : Sided (pair_of g.I.OverlayInt.whole c.args.target.now) (pair_of g.I.OverlayInt.whole c.args.other.now) c.sides_of-sides.result = record { s_apart = c.requires.target_apart; t_apart = c.requires.other_apart; are_sides = c.sides_of-sides.ensures } in
    let touching : Touching (pair_of g.I.OverlayInt.whole c.args.target.now) (pair_of g.I.OverlayInt.whole c.args.other.now) c.sides_of-sides.result = record { sided = sided; not_four = λ e. c.if-zeros-eq4.false (c.zeros-zeros.ensures ∙ e); not_apart = sym c.leave_no_contact.ensures ∙ c.if-leave_no_contact.false; not_none = λ e. c.if-zeros-eq0.false (c.zeros-zeros.ensures ∙ e) } in
    let other_a_fits : FitsSigned w64 c.sides_of-sides.result.other_a = search rules in
    let other_b_fits : FitsSigned w64 c.sides_of-sides.result.other_b = search rules in
    let target_a_fits : FitsSigned w64 c.sides_of-sides.result.target_a = search rules in
    rw c.at-then-sides-eq0-2.ensures (λ placing. when_other_b placing (pair_of g.I.OverlayInt.whole c.args.target.now) (pair_of g.I.OverlayInt.whole c.args.other.now) c.sides_of-sides.result touching (some_bits c.sides_of-sides.result.other_a other_a_fits c.if-sides-eq0.false) (zero_bits c.sides_of-sides.result.other_b other_b_fits c.if-sides-eq0-2.true))

pub returns-then-sides-eq0-3 : goal.returns-then-sides-eq0-3
returns-then-sides-eq0-3 g c =
    let sided : Sided (pair_of g.I.OverlayInt.whole c.args.target.now) (pair_of g.I.OverlayInt.whole c.args.other.now) c.sides_of-sides.result = record { s_apart = c.requires.target_apart; t_apart = c.requires.other_apart; are_sides = c.sides_of-sides.ensures } in
    let touching : Touching (pair_of g.I.OverlayInt.whole c.args.target.now) (pair_of g.I.OverlayInt.whole c.args.other.now) c.sides_of-sides.result = record { sided = sided; not_four = λ e. c.if-zeros-eq4.false (c.zeros-zeros.ensures ∙ e); not_apart = sym c.leave_no_contact.ensures ∙ c.if-leave_no_contact.false; not_none = λ e. c.if-zeros-eq0.false (c.zeros-zeros.ensures ∙ e) } in
    let other_a_fits : FitsSigned w64 c.sides_of-sides.result.other_a = search rules in
    let other_b_fits : FitsSigned w64 c.sides_of-sides.result.other_b = search rules in
    let target_a_fits : FitsSigned w64 c.sides_of-sides.result.target_a = search rules in
    rw c.at-then-sides-eq0-3.ensures (λ placing. when_target_a placing (pair_of g.I.OverlayInt.whole c.args.target.now) (pair_of g.I.OverlayInt.whole c.args.other.now) c.sides_of-sides.result touching (some_bits c.sides_of-sides.result.other_a other_a_fits c.if-sides-eq0.false) (some_bits c.sides_of-sides.result.other_b other_b_fits c.if-sides-eq0-2.false) (zero_bits c.sides_of-sides.result.target_a target_a_fits c.if-sides-eq0-3.true))

pub returns-else-sides-eq0-3 : goal.returns-else-sides-eq0-3
returns-else-sides-eq0-3 g c =
    let sided : Sided (pair_of g.I.OverlayInt.whole c.args.target.now) (pair_of g.I.OverlayInt.whole c.args.other.now) c.sides_of-sides.result = record { s_apart = c.requires.target_apart; t_apart = c.requires.other_apart; are_sides = c.sides_of-sides.ensures } in
    let touching : Touching (pair_of g.I.OverlayInt.whole c.args.target.now) (pair_of g.I.OverlayInt.whole c.args.other.now) c.sides_of-sides.result = record { sided = sided; not_four = λ e. c.if-zeros-eq4.false (c.zeros-zeros.ensures ∙ e); not_apart = sym c.leave_no_contact.ensures ∙ c.if-leave_no_contact.false; not_none = λ e. c.if-zeros-eq0.false (c.zeros-zeros.ensures ∙ e) } in
    let other_a_fits : FitsSigned w64 c.sides_of-sides.result.other_a = search rules in
    let other_b_fits : FitsSigned w64 c.sides_of-sides.result.other_b = search rules in
    let target_a_fits : FitsSigned w64 c.sides_of-sides.result.target_a = search rules in
    rw c.at-else-sides-eq0-3.ensures (λ placing. when_target_b placing (pair_of g.I.OverlayInt.whole c.args.target.now) (pair_of g.I.OverlayInt.whole c.args.other.now) c.sides_of-sides.result touching (some_bits c.sides_of-sides.result.other_a other_a_fits c.if-sides-eq0.false) (some_bits c.sides_of-sides.result.other_b other_b_fits c.if-sides-eq0-2.false) (some_bits c.sides_of-sides.result.target_a target_a_fits c.if-sides-eq0-3.false))
