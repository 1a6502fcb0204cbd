use Rattle.std.proofs.Common.{◌≡◌, ◌⊎◌, sym, subst, Bool, Ok, Err, string_bytes}
use Rattle.std.specs.Prelude.{IfOk, IfErr, MatchBool}
use Rattle.overlay_base.specs.declared.segm.fault.Fault.TheVariants.{Memory}
use Rattle.overlay_text.specs.declared.stop.Stop.TheVariants.{Refused}
use Rattle.polygons.specs.Run.{IsOverlayAnswer, IsRelationAnswer}
use Rattle.polygons.proofs.run.answer_with.Goals as goal

pub returns-then-choices-clause-text : goal.returns-then-choices-clause-text
returns-then-choices-clause-text g c = rw c.if-choices.true c.relation_of.ensures.text

pub returns-then-choices-clause-stop : goal.returns-then-choices-clause-stop
returns-then-choices-clause-stop g c = rw c.if-choices.true c.relation_of.ensures.stop

pub returns-else-choices-clause-text : goal.returns-else-choices-clause-text
returns-else-choices-clause-text g c =
    let own = g.I.OverlayInt in
    let least = own.whole own.MIN_COORD in
    let greatest = own.whole own.MAX_COORD in
    subst (λ (wanted : Bool). IfOk c.overlay_of.result (λ text. MatchBool wanted (IsRelationAnswer least greatest c.args.choices c.args.bytes.now (Ok (string_bytes text)))
    (IsOverlayAnswer least greatest own.BITS c.args.choices c.args.bytes.now (Ok (string_bytes text))))) (sym c.if-choices.false) c.overlay_of.ensures.text

pub returns-else-choices-clause-stop : goal.returns-else-choices-clause-stop
returns-else-choices-clause-stop g c =
    let own = g.I.OverlayInt in
    let least = own.whole own.MIN_COORD in
    let greatest = own.whole own.MAX_COORD in
    subst (λ (wanted : Bool). IfErr c.overlay_of.result (λ stop. (stop ≡ Refused Memory) ⊎ MatchBool wanted (IsRelationAnswer least greatest c.args.choices c.args.bytes.now (Err stop))
    (IsOverlayAnswer least greatest own.BITS c.args.choices c.args.bytes.now (Err stop)))) (sym c.if-choices.false) c.overlay_of.ensures.stop
