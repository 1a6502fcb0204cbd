use Rattle.std.proofs.Common.{◌≡◌, ◌⊎◌, inl, inr, Ok, Err, string_bytes, flat_map}
use Rattle.std.proofs.lemmas.Result.{IfOk-weaker, IfErr-weaker}
use Rattle.overlay_base.specs.declared.segm.fault.Fault.TheVariants.{Memory}
use Rattle.overlay_contours.specs.Kept.{subject_of, clip_of}
use Rattle.overlay_text.proofs.Results.{if_err}
use Rattle.overlay_text.specs.declared.stop.Stop.TheVariants.{Refused}
use Rattle.polygons.specs.Wkt.{AsksForPolygons, AreFaultyPolygons}
use Rattle.polygons.specs.RelationText.{IsRelationText, IsGivenRelation}
use Rattle.polygons.specs.Run.{IsWktAnswer}
use Rattle.polygons.proofs.Answering.{read_stop}
use Rattle.polygons.proofs.Relations.{given_relation}
use Rattle.polygons.proofs.run.wkt_relation.Goals as goal

pub returns-in_err-overlay-clause-stop : goal.returns-in_err-overlay-clause-stop
returns-in_err-overlay-clause-stop g c =
    let least = g.I.OverlayInt.whole g.I.OverlayInt.MIN_COORD in
    let greatest = g.I.OverlayInt.whole g.I.OverlayInt.MAX_COORD in
    if_err _ _ _ c.from_residual.ensures.1 (read_stop (AsksForPolygons least greatest) (AreFaultyPolygons least greatest) c.args.bytes.now (IsGivenRelation c.args.choices.settings.fill_rule) _ c.in_err-overlay.ensures.faulty)

pub returns-clause-text : goal.returns-clause-text
returns-clause-text g c =
    let least = g.I.OverlayInt.whole g.I.OverlayInt.MIN_COORD in
    let greatest = g.I.OverlayInt.whole g.I.OverlayInt.MAX_COORD in
    let read = c.in_ok-overlay.ensures.contours in
    let fill_rule = c.args.choices.settings.fill_rule in
    let subject = subject_of c.in_ok-overlay.overlay in
    let clip = clip_of c.in_ok-overlay.overlay in
    IfOk-weaker c.relation_text.result (λ text. IsRelationText fill_rule subject clip (Ok (string_bytes text)))
    (λ text. IsWktAnswer least greatest (IsGivenRelation fill_rule) c.args.bytes.now (Ok (string_bytes text)))
    (λ text told. inl (read.0, read.1, given_relation fill_rule (flat_map (λ cs. cs) read.0) subject clip read.2.0 read.2.1 _ told)) c.relation_text.ensures.text

pub returns-clause-stop : goal.returns-clause-stop
returns-clause-stop g c =
    let least = g.I.OverlayInt.whole g.I.OverlayInt.MIN_COORD in
    let greatest = g.I.OverlayInt.whole g.I.OverlayInt.MAX_COORD in
    let read = c.in_ok-overlay.ensures.contours in
    let fill_rule = c.args.choices.settings.fill_rule in
    let subject = subject_of c.in_ok-overlay.overlay in
    let clip = clip_of c.in_ok-overlay.overlay in
    IfErr-weaker c.relation_text.result (λ stop. (stop ≡ Refused Memory) ⊎ IsRelationText fill_rule subject clip (Err stop))
    (λ stop. (stop ≡ Refused Memory) ⊎ IsWktAnswer least greatest (IsGivenRelation fill_rule) c.args.bytes.now (Err stop))
    (λ stop told. elim told [
      | inl memory ↦ inl memory
      | inr said ↦ inr (inl (read.0, read.1, given_relation fill_rule (flat_map (λ cs. cs) read.0) subject clip read.2.0 read.2.1 _ said))
    ]) c.relation_text.ensures.stop
