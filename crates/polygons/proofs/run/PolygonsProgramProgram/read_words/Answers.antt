use Rattle.std.proofs.Common.{◌≡◌, ◌∙◌, ◌&&◌, sym, refl, ap₂, map, string_bytes, Bool, true, false}
use Rattle.overlay_text.proofs.Results.{if_err}
use Rattle.polygons.specs.Run.{is_mixed, have_overlay_word}
use Rattle.polygons.specs.declared.run.Choices.{Choices}
use Rattle.polygons.proofs.SeveralRules.{same_mixed}
use Rattle.polygons.proofs.run.PolygonsProgramProgram.read_words.Goals as goal

pub returns-in_err-settings-clause-usage : goal.returns-in_err-settings-clause-usage
returns-in_err-settings-clause-usage c =
    let usage = c.in_err-settings.ensures.usage in
    if_err _ _ _ c.from_residual.ensures.1 (usage.0, λ choices asked. usage.1 choices.settings asked.settings)

pub returns-then-is_mixed-clause-usage : goal.returns-then-is_mixed-clause-usage
returns-then-is_mixed-clause-usage c = (
  refl,
  λ choices asked.
      let ours : Choices = record {
        in_shapes = c.is_among.result;
        has_report = c.is_among-2.result;
        is_pairwise = c.is_among-3.result;
        is_wkt = c.is_among-4.result;
        is_relation = c.is_among-5.result;
        contour_shape = c.contour_shape.result;
        others = c.other_rules.result;
        settings = c.in_ok-settings.settings;
      } in
      let same = same_mixed choices ours (asked.others ∙ sym c.other_rules.ensures) (asked.in_shapes ∙ sym c.is_among.ensures) (asked.is_wkt ∙ sym c.is_among-4.ensures) in
      let mixed : is_mixed ours ≡ true = sym c.is_mixed.ensures ∙ c.if-is_mixed.true in
      let never : true ≡ false = sym mixed ∙ (sym same ∙ asked.of_lines) in
      cc,
)

pub returns-then-have_overlay_word-clause-usage : goal.returns-then-have_overlay_word-clause-usage
returns-then-have_overlay_word-clause-usage c = (
  refl,
  λ choices asked.
      let wanted : choices.is_relation ≡ true = asked.is_relation ∙ (sym c.is_among-5.ensures ∙ c.if-choices.true) in
      let some : have_overlay_word (map string_bytes c.args.words.now) ≡ true = sym c.have_overlay_word.ensures ∙ c.if-have_overlay_word.true in
      let never : true ≡ false = sym (ap₂ (λ (a b : Bool). a && b) wanted some) ∙ asked.alone in
      cc,
)
