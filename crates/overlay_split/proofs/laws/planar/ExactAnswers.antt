-- Exact input has one result, whatever the settings.
use Rattle.std.proofs.Common.{sym, ap, ◌∙◌, subst, cond}
use Rattle.overlay_base.specs.Windings.{empty}
use Rattle.overlay_base.specs.Join.{join}
use Rattle.overlay_cuts.specs.ExactInput.{is_elementary, IsExactAnswer}
use Rattle.overlay_split.specs.Laws.{ExactInputHasOneAnswer}
use Rattle.overlay_base.proofs.laws.joins.Maps.{are_ordered-join, map_is_its_windings}
use Rattle.overlay_cuts.proofs.laws.paths.Maps.{is_map-pass}
use Rattle.overlay_cuts.proofs.laws.planar.ExactInputs.{join_not_rounded, count_along-join, exact_means}
use Rattle.overlay_split.proofs.laws.planar.ExactInputs.{one_pass}
use Rattle.overlay_cuts.proofs.laws.planar.ExactAnswers.{pass_winding}

-- ---- of a run

pub exact_input_has_one_answer : ExactInputHasOneAnswer
exact_input_has_one_answer = (
  (λ settings given result passes flag o x run.
      let h = exact_means given x in
      let made = one_pass settings given result passes o h run.count run.arrangement in
      subst (IsExactAnswer given) (sym made.1) (
        is_map-pass made.0 (join given) (are_ordered-join given o),
        λ e. pass_winding (join given) (are_ordered-join given o) (join_not_rounded given h) made.0 e
            ∙ ap (λ c. cond (is_elementary (join given) e) c empty) (count_along-join given e),
      )),
  λ given first second f s. map_is_its_windings first second f.0 s.0 (λ e. f.1 e ∙ sym (s.1 e)),
)
