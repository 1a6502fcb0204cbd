use Rattle.std.proofs.Common.{◌≡◌, ◌∙◌, ap, subst, List, length}
use Rattle.std.specs.Prelude.{◌*◌, ◌^◌, ◌≤◌, ◌⊎◌}
use Rattle.std.proofs.lemmas.List.{append-nil}
use Rattle.std.proofs.lemmas.Result.{IfOk-from_err}
use Rattle.overlay_base.specs.Segments.{WholeSegment}
use Rattle.overlay_sweep.specs.LiveOf.{rows_in}
use Rattle.overlay_sweep.specs.LiveRows.{joined}
use Rattle.overlay_sweep.specs.steps.Rows.{KeepsLasting}
use Rattle.overlay_sweep.proofs.laws.list.Rows.{search_and_one}
use Rattle.overlay_sweep.proofs.build.row_list.RowList.search_gathered.Goals as goal

pub returns-clause-keeps : goal.returns-clause-keeps
returns-clause-keeps g c =
    let x = g.I.OverlayInt.whole c.args.x in
    let gathered = ap joined c.in_ok-gather.ensures.all ∙ append-nil (joined (rows_in c.args.self.now)) in
    subst (λ l. KeepsLasting x l (joined (rows_in c.search_only.new.self))) gathered c.search_only.ensures.keeps

pub returns-clause-few : goal.returns-clause-few
returns-clause-few g c = λ d high.
    let gathered = ap joined c.in_ok-gather.ensures.all ∙ append-nil (joined (rows_in c.args.self.now)) in
    let few = subst (λ (l : List WholeSegment). (c.search_only.new.compared ≡ 0) ⊎ (2 ^ c.search_only.new.compared ≤ 2 * length l)) gathered c.search_only.ensures.few in
    search_and_one c.search_only.new.compared (length (joined (rows_in c.args.self.now))) d few c.requires.some high

pub returns-in_err-gather-clause-keeps : goal.returns-in_err-gather-clause-keeps
returns-in_err-gather-clause-keeps g c = IfOk-from_err c.from_residual.result _ c.from_residual.ensures.0

pub returns-in_err-gather-clause-some : goal.returns-in_err-gather-clause-some
returns-in_err-gather-clause-some g c = IfOk-from_err c.from_residual.result _ c.from_residual.ensures.0

pub returns-in_err-gather-clause-index : goal.returns-in_err-gather-clause-index
returns-in_err-gather-clause-index g c = IfOk-from_err c.from_residual.result _ c.from_residual.ensures.0

pub returns-in_err-gather-clause-position : goal.returns-in_err-gather-clause-position
returns-in_err-gather-clause-position g c = IfOk-from_err c.from_residual.result _ c.from_residual.ensures.0

pub returns-in_err-gather-clause-few : goal.returns-in_err-gather-clause-few
returns-in_err-gather-clause-few g c = IfOk-from_err c.from_residual.result _ c.from_residual.ensures.0
