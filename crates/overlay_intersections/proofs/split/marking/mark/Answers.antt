use Rattle.std.proofs.Common.{ap, ◌∙◌, [], ◌∷◌}
use Rattle.std.proofs.lemmas.List.{map-append}
use Rattle.std.proofs.lemmas.Result.{IfOk-from_err}
use Rattle.overlay_intersections.specs.MarkOf.{mark_of, marks_of}
use Rattle.overlay_intersections.proofs.split.marking.mark.Goals as goal

pub returns-in_err-push : goal.returns-in_err-push
returns-in_err-push g c = IfOk-from_err c.from_residual.result _ c.from_residual.ensures.0

pub returns : goal.returns
returns g c =
    let whole = g.I.OverlayInt.whole in
    ap (marks_of whole) c.in_ok-push.ensures.items ∙ map-append (mark_of whole) c.args.marks.now.items (record { index = c.args.index; point = c.args.point } ∷ [])
