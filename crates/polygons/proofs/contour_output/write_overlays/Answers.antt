use Rattle.std.proofs.Common.{◌≡◌, ◌<◌, ◌∙◌, ap, sym, length, get_or, arith, append_assoc}
use Rattle.std.proofs.Math.ListN.{get_or-map}
use Rattle.std.proofs.lemmas.List.{length-map}
use Rattle.overlay_contours.specs.ContoursOf.{contours_of, contours_of_each}
use Rattle.polygons.proofs.SeveralRules.{text_more}
use Rattle.polygons.proofs.contour_output.write_overlays.Goals as goal

pub loop-index-preserved : goal.loop-index-preserved
loop-index-preserved g c =
    let whole = g.I.OverlayInt.whole in
    let index = c.loop-index.index in
    let rules = c.args.rules.now in
    let all = contours_of_each whole c.args.overlays.now in
    let rule = c.index-rules-index.result in
    let list = c.index-overlays-index.result in
    let same : length all ≡ length rules = length-map c.args.overlays.now (λ l. contours_of whole l.items) ∙ c.requires in
    let within : index < length rules = omega arith in
    let contours_are : contours_of whole list.items ≡ get_or all index (contours_of whole list.items) =
    ap (λ l. contours_of whole l.items) c.index-overlays-index.is ∙ sym (get_or-map (λ l. contours_of whole l.items) c.args.overlays.now index list) in
    let step = text_more rules all index rule (contours_of whole list.items) same within c.index-rules-index.is contours_are in
    rw (c.in_ok-write_contours.ensures, c.in_ok-write_rule.ensures, c.loop-index.invariant, step, c.deref.ensures.value) (simp append_assoc)
