use Rattle.std.proofs.Common.{arith, ◌≡◌, ◌+◌, ◌++◌, ◌∷◌, [], inl, inr, take, drop}
use Rattle.std.proofs.lemmas.Grind.{common_steps}
use Rattle.std.specs.List.{list_all}
use Rattle.overlay_contours.specs.ContoursOf.{contours_of}
use Rattle.overlay_contours.specs.ShapesOf.{shapes_of}
use Rattle.overlay_text.proofs.ReadWords.{cut_mapped}
use Rattle.overlay_text.proofs.Results.{if_err}
use Rattle.polygons.specs.ContourText.{are_in_range, Keeps}
use Rattle.polygons.specs.Wkt.{polygon_contours}
use Rattle.polygons.proofs.Adding.{one_fails, one_more_passes, more_kept}
use Rattle.polygons.proofs.wkt_lines.add_polygons.Goals as goal

pub returns-in_err-add_polygon-clause-stop : goal.returns-in_err-add_polygon-clause-stop
returns-in_err-add_polygon-clause-stop g c =
    let whole = g.I.OverlayInt.whole in
    let all = c.args.polygons.now in
    let index = c.loop-rings.rings-index in
    let one = contours_of (λ z. z) c.rings-item.result.items in
    let cut : shapes_of (λ z. z) all ≡ shapes_of (λ z. z) (take index all) ++ one ∷ shapes_of (λ z. z) (drop (index + 1) all) =
    cut_mapped (λ v. contours_of (λ z. z) v.items) all index c.rings-item.result c.loop-rings-test.true c.rings-item.is in
    if_err _ _ _ c.from_residual.ensures.1 (elim c.in_err-add_polygon.ensures.stop [
      | inl memory ↦ inl memory
      | inr faulty ↦ inr (faulty.0, one_fails (λ rings. list_all (are_in_range (whole g.I.OverlayInt.MIN_COORD) (whole g.I.OverlayInt.MAX_COORD)) rings) (shapes_of (λ z. z) all) (shapes_of (λ z. z) (take index all)) (shapes_of (λ z. z) (drop (index + 1) all)) one cut (rw c.deref.ensures.value at faulty.1))
    ])

pub loop-rings-preserved : goal.loop-rings-preserved
loop-rings-preserved g c =
    let whole = g.I.OverlayInt.whole in
    let all = c.args.polygons.now in
    let index = c.loop-rings.rings-index in
    let one = contours_of (λ z. z) c.rings-item.result.items in
    let before = shapes_of (λ z. z) (take index all) in
    let more : shapes_of (λ z. z) (take (index + 1) all) ≡ before ++ one ∷ [] = grind (arith, common_steps, c.rings-item.is, c.loop-rings-test.true) in
    let in_range = rw c.deref.ensures.value at c.in_ok-add_polygon.ensures.in_range in
    let added = rw c.deref.ensures.value at c.in_ok-add_polygon.ensures.added in
    rw more (
      one_more_passes (λ rings. list_all (are_in_range (whole g.I.OverlayInt.MIN_COORD) (whole g.I.OverlayInt.MAX_COORD)) rings) before one c.loop-rings.invariant.0 in_range,
      more_kept (λ o given. Keeps o given) c.args.overlay.now c.loop-rings.overlay c.add_polygon.new.overlay before one (polygon_contours c.args.shape_type) c.loop-rings.invariant.1 added,
    )
