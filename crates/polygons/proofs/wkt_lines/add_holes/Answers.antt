use Rattle.std.proofs.Common.{arith, ◌≡◌, ◌+◌, ◌++◌, ◌∷◌, [], inl, inr, take, drop, false}
use Rattle.std.proofs.lemmas.Grind.{common_steps}
use Rattle.overlay_contours.specs.ContoursOf.{points_of, contours_of}
use Rattle.overlay_text.proofs.ReadWords.{cut_mapped}
use Rattle.overlay_text.proofs.Results.{if_err}
use Rattle.polygons.specs.ContourText.{are_in_range, Keeps}
use Rattle.polygons.specs.Wkt.{contour_of_shape, turned}
use Rattle.polygons.proofs.Adding.{one_fails, one_more_passes, one_more_kept}
use Rattle.polygons.proofs.wkt_lines.add_holes.Goals as goal

pub returns-in_err-add_ring-clause-stop : goal.returns-in_err-add_ring-clause-stop
returns-in_err-add_ring-clause-stop g c =
    let whole = g.I.OverlayInt.whole in
    let all = c.args.holes.now in
    let index = c.loop-hole.hole-index in
    let one = points_of (λ z. z) c.hole-item.result.items in
    let cut : contours_of (λ z. z) all ≡ contours_of (λ z. z) (take index all) ++ one ∷ contours_of (λ z. z) (drop (index + 1) all) =
    cut_mapped (λ v. points_of (λ z. z) v.items) all index c.hole-item.result c.loop-hole-test.true c.hole-item.is in
    if_err _ _ _ c.from_residual.ensures.1 (elim c.in_err-add_ring.ensures.stop [
      | inl memory ↦ inl memory
      | inr faulty ↦ inr (faulty.0, one_fails (are_in_range (whole g.I.OverlayInt.MIN_COORD) (whole g.I.OverlayInt.MAX_COORD)) (contours_of (λ z. z) all) (contours_of (λ z. z) (take index all)) (contours_of (λ z. z) (drop (index + 1) all)) one cut (rw c.deref.ensures.value at faulty.1))
    ])

pub loop-hole-preserved : goal.loop-hole-preserved
loop-hole-preserved g c =
    let whole = g.I.OverlayInt.whole in
    let all = c.args.holes.now in
    let index = c.loop-hole.hole-index in
    let one = points_of (λ z. z) c.hole-item.result.items in
    let before = contours_of (λ z. z) (take index all) in
    let more : contours_of (λ z. z) (take (index + 1) all) ≡ before ++ one ∷ [] = grind (arith, common_steps, c.hole-item.is, c.loop-hole-test.true) in
    let in_range = rw c.deref.ensures.value at c.in_ok-add_ring.ensures.in_range in
    let added = rw c.deref.ensures.value at c.in_ok-add_ring.ensures.added in
    rw more (
      one_more_passes (are_in_range (whole g.I.OverlayInt.MIN_COORD) (whole g.I.OverlayInt.MAX_COORD)) before one c.loop-hole.invariant.0 in_range,
      one_more_kept (λ o given. Keeps o given) c.args.overlay.now c.loop-hole.overlay c.add_ring.new.overlay before one (λ hole. contour_of_shape c.args.shape_type (turned false hole)) c.loop-hole.invariant.1 added,
    )
