use Rattle.std.proofs.Common.{◌≡◌, ◌∙◌, ap, sym, subst, ◌++◌, ◌∷◌, [], take, drop, length, List, OnOk}
use Rattle.std.proofs.Math.Seq.{take-append_seam}
use Rattle.overlay_contours.specs.ContoursOf.{points_of}
use Rattle.polygons.specs.ContourText.{GivenContour, Keeps}
use Rattle.polygons.specs.Wkt.{contour_of_shape, turned}
use Rattle.polygons.proofs.wkt_lines.add_ring.Goals as goal

pub returns-clause-added : goal.returns-clause-added
returns-clause-added g c =
    let whole = g.I.OverlayInt.whole in
    let old = c.in_ok-points.points in
    let new = c.turn.new.points in
    let kept : length new ≡ length old.items = c.turn.ensures.length ∙ ap length c.deref_mut.ensures.value in
    let seam : take old.len (new ++ drop (length new) old.items) ≡ new = ap (λ n. take n (new ++ drop (length new) old.items)) (old.ok.0 ∙ sym kept) ∙ take-append_seam new _ in
    let is : points_of whole (take old.len (new ++ drop (length new) old.items)) ≡ turned c.args.is_outer (points_of (λ z. z) c.args.ring.now) =
    ap (points_of whole) seam ∙ c.turn.ensures.turned ∙ ap (turned c.args.is_outer) (ap (points_of whole) c.deref_mut.ensures.value ∙ c.in_ok-points.ensures.points) in
    subst (λ ps. OnOk c.add_contour.result ((given : List GivenContour) → Keeps c.args.overlay.now given → Keeps c.add_contour.new.overlay (given ++ contour_of_shape c.args.shape_type ps ∷ []))) is c.add_contour.ensures.added
