use Rattle.overlay_geometry.specs.Points.{Point}
use Rattle.std.proofs.Common.{List, map, ap, ◌∙◌}
use Rattle.overlay_contours.specs.ContoursOf.{contours_of}
use Rattle.overlay_contours.specs.Corners.{corners}
use Rattle.overlay_contours.specs.Kept.{subject_of, clip_of, splitting_of}
use Rattle.overlay_contours.proofs.laws.Beyond.{reach_bounded, exact_reach, corners_beyond}
use Rattle.overlay_contours.proofs.laws.CornerOverlays.{corner_overlay}
use Rattle.overlay_contours.proofs.overlay.Overlay.overlay_without_collinear.Goals as goal

pub returns-clause-polygons : goal.returns-clause-polygons
returns-clause-polygons g c =
    let whole = g.I.OverlayInt.whole in
    let full : List (List Point) = contours_of whole c.in_ok-contours.contours.items in
    corner_overlay (splitting_of c.args.solver.now c.args.self.now) c.args.overlay_rule c.args.fill_rule (subject_of c.args.self.now) (clip_of c.args.self.now) full (contours_of whole c.in_ok-corners.corners.items)
    (rw (c.deref.ensures.value, c.deref-2.ensures.value) at c.in_ok-contours.ensures.polygons) (c.in_ok-corners.ensures.corners ∙ ap (λ (l : List _). map corners (contours_of whole l)) c.deref-3.ensures.value)

-- ---- by the distance that is reported

pub returns-clause-splitting : goal.returns-clause-splitting
returns-clause-splitting g c = rw (c.deref.ensures.value, c.deref-2.ensures.value) at c.in_ok-contours.ensures.splitting

pub returns-clause-reach : goal.returns-clause-reach
returns-clause-reach g c =
    let after = c.overlay.new.self in
    let answer : List (List Point) = contours_of g.I.OverlayInt.whole c.in_ok-contours.contours.items in
    reach_bounded (splitting_of c.args.solver.now c.args.self.now) (subject_of c.args.self.now) (clip_of c.args.self.now) after.arranged.passes after.arranged.reach (returns-clause-splitting g c) c.args.overlay_rule c.args.fill_rule answer (rw (c.deref.ensures.value, c.deref-2.ensures.value) at c.in_ok-contours.ensures.polygons)

pub returns-clause-exact : goal.returns-clause-exact
returns-clause-exact g c =
    let after = c.overlay.new.self in
    let answer : List (List Point) = contours_of g.I.OverlayInt.whole c.in_ok-contours.contours.items in
    exact_reach (splitting_of c.args.solver.now c.args.self.now) (subject_of c.args.self.now) (clip_of c.args.self.now) after.arranged.passes after.arranged.reach (returns-clause-splitting g c) c.args.overlay_rule c.args.fill_rule answer (rw (c.deref.ensures.value, c.deref-2.ensures.value) at c.in_ok-contours.ensures.polygons)

pub returns-clause-overlay : goal.returns-clause-overlay
returns-clause-overlay g c =
    let after = c.overlay.new.self in
    corners_beyond (splitting_of c.args.solver.now c.args.self.now) (subject_of c.args.self.now) (clip_of c.args.self.now) after.arranged.passes after.arranged.reach (returns-clause-splitting g c) c.args.overlay_rule c.args.fill_rule (contours_of g.I.OverlayInt.whole c.in_ok-corners.corners.items) (returns-clause-polygons g c)
