use Rattle.std.proofs.Common.{◌≡◌, ◌++◌, drop}
use Rattle.overlay_contours.specs.ContoursOf.{contours_of}
use Rattle.overlay_contours.specs.Kept.{contours_kept, KeepsContours, KeepsRounding}
use Rattle.overlay_contours.specs.Refusals.{other_shape}
use Rattle.overlay_relations.proofs.predicates.add_contours.Given as goal

abbrev pub invariant-loop-contour : goal.invariant-loop-contour
invariant-loop-contour g l =
    (contours_kept l.shape_type l.overlay ++ contours_of g.I.OverlayInt.whole (drop l.contour-index l.contours) ≡ contours_kept l.shape_type l.initial.overlay ++ contours_of g.I.OverlayInt.whole l.contours)
    × KeepsContours (other_shape l.shape_type) l.initial.overlay l.overlay × KeepsRounding l.initial.overlay l.overlay
