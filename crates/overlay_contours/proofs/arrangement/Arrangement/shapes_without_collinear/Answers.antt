use Rattle.std.proofs.Common.{◌∙◌, ap, List, map}
use Rattle.overlay_geometry.specs.Points.{Point}
use Rattle.overlay_base.specs.SegmentOf.{segments_of}
use Rattle.overlay_contours.specs.Corners.{corners}
use Rattle.overlay_contours.specs.ShapesOf.{shapes_of}
use Rattle.overlay_contours.proofs.laws.Arrangements.{stay_known}
use Rattle.overlay_contours.proofs.laws.Beyond.{corner_shapes_beyond}
use Rattle.overlay_contours.proofs.laws.CornerShapes.{corner_shape_overlay}
use Rattle.overlay_contours.proofs.arrangement.Arrangement.shapes_without_collinear.Goals as goal

pub returns-clause-shapes : goal.returns-clause-shapes
returns-clause-shapes g c = λ splitting fill_rule subject clip is.
    let whole = g.I.OverlayInt.whole in
    corner_shape_overlay splitting c.args.overlay_rule fill_rule subject clip (shapes_of whole c.in_ok-shapes.shapes.items) (shapes_of whole c.in_ok-corners.corners.items)
    (c.in_ok-shapes.ensures.shapes splitting fill_rule subject clip is) (c.in_ok-corners.ensures.corners ∙ ap (λ (l : List _). map (map corners) (shapes_of whole l)) c.deref.ensures.value)

pub returns-clause-overlay : goal.returns-clause-overlay
returns-clause-overlay g c = λ splitting fill_rule subject clip is.
    let at = c.args.self.now.arranged in
    corner_shapes_beyond splitting subject clip at.passes at.reach (segments_of at.sides.items, is.arrangement.left) c.args.overlay_rule fill_rule (shapes_of g.I.OverlayInt.whole c.in_ok-corners.corners.items) (returns-clause-shapes g c splitting fill_rule subject clip is)

pub invariant_of-self : goal.invariant_of-self
invariant_of-self g c = record { known = stay_known c.args.self.now.arranged c.shapes.new.self c.shapes.ensures.kept c.args.self.now.known }
