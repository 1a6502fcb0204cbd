use Rattle.std.proofs.Common.{◌≡◌, sym, ap, subst, ◌∙◌, ◌++◌, List, IsTrue}
use Rattle.overlay_base.specs.Balance.{IsBalanced}
use Rattle.overlay_base.specs.Places.{winding_below}
use Rattle.overlay_base.specs.Planar.{is_splittable}
use Rattle.overlay_geometry.specs.Points.{Point}
use Rattle.overlay_base.specs.Segments.{WholeSegment}
use Rattle.overlay_base.specs.SegmentOf.{segments_of}
use Rattle.overlay_base.specs.declared.segm.shape_type.ShapeType.TheVariants.{Subject, Clip}
use Rattle.overlay_contours.specs.ContoursOf.{contours_of}
use Rattle.overlay_contours.specs.ContourSegments.{contour_segments, overlay_segments}
use Rattle.overlay_contours.proofs.laws.Steps.{overlay_is_splittable}
use Rattle.overlay_contours.proofs.laws.Balances.{overlay_balances}
use Rattle.overlay_contours.proofs.laws.Windings.{overlay_winds}
use Rattle.overlay_contours.proofs.contour.load_sides.Goals as goal

pub returns : goal.returns
unfolding overlay_segments
returns g c =
    let whole = g.I.OverlayInt.whole in
    let least = whole g.I.OverlayInt.MIN_COORD in
    let greatest = whole g.I.OverlayInt.MAX_COORD in
    let subject : List (List Point) = contours_of whole c.args.subject.now in
    let clip : List (List Point) = contours_of whole c.args.clip.now in
    let first : segments_of c.push_contours.new.sides.items ≡ contour_segments Subject subject = c.in_ok-push_contours.ensures.sides ∙ ap (λ (l : _). segments_of l ++ contour_segments Subject subject) (c.reserve_exact.ensures.items ∙ c.clear.ensures.items) in
    let e : segments_of c.push_contours-2.new.sides.items ≡ overlay_segments subject clip = c.in_ok-push_contours-2.ensures.sides ∙ ap (λ (l : List WholeSegment). l ++ contour_segments Clip clip) first in
    record {
      segments = e;
      balanced = subst IsBalanced (sym e) (overlay_balances subject clip);
      splittable = subst (λ (l : List WholeSegment). IsTrue (is_splittable least greatest l)) (sym e) (overlay_is_splittable least greatest subject clip c.requires.subject c.requires.clip);
      windings = λ p. ap (λ (l : List WholeSegment). winding_below l p) e ∙ overlay_winds subject clip p;
      fault = tt;
    }
