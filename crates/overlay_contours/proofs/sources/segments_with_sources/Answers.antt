use Rattle.std.proofs.Common.{◌≡◌, sym, ap, subst, ◌∙◌, ◌++◌, List, IsTrue, rules}
use Rattle.overlay_base.specs.Balance.{IsBalanced}
use Rattle.overlay_base.specs.Planar.{is_splittable}
use Rattle.overlay_geometry.specs.Points.{Point}
use Rattle.overlay_base.specs.Segments.{WholeSegment}
use Rattle.overlay_base.specs.SegmentOf.{segments_of}
use Rattle.overlay_base.specs.declared.segm.shape_type.ShapeType.TheVariants.{Subject, Clip}
use Rattle.overlay_contours.specs.ContoursOf.{contours_of}
use Rattle.overlay_contours.specs.ContourSegments.{contour_segments, overlay_segments}
use Rattle.overlay_contours.proofs.laws.Steps.{overlay_is_splittable}
use Rattle.overlay_contours.proofs.laws.Balances.{overlay_balances}
use Rattle.overlay_contours.proofs.sources.segments_with_sources.Goals as goal

pub returns-clause-segments : goal.returns-clause-segments
unfolding overlay_segments
returns-clause-segments g c =
    let whole = g.I.OverlayInt.whole in
    let subject : List (List Point) = contours_of whole c.args.subject.now in
    let clip : List (List Point) = contours_of whole c.args.clip.now in
    let first : segments_of c.push_source_contours.new.sides.items ≡ contour_segments Subject subject = c.in_ok-push_source_contours.ensures.sides ∙ ap (λ (l : _). segments_of l ++ contour_segments Subject subject) c.new-sides.ensures.items in
    c.in_ok-push_source_contours-2.ensures.sides ∙ ap (λ (l : List WholeSegment). l ++ contour_segments Clip clip) first

pub returns-clause-balanced : goal.returns-clause-balanced
returns-clause-balanced g c =
    let whole = g.I.OverlayInt.whole in
    subst IsBalanced (sym (returns-clause-segments g c)) (overlay_balances (contours_of whole c.args.subject.now) (contours_of whole c.args.clip.now))

pub returns-clause-splittable : goal.returns-clause-splittable
returns-clause-splittable g c =
    let whole = g.I.OverlayInt.whole in
    let least = whole g.I.OverlayInt.MIN_COORD in
    let greatest = whole g.I.OverlayInt.MAX_COORD in
    let subject : List (List Point) = contours_of whole c.args.subject.now in
    let clip : List (List Point) = contours_of whole c.args.clip.now in
    subst (λ (l : List WholeSegment). IsTrue (is_splittable least greatest l)) (sym (returns-clause-segments g c)) (overlay_is_splittable least greatest subject clip c.requires.subject c.requires.clip)

pub returns-clause-sources : goal.returns-clause-sources
returns-clause-sources g c = search rules
