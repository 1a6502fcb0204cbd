use Rattle.std.proofs.Common.{ap, ◌∙◌, List, map}
use Rattle.overlay_base.specs.SegmentOf.{ends_of, segment_of}
use Rattle.overlay_contours.specs.ContoursOf.{contours_of}
use Rattle.overlay_contours.specs.ContourSegments.{overlay_segments}
use Rattle.overlay_relations.proofs.laws.EdgeLists.{sides_are}
use Rattle.overlay_relations.proofs.matrix.edges_of_contours.Goals as goal

pub returns-clause-edges : goal.returns-clause-edges
returns-clause-edges g c =
    let whole = g.I.OverlayInt.whole in
    let contours = contours_of whole c.args.contours.now in
    let none = c.deref.ensures.value ∙ c.new-none.ensures.items in
    c.in_ok-list.ensures ∙ ap (λ (l : List _). map ends_of l) c.deref-2.ensures.value
    ∙ sides_are segment_of c.in_ok-sides.sides.items contours (c.in_ok-sides.ensures.segments ∙ ap (λ (l : List _). overlay_segments contours (contours_of whole l)) none)
