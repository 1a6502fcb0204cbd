use Rattle.std.proofs.Common.{ap, ◌∙◌, List}
use Rattle.overlay_base.specs.Segments.{pairs}
use Rattle.overlay_contours.specs.ContoursOf.{contours_of}
use Rattle.overlay_contours.specs.ContourSegments.{overlay_segments}
use Rattle.overlay_cuts.proofs.laws.passes.Ready.{IsPairInRange-each}
use Rattle.overlay_relations.proofs.laws.EdgeLists.{pairs_alone}
use Rattle.overlay_relations.proofs.boundary.Boundary.of.Goals as goal

pub invariant_of-result-clause-sides_in_range : goal.invariant_of-result-clause-sides_in_range
invariant_of-result-clause-sides_in_range g c = IsPairInRange-each c.in_ok-sides.sides.items g.I.OverlayInt.MIN_COORD g.I.OverlayInt.MAX_COORD c.in_ok-sides.ensures.splittable

pub invariant_of-result-clause-edges : goal.invariant_of-result-clause-edges
invariant_of-result-clause-edges g c =
    let whole = g.I.OverlayInt.whole in
    let given = contours_of whole c.args.contours.items in
    let none = c.deref-2.ensures.value ∙ c.new-none.ensures.items in
    let segments = rw c.deref.ensures.value at c.in_ok-sides.ensures.segments in
    ap pairs (segments ∙ ap (λ (l : List _). overlay_segments given (contours_of whole l)) none) ∙ pairs_alone given
