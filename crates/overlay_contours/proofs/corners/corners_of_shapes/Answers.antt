use Rattle.std.proofs.Common.{◌≡◌, arith, refl, sym, ap, subst, ◌∙◌, List, map}
use Rattle.std.proofs.lemmas.List.Elements.{All-push}
use Rattle.overlay_contours.specs.ContoursOf.{contours_of}
use Rattle.overlay_contours.specs.ContoursIn.{LieInRange}
use Rattle.overlay_contours.specs.Corners.{corners}
use Rattle.overlay_contours.specs.ShapesOf.{ShapesLieInRange}
use Rattle.overlay_contours.proofs.laws.Extracts.{one_more, all_mapped}
use Rattle.overlay_contours.proofs.corners.corners_of_shapes.Goals as goal

pub loop-shape-init : goal.loop-shape-init
loop-shape-init g c = record { corners = rw c.new-answer.ensures.items refl; in_range = rw c.new-answer.ensures.items (λ k d low. absurd (omega (arith, low))) }

pub corners_of_contours-requires : goal.corners_of_contours-requires
corners_of_contours-requires g c =
    let I = g.I.OverlayInt in
    rw c.deref.ensures.value (rw c.shape-item.is (c.requires c.loop-shape.shape-index c.shape-item.result c.loop-shape-test.true))

pub loop-shape-preserved : goal.loop-shape-preserved
loop-shape-preserved g c =
    let I = g.I.OverlayInt in
    let whole = I.whole in
    record {
      corners = ap (map (λ s. contours_of whole s.items)) c.in_ok-push.ensures.items
          ∙ one_more (λ s. contours_of whole s.items) (λ s. map corners (contours_of whole s.items)) c.loop-shape.answer.items c.args.shapes.now c.loop-shape.shape-index c.in_ok-corners.corners c.shape-item.result c.loop-shape.invariant.corners c.loop-shape-test.true c.shape-item.is
          (c.in_ok-corners.ensures.corners ∙ ap (λ (l : List _). map corners (contours_of whole l)) c.deref.ensures.value);
      in_range = subst (ShapesLieInRange whole I.MIN_COORD I.MAX_COORD) (sym c.in_ok-push.ensures.items) (All-push (λ s. LieInRange whole I.MIN_COORD I.MAX_COORD s.items) c.loop-shape.answer.items c.in_ok-corners.corners c.loop-shape.invariant.in_range c.in_ok-corners.ensures.in_range);
    }

pub returns-clause-corners : goal.returns-clause-corners
returns-clause-corners g c =
    let whole = g.I.OverlayInt.whole in
    all_mapped (map corners) (λ s. contours_of whole s.items) c.args.shapes.now c.args.shapes.now c.loop-shape.shape-index _ c.loop-shape.invariant.corners c.loop-shape-test.false refl

pub returns-clause-in_range : goal.returns-clause-in_range
returns-clause-in_range g c = c.loop-shape.invariant.in_range
