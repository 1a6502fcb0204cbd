use Rattle.std.proofs.Common.{◌≡◌, refl, sym, ap, ◌∙◌, subst, ◌<◌, get_or, length, List, map}
use Rattle.std.specs.Prelude.{All}
use Rattle.std.proofs.lemmas.List.{length-map, get_or-map}
use Rattle.overlay_base.specs.Rules.{holds}
use Rattle.overlay_build.specs.BoundaryOf.{walks_of}
use Rattle.overlay_build.specs.DirectedWalks.{arcs, contour}
use Rattle.overlay_build.specs.Graph.{Link}
use Rattle.overlay_build.specs.GraphOf.{link_of}
use Rattle.overlay_build.specs.OverlayGraphOf.{links_of}
use Rattle.overlay_contours.specs.ContoursOf.{points_of, contours_of}
use Rattle.overlay_contours.proofs.laws.Extracts.{one_more, all_mapped}
use Rattle.overlay_contours.proofs.extract.contours_of_walks.Goals as goal

pub loop-walk-init : goal.loop-walk-init
loop-walk-init g c = rw c.new-contours.ensures.items refl

pub contour_of_walk-requires : goal.contour_of_walk-requires
contour_of_walk-requires g c =
    let walks = c.args.walks.now in
    let k = c.loop-walk.walk-index in
    let item = c.walk-item.result in
    let low_items : k < length (walks_of walks) = rw (length-map walks (λ w. w.items)) c.loop-walk-test.true in
    let there : get_or (walks_of walks) k item.items ≡ item.items = get_or-map (λ w. w.items) walks k item item.items c.loop-walk-test.true ∙ ap (λ w. w.items) (sym c.walk-item.is) in
    subst (All (λ i. i < length (links_of c.args.graph.now))) (there ∙ sym c.deref.ensures.value) (c.requires k item.items low_items)

pub loop-walk-preserved : goal.loop-walk-preserved
loop-walk-preserved g c =
    let whole = g.I.OverlayInt.whole in
    let ways : List Link = arcs (holds c.args.rule) (map (link_of whole) (links_of c.args.graph.now)) in
    ap (contours_of whole) c.in_ok-push.ensures.items
    ∙ one_more (λ v. points_of whole v.items) (λ w. contour ways w.items) c.loop-walk.contours.items c.args.walks.now c.loop-walk.walk-index c.in_ok-contour.contour c.walk-item.result c.loop-walk.invariant c.loop-walk-test.true c.walk-item.is
    (c.in_ok-contour.ensures.points ∙ ap (contour ways) c.deref.ensures.value)

pub returns-clause-contours : goal.returns-clause-contours
returns-clause-contours g c =
    let whole = g.I.OverlayInt.whole in
    all_mapped (contour (arcs (holds c.args.rule) (map (link_of whole) (links_of c.args.graph.now)))) (λ w. w.items) c.args.walks.now c.args.walks.now c.loop-walk.walk-index (contours_of whole c.loop-walk.contours.items) c.loop-walk.invariant c.loop-walk-test.false refl
