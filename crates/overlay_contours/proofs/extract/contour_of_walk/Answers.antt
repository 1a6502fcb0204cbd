use Rattle.std.proofs.Common.{◌≡◌, sym, ap, ◌∙◌, ℕ, ◌+◌, ◌<◌, get_or, length, List, map, take}
use Rattle.std.proofs.lemmas.List.{get_or_default}
use Rattle.std.proofs.lemmas.Simd.{map-map}
use Rattle.overlay_geometry.specs.PointOf.{point_of}
use Rattle.overlay_base.specs.Rules.{holds}
use Rattle.overlay_build.specs.Graph.{Link}
use Rattle.overlay_build.specs.DirectedWalks.{arcs, no_link}
use Rattle.overlay_build.specs.GraphOf.{link_of}
use Rattle.overlay_build.specs.OverlayGraphOf.{links_of}
use Rattle.overlay_contours.specs.ContoursOf.{points_of}
use Rattle.overlay_contours.proofs.laws.Extracts.{one_more}
use Rattle.overlay_contours.proofs.laws.GraphContours.{starts_at}
use Rattle.overlay_contours.proofs.extract.contour_of_walk.Goals as goal

pub loop-step-preserved : goal.loop-step-preserved
loop-step-preserved g c =
    let whole = g.I.OverlayInt.whole in
    let all = links_of c.args.graph.now in
    let ways : List Link = arcs (holds c.args.rule) (map (link_of whole) all) in
    let walk : List ℕ = c.args.walk.now in
    let k = c.loop-step.step-index in
    let i : ℕ = get_or walk k 0 in
    let low : i < length all = c.requires k 0 c.loop-step-test.true in
    let link = c.index-links-step.result in
    let is : link ≡ get_or all i link = rw c.links-links.ensures at c.index-links-step.is in
    let starts = λ (n : ℕ). map-map (λ (l : Link). l.pair.a) (λ j. get_or ways j no_link) (take n walk) in
    ap (points_of whole) c.in_ok-push.ensures.items
    ∙ one_more (point_of whole) (λ j. (get_or ways j no_link).pair.a) c.loop-step.points.items walk k c.start_point.result i (c.loop-step.invariant ∙ starts k) c.loop-step-test.true (get_or_default walk k 0 i c.loop-step-test.true)
    (c.start_point.ensures ∙ starts_at whole (holds c.args.rule) all i link low is)
    ∙ sym (starts (k + 1))
