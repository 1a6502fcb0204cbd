use Rattle.std.proofs.Common.{◌≡◌, sym, ap, subst, ◌∙◌, ℕ, ◌<◌, length, List, [], map}
use Rattle.std.specs.Prelude.{All, count_by}
use Rattle.std.proofs.lemmas.List.Elements.{All-from_recursion, recursion_from_All}
use Rattle.overlay_geometry.specs.Points.{Point}
use Rattle.overlay_geometry.proofs.laws.lists.Lists.{AllByRecursion-from_Has, AllByRecursion-at}
use Rattle.overlay_base.specs.Rules.{holds}
use Rattle.overlay_build.specs.BoundaryOf.{walks_of}
use Rattle.overlay_build.specs.DirectedWalks.{arcs, contour, IsDirectedWalk}
use Rattle.overlay_build.specs.Graph.{Link}
use Rattle.overlay_build.specs.GraphOf.{link_of}
use Rattle.overlay_build.specs.OverlayGraphOf.{links_of}
use Rattle.overlay_contours.specs.Contours.{directed_edges, edges, is_painted, AreProper}
use Rattle.overlay_contours.specs.ContourSegments.{overlay_winding}
use Rattle.overlay_contours.specs.DataContoursOf.{data_contours_of, bare_contours_of, AreStepsOfWalks}
use Rattle.overlay_contours.proofs.laws.DataContours.{contours_are}
use Rattle.overlay_contours.proofs.laws.GraphContours.{walks_within, directed_as_links, winds, edges_as_links, paints, are_proper}
use Rattle.overlay_contours.proofs.contour_steps.directed_steps_of_graph.Goals as goal

pub steps_of_walks-requires : goal.steps_of_walks-requires
steps_of_walks-requires g c =
    let whole = g.I.OverlayInt.whole in
    let all = links_of c.args.graph.now in
    let ways : List Link = arcs (holds c.args.rule) (map (link_of whole) all) in
    let walks = walks_of c.in_ok-walks.walks.items in
    subst (λ l. All (All (λ i. i < length all)) (walks_of l)) (sym c.deref.ensures.value)
    (All-from_recursion (All (λ i. i < length all)) walks (AllByRecursion-from_Has (All (λ i. i < length all)) walks (λ w m.
    walks_within whole (holds c.args.rule) all w (AllByRecursion-at (IsDirectedWalk ways) walks w (recursion_from_All (IsDirectedWalk ways) walks c.in_ok-walks.ensures.walks.closed) m))))

pub returns-clause-walks : goal.returns-clause-walks
returns-clause-walks g c =
    let whole = g.I.OverlayInt.whole in
    let links = links_of c.args.graph.now in
    record {
      walks = walks_of c.in_ok-walks.walks.items;
      are = c.in_ok-walks.ensures.walks;
      steps = subst (λ l. AreStepsOfWalks whole (holds c.args.rule) links (walks_of l) (data_contours_of whole c.in_ok-contours.contours.items)) c.deref.ensures.value c.in_ok-contours.ensures.steps;
    }

pub returns-clause-directed : goal.returns-clause-directed
unfolding returns-clause-walks
returns-clause-directed g c = λ test.
    let whole = g.I.OverlayInt.whole in
    let links = links_of c.args.graph.now in
    let walks : List (List ℕ) = walks_of c.in_ok-walks.walks.items in
    let all : bare_contours_of whole c.in_ok-contours.contours.items ≡ map (contour (arcs (holds c.args.rule) (map (link_of whole) links))) walks = contours_are whole (holds c.args.rule) links walks (data_contours_of whole c.in_ok-contours.contours.items) (returns-clause-walks g c).steps in
    ap (λ (cs : List (List Point)). count_by test (directed_edges cs)) all
    ∙ directed_as_links whole (holds c.args.rule) links c.args.graph.now.holds.same_links c.args.graph.now.ordered walks c.in_ok-walks.ensures.walks test

pub returns-clause-winds : goal.returns-clause-winds
unfolding returns-clause-walks
returns-clause-winds g c = λ p.
    let whole = g.I.OverlayInt.whole in
    let links = links_of c.args.graph.now in
    let walks : List (List ℕ) = walks_of c.in_ok-walks.walks.items in
    let all : bare_contours_of whole c.in_ok-contours.contours.items ≡ map (contour (arcs (holds c.args.rule) (map (link_of whole) links))) walks = contours_are whole (holds c.args.rule) links walks (data_contours_of whole c.in_ok-contours.contours.items) (returns-clause-walks g c).steps in
    ap (λ (cs : List (List Point)). overlay_winding cs [] p) all
    ∙ winds whole (holds c.args.rule) links c.args.graph.now.holds.same_links c.args.graph.now.ordered walks c.in_ok-walks.ensures.walks p

pub returns-clause-edges : goal.returns-clause-edges
unfolding returns-clause-walks
returns-clause-edges g c = λ test.
    let whole = g.I.OverlayInt.whole in
    let links = links_of c.args.graph.now in
    let walks : List (List ℕ) = walks_of c.in_ok-walks.walks.items in
    let all : bare_contours_of whole c.in_ok-contours.contours.items ≡ map (contour (arcs (holds c.args.rule) (map (link_of whole) links))) walks = contours_are whole (holds c.args.rule) links walks (data_contours_of whole c.in_ok-contours.contours.items) (returns-clause-walks g c).steps in
    ap (λ (cs : List (List Point)). count_by test (edges cs)) all
    ∙ edges_as_links whole (holds c.args.rule) links c.args.graph.now.holds.same_links c.args.graph.now.ordered walks c.in_ok-walks.ensures.walks test

pub returns-clause-painted : goal.returns-clause-painted
unfolding returns-clause-walks
returns-clause-painted g c = λ p.
    let whole = g.I.OverlayInt.whole in
    let links = links_of c.args.graph.now in
    let walks : List (List ℕ) = walks_of c.in_ok-walks.walks.items in
    let all : bare_contours_of whole c.in_ok-contours.contours.items ≡ map (contour (arcs (holds c.args.rule) (map (link_of whole) links))) walks = contours_are whole (holds c.args.rule) links walks (data_contours_of whole c.in_ok-contours.contours.items) (returns-clause-walks g c).steps in
    ap (λ (cs : List (List Point)). is_painted cs p) all
    ∙ paints whole (holds c.args.rule) links c.args.graph.now.holds.same_links c.args.graph.now.ordered walks c.in_ok-walks.ensures.walks p

pub returns-clause-proper : goal.returns-clause-proper
unfolding returns-clause-walks
returns-clause-proper g c =
    let whole = g.I.OverlayInt.whole in
    let links = links_of c.args.graph.now in
    let walks : List (List ℕ) = walks_of c.in_ok-walks.walks.items in
    let all : bare_contours_of whole c.in_ok-contours.contours.items ≡ map (contour (arcs (holds c.args.rule) (map (link_of whole) links))) walks = contours_are whole (holds c.args.rule) links walks (data_contours_of whole c.in_ok-contours.contours.items) (returns-clause-walks g c).steps in
    subst (λ (cs : List (List Point)). AreProper cs) (sym all) (are_proper whole (holds c.args.rule) links c.args.graph.now.holds.same_links c.args.graph.now.ordered walks c.in_ok-walks.ensures.walks)
