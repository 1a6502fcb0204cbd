use Rattle.std.proofs.Common.{refl, sym, ap, subst, ◌∙◌, ℕ, List, rules}
use Rattle.std.proofs.Math.Logic.{∥∥₁_elim}
use Rattle.std.specs.Coded.{coded_ℕ}
use denote.Struct.Props.{props, ≡_prop}
use mathlib.Core.HLevel.{Π_prop}
use Rattle.std.specs.Prelude.{count_by}
use Rattle.overlay_geometry.specs.Points.{Point}
use Rattle.overlay_base.specs.Rules.{holds, keeps_fill}
use Rattle.overlay_base.specs.Segments.{WholeSegment}
use Rattle.overlay_base.specs.SegmentOf.{segment_of, segments_of}
use Rattle.overlay_base.specs.declared.segm.fault.Fault.{Fault}
use Rattle.overlay_build.specs.DirectedWalks.{arcs}
use Rattle.overlay_build.specs.Graph.{Link}
use Rattle.overlay_build.specs.GraphOf.{graph_with}
use Rattle.overlay_build.specs.NodeIndexes.{indexes_of, is_canonical_node}
use Rattle.overlay_build.specs.OverlayGraphOf.{nodes_of, links_of}
use Rattle.overlay_build.proofs.laws.graphs.BuiltGraphs.{graph_with_kept, arranged_overlay, polygons_from}
use Rattle.overlay_contours.specs.ContourSegments.{overlay_segments}
use Rattle.overlay_contours.specs.ContoursOf.{contours_of}
use Rattle.overlay_contours.specs.Refusals.{IsReason}
use Rattle.overlay_contours.specs.Splittings.{Splitting, splitting_for}
use Rattle.overlay_contours.proofs.laws.Balances.{overlay_balances}
use Rattle.overlay_contours.proofs.laws.Extracts.{ways_of}
use Rattle.overlay_contours.proofs.laws.GraphContours.{graph_pairs}
use Rattle.overlay_contours.proofs.laws.Overlays.{sides_of, links_flow, polygon_overlay, answer_in_range, refused_as}
use Rattle.overlay_contours.proofs.laws.Splittings.{too_large_above}
use Rattle.overlay_contours.proofs.arranged.Arranged.contours.Goals as goal

pub directed_contours_of_graph-requires : goal.directed_contours_of_graph-requires
directed_contours_of_graph-requires g c = ∥∥₁_elim c.requires (Π_prop (λ _. ≡_prop coded_ℕ _ _)) (λ known.
    let I = g.I.OverlayInt in
    let whole = I.whole in
    let splitting : Splitting = known.0 in
    let fill_rule = known.1 in
    let subject : List (List Point) = known.2 in
    let clip : List (List Point) = known.3 in
    let given : List WholeSegment = overlay_segments subject clip in
    let left = c.args.self.now in
    let is = known.4 in
    let segments : List WholeSegment = segments_of left.sides.items in
    let graph = c.in_ok-graph.graph in
    let links = links_of graph in
    let rule = c.args.overlay_rule in
    let a = is.arrangement in
    let shown = c.in_ok-graph.ensures.graph fill_rule (rw c.deref.ensures.value (c.deref-2.ensures.value ∙ is.fills)) in
    let same = graph_with_kept indexes_of is_canonical_node whole (nodes_of graph) links (keeps_fill (holds rule)) fill_rule segments (rw c.deref.ensures.value at shown) in
    let balanced = arranged_overlay _ _ (holds rule) fill_rule segments is.in_range (polygons_from segment_of (λ s. refl) left.sides.items) in
    let sides = sides_of whole splitting fill_rule (holds rule) given segments left.passes left.reach links a (overlay_balances subject clip) same balanced in
    links_flow whole links fill_rule (holds rule) segments sides graph.holds.same_links)

pub returns-clause-polygons : goal.returns-clause-polygons
returns-clause-polygons g c = λ splitting fill_rule subject clip is.
    let I = g.I.OverlayInt in
    let whole = I.whole in
    let given : List WholeSegment = overlay_segments subject clip in
    let left = c.args.self.now in
    let segments : List WholeSegment = segments_of left.sides.items in
    let graph = c.in_ok-graph.graph in
    let links = links_of graph in
    let rule = c.args.overlay_rule in
    let a = is.arrangement in
    let shown = c.in_ok-graph.ensures.graph fill_rule (rw c.deref.ensures.value (c.deref-2.ensures.value ∙ is.fills)) in
    let same = graph_with_kept indexes_of is_canonical_node whole (nodes_of graph) links (keeps_fill (holds rule)) fill_rule segments (rw c.deref.ensures.value at shown) in
    let balanced = arranged_overlay _ _ (holds rule) fill_rule segments is.in_range (polygons_from segment_of (λ s. refl) left.sides.items) in
    let sides = sides_of whole splitting fill_rule (holds rule) given segments left.passes left.reach links a (overlay_balances subject clip) same balanced in
    polygon_overlay splitting rule fill_rule subject clip (contours_of whole c.in_ok-contours.contours.items) segments left.passes left.reach (graph_with whole links) a same sides
    (λ test. c.in_ok-contours.ensures.edges test ∙ sym (ap (count_by test) (graph_pairs whole links graph.holds.same_links)))
    c.in_ok-contours.ensures.painted
    (λ test. c.in_ok-contours.ensures.directed test ∙ ap (λ (l : List Link). count_by test (ways_of (arcs (holds rule) l))) graph.holds.same_links)
    c.in_ok-contours.ensures.winds c.in_ok-contours.ensures.proper

pub returns-clause-in_range : goal.returns-clause-in_range
returns-clause-in_range g c = ∥∥₁_elim c.requires (search props) (λ known.
    let I = g.I.OverlayInt in
    let whole = I.whole in
    let splitting : Splitting = known.0 in
    let fill_rule = known.1 in
    let subject : List (List Point) = known.2 in
    let clip : List (List Point) = known.3 in
    let given : List WholeSegment = overlay_segments subject clip in
    let left = c.args.self.now in
    let is = known.4 in
    let segments : List WholeSegment = segments_of left.sides.items in
    let graph = c.in_ok-graph.graph in
    let links = links_of graph in
    let rule = c.args.overlay_rule in
    let a = is.arrangement in
    let shown = c.in_ok-graph.ensures.graph fill_rule (rw c.deref.ensures.value (c.deref-2.ensures.value ∙ is.fills)) in
    let same = graph_with_kept indexes_of is_canonical_node whole (nodes_of graph) links (keeps_fill (holds rule)) fill_rule segments (rw c.deref.ensures.value at shown) in
    let balanced = arranged_overlay _ _ (holds rule) fill_rule segments is.in_range (polygons_from segment_of (λ s. refl) left.sides.items) in
    let sides = sides_of whole splitting fill_rule (holds rule) given segments left.passes left.reach links a (overlay_balances subject clip) same balanced in
    answer_in_range splitting rule fill_rule subject clip (contours_of whole c.in_ok-contours.contours.items) segments left.passes left.reach (graph_with whole links) a same sides
    (λ test. c.in_ok-contours.ensures.edges test ∙ sym (ap (count_by test) (graph_pairs whole links graph.holds.same_links)))
    c.in_ok-contours.ensures.painted
    (λ test. c.in_ok-contours.ensures.directed test ∙ ap (λ (l : List Link). count_by test (ways_of (arcs (holds rule) l))) graph.holds.same_links)
    c.in_ok-contours.ensures.winds c.in_ok-contours.ensures.proper
    (whole I.MIN_COORD) (whole I.MAX_COORD) is.in_range)

pub build_overlay_with_fills-requires-clause-arranged : goal.build_overlay_with_fills-requires-clause-arranged
build_overlay_with_fills-requires-clause-arranged g c = rw c.deref.ensures.value (∥∥₁_elim c.requires (search props) (λ known. known.4.in_range))

pub build_overlay_with_fills-requires-clause-fills : goal.build_overlay_with_fills-requires-clause-fills
build_overlay_with_fills-requires-clause-fills g c = (c.args.self.now.fill_rule, rw (c.deref.ensures.value, c.deref-2.ensures.value) (∥∥₁_elim c.requires (search props) (λ known. rw known.4.rule known.4.fills)))

pub returns-clause-kept : goal.returns-clause-kept
returns-clause-kept g c = search rules
