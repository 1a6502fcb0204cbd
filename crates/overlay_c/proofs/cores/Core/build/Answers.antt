use Rattle.std.proofs.Common.{◌∙◌, ap, sym, length, map, true, IsTrue, List}
use Rattle.std.proofs.lemmas.List.{length-map}
use Rattle.std.proofs.lemmas.Simd.{map-map}
use Rattle.overlay_base.specs.Planar.{is_arranged}
use Rattle.overlay_base.specs.Segments.{WholeSegment}
use Rattle.overlay_base.specs.SegmentOf.{segment_of, segments_of}
use Rattle.overlay_build.specs.Graph.{Graph, graph_by}
use Rattle.overlay_build.specs.GraphOf.{graph_with, link_of, pairs_of_links}
use Rattle.overlay_build.proofs.laws.graphs.BuiltGraphs.{kept_graph, links_are_in_range, links_are_ordered, links_are_sorted}
use Rattle.overlay_c.specs.Records.{fill_rule_of, held_link}
use Rattle.overlay_c.proofs.Builds.{all_kept, all_wider}
use Rattle.overlay_c.proofs.cores.Core.build.Goals as goal

pub write_filled-requires-clause-fills : goal.write_filled-requires-clause-fills
write_filled-requires-clause-fills g c = ap length (c.deref.ensures.value ∙ c.in_ok-build_boolean_fills.ensures.fills) ∙ length-map (segments_of c.as_slice-segments.result.now) _ ∙ length-map c.as_slice-segments.result.now segment_of

pub connect_links-requires-clause-ordered : goal.connect_links-requires-clause-ordered
connect_links-requires-clause-ordered g c =
    let segments : List WholeSegment = segments_of c.as_slice-segments.result.now in
    let arranged : IsTrue (is_arranged (g.I.OverlayInt.whole g.I.OverlayInt.MIN_COORD) (g.I.OverlayInt.whole g.I.OverlayInt.MAX_COORD) segments) = rw c.as_slice-segments.ensures.value c.requires.arranged in
    links_are_ordered (λ z. z) (map held_link c.write_filled.new.out) (λ _. true) c.fill_rule-fill_rule.result _ _ segments arranged
    (all_kept c.fill_rule-fill_rule.result segments c.write_filled.new.out c.write_filled.ensures.pairs (c.write_filled.ensures.fills ∙ c.deref.ensures.value ∙ c.in_ok-build_boolean_fills.ensures.fills))

pub connect_links-requires-clause-sorted : goal.connect_links-requires-clause-sorted
connect_links-requires-clause-sorted g c =
    let segments : List WholeSegment = segments_of c.as_slice-segments.result.now in
    let arranged : IsTrue (is_arranged (g.I.OverlayInt.whole g.I.OverlayInt.MIN_COORD) (g.I.OverlayInt.whole g.I.OverlayInt.MAX_COORD) segments) = rw c.as_slice-segments.ensures.value c.requires.arranged in
    links_are_sorted (λ z. z) (map held_link c.write_filled.new.out) (λ _. true) c.fill_rule-fill_rule.result _ _ segments arranged
    (all_kept c.fill_rule-fill_rule.result segments c.write_filled.new.out c.write_filled.ensures.pairs (c.write_filled.ensures.fills ∙ c.deref.ensures.value ∙ c.in_ok-build_boolean_fills.ensures.fills))

pub connect_links-requires-clause-in_range : goal.connect_links-requires-clause-in_range
connect_links-requires-clause-in_range g c =
    let segments : List WholeSegment = segments_of c.as_slice-segments.result.now in
    let arranged : IsTrue (is_arranged (g.I.OverlayInt.whole g.I.OverlayInt.MIN_COORD) (g.I.OverlayInt.whole g.I.OverlayInt.MAX_COORD) segments) = rw c.as_slice-segments.ensures.value c.requires.arranged in
    all_wider (g.I.OverlayInt.whole g.I.OverlayInt.MIN_COORD) (g.I.OverlayInt.whole g.I.OverlayInt.MAX_COORD) g.met.I.OverlayInt.lowest g.met.I.OverlayInt.highest (pairs_of_links (λ z. z) (map held_link c.write_filled.new.out))
    (links_are_in_range (λ z. z) (map held_link c.write_filled.new.out) (λ _. true) c.fill_rule-fill_rule.result _ _ segments arranged
    (all_kept c.fill_rule-fill_rule.result segments c.write_filled.new.out c.write_filled.ensures.pairs (c.write_filled.ensures.fills ∙ c.deref.ensures.value ∙ c.in_ok-build_boolean_fills.ensures.fills)))

pub returns-clause-built : goal.returns-clause-built
returns-clause-built g c =
    let segments : List WholeSegment = segments_of c.as_slice-segments.result.now in
    let hold = c.in_ok-connect_links.ensures.graph in
    let G : Graph = graph_with (λ z. z) (map held_link c.write_filled.new.out) in
    record {
      graph = G;
      all = kept_graph (λ z. z) (map held_link c.write_filled.new.out) (λ _. true) c.fill_rule-fill_rule.result segments
          (all_kept c.fill_rule-fill_rule.result segments c.write_filled.new.out c.write_filled.ensures.pairs (c.write_filled.ensures.fills ∙ c.deref.ensures.value ∙ c.in_ok-build_boolean_fills.ensures.fills))
          ∙ ap (λ f. graph_by (λ _. true) f segments) c.fill_rule-fill_rule.ensures
          ∙ ap (λ ss. graph_by (λ _. true) (fill_rule_of c.args.settings.now.fill_rule) (segments_of ss)) c.as_slice-segments.ensures.value;
      same_links = sym (map-map (link_of (λ z. z)) held_link c.connect_links.new.links) ∙ hold.same_links;
      same_nodes = hold.same_nodes;
    }
