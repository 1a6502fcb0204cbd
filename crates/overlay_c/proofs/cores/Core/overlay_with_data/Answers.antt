use Rattle.std.proofs.Common.{◌∙◌, ap, sym, refl, inr, map}
use Rattle.std.proofs.lemmas.Bool.{both_ways}
use Rattle.overlay_base.specs.EdgeData.{without_data}
use Rattle.overlay_base.specs.Rules.{holds}
use Rattle.overlay_base.specs.SegmentOf.{segments_of, data_segments_of}
use Rattle.overlay_base.proofs.laws.joins.Views.{segments_of-bare}
use Rattle.overlay_build.specs.Graph.{Graph}
use Rattle.overlay_build.specs.GraphOf.{graph_with, link_of}
use Rattle.overlay_build.specs.NodeIndexes.{indexes_of}
use Rattle.i_overlay.specs.SplitterOf.{passes_in}
use Rattle.overlay_c.specs.contracts.tags.TagOverlayEdgeDataShapeCountBoolean.TheImpl.{ghosts}
use Rattle.overlay_c.proofs.LinkData.{bare_tagged, data_from, data_of, either, keeping_keeps, keeping_names_no_other, keeps_data}
use Rattle.overlay_c.proofs.Overlays.{same_settings, same_splitting_by, same_overlay, same_split, same_refusal, same_region, same_laid, told_refusal, left_by_refusal, on_err}
use Rattle.overlay_c.proofs.cores.Core.overlay_with_data.Goals as goal

pub returns-in_err-graph-clause-too_large : goal.returns-in_err-graph-clause-too_large
returns-in_err-graph-clause-too_large g c =
    let es = same_splitting_by _ _ _ _ (c.set_rounding.ensures.rounding ∙ c.rounding.ensures) (same_settings g.I.OverlayInt.BITS _ _ _ _ _ _ c.solver-solver.ensures.start c.solver-solver.ensures.progression (sym c.split_and_build_overlay_by-built.ensures.settings.1)) in
    let ex = segments_of-bare _ ∙ ap (λ xs. without_data xs) c.in_ok-load_splittable.ensures.segments ∙ bare_tagged c.args.given.now in
    let ey = sym (c.in_ok-keep_untagged.ensures.kept ∙ ap (λ xs. segments_of xs) c.deref.ensures.value) in
    told_refusal c.from_residual-in_err-graph.result c.in_err-graph.field-0.0 _ _ _ _ c.from_residual-in_err-graph.ensures.1 (same_refusal _ _ _ _ es _ _ _ _ _ _ _ c.set_rounding.ensures.passes ex ey c.in_err-graph.ensures.refused)

pub returns-in_err-graph-clause-stands : goal.returns-in_err-graph-clause-stands
returns-in_err-graph-clause-stands g c =
    let es = same_splitting_by _ _ _ _ (c.set_rounding.ensures.rounding ∙ c.rounding.ensures) (same_settings g.I.OverlayInt.BITS _ _ _ _ _ _ c.solver-solver.ensures.start c.solver-solver.ensures.progression (sym c.split_and_build_overlay_by-built.ensures.settings.1)) in
    let ex = segments_of-bare _ ∙ ap (λ xs. without_data xs) c.in_ok-load_splittable.ensures.segments ∙ bare_tagged c.args.given.now in
    let ey = sym (c.in_ok-keep_untagged.ensures.kept ∙ ap (λ xs. segments_of xs) c.deref.ensures.value) in
    on_err c.from_residual-in_err-graph.result (left_by_refusal _ _ _ _ _ (same_refusal _ _ _ _ es _ _ _ _ _ _ _ refl ex ey c.in_err-graph.ensures.refused))

pub returns-in_err-keep_links-clause-stands : goal.returns-in_err-keep_links-clause-stands
returns-in_err-keep_links-clause-stands g c =
    let es = same_splitting_by _ _ _ _ (c.set_rounding.ensures.rounding ∙ c.rounding.ensures) (same_settings g.I.OverlayInt.BITS _ _ _ _ _ _ c.solver-solver.ensures.start c.solver-solver.ensures.progression (sym c.split_and_build_overlay_by-built.ensures.settings.1)) in
    let ex = segments_of-bare _ ∙ ap (λ xs. without_data xs) c.in_ok-load_splittable.ensures.segments ∙ bare_tagged c.args.given.now in
    let ey = sym (c.in_ok-keep_untagged.ensures.kept ∙ ap (λ xs. segments_of xs) c.deref.ensures.value) in
    on_err c.from_residual-in_err-keep_links.result (inr (same_split _ _ _ _ es _ _ _ _ ex ey c.in_ok-graph.ensures.overlay.split))

pub returns-in_err-keep_tags-clause-stands : goal.returns-in_err-keep_tags-clause-stands
returns-in_err-keep_tags-clause-stands g c =
    let es = same_splitting_by _ _ _ _ (c.set_rounding.ensures.rounding ∙ c.rounding.ensures) (same_settings g.I.OverlayInt.BITS _ _ _ _ _ _ c.solver-solver.ensures.start c.solver-solver.ensures.progression (sym c.split_and_build_overlay_by-built.ensures.settings.1)) in
    let ex = segments_of-bare _ ∙ ap (λ xs. without_data xs) c.in_ok-load_splittable.ensures.segments ∙ bare_tagged c.args.given.now in
    let ey = sym (c.in_ok-keep_untagged.ensures.kept ∙ ap (λ xs. segments_of xs) c.deref.ensures.value) in
    on_err c.from_residual-in_err-keep_tags.result (inr (same_split _ _ _ _ es _ _ _ _ ex ey c.in_ok-graph.ensures.overlay.split))

pub returns-in_err-keep_nodes-clause-stands : goal.returns-in_err-keep_nodes-clause-stands
returns-in_err-keep_nodes-clause-stands g c =
    let es = same_splitting_by _ _ _ _ (c.set_rounding.ensures.rounding ∙ c.rounding.ensures) (same_settings g.I.OverlayInt.BITS _ _ _ _ _ _ c.solver-solver.ensures.start c.solver-solver.ensures.progression (sym c.split_and_build_overlay_by-built.ensures.settings.1)) in
    let ex = segments_of-bare _ ∙ ap (λ xs. without_data xs) c.in_ok-load_splittable.ensures.segments ∙ bare_tagged c.args.given.now in
    let ey = sym (c.in_ok-keep_untagged.ensures.kept ∙ ap (λ xs. segments_of xs) c.deref.ensures.value) in
    on_err c.from_residual-in_err-keep_nodes.result (inr (same_split _ _ _ _ es _ _ _ _ ex ey c.in_ok-graph.ensures.overlay.split))

pub returns-clause-kept : goal.returns-clause-kept
returns-clause-kept g c =
    let holds' = c.in_ok-graph.graph.holds in
    let G : Graph = graph_with g.I.OverlayInt.whole c.in_ok-graph.graph.links.now in
    let es = same_splitting_by _ _ _ _ (c.set_rounding.ensures.rounding ∙ c.rounding.ensures) (same_settings g.I.OverlayInt.BITS _ _ _ _ _ _ c.solver-solver.ensures.start c.solver-solver.ensures.progression (sym c.split_and_build_overlay_by-built.ensures.settings.1)) in
    let ex = segments_of-bare _ ∙ ap (λ xs. without_data xs) c.in_ok-load_splittable.ensures.segments ∙ bare_tagged c.args.given.now in
    let ey = sym (c.in_ok-keep_untagged.ensures.kept ∙ ap (λ xs. segments_of xs) c.deref.ensures.value) in
    record {
      graph = G;
      overlay = same_overlay _ _ _ _ es _ _ (holds c.args.rule) _ _ _ _ G c.fill_rule-fill_rule.ensures ex ey c.in_ok-graph.ensures.overlay;
      region = same_region _ c.args.rule _ _ _ _ G c.fill_rule-fill_rule.ensures ex c.in_ok-graph.ensures.region;
      kept = record {
        links = c.in_ok-keep_links.ensures ∙ ap (λ ls. map (link_of g.I.OverlayInt.whole) ls) c.links.ensures ∙ holds'.same_links;
        nodes = same_laid _ _ _ _ (ap (λ ns. map indexes_of ns) c.nodes.ensures ∙ holds'.same_nodes) c.in_ok-keep_nodes.ensures.degrees c.in_ok-keep_nodes.ensures.indexes;
      };
      kept_walks = record {
        has_walks = c.drop_walks.ensures.has_walks;
        walks = λ is. absurd (both_ways _ c.drop_walks.ensures.has_walks is);
        no_walks = λ is. record {
          has_walks = is;
          lengths = c.drop_walks.ensures.lengths;
          links = c.drop_walks.ensures.links;
        };
      };
    }

pub returns-clause-kept_data : goal.returns-clause-kept_data
returns-clause-kept_data g c =
    let es = same_splitting_by _ _ _ _ (c.set_rounding.ensures.rounding ∙ c.rounding.ensures) (same_settings g.I.OverlayInt.BITS _ _ _ _ _ _ c.solver-solver.ensures.start c.solver-solver.ensures.progression (sym c.split_and_build_overlay_by-built.ensures.settings.1)) in
    let loaded = c.in_ok-load_splittable.ensures.segments in
    let built = c.split_and_build_overlay_by-built in
    keeps_data _ c.args.rule _ _ g.I.OverlayInt.whole c.in_ok-graph.graph.links.now _ _ (data_segments_of built.new.segments.items) c.fill_rule-fill_rule.ensures loaded
    (c.in_ok-keep_links.ensures ∙ ap (λ ls. map (link_of g.I.OverlayInt.whole) ls) c.links.ensures)
    (c.in_ok-keep_tags.ensures ∙ ap (λ ls. map (λ l. l.edge_data) ls) c.links-2.ensures)
    c.in_ok-graph.ensures.edge_data
    (either (ap (λ xs. data_segments_of xs)) (λ h. data_of _ _ _ _ _ _ _ _ es (segments_of-bare _ ∙ ap (λ xs. without_data xs) loaded) loaded (data_from ghosts _ _ (passes_in built.new.splitter) c.load_splittable.new.list built.new.segments h)) built.ensures.list_data)
    (λ has all. c.in_ok-graph.ensures.kept_data has (keeping_keeps has) all)
    (λ names near. c.in_ok-graph.ensures.named_data names (keeping_names_no_other names) near)
