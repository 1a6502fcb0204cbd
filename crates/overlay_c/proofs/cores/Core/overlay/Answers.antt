use Rattle.std.proofs.Common.{◌∙◌, ap, refl, inr, subst, map, sym}
use Rattle.std.proofs.lemmas.Bool.{both_ways}
use Rattle.overlay_base.specs.Rules.{holds}
use Rattle.overlay_build.specs.Graph.{Graph}
use Rattle.overlay_build.specs.GraphOf.{graph_with, link_of}
use Rattle.overlay_build.specs.NodeIndexes.{indexes_of}
use Rattle.overlay_build.specs.Walks.{AreClosedWalks}
use Rattle.overlay_c.proofs.Overlays.{same_settings, same_splitting_by, same_overlay, same_split, on_err, same_region, same_laid}
use Rattle.overlay_c.proofs.cores.Core.overlay.Goals.{then-walks, else-walks}
use Rattle.overlay_c.proofs.cores.Core.overlay.Goals as goal

pub returns-in_err-keep_lists-clause-stands : goal.returns-in_err-keep_lists-clause-stands
returns-in_err-keep_lists-clause-stands g c =
    let es = same_splitting_by _ _ _ _ (c.set_rounding.ensures.rounding ∙ c.rounding.ensures) (same_settings g.I.OverlayInt.BITS _ _ _ _ _ _ c.solver-solver.ensures.start c.solver-solver.ensures.progression (sym c.split_and_build_overlay_by.ensures.settings.1)) in
    on_err c.from_residual-in_err-keep_lists.result (inr (same_split _ _ _ _ es _ _ _ _ c.in_ok-load_splittable.ensures.segments refl c.in_ok-graph.ensures.overlay.split))

pub returns-in_ok-keep_lists-clause-kept : goal.returns-in_ok-keep_lists-clause-kept
returns-in_ok-keep_lists-clause-kept g c =
    let s = c.args.settings.now in let old = c.args.self.now.splitter in let new = c.split_and_build_overlay_by.new.splitter in
    let holds' = c.in_ok-graph.graph.holds in
    let G : Graph = graph_with g.I.OverlayInt.whole c.in_ok-graph.graph.links.now in
    let es = same_splitting_by _ _ _ _ (c.set_rounding.ensures.rounding ∙ c.rounding.ensures) (same_settings g.I.OverlayInt.BITS _ _ _ _ _ _ c.solver-solver.ensures.start c.solver-solver.ensures.progression (sym c.split_and_build_overlay_by.ensures.settings.1)) in
    let ex = c.in_ok-load_splittable.ensures.segments in
    record {
      graph = G;
      overlay = same_overlay _ _ _ _ es _ _ (holds c.args.rule) _ _ _ _ G c.fill_rule-fill_rule.ensures ex refl c.in_ok-graph.ensures.overlay;
      region = same_region _ c.args.rule _ _ _ _ G c.fill_rule-fill_rule.ensures ex c.in_ok-graph.ensures.region;
      kept = record {
        links = c.in_ok-keep_links.ensures ∙ ap (λ ls. map (link_of g.I.OverlayInt.whole) ls) c.links.ensures ∙ holds'.same_links;
        nodes = same_laid _ _ _ _ (ap (λ ns. map indexes_of ns) c.nodes.ensures ∙ holds'.same_nodes) c.in_ok-keep_nodes.ensures.degrees c.in_ok-keep_nodes.ensures.indexes;
      };
      kept_walks = record {
        has_walks = elim c.if-walks.branch [ then-walks w ↦ rw w.if-walks.true (w.self-is ∙ w.has_even_nodes-self.ensures) | else-walks w ↦ rw w.if-walks.false (w.self-is ∙ w.if-walks.false) ];
        walks = λ _. (
          map (λ w. w.items) c.in_ok-found.found.items,
          subst (λ ls. AreClosedWalks ls (map (λ w. w.items) c.in_ok-found.found.items)) holds'.same_links c.in_ok-found.ensures.walks,
          same_laid _ _ _ _ (ap (λ vs. map (λ w. w.items) vs) c.deref.ensures.value) c.in_ok-keep_lists.ensures.lengths c.in_ok-keep_lists.ensures.indexes,
        );
        no_walks = λ is. absurd (both_ways c.if-walks.self is c.if-self.true);
      };
    }

pub returns-else-self-clause-kept : goal.returns-else-self-clause-kept
returns-else-self-clause-kept g c =
    let holds' = c.in_ok-graph.graph.holds in
    let G : Graph = graph_with g.I.OverlayInt.whole c.in_ok-graph.graph.links.now in
    let es = same_splitting_by _ _ _ _ (c.set_rounding.ensures.rounding ∙ c.rounding.ensures) (same_settings g.I.OverlayInt.BITS _ _ _ _ _ _ c.solver-solver.ensures.start c.solver-solver.ensures.progression (sym c.split_and_build_overlay_by.ensures.settings.1)) in
    let ex = c.in_ok-load_splittable.ensures.segments in
    record {
      graph = G;
      overlay = same_overlay _ _ _ _ es _ _ (holds c.args.rule) _ _ _ _ G c.fill_rule-fill_rule.ensures ex refl c.in_ok-graph.ensures.overlay;
      region = same_region _ c.args.rule _ _ _ _ G c.fill_rule-fill_rule.ensures ex c.in_ok-graph.ensures.region;
      kept = record {
        links = c.in_ok-keep_links.ensures ∙ ap (λ ls. map (link_of g.I.OverlayInt.whole) ls) c.links.ensures ∙ holds'.same_links;
        nodes = same_laid _ _ _ _ (ap (λ ns. map indexes_of ns) c.nodes.ensures ∙ holds'.same_nodes) c.in_ok-keep_nodes.ensures.degrees c.in_ok-keep_nodes.ensures.indexes;
      };
      kept_walks = record {
        has_walks = elim c.if-walks.branch [ then-walks w ↦ rw w.if-walks.true (w.self-is ∙ w.has_even_nodes-self.ensures) | else-walks w ↦ rw w.if-walks.false (w.self-is ∙ w.if-walks.false) ];
        walks = λ is. absurd (both_ways c.if-walks.self c.if-self.false is);
        no_walks = λ is. record {
          has_walks = is;
          lengths = c.drop_walks.ensures.lengths;
          links = c.drop_walks.ensures.links;
        };
      };
    }
