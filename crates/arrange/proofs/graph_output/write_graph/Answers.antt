use Rattle.std.proofs.Common.{arith, ◌≡◌, ◌∙◌, flat_map, sym, ap, List}
use Rattle.std.proofs.lemmas.Grind.{common_steps}
use Rattle.std.proofs.lemmas.List.Folds.{flat_map-map}
use Rattle.overlay_build.specs.Graph.{Link}
use Rattle.overlay_build.specs.GraphOf.{link_of, graph_with}
use Rattle.arrange.specs.GraphText.{link_line, graph_text}
use Rattle.arrange.proofs.graph_output.write_graph.Goals as goal

pub returns : goal.returns
unfolding graph_text
returns g c =
    let links : flat_map (λ l. link_line (link_of g.I.OverlayInt.whole l)) c.links.result.now ≡ flat_map link_line (graph_with g.I.OverlayInt.whole c.args.graph.now.links.now).links =
    ap (λ ls. flat_map (λ l. link_line (link_of g.I.OverlayInt.whole l)) ls) c.links.ensures ∙ sym (flat_map-map link_line (link_of g.I.OverlayInt.whole) c.args.graph.now.links.now) ∙ ap (λ (ls : List Link). flat_map link_line ls) c.args.graph.now.holds.same_links in
    grind (arith, common_steps, links)
