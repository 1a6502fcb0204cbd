use Rattle.std.proofs.Common.{inr, sym, subst, rules, List, ℕ, IsTrue}
use Rattle.std.specs.Prelude.{map}
use Rattle.std.proofs.lemmas.List.Folds.{flat_map-map}
use Rattle.overlay_build.specs.Graph.{Link, has_even_nodes}
use Rattle.overlay_build.specs.GraphOf.{graph_with}
use Rattle.overlay_build.specs.Walks.{AreClosedWalks}
use Rattle.arrange.specs.GraphText.{walk_line}
use Rattle.arrange.proofs.walks.walks_text.Goals as goal

pub returns-clause-text : goal.returns-clause-text
returns-clause-text g c =
    let even : IsTrue (has_even_nodes (graph_with g.I.OverlayInt.whole c.args.graph.now.links.now)) = search rules in
    let walks : List (List ℕ) = map (λ w. w.items) c.in_ok-walks.walks.items in
    let closed = subst (λ (ls : List Link). AreClosedWalks ls walks) c.args.graph.now.holds.same_links c.in_ok-walks.ensures.walks in
    inr (even, walks, closed, rw (c.in_ok-write_walks.ensures, c.new-text.ensures.bytes, c.deref.ensures.value) (sym (flat_map-map walk_line (λ w. w.items) c.in_ok-walks.walks.items)))
