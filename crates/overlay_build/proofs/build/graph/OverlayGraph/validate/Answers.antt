use Rattle.std.proofs.Common.{◌∙◌, ap, ap₂, sym, length, Bool}
use Rattle.std.specs.Prelude.{nat_le}
use Rattle.std.proofs.lemmas.List.{drop_all, length-map}
use Rattle.overlay_base.proofs.laws.joins.Rests.{passes, fails, none_left}
use Rattle.overlay_build.specs.Graph.{Node}
use Rattle.overlay_build.specs.GraphOf.{graph_with, link_of}
use Rattle.overlay_build.specs.NodeIndexes.{indexes_of}
use Rattle.overlay_build.proofs.laws.graphs.NodeLists.{is_sound, rest-next, sound_is_valid}
use Rattle.overlay_build.proofs.build.graph.OverlayGraph.validate.Goals as goal

pub loop-node-preserved : goal.loop-node-preserved
loop-node-preserved g c =
    let enough : Bool = nat_le (length c.args.self.now.nodes.now) (length c.args.self.now.links.now) in
    passes (λ n. is_sound enough (indexes_of n)) c.args.self.now.nodes.now _ _ c.node-item.result c.loop-node.invariant (rest-next c.args.self.now.nodes.now c.loop-node.node-index c.node-item.result c.loop-node-test.true c.node-item.is) (sym c.is_sound.ensures ∙ c.if-not-is_sound.false)

pub returns-then-not-is_sound : goal.returns-then-not-is_sound
returns-then-not-is_sound g c =
    let enough : Bool = nat_le (length c.args.self.now.nodes.now) (length c.args.self.now.links.now) in
    let holds = c.args.self.now.holds in
    fails (λ n. is_sound enough (indexes_of n)) c.args.self.now.nodes.now _ _ c.node-item.result c.loop-node.invariant (rest-next c.args.self.now.nodes.now c.loop-node.node-index c.node-item.result c.loop-node-test.true c.node-item.is) (sym c.is_sound.ensures ∙ c.if-not-is_sound.true)
    ∙ sound_is_valid indexes_of c.args.self.now.nodes.now (graph_with g.I.OverlayInt.whole c.args.self.now.links.now) enough holds.same_nodes
    (ap₂ nat_le (sym (length-map c.args.self.now.nodes.now indexes_of) ∙ ap length holds.same_nodes ∙ length-map _ (λ (n : Node). n.links)) (sym (length-map c.args.self.now.links.now (link_of g.I.OverlayInt.whole)) ∙ ap length holds.same_links))

pub returns : goal.returns
returns g c =
    let enough : Bool = nat_le (length c.args.self.now.nodes.now) (length c.args.self.now.links.now) in
    let holds = c.args.self.now.holds in
    none_left (λ n. is_sound enough (indexes_of n)) c.args.self.now.nodes.now _ c.loop-node.invariant (drop_all c.loop-node.node-index c.args.self.now.nodes.now c.loop-node-test.false)
    ∙ sound_is_valid indexes_of c.args.self.now.nodes.now (graph_with g.I.OverlayInt.whole c.args.self.now.links.now) enough holds.same_nodes
    (ap₂ nat_le (sym (length-map c.args.self.now.nodes.now indexes_of) ∙ ap length holds.same_nodes ∙ length-map _ (λ (n : Node). n.links)) (sym (length-map c.args.self.now.links.now (link_of g.I.OverlayInt.whole)) ∙ ap length holds.same_links))
