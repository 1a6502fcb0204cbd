use Rattle.std.proofs.Common.{◌≡◌, ◌<◌, sym, ap, ◌∙◌, ◌/◌, length, get_or, arith}
use Rattle.std.proofs.lemmas.List.{get_or-map, length-map}
use Rattle.overlay_tree.specs.steps.IntervalTree.{TreeNode}
use Rattle.overlay_tree.specs.steps.NodeOf.{node_of, tree_nodes}
use Rattle.overlay_tree.proofs.laws.tree.IntervalTrees.{middle_is_greatest}
use Rattle.overlay_tree.proofs.split.interval_tree.greatest_in.Goals as goal

pub returns-in-Some : goal.returns-in-Some
returns-in-Some g c =
    let whole = g.I.OverlayInt.whole in
    let nodes = c.args.nodes.now in
    let root = c.in-Some.root.now in
    let there = c.in-Some.ensures.lookup.3 in
    let same : length (tree_nodes whole nodes) ≡ length nodes = length-map nodes (node_of whole) in
    let at : get_or (tree_nodes whole nodes) (length nodes / 2) (node_of whole root) ≡ node_of whole root =
    get_or-map (node_of whole) nodes (length nodes / 2) root (node_of whole root) there.0 ∙ ap (node_of whole) (sym (there.1 root)) in
    let is = ap (λ n. get_or (tree_nodes whole nodes) (n / 2) (node_of whole root)) same ∙ at in
    let some : 0 < length (tree_nodes whole nodes) = omega (arith, same, there.0) in
    ap (λ (t : TreeNode). t.greatest) (sym is) ∙ middle_is_greatest (tree_nodes whole nodes) (node_of whole root) c.requires some
