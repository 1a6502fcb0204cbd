use Rattle.std.proofs.Common.{◌≡◌, sym, ap, ap₂, ◌∙◌, ◌∷◌, cond, Bool}
use Rattle.std.specs.Prelude.{Some, None}
use Rattle.overlay_tree.specs.steps.IntervalTree.{entries, further, live_height}
use Rattle.overlay_tree.specs.steps.NodeOf.{node_entry, highest_of, tree_nodes}
use Rattle.overlay_tree.proofs.laws.tree.IntervalTrees.{greatest_height-append}
use Rattle.overlay_tree.proofs.split.interval_tree.update_greatest.Goals as goal
use Rattle.overlay_tree.proofs.split.interval_tree.update_greatest.Goals.{then-root, else-root}

pub returns-clause-greatest : goal.returns-clause-greatest
returns-clause-greatest g c =
    let whole = g.I.OverlayInt.whole in
    let root = node_entry whole c.args.root.now in
    let left = entries (tree_nodes whole c.args.left.now) in
    let right = entries (tree_nodes whole c.args.right.now) in
    let own : highest_of whole c.if-root.own ≡ live_height root = elim c.if-root.branch [
      | then-root w ↦ ap (highest_of whole) w.own-is ∙ ap (λ (b : Bool). cond b (Some root.high) None) (sym w.if-root.true)
      | else-root w ↦ ap (highest_of whole) w.own-is ∙ ap (λ (b : Bool). cond b (Some root.high) None) (sym w.if-root.false)
    ] in
    c.further-root.ensures ∙ ap₂ further c.greatest_in.ensures (c.further.ensures ∙ ap₂ further own c.greatest_in-2.ensures)
    ∙ sym (greatest_height-append left (root ∷ right))
