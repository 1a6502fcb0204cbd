use Rattle.std.proofs.Common.{◌+◌, ◌∙◌, ap, refl, subst, drop, List, ℕ, arith}
use Rattle.std.specs.Prelude.{min, ◌^◌, ◌-◌}
use Rattle.overlay_tree.specs.steps.IntervalTree.{Entry, entries}
use Rattle.overlay_tree.specs.steps.NodeOf.{node_entry, tree_nodes, query_of}
use Rattle.overlay_tree.proofs.laws.tree.TreeCuts.{IsLookedThrough, IsLookedThrough-more, IsLookedThrough-end, length-entries, entries-next, entries-none}
use Rattle.overlay_tree.proofs.split.listed_entries.find_in_list.Goals as goal

pub loop-place-init : goal.loop-place-init
loop-place-init g c = record { fits = omega arith; all = refl; count = refl }

pub loop-place-preserved : goal.loop-place-preserved
loop-place-preserved g c =
    let whole = g.I.OverlayInt.whole in
    let q = query_of whole c.args.query.now in
    let es = entries (tree_nodes whole c.args.nodes.now) in
    let node = c.index-nodes-place.result in
    let here = entries-next whole c.args.nodes.now c.loop-place.place node c.loop-place-test.true c.index-nodes-place.is in
    let walk = subst (λ (left : List Entry). IsLookedThrough q es c.args.indexes.now.items c.loop-place.indexes.items c.args.looked.now c.loop-place.count left) here c.loop-place.invariant in
    IsLookedThrough-more q es (node_entry whole node) c.args.indexes.now.items c.loop-place.indexes.items c.visit_listed.new.indexes.items c.args.looked.now c.loop-place.count c.visit_listed.new.looked (drop (c.loop-place.place + 1) es) walk
    c.in_ok-visit_listed.ensures.found c.in_ok-visit_listed.ensures.looked

pub returns : goal.returns
returns g c =
    let whole = g.I.OverlayInt.whole in
    let q = query_of whole c.args.query.now in
    let es = entries (tree_nodes whole c.args.nodes.now) in
    let end = IsLookedThrough-end q es c.args.indexes.now.items c.loop-place.indexes.items c.args.looked.now c.loop-place.count (drop c.loop-place.place es) c.loop-place.invariant (entries-none whole c.args.nodes.now c.loop-place.place c.loop-place-test.false) in
    record { found = end.0; looked = end.1 ∙ ap (λ (n : ℕ). min (c.args.looked.now + n) (2 ^ 128 - 1)) (length-entries whole c.args.nodes.now) }
