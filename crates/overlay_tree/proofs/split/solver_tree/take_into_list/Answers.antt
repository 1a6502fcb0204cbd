use Rattle.std.proofs.Common.{◌≡◌, ◌<◌, ◌+◌, sym, ap, ap₂, subst, ◌∙◌, ◌++◌, ◌∷◌, [], filter, length, arith, List, ℕ, true}
use Rattle.std.specs.Prelude.{min, ◌^◌, ◌-◌}
use Rattle.std.proofs.lemmas.List.{map-append}
use Rattle.overlay_geometry.specs.Points.{Pair}
use Rattle.overlay_base.specs.Segments.{pairs}
use Rattle.overlay_geometry.specs.PairOf.{pair_of}
use Rattle.overlay_geometry.specs.RangeOf.{range_of}
use Rattle.overlay_base.specs.SegmentOf.{segments_of}
use Rattle.overlay_base.proofs.laws.geometry.Apart.{are_ordered}
use Rattle.overlay_tree.specs.steps.NodeOf.{node_of, tree_nodes}
use Rattle.overlay_tree.specs.steps.IntervalTree.{Entry, TreeNode, WholeQuery, entries, found, stays_at}
use Rattle.overlay_tree.specs.steps.Swept.{alone, few, entry_of_pair, pair_at}
use Rattle.overlay_tree.specs.steps.TreeSweep.{AreFoundBefore, query_at}
use Rattle.std.proofs.lemmas.List.Sums.{count_by-le-length, length-filter}
use Rattle.overlay_tree.proofs.laws.tree.Sweeps.{pair_at-is, pairs_in_order, length-pairs}
use Rattle.overlay_tree.proofs.laws.tree.TreeBuilds.{entries_filter}
use Rattle.overlay_tree.proofs.laws.tree.TreeCuts.{length-entries}
use Rattle.overlay_tree.proofs.laws.tree.TreeFinder.{AreFoundBefore-through, IsUnderWay-through, query_is, length_within, live_at}
use Rattle.overlay_tree.proofs.split.solver_tree.take_into_list.Goals as goal

pub returns : goal.returns
returns g c =
    let whole = g.I.OverlayInt.whole in
    let xs = c.args.segments.now in
    let ps = pairs (segments_of xs) in
    let j = c.args.index in
    let old_nodes = tree_nodes whole c.args.nodes.now.items in
    let t = pair_of whole c.x_segment-later.result in
    let here : pair_at ps j ≡ t = pair_at-is xs j c.index-segments-index.result c.requires.index c.index-segments-index.is ∙ ap (pair_of whole) (sym c.x_segment-later.ensures) in
    let q : WholeQuery = record { low = whole c.y_range-heights.result.min; high = whole c.y_range-heights.result.max; x = whole c.x_segment-later.result.a.x } in
    let is : q ≡ query_at ps j = query_is ps j t (range_of whole c.y_range-heights.result) here c.y_range-heights.ensures in
    let stay = filter (stays_at (pair_at ps j).a.x) (entries old_nodes) in
    let left : entries (tree_nodes whole c.drop_ended.new.nodes.items) ≡ stay =
    ap (λ ns. entries (tree_nodes whole ns)) c.drop_ended.ensures ∙ entries_filter whole (stays_at (whole c.x_segment-later.result.a.x)) c.args.nodes.now.items ∙ ap (λ (p : Pair). filter (stays_at p.a.x) (entries old_nodes)) (sym here) in
    let seen : entries (tree_nodes whole c.as_slice.result.now) ≡ stay = ap (λ ns. entries (tree_nodes whole ns)) c.as_slice.ensures.value ∙ left in
    let at = c.in_ok-find_in_list.ensures.found ∙ ap (λ is. is ++ found q (entries (tree_nodes whole c.as_slice.result.now))) c.clear.ensures.items ∙ ap₂ (λ (p : WholeQuery) (es : List Entry). found p es) is seen in
    let counted = c.in_ok-find_in_list.ensures.looked ∙ ap (λ (n : ℕ). min (c.args.looked.now + n) (2 ^ 128 - 1)) (sym (length-entries whole c.as_slice.result.now) ∙ ap length seen) in
    let filtered = length-filter (stays_at (pair_at ps j).a.x) (entries old_nodes) in
    let fewer = count_by-le-length (stays_at (pair_at ps j).a.x) (entries old_nodes) in
    let less : length stay < few = omega (arith, filtered, fewer, length-entries whole c.args.nodes.now.items, c.requires.few) in
    let again : pair_at ps j ≡ pair_of whole c.x_segment.result = pair_at-is xs j c.index-segments-index-2.result c.requires.index c.index-segments-index-2.is ∙ ap (pair_of whole) (sym c.x_segment.ensures) in
    let node : node_of whole c.node_at.result ≡ alone (live_at ps j) = c.node_at.ensures ∙ ap (λ (s : Pair). alone (record (entry_of_pair j s) { is_live = true })) (sym again) in
    let put : entries (tree_nodes whole c.push.new.self.items) ≡ stay ++ live_at ps j ∷ [] =
    ap (λ ns. entries (tree_nodes whole ns)) c.in_ok-push.ensures.items ∙ ap entries (map-append (node_of whole) c.drop_ended.new.nodes.items (c.node_at.result ∷ []))
    ∙ map-append (λ (n : TreeNode). n.entry) (tree_nodes whole c.drop_ended.new.nodes.items) (node_of whole c.node_at.result ∷ [])
    ∙ ap₂ (λ (es : List Entry) (n : TreeNode). es ++ n.entry ∷ []) left node in
    let order = pairs_in_order xs c.requires.sorted in
    let ordered = are_ordered xs in
    let inside : j < length ps = omega (arith, length-pairs xs, c.requires.index) in
    record {
      way = λ old w. IsUnderWay-through ps old_nodes (tree_nodes whole c.push.new.self.items) old c.args.looked.now c.find_in_list.new.looked j c.args.until w c.requires.none order ordered inside less counted put;
      found = subst (λ (l : List ℕ). AreFoundBefore ps l j) (sym at) (AreFoundBefore-through ps old_nodes c.requires.way.0 c.args.looked.now j c.args.until c.requires.way.1 c.requires.none order ordered inside);
      looked = (let all = length_within ps old_nodes c.requires.way.0 c.args.looked.now j c.args.until c.requires.way.1 in omega (arith, counted, filtered, fewer, all, length-pairs xs));
    }
