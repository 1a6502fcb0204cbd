use Rattle.std.proofs.Common.{rules, ◌≡◌, ◌+◌, ◌-◌, sym, ap, ap₂, subst, ◌∙◌, ◌++◌, List, length, map, filter, take, drop, ◌==◌, IsPermutation, arith}
use Rattle.std.specs.List.{IsDistinct, range_with_len}
use Rattle.std.proofs.lemmas.List.{map-append, map-id}
use Rattle.std.proofs.lemmas.List.Sorted.{answers_always, IsPermutation-map}
use Rattle.overlay_base.specs.Segments.{pairs}
use Rattle.overlay_geometry.specs.Points.{Pair}
use Rattle.overlay_geometry.specs.PairOf.{pair_of}
use Rattle.overlay_base.specs.SegmentOf.{segments_of}
use Rattle.overlay_tree.specs.steps.IntervalTree.{Entry, TreeNode, AreRising, IsSummed, entries, stays_at}
use Rattle.overlay_tree.specs.steps.NodeOf.{node_of, tree_nodes}
use Rattle.overlay_tree.specs.steps.Swept.{alone, entry_at, entries_between, pair_at}
use Rattle.overlay_tree.proofs.laws.tree.Sweeps.{pair_at-is}
use Rattle.overlay_tree.proofs.laws.tree.TreeBuilds.{rising_from, places_in_order, entries_of_alone, entries_filter}
use Rattle.overlay_tree.proofs.laws.tree.TreeCuts.{written, same_length}
use Rattle.overlay_tree.proofs.split.solver_tree.renew.Goals as goal

pub push_nodes-requires : goal.push_nodes-requires
push_nodes-requires g c = record { order = omega arith; within = (let w = c.count_more.ensures.within in let r = c.requires in omega arith) }

pub returns : goal.returns
returns g c =
    let whole = g.I.OverlayInt.whole in
    let xs = c.args.segments.now in
    let ps = pairs (segments_of xs) in
    let from = c.args.from in
    let until = from + c.count_more.result in
    let old = c.args.nodes.now.items in
    let x = whole c.x_segment-first.result.a.x in
    let pair : pair_at ps from ≡ pair_of whole c.x_segment-first.result = pair_at-is xs from c.index-segments-from.result c.requires c.index-segments-from.is ∙ ap (pair_of whole) (sym c.x_segment-first.ensures) in
    let pushed = c.push_nodes.new.nodes.items in
    let after = c.sort_unstable_by_key.new.self.items in
    let summed = c.sum_up.new.nodes in
    let kept : entries (tree_nodes whole c.drop_ended.new.nodes.items) ≡ filter (stays_at (pair_at ps from).a.x) (entries (tree_nodes whole old)) =
    ap (λ ns. entries (tree_nodes whole ns)) c.drop_ended.ensures ∙ entries_filter whole (stays_at x) old ∙ ap (λ (p : Pair). filter (stays_at p.a.x) (entries (tree_nodes whole old))) (sym pair) in
    let all : entries (tree_nodes whole pushed) ≡ filter (stays_at (pair_at ps from).a.x) (entries (tree_nodes whole old)) ++ entries_between ps from until =
    ap entries c.in_ok-push_nodes.ensures ∙ map-append (λ (n : TreeNode). n.entry) (tree_nodes whole c.drop_ended.new.nodes.items) (map (λ i. alone (entry_at ps i)) (range_with_len from (until - from)))
    ∙ ap₂ (λ (es fs : List Entry). es ++ fs) kept (entries_of_alone ps (range_with_len from (until - from))) in
    let permuted = IsPermutation-map (λ (n : TreeNode). n.entry) (tree_nodes whole pushed) (tree_nodes whole after) (IsPermutation-map (node_of whole) pushed after c.sort_unstable_by_key.ensures.permutation) in
    let same : entries (tree_nodes whole summed) ≡ entries (tree_nodes whole after) = c.sum_up.ensures.entries ∙ ap (λ ns. entries (tree_nodes whole ns)) c.as_mut_slice.ensures.value in
    let back = written whole summed after c.sort_unstable_by_key.new.self.len c.sort_unstable_by_key.new.self.ok.0 (same_length whole (λ e. e) after summed (same ∙ sym (map-id (entries (tree_nodes whole after))))) in
    let there : entries (tree_nodes whole (take c.sort_unstable_by_key.new.self.len (summed ++ drop (length summed) after))) ≡ entries (tree_nodes whole after) = ap (λ ns. entries (tree_nodes whole ns)) back ∙ same in
    let sorted = simp g.met.I.OverlayInt.ordered at (c.sort_unstable_by_key.ensures.sorted (λ n. (n.low, n.index)) (answers_always _ _ _ (λ f a r f' h. search rules))) in
    let order = places_in_order whole after sorted in
    record {
      further = (let s = c.count_more.ensures.some in omega arith);
      within = (let w = c.count_more.ensures.within in let r = c.requires in omega arith);
      rising = λ d. subst AreRising (sym there) (rising_from (entries (tree_nodes whole after)) order (subst (λ (es : List Entry). IsDistinct (λ i j. i == j) (map (λ (e : Entry). e.index) es)) there d));
      summed = subst (λ ns. IsSummed (tree_nodes whole ns)) (sym back) c.sum_up.ensures.summed;
      listed = subst (IsPermutation (filter (stays_at (pair_at ps from).a.x) (entries (tree_nodes whole old)) ++ entries_between ps from until)) (sym there) (subst (λ (es : List Entry). IsPermutation es (entries (tree_nodes whole after))) all permuted);
    }
