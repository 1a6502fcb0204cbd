use Rattle.std.proofs.Common.{◌≡◌, ◌<◌, ◌≤◌, ◌+◌, ◌-◌, sym, ap, ap₂, ◌∙◌, ◌++◌, ◌∷◌, [], ℕ, List, length, map, append_assoc, append-nil, arith}
use Rattle.std.specs.List.{range_with_len}
use Rattle.std.proofs.lemmas.List.{map-append}
use Rattle.std.proofs.lemmas.List.FromFn.{map-range_with_len_more}
use Rattle.std.proofs.Math.Nat.{le_of_lt}
use Rattle.std.proofs.lemmas.Result.{IfOk-from_err}
use borrow.Author.Count.{falls}
use Rattle.overlay_base.specs.Segments.{pairs}
use Rattle.overlay_geometry.specs.PairOf.{pair_of}
use Rattle.overlay_base.specs.SegmentOf.{segments_of}
use Rattle.overlay_tree.specs.steps.IntervalTree.{TreeNode}
use Rattle.overlay_tree.specs.steps.NodeOf.{node_of, tree_nodes}
use Rattle.overlay_tree.specs.steps.Swept.{alone, entry_at, entry_of_pair}
use Rattle.overlay_tree.proofs.laws.tree.Sweeps.{pair_at-is}
use Rattle.overlay_tree.proofs.split.solver_tree.push_nodes.Goals as goal

below_end : {i j n : ℕ} → i < j → j ≤ n → i < n
below_end h k = omega arith

pub loop-index-init : goal.loop-index-init
loop-index-init g c =
    let whole = g.I.OverlayInt.whole in
    sym (append-nil (tree_nodes whole c.args.nodes.now.items)) ∙ ap (λ (n : ℕ). tree_nodes whole c.args.nodes.now.items ++ map (λ i. alone (entry_at (pairs (segments_of c.args.segments.now)) i)) (range_with_len c.args.from n)) (let e : 0 ≡ c.args.from - c.args.from = omega arith in e)

pub loop-index-preserved : goal.loop-index-preserved
loop-index-preserved g c =
    let whole = g.I.OverlayInt.whole in
    let ps = pairs (segments_of c.args.segments.now) in
    let i = c.loop-index.index in
    let from = c.args.from in
    let below : i < length c.args.segments.now = let t = c.loop-index-test.true in let w = c.requires.within in omega arith in
    let pair = pair_at-is c.args.segments.now i c.index-segments-index.result below c.index-segments-index.is ∙ ap (pair_of whole) (sym c.x_segment.ensures) in
    let node : node_of whole c.node_at.result ≡ alone (entry_at ps i) = c.node_at.ensures ∙ ap (λ s. alone (entry_of_pair i s)) (sym pair) in
    let after = c.loop-index.auto.index in
    let more = map-range_with_len_more (λ k. alone (entry_at ps k)) from (i - from) i (omega arith) in
    ap (tree_nodes whole) c.in_ok-push.ensures.items
    ∙ map-append (node_of whole) c.loop-index.nodes.items (c.node_at.result ∷ [])
    ∙ ap₂ (λ (ns : List TreeNode) (n : TreeNode). ns ++ n ∷ []) c.loop-index.invariant node
    ∙ append_assoc (tree_nodes whole c.args.nodes.now.items) (map (λ k. alone (entry_at ps k)) (range_with_len from (i - from))) (alone (entry_at ps i) ∷ [])
    ∙ ap (λ (ns : List TreeNode). tree_nodes whole c.args.nodes.now.items ++ ns) (sym more ∙ ap (λ (n : ℕ). map (λ k. alone (entry_at ps k)) (range_with_len from n)) (let e : (i - from) + 1 ≡ (i + 1) - from = omega arith in e))

pub offset_bounds-segments-index : goal.offset_bounds-segments-index
offset_bounds-segments-index g c = le_of_lt (below_end c.loop-index-test.true c.requires.within)

pub bounds-segments-index : goal.bounds-segments-index
bounds-segments-index g c = below_end c.loop-index-test.true c.requires.within

pub returns-in_err-push : goal.returns-in_err-push
returns-in_err-push g c = IfOk-from_err c.from_residual.result _ c.from_residual.ensures.0

pub loop-index-smaller : goal.loop-index-smaller
loop-index-smaller g c = falls c.args.until c.loop-index.index c.loop-index-test.true

pub returns : goal.returns
returns g c =
    let end = c.loop-index.auto.index-end c.requires.order in
    let done : c.loop-index.index ≡ c.args.until = omega (arith, end, c.loop-index-test.false) in
    rw done at c.loop-index.invariant
