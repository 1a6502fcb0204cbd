use Rattle.overlay_tree.proofs.laws.tree.TreeCuts.{summed_up}
use Rattle.overlay_tree.proofs.laws.tree.TreeRenewals.{empty_tree}
use Rattle.overlay_tree.proofs.split.interval_tree.+sum_up.Goals as goal

pub returns-in_default-clause-summed : goal.returns-in_default-clause-summed
returns-in_default-clause-summed g t c =
    empty_tree g.I.OverlayInt.whole c.args.nodes.now c.split_at_mut-left.result.0.now c.split_at_mut-left.result.1.now c.split_at_mut-left.ensures.value (c.in_default.ensures.cases) c.split_at_mut-left.ensures.front_len

pub returns-clause-summed : goal.returns-clause-summed
returns-clause-summed g t c =
    (summed_up g.I.OverlayInt.whole c.args.nodes.now c.split_at_mut-left.result.0.now c.split_at_mut-left.result.1.now c.in-Some.right.now c.sum_up.new.nodes c.sum_up-2.new.nodes c.in-Some.root.now c.update_greatest.new.root
    c.split_at_mut-left.ensures.value c.in-Some.ensures.cases.0 c.split_at_mut-left.ensures.front_len c.sum_up.ensures.entries c.update_greatest.ensures.entry c.sum_up-2.ensures.entries c.sum_up.ensures.summed c.sum_up-2.ensures.summed c.update_greatest.ensures.greatest).1
