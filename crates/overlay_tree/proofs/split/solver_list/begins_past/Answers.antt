use Rattle.std.proofs.Common.{sym, ◌∙◌}
use Rattle.std.proofs.lemmas.Bool.{not-true}
use Rattle.overlay_tree.proofs.laws.list.ListReach.{few_before}
use Rattle.overlay_tree.proofs.split.solver_list.begins_past.Goals as goal

pub returns : goal.returns
returns g c past =
    few_before c.args.later.now c.requires.sorted (g.I.OverlayInt.whole c.args.end) c.args.index c.index-later-index.result c.if-index-later.false c.index-later-index.is (sym c.begins_by.ensures ∙ not-true _ past)
