use Rattle.std.proofs.Common.{rules}
use Rattle.std.proofs.lemmas.Fn.{filter_same}
use Rattle.overlay_tree.specs.steps.IntervalTree.{stays_at}
use Rattle.overlay_tree.specs.steps.NodeOf.{node_entry}
use Rattle.overlay_tree.proofs.split.solver_tree.drop_ended.Goals as goal

pub returns : goal.returns
returns g c = filter_same _ (λ n. stays_at (g.I.OverlayInt.whole c.args.x) (node_entry g.I.OverlayInt.whole n)) _ (λ n b f r. search rules) _ _ c.retain.ensures.filtered
