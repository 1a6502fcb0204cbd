use Rattle.std.proofs.Common.{subst, List, take_all}
use Rattle.overlay_relations.specs.steps.Columns.{HoldsBoxes}
use Rattle.overlay_relations.specs.declared.columns.NumberedBox.{NumberedBox}
use Rattle.overlay_relations.proofs.laws.Columns.{next_held}
use Rattle.overlay_relations.proofs.columns.bounds_of.Goals as goal

pub loop-numbered-preserved : goal.loop-numbered-preserved
loop-numbered-preserved g c =
    next_held g.I.OverlayInt.whole c.args.boxes.now c.loop-numbered.numbered-index c.numbered-item.result c.loop-numbered.bounds c.bounds_with.result c.loop-numbered-test.true c.numbered-item.is
    c.loop-numbered.invariant c.bounds_with.ensures.found c.bounds_with.ensures.more

pub returns : goal.returns
returns g c = subst (λ (l : List (NumberedBox _)). HoldsBoxes g.I.OverlayInt.whole l c.loop-numbered.bounds) (take_all c.loop-numbered.numbered-index c.args.boxes.now c.loop-numbered-test.false) c.loop-numbered.invariant
