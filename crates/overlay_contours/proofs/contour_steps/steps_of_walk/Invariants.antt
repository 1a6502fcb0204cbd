use Rattle.std.proofs.Common.{map, take}
use Rattle.overlay_base.specs.Rules.{holds}
use Rattle.overlay_build.specs.OverlayGraphOf.{links_of}
use Rattle.overlay_contours.specs.DataContoursOf.{data_step_of, IsStepsOfWalk}
use Rattle.overlay_contours.proofs.contour_steps.steps_of_walk.Given as goal

abbrev pub invariant-loop-index : goal.invariant-loop-index
invariant-loop-index g l =
    let whole = g.I.OverlayInt.whole in
    IsStepsOfWalk whole (holds l.rule) (links_of l.graph) (take l.index-index l.walk) (map (data_step_of whole) l.steps.items)
