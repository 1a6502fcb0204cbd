use Rattle.std.proofs.Common.{◌≡◌, map, take}
use Rattle.std.specs.Prelude.{Some, option_map, slice_get}
use Rattle.overlay_base.specs.Rules.{holds}
use Rattle.overlay_build.specs.OverlayGraphOf.{links_of}
use Rattle.overlay_contours.specs.DataContoursOf.{data_step_of, step_along}
use Rattle.overlay_contours.proofs.contour_steps.steps_of_walks.Given as goal

abbrev pub invariant-loop-walk : goal.invariant-loop-walk
invariant-loop-walk g l =
    let whole = g.I.OverlayInt.whole in
    map (λ c. map (λ s. Some s) (map (data_step_of whole) c.items)) l.contours.items
    ≡ map (λ w. map (λ i. option_map (step_along whole (holds l.rule)) (slice_get (links_of l.graph) i)) w.items) (take l.walk-index l.walks)
