use Rattle.std.proofs.Common.{◌≡◌, map, take}
use Rattle.std.specs.Prelude.{Some, option_map, slice_get}
use Rattle.overlay_base.specs.Rules.{holds}
use Rattle.overlay_build.specs.BoundaryOf.{walks_of}
use Rattle.overlay_build.specs.OverlayGraphOf.{links_of}
use Rattle.overlay_contours.specs.DataContoursOf.{data_contours_of, step_along}
use Rattle.overlay_contours.proofs.contour_steps.shape_steps_of_graph.Given as goal

abbrev pub invariant-loop-walks : goal.invariant-loop-walks
invariant-loop-walks g l =
    let whole = g.I.OverlayInt.whole in
    map (λ v. map (λ steps. map (λ s. Some s) steps) (data_contours_of whole v.items)) l.shapes.items
    ≡ map (λ w. map (λ walk. map (λ i. option_map (step_along whole (holds l.rule)) (slice_get (links_of l.graph) i)) walk) (walks_of w.items)) (take l.walks-index l.walks-items)
