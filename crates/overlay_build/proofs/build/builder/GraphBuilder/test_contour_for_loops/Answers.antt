use Rattle.std.proofs.Common.{◌∙◌, ap, map}
use Rattle.overlay_geometry.specs.Points.{point_eq}
use Rattle.overlay_geometry.specs.Sorting.{has_repeat}
use Rattle.std.proofs.lemmas.List.Sorted.{IsPermutation-map}
use Rattle.overlay_geometry.specs.PointOf.{point_of}
use Rattle.overlay_geometry.proofs.laws.geometry.Points.{point_cmp_total}
use Rattle.overlay_build.proofs.laws.walks.ContourLoops.{has_repeat-IsPermutation}
use Rattle.overlay_build.proofs.build.builder.GraphBuilder.test_contour_for_loops.Goals as goal

pub returns-in-Ok-clause-loops : goal.returns-in-Ok-clause-loops
returns-in-Ok-clause-loops g c =
    let at = point_of g.I.OverlayInt.whole in
    c.has_equal_neighbors.ensures ∙ ap (λ xs. has_repeat point_eq (map at xs)) c.deref.ensures.value
    ∙ has_repeat-IsPermutation point_cmp_total (map at c.args.contour.now) (map at c.sort_into.new.buffer.items) (IsPermutation-map at _ _ c.in-Ok.ensures.permutation)

pub returns-in-Err-clause-emptied : goal.returns-in-Err-clause-emptied
returns-in-Err-clause-emptied g c = c.clear.ensures.items
