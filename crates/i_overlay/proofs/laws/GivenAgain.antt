-- The result of an overlay, given again as segments of one shape.
use Rattle.std.proofs.Common.{ap, sym, subst, ◌∙◌}
use Rattle.overlay_base.specs.Windings.{Winding}
use Rattle.overlay_build.specs.Graph.{Graph}
use Rattle.overlay_build.specs.Boundary.{directed_links}
use Rattle.overlay_build.specs.ShapedBoundary.{of_shape, in_shape, BoundsAsShape}
use Rattle.overlay_build.proofs.laws.regions.Again.{shapes_wind_alike, boundaries_are_shapes}
use Rattle.i_overlay.specs.GivenAgain.{ResultsAreGivenAgain}

pub results_are_given_again : ResultsAreGivenAgain
results_are_given_again least greatest course shape fill_rule rule given segments graph overlay arranged polygons balanced = (
  subst (λ (k : Graph). BoundsAsShape least greatest shape rule fill_rule segments (in_shape shape (directed_links rule k))) (sym overlay.links)
      (boundaries_are_shapes least greatest shape fill_rule rule segments arranged polygons (λ p. overlay.split.arrangement.kept p ∙ balanced p)),
  λ p some far. shapes_wind_alike shape (directed_links rule graph) p ∙ ap (λ (w : Winding). of_shape shape w.subj) (overlay.far_boundary balanced p some far),
)
