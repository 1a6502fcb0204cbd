use Rattle.std.proofs.Common.{◌∙◌, refl, [], ◌∷◌}
use Rattle.overlay_geometry.specs.Coordinates.{least_coordinate, greatest_coordinate}
use Rattle.overlay_base.specs.Planar.{is_arranged}
use Rattle.overlay_base.proofs.examples.Computing.{computing}
use Rattle.overlay_build_tests.proofs.string_graphs.two_rings.Goals as goal

pub returns : goal.returns
unfolding computing
returns c = (λ i. is_arranged least_coordinate greatest_coordinate (c.line.ensures i ∷ c.line-2.ensures i ∷ c.line-3.ensures i ∷ c.line-4.ensures i ∷ c.line-5.ensures i ∷ c.line-6.ensures i ∷ c.line-7.ensures i ∷ c.line-8.ensures i ∷ [])) ∙ refl
