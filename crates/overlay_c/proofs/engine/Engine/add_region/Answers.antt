use Rattle.overlay_geometry.specs.Coordinates.{least_coordinate, greatest_coordinate}
use Rattle.overlay_c.proofs.engine.Engine.add_region.Goals as goal

pub returns-clause-added : goal.returns-clause-added
returns-clause-added c = (c.in_ok-region.region, rw (c.fill_rule-fill_rule.ensures, c.contours-contours.ensures.contours) at c.in_ok-region.ensures.region, c.in_ok-keep_region.ensures.kept)
