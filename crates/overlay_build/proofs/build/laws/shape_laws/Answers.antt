use Rattle.overlay_build.proofs.laws.regions.Again.{boundaries_are_shapes, shapes_wind_alike, regions_are_seen_again}
use Rattle.overlay_build.proofs.build.laws.shape_laws.Goals as goal

pub returns-clause-again : goal.returns-clause-again
returns-clause-again c = boundaries_are_shapes

pub returns-clause-winds : goal.returns-clause-winds
returns-clause-winds c = shapes_wind_alike

pub returns-clause-seen : goal.returns-clause-seen
returns-clause-seen c = regions_are_seen_again
