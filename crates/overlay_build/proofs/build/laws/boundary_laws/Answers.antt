use Rattle.overlay_build.proofs.laws.regions.Boundaries.{graphs_bound_regions}
use Rattle.overlay_build.proofs.build.laws.boundary_laws.Goals as goal

pub returns : goal.returns
returns c = graphs_bound_regions
