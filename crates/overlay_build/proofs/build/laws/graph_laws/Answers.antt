use Rattle.overlay_build.proofs.laws.graphs.GraphLaws.{filter_of_all}
use Rattle.overlay_build.proofs.laws.graphs.GraphExact.{nodes_are_even, graphs_are_valid, graphs_are_exact}
use Rattle.overlay_build.proofs.laws.regions.Regions.{graphs_enclose_regions}
use Rattle.overlay_build.proofs.build.laws.graph_laws.Goals as goal

pub returns-clause-even : goal.returns-clause-even
returns-clause-even c = nodes_are_even

pub returns-clause-valid : goal.returns-clause-valid
returns-clause-valid c = graphs_are_valid

pub returns-clause-exact : goal.returns-clause-exact
returns-clause-exact c = graphs_are_exact

pub returns-clause-region : goal.returns-clause-region
returns-clause-region c = graphs_enclose_regions

pub returns-clause-filter : goal.returns-clause-filter
returns-clause-filter c = filter_of_all
