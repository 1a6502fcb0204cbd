use Rattle.overlay_build.proofs.laws.walks.Flows.{graphs_flow}
use Rattle.overlay_build.proofs.build.laws.flow_laws.Goals as goal

pub returns : goal.returns
returns c = graphs_flow
