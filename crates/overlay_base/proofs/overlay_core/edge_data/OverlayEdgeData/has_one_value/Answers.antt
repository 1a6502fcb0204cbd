use Rattle.std.proofs.Common.{rules}
use Rattle.overlay_base.proofs.overlay_core.edge_data.OverlayEdgeData.has_one_value.Goals as goal

pub returns-clause-data : goal.returns-clause-data
returns-clause-data g c = search rules

pub returns-clause-store : goal.returns-clause-store
returns-clause-store g c = search rules
