use Rattle.std.proofs.Common.{refl}
use Rattle.overlay_base.proofs.overlay_core.link.OverlayLink.new_with_data.Goals as goal

pub returns-clause-a : goal.returns-clause-a
returns-clause-a g c = refl

pub returns-clause-b : goal.returns-clause-b
returns-clause-b g c = refl

pub returns-clause-fill : goal.returns-clause-fill
returns-clause-fill g c = refl

pub returns-clause-edge_data : goal.returns-clause-edge_data
returns-clause-edge_data g c = refl
