use Rattle.overlay_snapping.proofs.laws.pixels.Inequality.{inequality_is_meant}
use Rattle.overlay_snapping.proofs.laws.pixels.Orders.{pixels_are_met_in_order}
use Rattle.overlay_snapping.proofs.laws.pixels.Distances.{pieces_lie_near}
use Rattle.overlay_snapping.proofs.snap.laws.pixel_laws.Goals as goal

pub returns-clause-inequality : goal.returns-clause-inequality
returns-clause-inequality c = inequality_is_meant

pub returns-clause-distance : goal.returns-clause-distance
returns-clause-distance c = pieces_lie_near

pub returns-clause-order : goal.returns-clause-order
returns-clause-order c = pixels_are_met_in_order
