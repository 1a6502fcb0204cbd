use Rattle.overlay_snapping.proofs.laws.planarity.Planar.{pieces_are_apart, snapped_is_planar, snapped_lies_near}
use Rattle.overlay_snapping.proofs.snap.laws.planar_laws.Goals as goal

pub returns-clause-pieces : goal.returns-clause-pieces
returns-clause-pieces c = pieces_are_apart

pub returns-clause-result : goal.returns-clause-result
returns-clause-result c = snapped_is_planar

pub returns-clause-near : goal.returns-clause-near
returns-clause-near c = snapped_lies_near
