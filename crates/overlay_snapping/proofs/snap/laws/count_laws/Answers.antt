use Rattle.overlay_snapping.proofs.laws.counting.Counts.{planar_has_few}
use Rattle.overlay_snapping.proofs.laws.counting.SnapCounts.{snapped_has_few, chain_points_are_listed}
use Rattle.overlay_snapping.proofs.snap.laws.count_laws.Goals as goal

pub returns-clause-planar : goal.returns-clause-planar
returns-clause-planar c = planar_has_few

pub returns-clause-result : goal.returns-clause-result
returns-clause-result c = snapped_has_few

pub returns-clause-points : goal.returns-clause-points
returns-clause-points c = chain_points_are_listed
