use Rattle.overlay_geometry.proofs.laws.geometry.Points.{points_are_ordered, pairs_are_ordered}
use Rattle.overlay_geometry.proofs.geom.laws.order_laws.Goals as goal

pub returns-clause-points : goal.returns-clause-points
returns-clause-points c = points_are_ordered

pub returns-clause-pairs : goal.returns-clause-pairs
returns-clause-pairs c = pairs_are_ordered
