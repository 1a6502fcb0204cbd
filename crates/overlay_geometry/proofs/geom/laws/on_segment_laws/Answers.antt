use Rattle.overlay_geometry.proofs.laws.geometry.Points.{lies_on_by_order, lies_inside_by_order}
use Rattle.overlay_geometry.proofs.geom.laws.on_segment_laws.Goals as goal

pub returns-clause-lies_on : goal.returns-clause-lies_on
returns-clause-lies_on c = lies_on_by_order

pub returns-clause-lies_inside : goal.returns-clause-lies_inside
returns-clause-lies_inside c = lies_inside_by_order
