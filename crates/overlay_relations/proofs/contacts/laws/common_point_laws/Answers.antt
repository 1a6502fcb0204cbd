use Rattle.overlay_relations.proofs.laws.SharedPoints.{common_points_decide}
use Rattle.overlay_relations.proofs.contacts.laws.common_point_laws.Goals as goal

pub returns : goal.returns
returns c = common_points_decide
