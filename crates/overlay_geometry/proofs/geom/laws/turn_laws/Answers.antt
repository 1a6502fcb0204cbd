use Rattle.overlay_geometry.proofs.laws.geometry.Points.{turn_rotates, turn_changes_sign, turn_moved, turn_split}
use Rattle.overlay_geometry.proofs.geom.laws.turn_laws.Goals as goal

pub returns-clause-rotates : goal.returns-clause-rotates
returns-clause-rotates c = turn_rotates

pub returns-clause-changes_sign : goal.returns-clause-changes_sign
returns-clause-changes_sign c = turn_changes_sign

pub returns-clause-unmoved : goal.returns-clause-unmoved
returns-clause-unmoved c = turn_moved

pub returns-clause-splits : goal.returns-clause-splits
returns-clause-splits c = turn_split
