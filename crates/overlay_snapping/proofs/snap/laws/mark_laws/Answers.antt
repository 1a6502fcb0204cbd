use Rattle.overlay_snapping.proofs.laws.chains.MarkPoints.{rounded_are_marks_off, chain_points_are_ends_and_marks}
use Rattle.overlay_snapping.proofs.laws.chains.MarkPixels.{marks_meet_pixels}
use Rattle.overlay_snapping.proofs.snap.laws.mark_laws.Goals as goal

pub returns-clause-rounded : goal.returns-clause-rounded
returns-clause-rounded c = rounded_are_marks_off

pub returns-clause-points : goal.returns-clause-points
returns-clause-points c = chain_points_are_ends_and_marks

pub returns-clause-pixels : goal.returns-clause-pixels
returns-clause-pixels c = marks_meet_pixels
