use Rattle.overlay_contours.proofs.laws.Areas.{areas_add_up, exclusive_areas_add_up}
use Rattle.overlay_contours.proofs.contour.laws.area_laws.Goals as goal

pub returns-clause-areas : goal.returns-clause-areas
returns-clause-areas c = areas_add_up

pub returns-clause-exclusive : goal.returns-clause-exclusive
returns-clause-exclusive c = exclusive_areas_add_up
