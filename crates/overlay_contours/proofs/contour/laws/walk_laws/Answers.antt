use Rattle.overlay_contours.proofs.laws.Extracts.{contours_take_links}
use Rattle.overlay_contours.proofs.laws.DirectedWindings.{contours_wind_as_links}
use Rattle.overlay_contours.proofs.contour.laws.walk_laws.Goals as goal

pub returns-clause-edges : goal.returns-clause-edges
returns-clause-edges c = contours_take_links

pub returns-clause-winds : goal.returns-clause-winds
returns-clause-winds c = contours_wind_as_links
