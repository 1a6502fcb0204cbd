use Rattle.overlay_build.proofs.laws.walks.Contours.{contours_follow_links}
use Rattle.overlay_build.proofs.build.laws.contour_laws.Goals as goal

pub returns : goal.returns
returns c = contours_follow_links
