use Rattle.overlay_contours.proofs.laws.Parities.{paints_by_even_odd}
use Rattle.overlay_contours.proofs.contour.laws.even_odd_laws.Goals as goal

pub returns : goal.returns
returns c = paints_by_even_odd
