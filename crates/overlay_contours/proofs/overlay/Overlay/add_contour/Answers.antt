use Rattle.std.proofs.Common.{rules}
use Rattle.overlay_contours.proofs.overlay.Overlay.add_contour.Goals as goal

pub returns-in-Clip-clause-added : goal.returns-in-Clip-clause-added
returns-in-Clip-clause-added g c = search rules

pub returns-in-Clip-clause-other : goal.returns-in-Clip-clause-other
returns-in-Clip-clause-other g c = search rules

pub returns-in-Clip-clause-refused : goal.returns-in-Clip-clause-refused
returns-in-Clip-clause-refused g c = search rules
