use Rattle.std.proofs.Common.{rules}
use Rattle.overlay_contours.proofs.overlay.Overlay.arrange.Goals as goal

pub returns-clause-arrangement : goal.returns-clause-arrangement
returns-clause-arrangement g c = search rules

pub returns-in_err-arrange-clause-refused : goal.returns-in_err-arrange-clause-refused
returns-in_err-arrange-clause-refused g c = search rules
