use Rattle.std.proofs.Common.{rules}
use Rattle.overlay_build.proofs.build.numbered_link.OverlayLinkNumberedLink.end.Goals as goal

pub returns : goal.returns
returns g c = search rules
