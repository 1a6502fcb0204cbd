use Rattle.std.proofs.Common.{refl}
use Rattle.overlay_upstream.proofs.geom.end.EndDefault.default.Goals as goal

pub ZERO-requires : goal.ZERO-requires
ZERO-requires g c κs kept = kept

pub ZERO-requires-2 : goal.ZERO-requires-2
ZERO-requires-2 g c κs kept = kept

pub new-requires : goal.new-requires
new-requires g c κs kept = kept

pub returns : goal.returns
returns g c = (refl, rw (c.new.ensures, c.ZERO.ensures, c.ZERO-2.ensures, g.met.I.OverlayInt.zero) refl)
