use Rattle.std.proofs.Common.{rules}
use Rattle.std.specs.Cmp.{Some-then}
use Rattle.overlay_base.proofs.overlay_core.link.OverlayLink.is_direct.Goals as goal

pub lt-requires : goal.lt-requires
lt-requires g c κs = search rules

pub returns : goal.returns
returns g c = simp (g.met.I.Ord.matches_partial_cmp, g.met.I.OverlayInt.ordered, Some-then) at c.lt.ensures
