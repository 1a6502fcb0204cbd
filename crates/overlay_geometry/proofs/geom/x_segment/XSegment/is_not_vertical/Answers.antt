use Rattle.std.proofs.Common.{◌∙◌, ap, not}
use Rattle.overlay_geometry.proofs.laws.geometry.Comparisons.{whole_eq}
use Rattle.overlay_geometry.proofs.geom.x_segment.XSegment.is_not_vertical.Goals as goal

pub ne-requires : goal.ne-requires
ne-requires g c κs kept = kept

pub returns : goal.returns
returns g c = c.ne.ensures ∙ ap not (whole_eq g.I.PartialEq.eq g.I.Ord.cmp g.I.OverlayInt.whole g.met.I.Ord.matches_eq g.met.I.OverlayInt.ordered c.args.self.now.a.x c.args.self.now.b.x)
