use Rattle.overlay_geometry.proofs.laws.geometry.Comparisons.{int_lt-by_cmp}
use Rattle.overlay_geometry.proofs.geom.x_segment.XSegment.begins_past_end.Goals as goal

pub lt-requires : goal.lt-requires
lt-requires g c κs kept = kept

pub returns : goal.returns
returns g c = simp (g.met.I.Ord.matches_partial_cmp, g.met.I.OverlayInt.ordered, int_lt-by_cmp) at c.lt.ensures
