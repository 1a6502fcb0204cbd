use Rattle.std.proofs.Common.{◌∙◌}
use Rattle.overlay_geometry.proofs.laws.geometry.Comparisons.{whole_eq}
use Rattle.overlay_grid.proofs.split.fragment_buffer.ends_at.Goals as goal

pub eq-requires : goal.eq-requires
eq-requires g c κs kept = kept

pub returns : goal.returns
returns g c =
    c.eq.ensures
    ∙ whole_eq g.I.PartialEq.eq g.I.Ord.cmp g.I.OverlayInt.whole g.met.I.Ord.matches_eq g.met.I.OverlayInt.ordered c.args.fragment.now.x_segment.b.x c.args.x
