use Rattle.std.proofs.Common.{refl}
use Rattle.overlay_geometry.specs.PointOf.{point_of}
use Rattle.overlay_snapping.proofs.laws.closure.Elements.{same_mapped}
use Rattle.overlay_snapping.proofs.laws.point_trees.Columns.{listed_same}
use Rattle.overlay_snapping.proofs.snap.closure.drop_repeats.Goals as goal

pub returns : goal.returns
returns g c =
    same_mapped (point_of g.I.OverlayInt.whole) c.dedup.new.self.items c.args.points.now.items
    (listed_same g.I.PartialEq.eq g.I.Ord.cmp g.I.OverlayInt.whole g.met.I.Ord.matches_eq g.met.I.OverlayInt.ordered g.met.I.OverlayInt.injective
    c.args.points.now.items c.args.points.now.items c.sort.new.self.items c.dedup.new.self.items refl c.in_ok-sort.ensures.permutation c.dedup.ensures.filtered)
